-- How long the parts of a table are, and that its blocks read back.
use Rattle.std.proofs.Common.{◌≡◌, ℕ, ◌+◌, ◌^◌, ◌<◌, ◌≤◌, true, List, [], ◌∷◌, length, map, refl}
use Rattle.std.proofs.Common.{sym, ap, ◌∙◌, length-append, arith}
use Rattle.std.specs.Prelude.{Option, Some, None, min, max}
use Rattle.std.specs.List.{flat_map, AllByRecursion}
use Rattle.sst_blocks.specs.declared.version.TableVersion.{TableVersion}
use Rattle.sst_blocks.specs.declared.version.TableVersion.TheVariants.{V3, V4}
use Rattle.sst_blocks.specs.declared.block_type.BlockType.TheVariants.{Data}
use Rattle.sst_entries.specs.Entry.{Entry}
use Rattle.sst_blocks.specs.Handle.{Handle}
use Rattle.sst_blocks.specs.Handles.{handles_payload, handle_spelled, IsSpellableHandle}
use Rattle.sst_blocks.specs.Handles.{AreStrictHandles, end_of}
use Rattle.sst_blocks.specs.Number.{le4}
use Rattle.sst_blocks.specs.Payload.{payload, spelled}
use Rattle.sst_blocks.specs.Reading.{entries_in}
use Rattle.sst_entries.specs.Strict.{may_follow, IsStrictAfter, IsStrict, last_of}
use Rattle.sst_blocks.specs.Version.{key_limit, longest_key}
use Rattle.sst_entries.proofs.Lists.{all_front, all_behind}
use Rattle.sst_entries.proofs.Strictness.{strict_front, strict_back, may_jump}
use Rattle.sst_blocks.proofs.Entries.{entries_read, length-spelled}
use Rattle.sst_blocks.proofs.HandleLaws.{length-handle_spelled}
use Rattle.sst_blocks.proofs.Numbers.{wide4}
use Rattle.sst_blocks.specs.table.Chunks.{joined}
use Rattle.sst_blocks.specs.table.Facts.{lowest_seqno, highest_seqno}
use Rattle.sst_blocks.specs.table.Index.{last_entry, handle_of, handles_from, handles, block_size}
use Rattle.sst_blocks.specs.table.Index.{data_block, data_section}
use Rattle.sst_blocks.specs.table.Fits.{EntryFits, BlockFits}
use Rattle.lsm_readers.proofs.ChunkReads.{AreSome, later}
use Rattle.sst_blocks.proofs.BlockLengths.{length-block}
use Rattle.sst_blocks.specs.Payload as written

-- ---- entries and their blocks

pub longest_short : (v : TableVersion) → longest_key v < key_limit v
longest_short V3 = omega arith
longest_short V4 = omega arith

entries_fit : (v : TableVersion) (es : List Entry) → AllByRecursion (EntryFits v) es
    → AllByRecursion (written.IsSpellable v) es
entries_fit v [] fits = tt
entries_fit v (e ∷ es) fits =
    let one : written.IsSpellable v e = record {
      number = omega (arith, (fits.0).number);
      key_len =
          omega (arith, (fits.0).key, longest_short v);
      value_len = (fits.0).value;
    } in
    (one, entries_fit v es fits.1)

flat_wide : (v : TableVersion) (es : List Entry) → length es ≤ length (flat_map (spelled v) es)
flat_wide v [] = omega arith
flat_wide v (e ∷ es) = omega (
  arith,
  flat_wide v es,
  length-spelled v e,
  length-append (spelled v e)
      (flat_map (spelled v) es),
)

pub payload_wide : (v : TableVersion) (es : List Entry) → length es + 4 ≤ length (payload v es)
unfolding payload
payload_wide v es = omega (
  arith,
  flat_wide v es,
  wide4.len (length es),
  length-append
      (le4 (length es)) (flat_map (spelled v) es),
)

-- a chunk reads back
pub chunk_reads : (v : TableVersion) (c : List Entry) → AllByRecursion (EntryFits v) c → IsStrict c
    → BlockFits v c → entries_in v (payload v c) ≡ Some c
chunk_reads v c fits strict short = entries_read v c
    (omega (arith, short.short, payload_wide v c), entries_fit v c fits) strict

-- ---- the data section

pub section_wide : (v : TableVersion) (cs : List (List Entry))
    → length (joined cs) + length cs ≤ length (data_section v cs)
section_wide v [] = omega arith
section_wide v (c ∷ cs) =
    omega (
      arith,
      section_wide v cs,
      payload_wide v c,
      length-block v Data
          (payload v c),
      length-append c (joined cs),
      length-append (data_block v c)
          (data_section v cs),
    )

-- ---- numbers

min_le : (a b c : ℕ) → b < c → min a b < c
min_le a b c h = omega arith

pub lowest_fits : (es : List Entry) → lowest_seqno es < 2 ^ 64
unfolding lowest_seqno
lowest_fits [] = omega arith
lowest_fits (e ∷ es) = min_le e.seqno (lowest_seqno es) (2 ^ 64) (lowest_fits es)

max_lt : (a b c : ℕ) → a < c → b < c → max a b < c
max_lt a b c h k = omega arith

pub highest_below : (v : TableVersion) (es : List Entry) → AllByRecursion (EntryFits v) es
    → highest_seqno es < 2 ^ 64
unfolding highest_seqno
highest_below v [] fits = omega arith
highest_below v (e ∷ es) fits = max_lt e.seqno (highest_seqno es) (2 ^ 64)
    (omega (arith, (fits.0).number)) (highest_below v es fits.1)

-- ---- handles

pub last_fits : (v : TableVersion) (e : Entry) (es : List Entry)
    → AllByRecursion (EntryFits v) (e ∷ es) → EntryFits v (last_entry (e ∷ es))
unfolding last_of
last_fits v e [] fits = fits.0
last_fits v e (x ∷ xs) fits = last_fits v x xs fits.1

-- the handles' blocks lie below a bound
pub handle_fits : (v : TableVersion) (offset : ℕ) (cs : List (List Entry))
    → offset + length (data_section v cs) < 2 ^ 64 → AreSome cs
    → AllByRecursion (EntryFits v) (joined cs) → AllByRecursion (BlockFits v) cs
    → AllByRecursion (IsSpellableHandle v) (handles_from v offset cs)
handle_fits v offset [] short some fits blocks = tt
handle_fits v offset ([] ∷ cs) short some fits blocks = absurd (omega (arith, some.0))
handle_fits v offset ((x ∷ xs) ∷ cs) short some fits blocks =
    let last = last_fits v x xs (all_front (EntryFits v) (x ∷ xs) (joined cs) fits) in
    let size = length-block v Data (payload v (x ∷ xs)) in
    let whole = length-append (data_block v (x ∷ xs)) (data_section v cs) in
    let one : IsSpellableHandle v (handle_of v offset (x ∷ xs)) =
    record {
      number = omega (arith, last.number);
      offset = omega (arith, short, whole);
      size =
          (blocks.0).short;
      key_len = omega (arith, last.key, longest_short v);
    } in (
      one,
      handle_fits v (offset + block_size v (x ∷ xs)) cs
          (omega (arith, short, whole, size)) some.1
          (all_behind (EntryFits v) (x ∷ xs) (joined cs) fits) blocks.1,
    )

handles_wide : (v : TableVersion) (hs : List Handle)
    → length hs ≤ length (flat_map (handle_spelled v) hs)
handles_wide v [] = omega arith
handles_wide v (h ∷ hs) = omega (
  arith,
  handles_wide v hs,
  length-handle_spelled v h,
  length-append
      (handle_spelled v h) (flat_map (handle_spelled v) hs),
)

pub handles_short : (v : TableVersion) (hs : List Handle)
    → length hs + 4 ≤ length (handles_payload v hs)
unfolding handles_payload
handles_short v hs = omega (
  arith,
  handles_wide v hs,
  wide4.len (length hs),
  length-append
      (le4 (length hs)) (flat_map (handle_spelled v) hs),
)

-- ---- the handles are strict

pub last_some : (x : Entry) (xs : List Entry) → last_of (Some x) xs ≡ Some (last_entry (x ∷ xs))
unfolding last_of
last_some x [] = refl
last_some x (y ∷ ys) = last_some y ys

pub follow_last : (p : Option Entry) (x : Entry) (xs : List Entry) → IsStrictAfter p (x ∷ xs)
    → may_follow p (last_entry (x ∷ xs)) ≡ true
unfolding IsStrictAfter last_of
follow_last p x [] strict = strict.0
follow_last p x (y ∷ ys) strict = may_jump p x (last_entry (y ∷ ys)) strict.0
    (later x y ys strict.1)

-- a handle's end has the key and the number of the last entry
end_same : (p : Option Entry) (v : TableVersion) (offset : ℕ) (c : List Entry)
    → may_follow p (end_of (handle_of v offset c)) ≡ may_follow p (last_entry c)
end_same None v offset c = refl
end_same (Some e) v offset c = refl

-- the ends of the blocks of a strict list: q stands where p does, by key and number
strict_ends : (v : TableVersion) (offset : ℕ) (p q : Option Entry) (cs : List (List Entry))
    → ((e : Entry) → may_follow q e ≡ may_follow p e) → AreSome cs → IsStrictAfter p (joined cs)
    → IsStrictAfter q (map end_of (handles_from v offset cs))
unfolding IsStrictAfter last_of
strict_ends v offset p q [] same some strict = tt
strict_ends v offset p q ([] ∷ cs) same some strict = absurd (omega (arith, some.0))
strict_ends v offset p q ((x ∷ xs) ∷ cs) same some strict =
    let end = handle_of v offset (x ∷ xs) in
    let here = same (end_of end) ∙ end_same p v offset (x ∷ xs)
    ∙ follow_last p x xs (strict_front p (x ∷ xs) (joined cs) strict) in
    let more = strict_back p (x ∷ xs) (joined cs) strict in (
      here,
      strict_ends v (offset + block_size v (x ∷ xs)) (last_of p (x ∷ xs))
          (Some (end_of end)) cs (λ e. sym (ap (λ (o : Option Entry). may_follow o e)
          (last_some x xs))) some.1 more,
    )

pub handles_strict : (v : TableVersion) (cs : List (List Entry)) → AreSome cs → IsStrict (joined cs)
    → AreStrictHandles (handles v cs)
handles_strict v cs some strict = strict_ends v 0 None None cs (λ e. refl) some strict
