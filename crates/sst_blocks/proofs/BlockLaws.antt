-- A block that was written loads.
use Rattle.std.proofs.Common.{◌≡◌, ℕ, ◌+◌, ◌-◌, ◌^◌, ◌<◌, ◌≤◌, true, List, [], ◌∷◌, ◌++◌}
use Rattle.std.proofs.Common.{length, drop, slice_range, refl, sym, ap, ◌∙◌, arith, append_assoc}
use Rattle.std.proofs.Common.{length-append}
use Rattle.std.specs.Prelude.{None, Some, Ok, is_some, nat_le}
use Rattle.std.proofs.lemmas.List.{take_at, drop_at, append-nil}
use Rattle.std.proofs.lemmas.Bool.{eq-eqb}
use Rattle.std.proofs.lemmas.Bool.Decides.{nat_tests}
use Rattle.sst_blocks.specs.declared.version.TableVersion.{TableVersion}
use Rattle.sst_blocks.specs.declared.version.TableVersion.TheVariants.{V3, V4}
use Rattle.sst_blocks.specs.declared.block_type.BlockType.{BlockType}
use Rattle.sst_blocks.specs.declared.block_type.BlockType.TheVariants.{Data, Index, Filter, Meta}
use Rattle.sst_blocks.specs.Fnv.{fnv1a, fnv_basis}
use Rattle.sst_blocks.specs.Number.{le4, le8, num4, num8}
use Rattle.sst_blocks.specs.Block.{header, block_bytes, header_fault, data_len, uncompressed_len}
use Rattle.sst_blocks.specs.Block.{stored_checksum, version_in, in_grammar, checked_payload}
use Rattle.sst_blocks.specs.Block.{load_result, load_at_result, entries_of, handles_of, loaded}
use Rattle.sst_blocks.specs.Block.{LoadsBack, is_filter}
use Rattle.sst_blocks.specs.Handle.{Handle}
use Rattle.sst_blocks.specs.filter.Filter.{BloomFilter, filter_in, IsBuilt, payload_of}
use Rattle.sst_blocks.specs.Handles.{handles_payload, AreStrictHandles, AreSpellableHandles}
use Rattle.sst_blocks.specs.Payload.{payload, AreSpellable}
use Rattle.sst_blocks.specs.Reading.{entries_in}
use Rattle.sst_blocks.specs.Starts.{HoldsEntries}
use Rattle.sst_entries.specs.Entry.{Entry}
use Rattle.sst_entries.specs.Strict.{IsStrict}
use Rattle.sst_blocks.proofs.Entries.{entries_read}
use Rattle.sst_blocks.proofs.HandleLaws.{handles_read}
use Rattle.sst_blocks.proofs.Numbers.{wide4, wide8}
use Rattle.sst_blocks.proofs.FnvLemmas.{fnv_from-fits}
use Rattle.sst_blocks.proofs.LoadLemmas.{load_checked, load_at_checked}

-- hashes are numbers of eight bytes
pub fnv1a-lt : (bytes : List ℕ) → fnv1a bytes < 2 ^ 64
fnv1a-lt bytes = fnv_from-fits fnv_basis bytes (omega arith)

-- what a header that was written says
record Says (v : TableVersion) (kind : BlockType) (payload head : List ℕ) : Type 0 where
  len : length head ≡ 24
  fault : header_fault kind head ≡ None
  version : version_in head ≡ v
  stored : data_len head ≡ length payload
  uncompressed : uncompressed_len head ≡ length payload
  checksum : stored_checksum head ≡ fnv1a payload

-- the numbers behind the eight bytes of the mark and the kind
first_len : (payload : List ℕ) → length payload < 2 ^ 32
    → num4 ((le4 (length payload) ++ le4 (length payload)) ++ le8 (fnv1a payload)) ≡ length payload
first_len payload lt = ap num4 (append_assoc (le4 (length payload)) (le4 (length payload))
    (le8 (fnv1a payload))) ∙ wide4.again (length payload) _ lt

second_len : (payload : List ℕ) → length payload < 2 ^ 32
    → num4 (drop 4 ((le4 (length payload) ++ le4 (length payload)) ++ le8 (fnv1a payload)))
    ≡ length payload
second_len payload lt =
    let n = length payload in
    let rest = le8 (fnv1a payload) in
    ap (λ (xs : List ℕ). num4 (drop 4 xs)) (append_assoc (le4 n) (le4 n) rest)
    ∙ ap num4 (drop_at (le4 n) (le4 n ++ rest) 4 (wide4.len n)) ∙ wide4.again n rest lt

last_checksum : (payload : List ℕ) → num8 (drop 8
    ((le4 (length payload) ++ le4 (length payload)) ++ le8 (fnv1a payload))) ≡ fnv1a payload
last_checksum payload =
    let n = length payload in
    ap num8 (drop_at (le4 n ++ le4 n) (le8 (fnv1a payload)) 8
    (omega (arith, length-append (le4 n) (le4 n), wide4.len n)))
    ∙ ap num8 (sym (append-nil (le8 (fnv1a payload))))
    ∙ wide8.again (fnv1a payload) [] (fnv1a-lt payload)

numbers_len : (payload : List ℕ) → length ((le4 (length payload) ++ le4 (length payload))
    ++ le8 (fnv1a payload)) ≡ 16
numbers_len payload =
    let n = length payload in
    omega (
      arith,
      length-append (le4 n ++ le4 n) (le8 (fnv1a payload)),
      length-append (le4 n)
          (le4 n),
      wide4.len n,
      wide8.len (fnv1a payload),
    )

says : (v : TableVersion) (kind : BlockType) (payload : List ℕ) → length payload < 2 ^ 32
    → Says v kind payload (header v kind payload)
says V3 Data payload lt = record {
  len = omega (arith, numbers_len payload);
  fault = refl;
  version =
      refl;
  stored = first_len payload lt;
  uncompressed = second_len payload lt;
  checksum =
      last_checksum payload;
}
says V3 Index payload lt = record {
  len = omega (arith, numbers_len payload);
  fault =
      refl;
  version = refl;
  stored = first_len payload lt;
  uncompressed =
      second_len payload lt;
  checksum = last_checksum payload;
}
says V3 Filter payload lt = record {
  len = omega (arith, numbers_len payload);
  fault =
      refl;
  version = refl;
  stored = first_len payload lt;
  uncompressed =
      second_len payload lt;
  checksum = last_checksum payload;
}
says V3 Meta payload lt = record {
  len = omega (arith, numbers_len payload);
  fault = refl;
  version =
      refl;
  stored = first_len payload lt;
  uncompressed = second_len payload lt;
  checksum =
      last_checksum payload;
}
says V4 Data payload lt = record {
  len = omega (arith, numbers_len payload);
  fault = refl;
  version =
      refl;
  stored = first_len payload lt;
  uncompressed = second_len payload lt;
  checksum =
      last_checksum payload;
}
says V4 Index payload lt = record {
  len = omega (arith, numbers_len payload);
  fault =
      refl;
  version = refl;
  stored = first_len payload lt;
  uncompressed =
      second_len payload lt;
  checksum = last_checksum payload;
}
says V4 Filter payload lt = record {
  len = omega (arith, numbers_len payload);
  fault =
      refl;
  version = refl;
  stored = first_len payload lt;
  uncompressed =
      second_len payload lt;
  checksum = last_checksum payload;
}
says V4 Meta payload lt = record {
  len = omega (arith, numbers_len payload);
  fault = refl;
  version =
      refl;
  stored = first_len payload lt;
  uncompressed = second_len payload lt;
  checksum =
      last_checksum payload;
}

-- a payload in the grammar passes
checked_ok : (v : TableVersion) (kind : BlockType) (payload : List ℕ)
    → in_grammar v kind payload ≡ true → checked_payload v (fnv1a payload) kind payload
    ≡ Ok (record { version = v; kind = kind; payload = payload })
unfolding checked_payload
checked_ok v kind payload ok = rw (eq-eqb (fnv1a payload) (fnv1a payload) refl, ok) refl

-- a part of a list that stands behind another
part_at : (pre part post : List ℕ) (from to : ℕ) → from ≡ length pre → to ≡ length pre + length part
    → slice_range ((pre ++ part) ++ post) from to ≡ part
part_at pre part post from to f t =
    let n : to - from ≡ length part = omega arith in
    rw (append_assoc pre part post, drop_at pre (part ++ post) from (sym f), n)
    (take_at part post (length part) refl)

regroup : (a b c d : List ℕ) → (a ++ (b ++ c)) ++ d ≡ (a ++ b) ++ (c ++ d)
regroup a b c d = simp append_assoc

regroup_left : (a b c d : List ℕ) → (a ++ (b ++ c)) ++ d ≡ ((a ++ b) ++ c) ++ d
regroup_left a b c d = simp append_assoc

-- what a load meets at a block that was written
record Met (v : TableVersion) (kind : BlockType) (payload : List ℕ) (body : List ℕ)
    (offset : ℕ) : Type 0 where
  within : offset + (24 + length payload) ≤ length body
  fault : header_fault kind (slice_range body offset (offset + 24)) ≡ None
  stored : data_len (slice_range body offset (offset + 24)) ≡ length payload
  uncompressed : uncompressed_len (slice_range body offset (offset + 24)) ≡ length payload
  checked : checked_payload (version_in (slice_range body offset (offset + 24)))
      (stored_checksum (slice_range body offset (offset + 24))) kind
      (slice_range body (offset + 24) (offset + (24 + length payload)))
      ≡ Ok (record { version = v; kind = kind; payload = payload })

met : (v : TableVersion) (kind : BlockType) (payload head pre post body : List ℕ) (offset : ℕ)
    → Says v kind payload head → in_grammar v kind payload ≡ true → offset ≡ length pre
    → body ≡ (pre ++ (head ++ payload)) ++ post → Met v kind payload body offset
met v kind payload head pre post body offset returned ok at e =
    let head_is : slice_range body offset (offset + 24) ≡ head =
    ap (λ (xs : List ℕ). slice_range xs offset (offset + 24)) (e ∙ regroup pre head payload post)
    ∙ part_at pre head (payload ++ post) offset (offset + 24) at (omega (arith, returned.len)) in
    let front : length (pre ++ head) ≡ offset + 24 =
    omega (arith, length-append pre head, returned.len) in
    let payload_is : slice_range body (offset + 24) (offset + (24 + length payload)) ≡ payload =
    ap (λ (xs : List ℕ). slice_range xs (offset + 24) (offset + (24 + length payload)))
    (e ∙ regroup_left pre head payload post)
    ∙ part_at (pre ++ head) payload post (offset + 24) (offset + (24 + length payload)) (sym front)
    (omega arith) in
    record {
      within = omega (
        arith,
        ap length e,
        length-append
            (pre ++ (head ++ payload)) post,
        length-append pre
            (head ++ payload),
        length-append head payload,
        returned.len,
      );
      fault = rw head_is returned.fault;
      stored = rw head_is returned.stored;
      uncompressed = rw head_is returned.uncompressed;
      checked = rw (head_is, payload_is, returned.version, returned.checksum)
          (checked_ok v kind payload ok);
    }

-- by its handle
pub written_loads : (v : TableVersion) (kind : BlockType) (pre payload post body : List ℕ)
    (offset : ℕ) → length payload < 2 ^ 32 → in_grammar v kind payload ≡ true → offset ≡ length pre
    → body ≡ pre ++ block_bytes v kind payload ++ post
    → load_result body offset (24 + length payload) kind
    ≡ Ok (record { version = v; kind = kind; payload = payload })
written_loads v kind pre payload post body offset lt ok at e =
    let m = met v kind payload (header v kind payload) pre post body offset
    (says v kind payload lt) ok at e in
    load_checked body offset (24 + length payload) kind (omega arith) m.within m.fault
    (m.stored ∙ sym m.uncompressed) (omega (arith, m.stored)) ∙ m.checked

-- at its position
pub written_loads_at : (v : TableVersion) (kind : BlockType) (pre payload post body : List ℕ)
    (offset : ℕ) → length payload < 2 ^ 32 → in_grammar v kind payload ≡ true → offset ≡ length pre
    → body ≡ pre ++ block_bytes v kind payload ++ post
    → load_at_result body offset kind ≡ Ok (record
    { version = v; kind = kind; payload = payload })
written_loads_at v kind pre payload post body offset lt ok at e =
    let m = met v kind payload (header v kind payload) pre post body offset
    (says v kind payload lt) ok at e in
    let end : offset + 24 + data_len (slice_range body offset (offset + 24))
    ≡ offset + (24 + length payload) = omega (arith, m.stored) in
    load_at_checked body offset kind (omega (arith, m.within)) m.fault
    (m.stored ∙ sym m.uncompressed) (omega (arith, m.within, m.stored))
    ∙ ap (λ (to : ℕ). checked_payload (version_in (slice_range body offset (offset + 24)))
    (stored_checksum (slice_range body offset (offset + 24))) kind
    (slice_range body (offset + 24) to)) end
    ∙ m.checked

-- ---- lists

loads_back : (v : TableVersion) (kind : BlockType) (bytes : List ℕ) → length bytes < 2 ^ 32
    → in_grammar v kind bytes ≡ true → LoadsBack v kind bytes
loads_back v kind bytes lt ok front behind =
    let body = front ++ block_bytes v kind bytes ++ behind in (
      written_loads v kind front bytes behind body
          (length front) lt ok refl refl,
      written_loads_at v kind front bytes behind body
          (length front) lt ok refl refl,
    )

entries_ok : (v : TableVersion) (kind : BlockType) (bytes : List ℕ) (es : List Entry)
    → HoldsEntries kind → entries_in v bytes ≡ Some es → in_grammar v kind bytes ≡ true
entries_ok v Data bytes es holds returned = ap is_some returned
entries_ok v Meta bytes es holds returned = ap is_some returned
entries_ok v Index bytes es holds returned = absurd holds
entries_ok v Filter bytes es holds returned = absurd holds

-- a block of a list that was written loads, and holds the list
pub entries_load : (v : TableVersion) (kind : BlockType) (es : List Entry) → HoldsEntries kind
    → IsStrict es → AreSpellable v es → length (payload v es) < 2 ^ 32
    → LoadsBack v kind (payload v es) × (entries_of (loaded v kind (payload v es)) ≡ es)
entries_load v kind es holds strict fit lt =
    let returned = entries_read v es fit strict in (
      loads_back v kind (payload v es) lt (entries_ok v kind (payload v es) es holds returned),
      rw returned
          refl,
    )

pub handles_load : (v : TableVersion) (hs : List Handle) → AreStrictHandles hs
    → AreSpellableHandles v hs → length (handles_payload v hs) < 2 ^ 32
    → LoadsBack v Index (handles_payload v hs) × (handles_of (loaded v Index (handles_payload v hs))
    ≡ hs)
handles_load v hs strict fit lt =
    let returned = handles_read v hs fit strict in
    (loads_back v Index (handles_payload v hs) lt (ap is_some returned), rw returned refl)

pub filter_load : (v : TableVersion) (f : BloomFilter) → is_filter (payload_of f) ≡ true
    → length (payload_of f) < 2 ^ 32
    → LoadsBack v Filter (payload_of f) × (filter_in (payload_of f) ≡ f)
filter_load v f ok lt = (loads_back v Filter (payload_of f) lt ok, refl)

-- a built filter is in the grammar
is_built : (k : ℕ) (bits : List ℕ) → 1 ≤ k → k ≤ 30 → 8 ≤ length bits → is_filter (k ∷ bits) ≡ true
is_built k [] some few wide = absurd (omega (arith, wide))
is_built k (b ∷ bits) some few wide = rw (yes 1 k some, yes k 30 few) refl
  where
    yes : (m n : ℕ) → m ≤ n → nat_le m n ≡ true
    yes m n le = grind (arith, nat_tests, le)

pub built_load : (v : TableVersion) (f : BloomFilter) → IsBuilt f
    → LoadsBack v Filter (payload_of f) × (filter_in (payload_of f) ≡ f)
built_load v f built = filter_load v f (is_built f.probe_count f.bits built.some built.few
    built.wide) (omega (arith, built.short))
