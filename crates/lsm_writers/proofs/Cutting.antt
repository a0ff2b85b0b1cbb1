-- Blocks in a data section: what is read back of them, and one block more.
use Rattle.std.proofs.Common.{◌≡◌, refl, sym, ◌∙◌, ap, subst, ℕ, suc, ◌+◌, ◌*◌, ◌<◌, ◌≤◌, ◌^◌, Bool}
use Rattle.std.proofs.Common.{true, false, List, [], ◌∷◌, ◌++◌, length, take, drop, append_assoc}
use Rattle.std.proofs.Common.{arith, length-append}
use Rattle.std.specs.Prelude.{Option, Some, None, unwrap_or, sum_by}
use Rattle.std.specs.List.{AllByRecursion}
use Rattle.std.proofs.lemmas.List.{take_at, drop_at, append-nil}
use Rattle.std.proofs.lemmas.List.Concat.{flat_map-append}
use Rattle.std.proofs.lemmas.List.Sums.{sum_by-append, sum_by-cons}
use Rattle.std.specs.Option.{option_map}
use Rattle.sst_blocks.specs.declared.version.TableVersion.TheVariants.{V4}
use Rattle.sst_blocks.specs.declared.block_type.BlockType.TheVariants.{Data as DataKind}
use Rattle.sst_blocks.specs.declared.section.SectionName.TheVariants.{Data}
use Rattle.sst_blocks.specs.Block.{block_bytes, header, data_len}
use Rattle.sst_entries.specs.declared.value_type.ValueType.TheVariants.{Value}
use Rattle.sst_entries.specs.Entry.{Entry, entry}
use Rattle.sst_blocks.specs.Fnv.{fnv1a}
use Rattle.sst_blocks.specs.Bounds.{data_block_bound_of, entry_bound}
use Rattle.sst_blocks.specs.Handle.{Handle}
use Rattle.sst_blocks.specs.Handles.{AreStrictHandles}
use Rattle.sst_blocks.specs.Place.{Place}
use Rattle.lsm_writers.specs.section.Kept.{handle_with}
use Rattle.sst_blocks.specs.Number.{le4, le8, num4}
use Rattle.sst_blocks.specs.Payload.{payload}
use Rattle.sst_blocks.specs.Reading.{entries_in}
use Rattle.sst_blocks.specs.Sections.{Written}
use Rattle.sst_entries.specs.Strict.{IsStrictAfter, IsStrict, last_of}
use Rattle.sst_blocks.proofs.Numbers.{wide4, wide8}
use Rattle.sst_blocks.specs.table.Chunks.{joined}
use Rattle.lsm_writers.specs.declared.writer.meta.Metadata.{Metadata}
use Rattle.lsm_writers.specs.Cut.{chunks_in, IsReadable, AreCut, with_cut, rest_chunk}
use Rattle.sst_blocks.specs.table.Facts.{last_key}
use Rattle.sst_blocks.specs.table.Fits.{BlockFits}
use Rattle.sst_blocks.specs.table.Index.{data_block, data_section, handles, handles_from, handle_of}
use Rattle.sst_blocks.specs.table.Index.{block_size, last_entry}
use Rattle.sst_entries.proofs.Lists.{all_append, all_more}
use Rattle.sst_blocks.proofs.FactLaws.{length-handles}
use Rattle.lsm_writers.proofs.Orders.{last_of-append, last_of_cons, HasSome, handles_strict}

-- what a header says of the length
pub len_again : (p rest : List ℕ) → length p < 2 ^ 32
    → data_len (block_bytes V4 DataKind p ++ rest) ≡ length p
len_again p rest short =
    let n = length p in
    let e : data_len (block_bytes V4 DataKind p ++ rest)
    ≡ num4 (le4 n ++ (le4 n ++ (le8 (fnv1a p) ++ (p ++ rest)))) = ap num4 (simp append_assoc) in
    e ∙ wide4.again n _ short

header_len : (p : List ℕ) → length (header V4 DataKind p) ≡ 24
header_len p = simp (length-append, wide4.len, wide8.len)

pub past_header : (p rest : List ℕ) → drop 24 (block_bytes V4 DataKind p ++ rest) ≡ p ++ rest
past_header p rest = ap (λ (x : List ℕ). drop 24 x) (append_assoc (header V4 DataKind p) p rest)
    ∙ drop_at (header V4 DataKind p) (p ++ rest) 24 (header_len p)

pub block_len : (c : List Entry) → length (data_block V4 c) ≡ block_size V4 c
block_len c = length-append (header V4 DataKind (payload V4 c)) (payload V4 c)
    ∙ ap (λ (n : ℕ). n + length (payload V4 c)) (header_len (payload V4 c))

-- the blocks of readable chunks give the chunks back
pub chunks_again : (cs : List (List Entry)) (rest : List ℕ) → AllByRecursion (IsReadable V4) cs
    → chunks_in V4 (length cs) (data_section V4 cs ++ rest) ≡ cs
unfolding chunks_in
chunks_again [] rest h = refl
chunks_again (c ∷ cs) rest h =
    let p = payload V4 c in
    let more = data_section V4 cs ++ rest in
    let bytes = data_block V4 c ++ more in
    let at : data_section V4 (c ∷ cs) ++ rest ≡ bytes =
    append_assoc (data_block V4 c) (data_section V4 cs) rest in
    let n : data_len bytes ≡ length p = len_again p more (omega (arith, h.0.short)) in
    let head : unwrap_or (entries_in V4 (take (data_len bytes) (drop 24 bytes))) [] ≡ c =
    rw (n, past_header p more, take_at p more (length p) refl, h.0.reads) refl in
    let tail : drop (24 + data_len bytes) bytes ≡ more =
    rw n (drop_at (data_block V4 c) more (24 + length p) (block_len c)) in
    ap (chunks_in V4 (suc (length cs))) at ∙ (ap
    (λ (x : List Entry). x ∷ chunks_in V4 (length cs) (drop (24 + data_len bytes) bytes)) head
    ∙ ap (λ (x : List ℕ). c ∷ chunks_in V4 (length cs) x) tail
    ∙ ap (λ (x : List (List Entry)). c ∷ x) (chunks_again cs rest h.1))

-- the handle of one block more
handles_more_from : (at : ℕ) (cs : List (List Entry)) (c : List Entry)
    → handles_from V4 at (cs ++ c ∷ []) ≡ handles_from V4 at cs
    ++ handle_of V4 (at + length (data_section V4 cs)) c ∷ []
handles_more_from at [] c = ap (λ (n : ℕ). handle_of V4 n c ∷ []) (omega arith)
handles_more_from at (d ∷ cs) c =
    let e : (at + block_size V4 d) + length (data_section V4 cs)
    ≡ at + length (data_section V4 (d ∷ cs)) =
    omega (arith, length-append (data_block V4 d) (data_section V4 cs), block_len d) in
    ap (λ (x : List Handle). handle_of V4 at d ∷ x)
    (handles_more_from (at + block_size V4 d) cs c
    ∙ ap (λ (n : ℕ). handles_from V4 (at + block_size V4 d) cs ++ handle_of V4 n c ∷ []) e)

pub handles_more : (cs : List (List Entry)) (c : List Entry)
    → handles V4 (cs ++ c ∷ []) ≡ handles V4 cs ++ handle_of V4 (length (data_section V4 cs)) c ∷ []
handles_more cs c = handles_more_from 0 cs c ∙ ap
    (λ (n : ℕ). handles V4 cs ++ handle_of V4 n c ∷ []) (omega arith)

-- ---- one block more

pub joined_more : (cs : List (List Entry)) (c : List Entry) → joined (cs ++ c ∷ []) ≡ joined cs ++ c
joined_more cs c = flat_map-append (λ (x : List Entry). x) cs (c ∷ [])
    ∙ ap (λ (x : List Entry). joined cs ++ x) (append-nil c)

pub section_more : (cs : List (List Entry)) (c : List Entry)
    → data_section V4 (cs ++ c ∷ []) ≡ data_section V4 cs ++ data_block V4 c
section_more cs c = flat_map-append (data_block V4) cs (c ∷ [])
    ∙ ap (λ (x : List ℕ). data_section V4 cs ++ x) (append-nil (data_block V4 c))

pub last_is_some : (before : Option Entry) (es : List Entry) → 0 < length es
    → last_of before es ≡ Some (last_entry es)
last_is_some before [] h = absurd (omega (arith, h))
last_is_some before (e ∷ es) h = last_of_cons before e es

pub nothing_cut : (w : Written) (hs : List Handle) (failed : Bool)
    → w ≡ record { bytes = []; started = (Data, 0) ∷ [] } → hs ≡ []
    → AreCut (chunks_in V4 (length hs) w.bytes) w hs None failed
unfolding chunks_in last_of IsStrictAfter
nothing_cut w hs failed e n =
    let cs : chunks_in V4 (length hs) w.bytes ≡ [] = rw n refl in
    let made : AreCut [] w hs None failed = record {
      rest = [];
      bytes = ap (λ (x : Written). x.bytes) e;
      whole = λ _. refl;
      started =
          ap (λ (x : Written). x.started) e;
      readable = tt;
      index = n;
      strict = tt;
      last_is =
          refl;
    } in
    rw cs made

-- a block was written and registered
pub cut_more : (cs : List (List Entry)) (w w' : Written) (hs hs' : List Handle)
    (before last : Option Entry) (failed failed' : Bool) (c : List Entry)
    → AreCut cs w hs before failed → failed ≡ false → IsStrict (joined cs ++ c) → IsReadable V4 c
    → w' ≡ record w { bytes = w.bytes ++ block_bytes V4 DataKind (payload V4 c) }
    → hs' ≡ hs ++ handle_of V4 (length w.bytes) c ∷ []
    → last ≡ Some (last_entry c)
    → AreCut (cs ++ c ∷ []) w' hs' last failed'
cut_more cs w w' hs hs' before last failed failed' c old works strict ok ew eh el =
    let none : old.rest ≡ [] = old.whole works in
    let was : w.bytes ≡ data_section V4 cs = old.bytes
    ∙ ap (λ (x : List ℕ). data_section V4 cs ++ x) none ∙ append-nil (data_section V4 cs) in
    record {
      rest = [];
      bytes = ap (λ (x : Written). x.bytes) ew ∙ ap (λ (x : List ℕ). x ++ data_block V4 c) was
          ∙ sym (section_more cs c) ∙ sym (append-nil (data_section V4 (cs ++ c ∷ [])));
      whole = λ _. refl;
      started = ap (λ (x : Written). x.started) ew ∙ old.started;
      readable = all_append (IsReadable V4) cs (c ∷ []) old.readable (ok, tt);
      index = eh ∙ ap (λ (x : List Handle). x ++ handle_of V4 (length w.bytes) c ∷ []) old.index
          ∙ ap (λ (x : List ℕ). handles V4 cs ++ handle_of V4 (length x) c ∷ []) was
          ∙ sym (handles_more cs c);
      strict = rw joined_more strict;
      last_is = el ∙ sym (last_is_some (last_of None (joined cs)) c ok.some)
          ∙ sym (last_of-append None (joined cs) c) ∙ ap (last_of None) (sym (joined_more cs c));
    }

-- the same behind the chunks that a call's caller knows
pub added_is : (cs known : List (List Entry)) (d c : List Entry) (w w' : Written)
    (hs hs' : List Handle) (before last : Option Entry) (failed failed' : Bool)
    → AreCut cs w hs before failed → cs ≡ known → d ≡ c → IsStrict (joined known ++ c)
    → ((chunks : List (List Entry)) → (b : Option Entry) → AreCut chunks w hs b failed
    → IsStrict (joined chunks ++ d) → AreCut (chunks ++ d ∷ []) w' hs' last failed')
    → AreCut (cs ++ c ∷ []) w' hs' last failed'
added_is cs known d c w w' hs hs' before last failed failed' old k e strict added =
    subst (λ (x : List Entry). AreCut (cs ++ x ∷ []) w' hs' last failed') e
    (added cs before old (rw (k, e) strict))

-- what the bytes hold is what the state says
pub held_again : (cs : List (List Entry)) (w : Written) (hs : List Handle) (last : Option Entry)
    (failed : Bool) → AreCut cs w hs last failed → chunks_in V4 (length hs) w.bytes ≡ cs
held_again cs w hs last failed old =
    let n : length hs ≡ length cs = ap length old.index ∙ length-handles V4 0 cs in
    ap (chunks_in V4 (length hs)) old.bytes ∙ ap
    (λ (k : ℕ). chunks_in V4 k (data_section V4 cs ++ old.rest)) n
    ∙ chunks_again cs old.rest old.readable

-- the same state, told by the bytes
pub held_by_bytes : (cs : List (List Entry)) (w : Written) (hs : List Handle) (last : Option Entry)
    (failed : Bool) → AreCut cs w hs last failed
    → AreCut (chunks_in V4 (length hs) w.bytes) w hs last failed
held_by_bytes cs w hs last failed old = subst (λ (x : List (List Entry)). AreCut x w hs last failed)
    (sym (held_again cs w hs last failed old)) old

-- a block was written and not registered
pub cut_lost : (cs : List (List Entry)) (w w' : Written) (hs hs' : List Handle)
    (last : Option Entry) (failed failed' : Bool) (block : List ℕ)
    → AreCut cs w hs last failed
    → w' ≡ record w { bytes = w.bytes ++ block } → hs' ≡ hs → failed' ≡ true
    → AreCut cs w' hs' last failed'
cut_lost cs w w' hs hs' last failed failed' block old ew eh ef = record {
  rest = old.rest ++ block;
  bytes = ap (λ (x : Written). x.bytes) ew ∙ ap (λ (x : List ℕ). x ++ block) old.bytes
      ∙ append_assoc (data_section V4 cs) old.rest block;
  whole = λ h. absurd cc;
  started = ap (λ (x : Written). x.started) ew ∙ old.started;
  readable = old.readable;
  index = eh ∙ old.index;
  strict = old.strict;
  last_is = old.last_is;
}

-- ---- sizes

pub record Sizes (cs : List (List Entry)) : Type 0 where
  pub blocks : length cs ≤ length (data_section V4 cs)
  pub items : 17 * length (joined cs) ≤ length (data_section V4 cs)
  pub payloads : sum_by (λ c. length (payload V4 c)) cs ≤ length (data_section V4 cs)

pub sizes : (cs : List (List Entry)) → AllByRecursion (IsReadable V4) cs → Sizes cs
sizes [] h = record { blocks = omega arith; items = omega arith; payloads = omega arith }
sizes (c ∷ cs) h =
    let r = sizes cs h.1 in
    let n = length-append (data_block V4 c) (data_section V4 cs) in
    let m = block_len c in
    record {
      blocks = omega (arith, n, m, r.blocks);
      items = omega (arith, n, m, r.items, length-append c (joined cs), h.0.wide);
      payloads = omega (
        arith,
        n,
        m,
        r.payloads,
        sum_by-cons
            (λ (x : List Entry). length (payload V4 x)) c cs,
      );
    }

-- ---- counts

pub counted_more : {A : Type 0} (m : Metadata A) (cs : List (List Entry)) (c : List Entry) (at : ℕ)
    → m ≡ with_cut cs m → 0 < length c → at ≡ length (data_section V4 (cs ++ c ∷ []))
    → record m {
      data_block_count = m.data_block_count + 1;
      item_count =
          m.item_count + length c;
      file_pos = record { 0 = at };
      uncompressed_size =
          m.uncompressed_size + length (payload V4 c);
      last_key = Some (last_entry c).user_key;
    }
    ≡ with_cut (cs ++ c ∷ []) m
counted_more {A} m cs c at are some e =
    let n : m.data_block_count + 1 ≡ length (cs ++ c ∷ []) =
    omega (arith, ap (λ (x : Metadata A). x.data_block_count) are, length-append cs (c ∷ [])) in
    let items : m.item_count + length c ≡ length (joined (cs ++ c ∷ [])) =
    ap (λ (k : ℕ). k + length c) (ap (λ (x : Metadata A). x.item_count) are)
    ∙ sym (length-append (joined cs) c) ∙ ap length (sym (joined_more cs c)) in
    let size = λ (x : List Entry). length (payload V4 x) in
    let bytes : m.uncompressed_size + size c ≡ sum_by size (cs ++ c ∷ []) =
    omega (
      arith,
      ap (λ (x : Metadata A). x.uncompressed_size) are,
      sum_by-append size cs
          (c ∷ []),
      sum_by-cons size c [],
    ) in
    let last : last_of None (joined (cs ++ c ∷ [])) ≡ Some (last_entry c) =
    ap (last_of None) (joined_more cs c) ∙ last_of-append None (joined cs) c
    ∙ last_is_some (last_of None (joined cs)) c some in
    let key : Some (last_entry c).user_key ≡ last_key (joined (cs ++ c ∷ [])) =
    sym (ap (λ (x : Option Entry). option_map (λ (y : Entry). y.user_key) x) last) in
    rw (n, items, bytes, e, key) refl

-- ---- from what the calls ensure

at_least : (es : List Entry) → 17 * length es ≤ sum_by entry_bound es
at_least [] = omega arith
at_least (e ∷ es) = omega (arith, at_least es, sum_by-cons entry_bound e es)

pub readable_of : (d es : List Entry) → d ≡ es → 0 < length es
    → entries_in V4 (payload V4 d) ≡ Some d → 24 + length (payload V4 d) < 2 ^ 32
    → 24 + length (payload V4 d) ≡ data_block_bound_of d → IsReadable V4 es
readable_of d es e some reads short bound =
    let P : List Entry → Type 0 = λ x. IsReadable V4 x in
    let wide : 17 * length d ≤ length (payload V4 d) = omega (arith, at_least d) in
    let some' : 0 < length d = rw e some in
    let made : IsReadable V4 d = record {
      some = some';
      reads = reads;
      short = short;
      wide =
          wide;
    } in
    subst P e made

pub registered_strict : (cs : List (List Entry)) (w : Written) (hs : List Handle)
    (before : Option Entry) (failed : Bool) (c : List Entry) (h : Handle)
    → AreCut cs w hs before failed → failed ≡ false → IsStrict (joined cs ++ c) → IsReadable V4 c
    → h ≡ handle_of V4 (length w.bytes) c
    → AreStrictHandles (hs ++ h ∷ [])
registered_strict cs w hs before failed c h old works strict ok e =
    let w' : Written = record w { bytes = w.bytes ++ block_bytes V4 DataKind (payload V4 c) } in
    let eh : hs ++ h ∷ [] ≡ hs ++ handle_of V4 (length w.bytes) c ∷ [] =
    ap (λ (x : Handle). hs ++ x ∷ []) e in
    let made : AreCut (cs ++ c ∷ []) w' (hs ++ h ∷ []) (Some (last_entry c)) false =
    cut_more cs w w' hs (hs ++ h ∷ []) before (Some (last_entry c)) failed false c old works
    strict ok refl eh refl in
    let some = all_more (IsReadable V4) HasSome (λ x r. r.some) (cs ++ c ∷ []) made.readable in
    rw made.index (handles_strict V4 (cs ++ c ∷ []) some made.strict)

-- the handle of a block by where it lies
pub reported_handle : (es written : List Entry) (at : ℕ) (block : Place) → written ≡ es
    → block ≡ record { offset = at; size = block_size V4 es }
    → handle_with (last_entry written).user_key (last_entry written).seqno block
    ≡ handle_of V4 at es
reported_handle es written at block same is =
    ap (λ (x : List Entry). handle_with (last_entry x).user_key (last_entry x).seqno block) same
    ∙ ap (λ (b : Place). handle_with (last_entry es).user_key (last_entry es).seqno b) is

pub rest_is : (es : List Entry) → 0 < length es → rest_chunk es ≡ es ∷ []
rest_is [] h = absurd (omega (arith, h))
rest_is (e ∷ es) h = refl

-- the counts of one block more fit
pub room_for : {A : Type 0} (m : Metadata A) (cs : List (List Entry)) (c : List Entry) (n : ℕ)
    → m ≡ with_cut cs m → AllByRecursion (IsReadable V4) (cs ++ c ∷ [])
    → length (data_section V4 (cs ++ c ∷ [])) ≤ n → n < 2 ^ 64
    → (m.data_block_count + 1 < 2 ^ 64) × (m.item_count + length c < 2 ^ 64)
    × (m.uncompressed_size + length (payload V4 c) < 2 ^ 64)
room_for {A} m cs c n are readable le lt =
    let s = sizes (cs ++ c ∷ []) readable in
    let size = λ (x : List Entry). length (payload V4 x) in
    let a : m.data_block_count ≡ length cs = ap (λ (x : Metadata A). x.data_block_count) are in
    let b : m.item_count ≡ length (joined cs) = ap (λ (x : Metadata A). x.item_count) are in
    let d : m.uncompressed_size ≡ sum_by size cs =
    ap (λ (x : Metadata A). x.uncompressed_size) are in
    let joined_len : length (joined (cs ++ c ∷ [])) ≡ length (joined cs) + length c =
    ap length (joined_more cs c) ∙ length-append (joined cs) c in (
      omega (arith, s.blocks, a, length-append cs (c ∷ []), le, lt),
      omega (arith, s.items, b, joined_len, le, lt),
      omega (arith, s.payloads, d, sum_by-append size cs (c ∷ []), sum_by-cons size c [], le, lt),
    )

-- the bytes have at least the blocks
pub at_least_blocks : (cs : List (List Entry)) (w : Written) (hs : List Handle)
    (last : Option Entry) (failed : Bool) → AreCut cs w hs last failed
    → length (data_section V4 cs) ≤ length w.bytes
at_least_blocks cs w hs last failed old = omega
    (arith, ap length old.bytes, length-append (data_section V4 cs) old.rest)

pub exact_blocks : (cs : List (List Entry)) (w : Written) (hs : List Handle) (last : Option Entry)
    (failed : Bool) → AreCut cs w hs last failed → failed ≡ false
    → length w.bytes ≡ length (data_section V4 cs)
exact_blocks cs w hs last failed old works = ap length
    (old.bytes ∙ ap (λ (x : List ℕ). data_section V4 cs ++ x) (old.whole works)
    ∙ append-nil (data_section V4 cs))

-- the blocks that were cut fit
pub blocks_fit : (cs : List (List Entry)) → AllByRecursion (IsReadable V4) cs
    → AllByRecursion (BlockFits V4) cs
blocks_fit [] h = tt
blocks_fit (c ∷ cs) h = (record { short = h.0.short }, blocks_fit cs h.1)

-- the handle of a block has the last entry's key and number
pub chunk_handle : (at : ℕ) (es : List Entry) (x : Entry) (key : List ℕ) (n size : ℕ) (p : List ℕ)
    → last_of None es ≡ Some x → key ≡ x.user_key → n ≡ x.seqno → size ≡ 24 + length p
    → p ≡ payload V4 es
    → ◌≡◌ {A = Handle} (record { end_key = key; seqno = n; offset = at; size = size })
    (handle_of V4 at es)
chunk_handle at es x key n size p l k m s is =
    let end : x ≡ last_entry es = sym (ap (λ (o : Option Entry). unwrap_or o (entry [] [] 0 Value))
    l) in
    let block : size ≡ block_size V4 es = s ∙ ap (λ (bytes : List ℕ). 24 + length bytes) is in
    rw (k ∙ ap (λ (y : Entry). y.user_key) end, m ∙ ap (λ (y : Entry). y.seqno) end, block) refl
