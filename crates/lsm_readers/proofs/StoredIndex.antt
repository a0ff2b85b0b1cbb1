-- What an index tells of some handles that it has, whatever of it stays loaded.
use Rattle.std.proofs.Common.{◌≡◌, ℕ, Bool, true, false, cond, List, [], ◌∷◌, ◌++◌, map, refl, sym}
use Rattle.std.proofs.Common.{ap, subst, ◌∙◌, arith}
use Rattle.std.specs.Prelude.{Option, Some, None, find, is_some, Result, Ok, Err}
use Rattle.std.specs.List.{AllZip}
use Rattle.std.specs.Option.{option_map}
use Rattle.sst_entries.specs.declared.error.Error.{Error}
use Rattle.sst_entries.specs.declared.value_type.ValueType.TheVariants.{Value}
use Rattle.sst_entries.specs.Entry.{Entry, entry}
use Rattle.sst_entries.specs.Stream.{ok_results}
use Rattle.sst_entries.specs.Strict.{IsStrictAfter, is_before, last_of}
use Rattle.sst_entries.proofs.Strictness.{strict_back, strict_front}
use Rattle.sst_blocks.specs.declared.block_type.BlockType.TheVariants.{Index}
use Rattle.sst_blocks.specs.Block.{Loaded, handles_of, load_result}
use Rattle.sst_blocks.specs.Handle.{Handle}
use Rattle.sst_blocks.specs.Handles.{AreStrictHandles, end_of, reaches, window}
use Rattle.sst_blocks.specs.Place.{Place, place_of}
use Rattle.sst_blocks.proofs.Reaching.{reaches_after}
use Rattle.sst_blocks.specs.table.Parts.{joined_parts}
use Rattle.sst_blocks.specs.table.Partitions.{last_end}
use Rattle.lsm_readers.specs.declared.regions.ParsedRegions.{ParsedRegions}
use Rattle.lsm_readers.specs.point.IndexKinds.{PinnedIndex, full, two_level, volatile, handle_by}
use Rattle.lsm_readers.specs.point.IndexKinds.{handle_in_block, handle_in_part, handles_result}
use Rattle.lsm_readers.specs.point.IndexKinds.{index_over}
use Rattle.lsm_readers.specs.point.IndexKinds.{index_result, place_in}
use Rattle.lsm_readers.specs.point.Read.{◌>>=◌}
use Rattle.lsm_readers.specs.Stored.{HasPartitions, IndexHas, NamesPart}
use Rattle.lsm_readers.proofs.ChunkReads.{after}
use Rattle.lsm_readers.proofs.PartReads.{part_here, part_passed}
use Rattle.lsm_readers.proofs.PartWindows.{between_here, parts_window, split}
use Rattle.lsm_readers.proofs.Recovered.{ok_same}

-- ---- what one block answers

found_in : {X : Type 0} (r : Result Loaded Error) (hs : List Handle) (f : List Handle → X)
    → (r >>= λ b. Ok (handles_of b)) ≡ Ok hs → (r >>= λ b. Ok (f (handles_of b))) ≡ Ok (f hs)
found_in (Ok b) hs f returned = let same : handles_of b ≡ hs = cc in
    ap (λ (xs : List Handle). Ok (f xs)) same
found_in (Err e) hs f returned = absurd cc

finds_here : (body : List ℕ) (place : Place) (hs : List Handle) (key : List ℕ) (bound : ℕ)
    → handles_result body place ≡ Ok hs
    → (handle_in_block body key bound place).returned ≡ Ok (place_in hs key bound)
finds_here body place hs key bound returned =
    found_in (load_result body place.offset place.size Index) hs
    (λ (xs : List Handle). place_in xs key bound) returned

-- ---- what the partition answers that a top level names

top_reaches : (body : List ℕ) (top : Handle) (part : List Handle) (key : List ℕ) (bound : ℕ)
    → NamesPart body top part → reaches key bound top ≡ after key bound (last_end part)
top_reaches body top part key bound n =
    let read = entry key [] bound Value in
    reaches_after key bound top
    ∙ ap (λ (k : List ℕ). is_before read (entry k [] top.seqno Value)) n.end_key
    ∙ ap (λ (m : ℕ). is_before read (entry (last_end part).user_key [] m Value)) n.seqno

module _ (body : List ℕ) (key : List ℕ) (bound : ℕ) where
  -- a handle is found through a top level
  abbrev Finds : Option Handle → List Handle → Type 0
  Finds o hs = (handle_in_part body key bound (option_map place_of o)).returned
      ≡ Ok (place_in hs key bound)

  decided : (last : Option Entry) (top x : Handle) (xs rest : List Handle) (o : Option Handle)
      → NamesPart body top (x ∷ xs) → IsStrictAfter last (map end_of (x ∷ xs)) → (b : Bool)
      → reaches key bound top ≡ b → Finds o rest → Finds (cond b (Some top) o) ((x ∷ xs) ++ rest)
  decided last top x xs rest o n strict true late more =
      finds_here body (place_of top) (x ∷ xs) key bound n.handles
      ∙ ap (λ (p : Option Handle). Ok (option_map place_of p))
      (sym (part_here key bound x xs rest
      (sym (top_reaches body top (x ∷ xs) key bound n) ∙ late)))
  decided last top x xs rest o n strict false early more =
      more ∙ ap (λ (p : Option Handle). Ok (option_map place_of p))
      (sym (part_passed key bound last x xs rest strict
      (sym (top_reaches body top (x ∷ xs) key bound n) ∙ early)))

  finds_in_parts : (last : Option Entry) (tops : List Handle) (parts : List (List Handle))
      → AllZip (NamesPart body) tops parts → IsStrictAfter last (map end_of (joined_parts parts))
      → Finds (find (reaches key bound) tops) (joined_parts parts)
  finds_in_parts last [] [] named strict = refl
  finds_in_parts last [] (part ∷ parts) named strict = absurd named
  finds_in_parts last (top ∷ tops) [] named strict = absurd named
  finds_in_parts last (top ∷ tops) ([] ∷ ps) named strict =
      absurd (omega (arith, (named.0).some))
  finds_in_parts last (top ∷ tops) ((x ∷ xs) ∷ ps) named strict =
      let part : List Handle = x ∷ xs in
      let whole = split last part ps strict in
      let rest = map end_of (joined_parts ps) in
      decided last top x xs (joined_parts ps) (find (reaches key bound) tops) named.0
      (strict_front last (map end_of part) rest whole) (reaches key bound top) refl
      (finds_in_parts (last_of last (map end_of part)) tops ps named.1
      (strict_back last (map end_of part) rest whole))

-- ---- the index

-- an index finds the first of some handles that reaches a key, and has their windows
pub record ReportsHandles (body : List ℕ) (tli : Place) (hs : List Handle) (index : PinnedIndex)
    : Type 0 where
  pub finds : (key : List ℕ) (bound : ℕ)
      → (handle_by body index tli key bound).returned ≡ Ok (place_in hs key bound)
  pub windows : (lo : Option (List ℕ × ℕ)) (hi : Option (List ℕ))
      → (index_over body index tli).returned lo hi ≡ ok_results (window hs lo hi)

module _ (body : List ℕ) (tli : Place) (hs : List Handle) (strict : AreStrictHandles hs) where
  full_reports : ReportsHandles body tli hs (full hs)
  full_reports = record { finds = λ key bound. refl; windows = λ lo hi. refl }

  volatile_reports : handles_result body tli ≡ Ok hs → ReportsHandles body tli hs volatile
  volatile_reports returned = record {
    finds = λ key bound. finds_here body tli hs key bound returned;
    windows = λ lo hi. between_here body tli hs lo hi returned;
  }

  parts_report : (p : HasPartitions body tli hs) → ReportsHandles body tli hs (two_level p.tops)
  parts_report p =
      let line : AreStrictHandles (joined_parts p.parts) = subst AreStrictHandles (sym p.whole)
      strict in
      record {
        finds = λ key bound. finds_in_parts body key bound None p.tops p.parts p.named line
            ∙ ap (λ (xs : List Handle). Ok (place_in xs key bound)) p.whole;
        windows = λ lo hi. parts_window body p.tops p.parts p.named line lo hi
            ∙ ap (λ (xs : List Handle). ok_results (window xs lo hi)) p.whole;
      }

  module _ (index : PinnedIndex) where
    kept : (r : Result (List Handle) Error) (made : List Handle → PinnedIndex) (xs : List Handle)
        → r ≡ Ok xs → (r >>= λ ys. Ok (made ys)) ≡ Ok index → made xs ≡ index
    kept r made xs is returned = ok_same (r >>= λ ys. Ok (made ys)) (made xs) index
        (ap (λ (s : Result (List Handle) Error). s >>= λ ys. Ok (made ys)) is) returned

    states : (section : Option Place) (pin : Bool) → IndexHas body section tli hs
        → cond (is_some section) (handles_result body tli >>= λ tops. Ok (two_level tops))
        (cond pin (handles_result body tli >>= λ handles. Ok (full handles)) (Ok volatile))
        ≡ Ok index → ReportsHandles body tli hs index
    states None true has returned = subst (ReportsHandles body tli hs)
        (kept (handles_result body tli) (λ xs. full xs) hs has returned) full_reports
    states None false has returned = let same : volatile ≡ index = cc in
        subst (ReportsHandles body tli hs) same (volatile_reports has)
    states (Some place) pin has returned = subst (ReportsHandles body tli hs)
        (kept (handles_result body tli) (λ xs. two_level xs) has.tops has.returned returned) (parts_report has)

-- whatever stays loaded of an index that has some handles, it tells them
pub index_reports : (body : List ℕ) (regions : ParsedRegions) (pin : Bool) (index : PinnedIndex)
    (hs : List Handle) → AreStrictHandles hs → IndexHas body regions.index regions.tli hs
    → index_result body regions pin ≡ Ok index → ReportsHandles body regions.tli hs index
index_reports body regions pin index hs strict has returned =
    states body regions.tli hs strict index regions.index pin has returned

-- and it loads
pub index_opens : (body : List ℕ) (regions : ParsedRegions) (pin : Bool) (hs : List Handle)
    → IndexHas body regions.index regions.tli hs
    → (index : PinnedIndex) × (index_result body regions pin ≡ Ok index)
index_opens body regions pin hs has = opens regions.index pin has
  where
    goes : (r : Result (List Handle) Error) (made : List Handle → PinnedIndex) (xs : List Handle)
        → r ≡ Ok xs → (r >>= λ ys. Ok (made ys)) ≡ Ok (made xs)
    goes r made xs is = ap (λ (s : Result (List Handle) Error). s >>= λ ys. Ok (made ys)) is

    opens : (section : Option Place) (pin : Bool) → IndexHas body section regions.tli hs
        → (index : PinnedIndex) × (cond (is_some section)
        (handles_result body regions.tli >>= λ tops. Ok (two_level tops))
        (cond pin (handles_result body regions.tli >>= λ handles. Ok (full handles)) (Ok volatile))
        ≡ Ok index)
    opens None true has = (full hs, goes (handles_result body regions.tli) (λ xs. full xs) hs has)
    opens None false has = (volatile, refl)
    opens (Some place) pin has = (
      two_level has.tops,
      goes (handles_result body regions.tli) (λ xs. two_level xs) has.tops has.returned,
    )
