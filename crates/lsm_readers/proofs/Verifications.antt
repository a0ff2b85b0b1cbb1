-- A verification by steps: what is found first in what is left stays the same over a step that
-- reads a block, and one step fewer is left.
use Rattle.std.proofs.Common.{◌≡◌, ℕ, ◌+◌, true, false, List, [], ◌∷◌, length, map, refl, sym, ap}
use Rattle.std.proofs.Common.{subst, ◌∙◌, arith}
use Rattle.std.specs.Prelude.{Option, Some, None, Result, Ok, Err, IfErr, IfNone, IfSome}
use Rattle.std.specs.Result.{IsErrAnd}
use Rattle.std.proofs.lemmas.Result.{err_from_is_err_and}
use Rattle.sst_blocks.specs.declared.section.SectionName.TheVariants as section
use Rattle.sst_blocks.specs.Handle.{Handle}
use Rattle.sst_blocks.specs.Place.{Place, place_of}
use Rattle.lsm_readers.specs.declared.verify.Finding.{Finding}
use Rattle.lsm_readers.specs.declared.verify.VerifyError.{VerifyError}
use Rattle.lsm_readers.specs.point.Parts.{Parts}
use Rattle.lsm_readers.specs.Verify.{◌>>=◌, Misses, Unread, all_found, block_found, blocks_found}
use Rattle.lsm_readers.specs.Verify.{end_found, filter_found, filter_places, filters_by}
use Rattle.lsm_readers.specs.Verify.{handles_found, index_found, part_found}
use Rattle.lsm_readers.specs.Verify.{parts_found, table_found, top_named, tops_found, unread_of}
use Rattle.lsm_readers.specs.Verify.{named_found, passed, verified_of}
use Rattle.lsm_readers.specs.Verification.{GoesOne, IsThrough, before_index, count_told}
use Rattle.lsm_readers.specs.Verification.{ended_found, in_index, index_ahead, named_steps}
use Rattle.lsm_readers.specs.Verification.{next_found, partition_found, parts_steps}
use Rattle.lsm_readers.specs.Verification.{places_found, places_in, rest_found, steps_left}
use Rattle.lsm_readers.proofs.VerifyBlocks.{size_less}
use Rattle.lsm_readers.proofs.VerifySteps.{answer, then_ok, reported_is}

-- ---- options

pub at_none : {X : Type 0} (P : Type 0) (o : Option X) → IfNone o P → o ≡ None → P
at_none P None p is = p
at_none P (Some x) p is = absurd cc

pub at_some : {X : Type 0} (P : X → Type 0) (o : Option X) (x : X) → IfSome o P → o ≡ Some x → P x
at_some P None x p is = absurd cc
at_some P (Some y) x p is = let same : y ≡ x = cc in subst P same p

-- ---- refusals

-- a call that passed a refusal on
pub refuses : {X Y : Type 0} (r : Result X VerifyError) (e : VerifyError) (returned : Result Y Finding)
    → IsErrAnd r (λ y. y ≡ e) → Misses e returned → IfErr r (λ y. Misses y returned)
refuses r e returned is misses = let p = err_from_is_err_and r is in rw (p.1, p.2) misses

-- what is missed of a value is missed where nothing is kept of it
pub misses_passed : {X : Type 0} (e : VerifyError) (returned : Result X Finding) → Misses e returned
    → Misses e (passed returned)
misses_passed e returned misses = λ f found. ap passed (misses f found)

-- what the first of some data blocks is refused for is what is found next
pub next_block : (body : List ℕ) (parts : Parts) (left : Unread) (hs tops : List Handle)
    (e : VerifyError) → (hs ≡ [] → false ≡ true)
    → ((h : Handle) (rest : List Handle) → hs ≡ h ∷ rest
    → Misses e (block_found body parts left h))
    → Misses e (next_found body parts (in_index hs tops) left)
next_block body parts left [] tops e some first =
    absurd (let no : false ≡ true = some refl in cc)
next_block body parts left (h ∷ hs) tops e some first =
    misses_passed e (block_found body parts left h) (first h hs refl)

-- and so is what the first of some partitions is refused for
pub next_part : (body : List ℕ) (parts : Parts) (left : Unread) (tops : List Handle)
    (e : VerifyError) → (tops ≡ [] → false ≡ true)
    → ((top : Handle) (rest : List Handle) → tops ≡ top ∷ rest
    → Misses e (partition_found body top))
    → Misses e (next_found body parts (in_index [] tops) left)
next_part body parts left [] e some first =
    absurd (let no : false ≡ true = some refl in cc)
next_part body parts left (top ∷ tops) e some first =
    misses_passed e (partition_found body top) (first top tops refl)

pub refuses_with : {X : Type 0} (P : VerifyError → Type 0) (r : Result X VerifyError)
    (e : VerifyError) → IsErrAnd r (λ y. y ≡ e) → P e → IfErr r P
refuses_with P r e is holds = let p = err_from_is_err_and r is in rw (p.1, p.2) holds

-- ---- steps in a row

-- a step that finds what it is given
same_then : {A : Type 0} (r : Result A Finding) (f : A → Result A Finding)
    → ((x : A) → f x ≡ Ok x) → (r >>= f) ≡ r
same_then (Ok x) f same = same x
same_then (Err e) f same = refl

-- three steps in a row, however they are bracketed
regroup : {A B C : Type 0} (r : Result A Finding) (f : A → Result B Finding)
    (g : B → Result C Finding) → ((r >>= f) >>= g) ≡ (r >>= λ x. f x >>= g)
regroup (Ok x) f g = refl
regroup (Err e) f g = refl

-- a test that found nothing says nothing else
nothing_else : (u : Unit {0}) → u ≡ tt
nothing_else tt = refl

unit_then : (r : Result (Unit {0}) Finding) → (r >>= λ _. Ok tt) ≡ r
unit_then (Ok tt) = refl
unit_then (Err e) = refl

module _ (body : List ℕ) (parts : Parts) where
  -- ---- the start

  tops_places : (tops : List Handle)
      → places_found body (map place_of tops) ≡ tops_found body tops
  unfolding places_found tops_found
  tops_places [] = refl
  tops_places (top ∷ tops) =
      ap (λ (r : Result (Unit {0}) Finding). filter_found body (place_of top) >>= λ _. r)
      (tops_places tops)

  filters_places : (tops : Option (List Handle)) (place : Option Place)
      → places_found body (filter_places tops place) ≡ filters_by body tops place
  unfolding places_found
  filters_places (Some tops) place = tops_places tops
  filters_places None (Some place) = unit_then (filter_found body place)
  filters_places None None = refl

  -- what is left at the start is the whole
  pub at_start : rest_found body parts (before_index (places_in parts)) (unread_of parts.facts)
      ≡ table_found body parts
  unfolding rest_found table_found all_found
  at_start =
      ap (λ (r : Result (Unit {0}) Finding). r >>= λ _.
      ended_found body parts (index_found body parts (unread_of parts.facts)))
      (filters_places parts.pinned.filter_tops parts.regions.filter)

  -- ---- a block of the filter

  pub filter_goes : (place : Place) (places : List Place) (left : Unread) (u : Unit {0})
      → filter_found body place ≡ Ok u
      → GoesOne body parts (before_index (place ∷ places)) left (before_index places) left
  unfolding rest_found places_found steps_left
  filter_goes place places left u is = record {
    rest = sym (ap (λ (r : Result (Unit {0}) Finding). (r >>= λ _. places_found body places)
        >>= λ _. ended_found body parts (index_found body parts left)) is);
    steps = omega arith;
    reads = (is ∙ ap (λ (v : Unit {0}). answer v) (nothing_else u), refl, refl);
    sizes = omega arith;
  }

  pub filter_misses : (place : Place) (places : List Place) (left : Unread) (e : VerifyError)
      → Misses e (filter_found body place)
      → Misses e (rest_found body parts (before_index (place ∷ places)) left)
  unfolding rest_found places_found
  filter_misses place places left e misses = λ f found.
      ap (λ (r : Result (Unit {0}) Finding). (r >>= λ _. places_found body places)
      >>= λ _. ended_found body parts (index_found body parts left)) (misses f found)

  -- ---- the block of the index, or its top level

  abbrev opened : Option Place → List Handle → List Handle × List Handle
  opened None hs = (hs, [])
  opened (Some section) hs = ([], hs)

  ahead_named : (index : Option Place) (hs : List Handle) (left : Unread)
      → (blocks_found body parts left (opened index hs).0
      >>= λ left. parts_found body parts left (opened index hs).1)
      ≡ named_found body parts left index hs
  unfolding blocks_found parts_found
  ahead_named None hs left = same_then (blocks_found body parts left hs)
      (λ (left : Unread). parts_found body parts left []) (λ x. refl)
  ahead_named (Some section) hs left = refl

  named_count : (index : Option Place) (hs : List Handle)
      → named_steps body index (Ok hs)
      ≡ length (opened index hs).0 + parts_steps body (opened index hs).1
  named_count None hs = omega arith
  named_count (Some section) hs = omega arith

  opened_ahead : (index : Option Place) (hs : List Handle)
      → in_index (opened index hs).0 (opened index hs).1 ≡ index_ahead index hs
  opened_ahead None hs = refl
  opened_ahead (Some section) hs = refl

  index_goes_by : (index : Option Place) → parts.regions.index ≡ index → (hs : List Handle)
      (left : Unread) → handles_found body section.Tli parts.regions.tli ≡ Ok hs
      → GoesOne body parts (before_index []) left
      (in_index (opened index hs).0 (opened index hs).1) left
  unfolding rest_found places_found index_found steps_left
  index_goes_by index kind hs left is = record {
    rest = ap (ended_found body parts) (ahead_named index hs left
        ∙ ap (λ (k : Option Place). named_found body parts left k hs) (sym kind)
        ∙ sym (ap (λ (r : Result (List Handle) Finding). r >>= λ hs.
        named_found body parts left parts.regions.index hs) is));
    steps =
        let returned = ap (named_steps body parts.regions.index) is
        ∙ ap (λ (k : Option Place). named_steps body k (Ok hs)) kind
        ∙ named_count index hs in
        omega (arith, returned);
    reads = (
      hs,
      is,
      opened_ahead index hs ∙ ap (λ (k : Option Place). index_ahead k hs) (sym kind),
      refl,
    );
    sizes = omega arith;
  }

  pub full_goes : parts.regions.index ≡ None → (hs : List Handle) (left : Unread)
      → handles_found body section.Tli parts.regions.tli ≡ Ok hs
      → GoesOne body parts (before_index []) left (in_index hs []) left
  full_goes = index_goes_by None

  pub tops_goes : (place : Place) → parts.regions.index ≡ Some place → (hs : List Handle)
      (left : Unread) → handles_found body section.Tli parts.regions.tli ≡ Ok hs
      → GoesOne body parts (before_index []) left (in_index [] hs) left
  tops_goes place = index_goes_by (Some place)

  pub index_misses : (left : Unread) (e : VerifyError)
      → Misses e (handles_found body section.Tli parts.regions.tli)
      → Misses e (rest_found body parts (before_index []) left)
  unfolding rest_found places_found index_found
  index_misses left e misses = λ f found.
      ap (λ (r : Result (List Handle) Finding). ended_found body parts
      (r >>= λ hs. named_found body parts left parts.regions.index hs)) (misses f found)

  -- ---- a data block

  pub block_goes : (h : Handle) (hs tops : List Handle) (left next : Unread)
      → block_found body parts left h ≡ Ok next
      → GoesOne body parts (in_index (h ∷ hs) tops) left (in_index hs tops) next
  unfolding rest_found blocks_found steps_left
  block_goes h hs tops left next is = record {
    rest = sym (ap (λ (r : Result Unread Finding). ended_found body parts
        ((r >>= λ left. blocks_found body parts left hs)
        >>= λ left. parts_found body parts left tops)) is);
    steps = omega arith;
    reads = (is, refl);
    sizes = size_less body parts left h next is;
  }

  pub block_misses : (hs tops : List Handle) (left : Unread) (e : VerifyError)
      → Misses e (blocks_found body parts left hs)
      → Misses e (rest_found body parts (in_index hs tops) left)
  unfolding rest_found
  block_misses hs tops left e misses = λ f found.
      ap (λ (r : Result Unread Finding). ended_found body parts
      (r >>= λ left. parts_found body parts left tops)) (misses f found)

  pub first_misses : (h : Handle) (hs : List Handle) (left : Unread) (e : VerifyError)
      → Misses e (block_found body parts left h)
      → Misses e (blocks_found body parts left (h ∷ hs))
  unfolding blocks_found
  first_misses h hs left e misses = λ f found.
      ap (λ (r : Result Unread Finding). r >>= λ left. blocks_found body parts left hs)
      (misses f found)

  -- ---- a partition of the index

  part_by : (r : Result (List Handle) Finding) (top : Handle) (left : Unread)
      → (r >>= λ hs. top_named top hs >>= λ _. blocks_found body parts left hs)
      ≡ ((r >>= λ hs. top_named top hs >>= λ _. Ok hs) >>= λ hs. blocks_found body parts left hs)
  part_by (Ok hs) top left = sym (regroup (top_named top hs) (λ _. Ok hs)
      (λ (hs : List Handle). blocks_found body parts left hs))
  part_by (Err f) top left = refl

  part_is : (top : Handle) (left : Unread) → part_found body parts left top
      ≡ (partition_found body top >>= λ hs. blocks_found body parts left hs)
  unfolding part_found partition_found
  part_is top left = part_by (handles_found body section.Index (place_of top)) top left

  handles_of_result : (top : Handle) (hs : List Handle) → partition_found body top ≡ Ok hs
      → handles_found body section.Index (place_of top) ≡ Ok hs
  unfolding partition_found
  handles_of_result top hs is =
      let one = then_ok (handles_found body section.Index (place_of top))
      (λ (xs : List Handle). top_named top xs >>= λ _. answer xs) hs is in
      let two = then_ok (top_named top one.0) (λ _. answer one.0) hs one.2 in
      let same : one.0 ≡ hs = reported_is one.0 hs two.2 in
      one.1 ∙ ap (λ (xs : List Handle). answer xs) same

  pub part_goes : (top : Handle) (tops hs : List Handle) (left : Unread)
      → partition_found body top ≡ Ok hs
      → GoesOne body parts (in_index [] (top ∷ tops)) left (in_index hs tops) left
  unfolding rest_found blocks_found parts_found steps_left
  part_goes top tops hs left is = record {
    rest = sym (ap (λ (r : Result Unread Finding). ended_found body parts
        (r >>= λ left. parts_found body parts left tops)) (part_is top left
        ∙ ap (λ (r : Result (List Handle) Finding). r >>= λ hs. blocks_found body parts left hs)
        is));
    steps =
        let returned = ap count_told (handles_of_result top hs is) in
        omega (arith, returned);
    reads = (hs, is, refl, refl);
    sizes = omega arith;
  }

  pub part_misses : (top : Handle) (tops : List Handle) (left : Unread) (e : VerifyError)
      → Misses e (partition_found body top)
      → Misses e (rest_found body parts (in_index [] (top ∷ tops)) left)
  unfolding rest_found blocks_found parts_found
  part_misses top tops left e misses = λ f found.
      ap (λ (r : Result Unread Finding). ended_found body parts
      (r >>= λ left. parts_found body parts left tops)) (part_is top left
      ∙ ap (λ (r : Result (List Handle) Finding). r >>= λ hs. blocks_found body parts left hs)
      (misses f found))

  pub next_misses : (tops : List Handle) (left : Unread) (e : VerifyError)
      → (tops ≡ [] → false ≡ true)
      → ((top : Handle) (rest : List Handle) → tops ≡ top ∷ rest
      → Misses e (partition_found body top))
      → Misses e (rest_found body parts (in_index [] tops) left)
  next_misses [] left e none some = absurd (let no : false ≡ true = none refl in cc)
  next_misses (top ∷ tops) left e none some = part_misses top tops left e (some top tops refl)

  -- ---- the end

  pub ends_here : (left : Unread) (u : Unit {0}) → end_found body parts left ≡ Ok u
      → IsThrough body parts (in_index [] []) left
  unfolding rest_found blocks_found parts_found steps_left
  ends_here left u is = record {
    rest = ap (λ (r : Result (Unit {0}) Finding). r >>= λ _. Ok (verified_of parts.facts)) is;
    steps = refl;
  }

  pub end_misses : (left : Unread) (e : VerifyError) → Misses e (end_found body parts left)
      → Misses e (rest_found body parts (in_index [] []) left)
  unfolding rest_found blocks_found parts_found
  end_misses left e misses = λ f found.
      ap (λ (r : Result (Unit {0}) Finding). r >>= λ _. Ok (verified_of parts.facts))
      (misses f found)
