-- What comes first of sorted lists that are put together, errors among them.
use Rattle.std.proofs.Common.{◌≡◌, refl, sym, ◌∙◌, ap, ℕ, zero, suc, ◌<◌, Bool, true, false, cond}
use Rattle.std.proofs.Common.{List, [], ◌∷◌, ◌++◌, length, arith, map, slice_index_or, slice_set}
use Rattle.std.specs.Prelude.{Option, Some, None, Ok, Err}
use Rattle.std.specs.List.{AllByRecursion}
use Rattle.sst_entries.specs.Entry.{Entry}
use Rattle.sst_entries.specs.declared.error.Error.{Error}
use Rattle.sst_entries.proofs.Lists.{all_append}
use Rattle.lsm_sorted.specs.merge.Ends.{R}
use Rattle.lsm_sorted.specs.merge.InPlace.{Placed, places_of, is_after, put_in_place, sort_places}
use Rattle.lsm_sorted.specs.merge.InPlace.{all_placed, up_to_error, merge_of}
use Rattle.lsm_sorted.specs.merge.Union.{AtMost, entries_among}
use Rattle.lsm_sorted.proofs.MergedLemmas.{Above}

-- ---- sorted places

-- q is not before p, or it is behind it
abbrev pub NotBefore : Option Entry → Placed → Type 0
NotBefore at q = is_after at q.at ≡ false

abbrev pub Behind : Option Entry → Placed → Type 0
Behind at q = is_after q.at at ≡ true

all_put : (P : Placed → Type 0) (p : Placed) (qs : List Placed) → P p → AllByRecursion P qs
    → AllByRecursion P (put_in_place p qs)
all_put P p [] one all = (one, tt)
all_put P p (q ∷ qs) one all = elim (is_after p.at q.at) as
    (λ b. AllByRecursion P (cond b (q ∷ put_in_place p qs) (p ∷ q ∷ qs)))
    [ true ↦ (all.0, all_put P p qs one all.1) | false ↦ (one, all) ]

-- the places ps put among qs, the last first
abbrev among : List Placed → List Placed → List Placed
among [] qs = qs
among (p ∷ ps) qs = put_in_place p (among ps qs)

sorted_among : (ps qs : List Placed) → sort_places (ps ++ qs) ≡ among ps (sort_places qs)
sorted_among [] qs = refl
sorted_among (p ∷ ps) qs = ap (put_in_place p) (sorted_among ps qs)

all_among : (P : Placed → Type 0) (ps qs : List Placed) → AllByRecursion P ps → AllByRecursion P qs
    → AllByRecursion P (among ps qs)
all_among P [] qs h k = k
all_among P (p ∷ ps) qs h k = all_put P p (among ps qs) h.0 (all_among P ps qs h.1 k)

put_first : (p : Placed) (qs : List Placed) → AllByRecursion (NotBefore p.at) qs
    → put_in_place p qs ≡ p ∷ qs
put_first p [] h = refl
put_first p (q ∷ qs) h = ap (λ (b : Bool). cond b (q ∷ put_in_place p qs) (p ∷ q ∷ qs)) h.0

first_stays : (p : Placed) (ps qs : List Placed) → AllByRecursion (Behind p.at) ps
    → among ps (p ∷ qs) ≡ p ∷ among ps qs
first_stays p [] qs h = refl
first_stays p (q ∷ ps) qs h = ap (put_in_place q) (first_stays p ps qs h.1)
    ∙ ap (λ (b : Bool). cond b (p ∷ put_in_place q (among ps qs)) (q ∷ p ∷ among ps qs)) h.0

-- ---- the first of several lists

-- what all lists have, where that of list k is another
abbrev others : List (List R) → ℕ → List Placed → List Placed
others [] k ps = ps
others (l ∷ lists) zero ps = ps ++ all_placed lists
others (l ∷ lists) (suc k) ps = places_of None l ++ others lists k ps

all_placed_all : (P : Placed → Type 0) (lists : List (List R))
    → ((j : ℕ) → j < length lists → AllByRecursion P (places_of None (slice_index_or lists j [])))
    → AllByRecursion P (all_placed lists)
all_placed_all P [] h = tt
all_placed_all P (rs ∷ lists) h = all_append P (places_of None rs) (all_placed lists)
    (h zero (omega arith)) (all_placed_all P lists (λ j lt. h (suc j) (omega arith)))

all_sorted_places : (P : Placed → Type 0) (ps : List Placed) → AllByRecursion P ps
    → AllByRecursion P (sort_places ps)
all_sorted_places P [] h = tt
all_sorted_places P (p ∷ ps) h = all_put P p (sort_places ps) h.0 (all_sorted_places P ps h.1)

-- p is the first of list k, comes after no other of it and of later lists, and before each of an
-- earlier one
first_of_others : (lists : List (List R)) (k : ℕ) (p : Placed) (ps : List Placed) → k < length lists
    → ((j : ℕ) → j < k → AllByRecursion (Behind p.at) (places_of None (slice_index_or lists j [])))
    → ((j : ℕ) → k < j → j < length lists → AllByRecursion (NotBefore p.at)
    (places_of None (slice_index_or lists j [])))
    → AllByRecursion (NotBefore p.at) ps
    → sort_places (others lists k (p ∷ ps)) ≡ p ∷ sort_places (others lists k ps)
first_of_others [] k p ps within before after least = absurd (omega arith)
first_of_others (l ∷ lists) zero p ps within before after least =
    put_first p (sort_places (ps ++ all_placed lists))
    (all_sorted_places (NotBefore p.at) (ps ++ all_placed lists)
    (all_append (NotBefore p.at) ps (all_placed lists) least
    (all_placed_all (NotBefore p.at) lists (λ j lt. after (suc j) (omega arith) (omega arith)))))
first_of_others (l ∷ lists) (suc k) p ps within before after least =
    sorted_among (places_of None l) (others lists k (p ∷ ps))
    ∙ ap (among (places_of None l)) (first_of_others lists k p ps (omega arith)
    (λ j lt. before (suc j) (omega arith)) (λ j gt lt. after (suc j) (omega arith) (omega arith))
    least)
    ∙ first_stays p (places_of None l) (sort_places (others lists k ps)) (before zero (omega arith))
    ∙ sym (ap (λ (qs : List Placed). p ∷ qs) (sorted_among (places_of None l) (others lists k ps)))

others_same : (lists : List (List R)) (k : ℕ) → k < length lists
    → others lists k (places_of None (slice_index_or lists k [])) ≡ all_placed lists
others_same [] k lt = absurd (omega arith)
others_same (l ∷ lists) zero lt = refl
others_same (l ∷ lists) (suc k) lt =
    ap (λ (qs : List Placed). places_of None l ++ qs) (others_same lists k (omega arith))

others_set : (lists : List (List R)) (k : ℕ) (rs : List R) → k < length lists
    → others lists k (places_of None rs) ≡ all_placed (slice_set lists k rs)
others_set [] k rs lt = absurd (omega arith)
others_set (l ∷ lists) zero rs lt = refl
others_set (l ∷ lists) (suc k) rs lt =
    ap (λ (qs : List Placed). places_of None l ++ qs) (others_set lists k rs (omega arith))

-- up to the first error of these
abbrev returned : List Placed → List R
returned ps = up_to_error (map (λ (p : Placed). p.is) (sort_places ps))

-- ---- lists with no error at their head

-- no error is the first
abbrev pub HasNoFault : List R → Type 0
HasNoFault [] = Unit {0}
HasNoFault (Ok x ∷ rs) = Unit {0}
HasNoFault (Err e ∷ rs) = ⊥

all_behind_none : (x : Entry) (rs : List R) → AllByRecursion (Behind None) (places_of (Some x) rs)
all_behind_none x [] = tt
all_behind_none x (Ok y ∷ rs) = (refl, all_behind_none y rs)
all_behind_none x (Err e ∷ rs) = (refl, all_behind_none x rs)

fault_free : (rs : List R) → HasNoFault rs → AllByRecursion (Behind None) (places_of None rs)
fault_free [] h = tt
fault_free (Ok x ∷ rs) h = (refl, all_behind_none x rs)
fault_free (Err e ∷ rs) h = absurd h

none_before : (ps : List Placed) → AllByRecursion (NotBefore None) ps
none_before [] = tt
none_before (p ∷ ps) = (refl, none_before ps)

reported_fault : (lists : List (List R)) (k : ℕ) (at : Option Entry) (e : Error) (ps : List Placed)
    → k < length lists
    → ((j : ℕ) → j < k → AllByRecursion (Behind at) (places_of None (slice_index_or lists j [])))
    → ((j : ℕ) → k < j → j < length lists → AllByRecursion (NotBefore at)
    (places_of None (slice_index_or lists j [])))
    → AllByRecursion (NotBefore at) ps
    → returned (others lists k (record { at = at; is = Err e } ∷ ps)) ≡ Err e ∷ []
reported_fault lists k at e ps lt before after least =
    ap (λ (qs : List Placed). up_to_error (map (λ (p : Placed). p.is) qs))
    (first_of_others lists k (record { at = at; is = Err e }) ps lt before after least)

-- an error at the head of a list is the first, where no earlier list has one
pub merge_fault : (lists : List (List R)) (k : ℕ) (e : Error) (rs : List R) → k < length lists
    → slice_index_or lists k [] ≡ Err e ∷ rs
    → ((j : ℕ) → j < k → HasNoFault (slice_index_or lists j [])) → merge_of lists ≡ Err e ∷ []
merge_fault lists k e rs lt is free =
    ap returned (sym (others_same lists k lt)
    ∙ ap (λ (l : List R). others lists k (places_of None l)) is)
    ∙ reported_fault lists k None e (places_of None rs) lt
    (λ j below. fault_free (slice_index_or lists j []) (free j below))
    (λ j above within. none_before (places_of None (slice_index_or lists j [])))
    (none_before (places_of None rs))

-- ---- an entry at the head

-- after x in a list that ascends
all_not_before : (x y : Entry) (rs : List R) → AtMost x y
    → AllByRecursion (AtMost x) (entries_among rs)
    → AllByRecursion (NotBefore (Some x)) (places_of (Some y) rs)
all_not_before x y [] one h = tt
all_not_before x y (Ok z ∷ rs) one h = (h.0, all_not_before x z rs h.0 h.1)
all_not_before x y (Err e ∷ rs) one h = (one, all_not_before x y rs one h)

all_after : (x y : Entry) (rs : List R) → Above y x
    → AllByRecursion (λ z. Above z x) (entries_among rs)
    → AllByRecursion (Behind (Some x)) (places_of (Some y) rs)
all_after x y [] one h = tt
all_after x y (Ok z ∷ rs) one h = (h.0, all_after x z rs h.0 h.1)
all_after x y (Err e ∷ rs) one h = (one, all_after x y rs one h)

head_not_before : (x : Entry) (rs : List R) → HasNoFault rs
    → AllByRecursion (AtMost x) (entries_among rs)
    → AllByRecursion (NotBefore (Some x)) (places_of None rs)
head_not_before x [] free h = tt
head_not_before x (Ok y ∷ rs) free h = (h.0, all_not_before x y rs h.0 h.1)
head_not_before x (Err e ∷ rs) free h = absurd free

head_after : (x : Entry) (rs : List R) → HasNoFault rs
    → AllByRecursion (λ z. Above z x) (entries_among rs)
    → AllByRecursion (Behind (Some x)) (places_of None rs)
head_after x [] free h = tt
head_after x (Ok y ∷ rs) free h = (h.0, all_after x y rs h.0 h.1)
head_after x (Err e ∷ rs) free h = absurd free

-- what stands behind x goes on as if nothing had stood before it
goes_on : (lists : List (List R)) (k : ℕ) (x : Entry) (rs : List R) → k < length lists → AtMost x x
    → ((j : ℕ) → j < k → AllByRecursion (Behind (Some x))
    (places_of None (slice_index_or lists j [])))
    → ((j : ℕ) → k < j → j < length lists → AllByRecursion (NotBefore (Some x))
    (places_of None (slice_index_or lists j [])))
    → ((j : ℕ) → j < k → HasNoFault (slice_index_or lists j []))
    → AllByRecursion (AtMost x) (entries_among rs)
    → returned (others lists k (places_of (Some x) rs)) ≡ returned (others lists k (places_of None rs))
goes_on lists k x [] lt own before after free least = refl
goes_on lists k x (Ok y ∷ rs) lt own before after free least = refl
goes_on lists k x (Err e ∷ rs) lt own before after free least =
    reported_fault lists k (Some x) e (places_of (Some x) rs) lt before after
    (all_not_before x x rs own least)
    ∙ sym (reported_fault lists k None e (places_of None rs) lt
    (λ j below. fault_free (slice_index_or lists j []) (free j below))
    (λ j above within. none_before (places_of None (slice_index_or lists j [])))
    (none_before (places_of None rs)))

-- x is the head of list k, above no entry of a later list, and below each entry of an earlier one;
-- no list has an error at its head
pub merge_entry : (lists : List (List R)) (k : ℕ) (x : Entry) (rs : List R) → k < length lists
    → slice_index_or lists k [] ≡ Ok x ∷ rs → AtMost x x
    → ((j : ℕ) → j < length lists → HasNoFault (slice_index_or lists j []))
    → ((j : ℕ) → j < k → AllByRecursion (λ y. Above y x)
    (entries_among (slice_index_or lists j [])))
    → ((j : ℕ) → k < j → j < length lists → AllByRecursion (AtMost x)
    (entries_among (slice_index_or lists j [])))
    → AllByRecursion (AtMost x) (entries_among rs)
    → merge_of lists ≡ Ok x ∷ merge_of (slice_set lists k rs)
merge_entry lists k x rs lt is own free before after least =
    let early : (j : ℕ) → j < k → AllByRecursion (Behind (Some x))
    (places_of None (slice_index_or lists j [])) = λ j below.
    head_after x (slice_index_or lists j []) (free j (omega arith)) (before j below) in
    let late : (j : ℕ) → k < j → j < length lists → AllByRecursion (NotBefore (Some x))
    (places_of None (slice_index_or lists j [])) = λ j above within.
    head_not_before x (slice_index_or lists j []) (free j within) (after j above within) in
    ap returned (sym (others_same lists k lt)
    ∙ ap (λ (l : List R). others lists k (places_of None l)) is)
    ∙ ap (λ (qs : List Placed). up_to_error (map (λ (p : Placed). p.is) qs))
    (first_of_others lists k (record { at = Some x; is = Ok x }) (places_of (Some x) rs) lt early
    late (all_not_before x x rs own least))
    ∙ ap (λ (qs : List R). Ok x ∷ qs) (goes_on lists k x rs lt own early late
    (λ j below. free j (omega arith)) least
    ∙ ap returned (others_set lists k rs lt))

-- nothing is left of empty lists
pub merge_nothing : (lists : List (List R))
    → ((j : ℕ) → j < length lists → slice_index_or lists j [] ≡ []) → merge_of lists ≡ []
merge_nothing lists none = ap returned (nothing lists none)
  where
    nothing : (lists : List (List R))
        → ((j : ℕ) → j < length lists → slice_index_or lists j [] ≡ []) → all_placed lists ≡ []
    nothing [] none = refl
    nothing (rs ∷ lists) none = ap (λ (l : List R). places_of None l ++ all_placed lists)
        (none zero (omega arith)) ∙ nothing lists (λ j lt. none (suc j) (omega arith))
