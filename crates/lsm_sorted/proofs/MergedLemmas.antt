-- The least and the greatest of merged lists.
use Rattle.std.proofs.Common.{◌≡◌, refl, sym, ◌∙◌, ap, ℕ, zero, suc, ◌<◌, Bool, true, false, cond}
use Rattle.std.proofs.Common.{List, [], ◌∷◌, ◌++◌, length, arith, rules, slice_index_or, slice_set}
use Rattle.std.specs.List.{AllByRecursion}
use Rattle.std.specs.Cmp.{IsTotalOrder, on_total}
use Rattle.std.specs.Cmp.Rules.{comparing}
use Rattle.std.specs.Ordering.{is_gt, ordering_reverse}
use Rattle.std.specs.declared.cmp.Ordering.{Ordering}
use Rattle.std.specs.declared.cmp.Ordering.TheVariants.{Less, Equal, Greater}
use Rattle.std.proofs.lemmas.Cmp.{upto}
use Rattle.sst_entries.specs.Entry.{Entry}
use Rattle.sst_entries.specs.Key.{key_cmp}
use Rattle.sst_entries.proofs.Lists.{all_append}
use Rattle.lsm_sorted.specs.merge.Ends.{R}
use Rattle.lsm_sorted.specs.merge.Union.{internal_key_of, item_cmp, AtMost, entries_among}
use Rattle.lsm_sorted.specs.merge.Union.{all_entries}
use Rattle.lsm_sorted.specs.merge.Union.{insert_sorted, sort_entries, union_of}

key_total : IsTotalOrder (key_cmp {A = Unit {0}})
key_total = search (comparing, rules) depth 9

pub item_total : IsTotalOrder item_cmp
item_total = on_total internal_key_of key_total

-- x is above y
abbrev pub Above : Entry → Entry → Type 0
Above x y = is_gt (item_cmp x y) ≡ true

pub at_most_chain : (x y z : Entry) → AtMost x y → AtMost y z → AtMost x z
at_most_chain = upto item_total

other_way : (o : Ordering) → is_gt o ≡ true → is_gt (ordering_reverse o) ≡ false
other_way Less h = absurd cc
other_way Equal h = absurd cc
other_way Greater h = refl

pub above_at_most : (x y : Entry) → Above x y → AtMost y x
above_at_most x y h = ap is_gt (item_total.antisymm y x) ∙ other_way (item_cmp x y) h

-- ---- sorted lists

pub all_inserted : (P : Entry → Type 0) (x : Entry) (ys : List Entry) → P x → AllByRecursion P ys
    → AllByRecursion P (insert_sorted x ys)
all_inserted P x [] p h = (p, tt)
all_inserted P x (y ∷ ys) p h = elim (is_gt (item_cmp x y)) as
    (λ b. AllByRecursion P (cond b (y ∷ insert_sorted x ys) (x ∷ y ∷ ys)))
    [ true ↦ (h.0, all_inserted P x ys p h.1) | false ↦ (p, h) ]

pub all_in_order : (P : Entry → Type 0) (xs : List Entry) → AllByRecursion P xs
    → AllByRecursion P (sort_entries xs)
all_in_order P [] h = tt
all_in_order P (x ∷ xs) h = all_inserted P x (sort_entries xs) h.0 (all_in_order P xs h.1)

-- what all entries have, they have once they are sorted into others that have it
pub all_sorted_in : (P : Entry → Type 0) (es all : List Entry) → AllByRecursion P es
    → AllByRecursion P (sort_entries all) → AllByRecursion P (sort_entries (es ++ all))
all_sorted_in P [] all h k = k
all_sorted_in P (e ∷ es) all h k = all_inserted P e (sort_entries (es ++ all)) h.0
    (all_sorted_in P es all h.1 k)

all_entries_all : (P : Entry → Type 0) (lists : List (List R))
    → ((j : ℕ) → j < length lists → AllByRecursion P (entries_among (slice_index_or lists j [])))
    → AllByRecursion P (all_entries lists)
all_entries_all P [] h = tt
all_entries_all P (rs ∷ lists) h = all_append P (entries_among rs) (all_entries lists)
    (h zero (omega arith)) (all_entries_all P lists (λ j lt. h (suc j) (omega arith)))

-- the entries xs inserted into zs, the last first
abbrev onto : List Entry → List Entry → List Entry
onto [] zs = zs
onto (x ∷ xs) zs = insert_sorted x (onto xs zs)

onto_append : (xs ys zs : List Entry) → onto (xs ++ ys) zs ≡ onto xs (onto ys zs)
onto_append [] ys zs = refl
onto_append (x ∷ xs) ys zs = ap (insert_sorted x) (onto_append xs ys zs)

in_order_onto : (xs ys : List Entry) → sort_entries (xs ++ ys) ≡ onto xs (sort_entries ys)
in_order_onto [] ys = refl
in_order_onto (x ∷ xs) ys = ap (insert_sorted x) (in_order_onto xs ys)

all_onto : (P : Entry → Type 0) (xs zs : List Entry) → AllByRecursion P xs → AllByRecursion P zs
    → AllByRecursion P (onto xs zs)
all_onto P [] zs h k = k
all_onto P (x ∷ xs) zs h k = all_inserted P x (onto xs zs) h.0 (all_onto P xs zs h.1 k)

-- ---- the least

pub insert_least : (x : Entry) (zs : List Entry) → AllByRecursion (AtMost x) zs
    → insert_sorted x zs ≡ x ∷ zs
insert_least x [] h = refl
insert_least x (z ∷ zs) h = ap (λ (b : Bool). cond b (z ∷ insert_sorted x zs) (x ∷ z ∷ zs)) h.0

onto_least : (x : Entry) (ys zs : List Entry) → AllByRecursion (λ y. Above y x) ys
    → onto ys (x ∷ zs) ≡ x ∷ onto ys zs
onto_least x [] zs h = refl
onto_least x (y ∷ ys) zs h = ap (insert_sorted y) (onto_least x ys zs h.1)
    ∙ ap (λ (b : Bool). cond b (x ∷ insert_sorted y (onto ys zs)) (y ∷ x ∷ onto ys zs)) h.0

-- x is the first of list k, above no entry of a later list, and below each entry of an earlier one
pub merged_least : (lists : List (List R)) (k : ℕ) (x : Entry) (rs : List R) → k < length lists
    → entries_among (slice_index_or lists k []) ≡ x ∷ entries_among rs
    → ((j : ℕ) → j < k → AllByRecursion (λ y. Above y x)
    (entries_among (slice_index_or lists j [])))
    → ((j : ℕ) → k < j → j < length lists → AllByRecursion (AtMost x)
    (entries_among (slice_index_or lists j [])))
    → AllByRecursion (AtMost x) (entries_among rs)
    → union_of lists ≡ x ∷ union_of (slice_set lists k rs)
merged_least [] k x rs within whole before after least = absurd (omega arith)
merged_least (l ∷ lists) zero x rs within whole before after least =
    let over : AllByRecursion (AtMost x) (union_of lists) =
    all_in_order (AtMost x) (all_entries lists)
    (all_entries_all (AtMost x) lists (λ j lt. after (suc j) (omega arith) (omega arith))) in
    in_order_onto (entries_among l) (all_entries lists)
    ∙ ap (λ (xs : List Entry). onto xs (union_of lists)) whole
    ∙ insert_least x (onto (entries_among rs) (union_of lists))
    (all_onto (AtMost x) (entries_among rs) (union_of lists) least over)
    ∙ sym (ap (λ (xs : List Entry). x ∷ xs) (in_order_onto (entries_among rs) (all_entries lists)))
merged_least (l ∷ lists) (suc k) x rs within whole before after least =
    let more : union_of lists ≡ x ∷ union_of (slice_set lists k rs) =
    merged_least lists k x rs (omega arith) whole (λ j lt. before (suc j) (omega arith))
    (λ j gt lt. after (suc j) (omega arith) (omega arith)) least in
    in_order_onto (entries_among l) (all_entries lists) ∙ ap (onto (entries_among l)) more
    ∙ onto_least x (entries_among l) (union_of (slice_set lists k rs))
    (before zero (omega arith))
    ∙ sym (ap (λ (xs : List Entry). x ∷ xs) (in_order_onto (entries_among l)
    (all_entries (slice_set lists k rs))))

-- ---- the greatest

insert_greatest : (x : Entry) (zs : List Entry) → AllByRecursion (λ z. Above x z) zs
    → insert_sorted x zs ≡ zs ++ x ∷ []
insert_greatest x [] h = refl
insert_greatest x (z ∷ zs) h = ap (λ (b : Bool). cond b (z ∷ insert_sorted x zs) (x ∷ z ∷ zs)) h.0
    ∙ ap (λ (ys : List Entry). z ∷ ys) (insert_greatest x zs h.1)

insert_before : (x y : Entry) (zs : List Entry) → AtMost y x
    → insert_sorted y (zs ++ x ∷ []) ≡ insert_sorted y zs ++ x ∷ []
insert_before x y [] h = ap (λ (b : Bool). cond b (x ∷ y ∷ []) (y ∷ x ∷ [])) h
insert_before x y (z ∷ zs) h =
    elim (is_gt (item_cmp y z)) as (λ b. cond b (z ∷ insert_sorted y (zs ++ x ∷ []))
    (y ∷ z ∷ (zs ++ x ∷ [])) ≡ cond b (z ∷ insert_sorted y zs) (y ∷ z ∷ zs) ++ x ∷ []) [
      | true ↦ ap (λ (ys : List Entry). z ∷ ys) (insert_before x y zs h)
      | false ↦ refl
    ]

onto_greatest : (x : Entry) (ys zs : List Entry) → AllByRecursion (λ y. AtMost y x) ys
    → onto ys (zs ++ x ∷ []) ≡ onto ys zs ++ x ∷ []
onto_greatest x [] zs h = refl
onto_greatest x (y ∷ ys) zs h = ap (insert_sorted y) (onto_greatest x ys zs h.1)
    ∙ insert_before x y (onto ys zs) h.0

-- x is the last of list k, below no entry of an earlier list, and above each entry of a later one
pub merged_greatest : (lists : List (List R)) (k : ℕ) (x : Entry) (rs : List R) → k < length lists
    → entries_among (slice_index_or lists k []) ≡ entries_among rs ++ x ∷ []
    → ((j : ℕ) → j < k → AllByRecursion (λ y. AtMost y x)
    (entries_among (slice_index_or lists j [])))
    → ((j : ℕ) → k < j → j < length lists → AllByRecursion (λ y. Above x y)
    (entries_among (slice_index_or lists j [])))
    → AllByRecursion (λ y. AtMost y x) (entries_among rs)
    → union_of lists ≡ union_of (slice_set lists k rs) ++ x ∷ []
merged_greatest [] k x rs within whole before after greatest = absurd (omega arith)
merged_greatest (l ∷ lists) zero x rs within whole before after greatest =
    let under : AllByRecursion (λ y. Above x y) (union_of lists) =
    all_in_order (λ y. Above x y) (all_entries lists)
    (all_entries_all (λ y. Above x y) lists (λ j lt. after (suc j) (omega arith)
    (omega arith))) in
    in_order_onto (entries_among l) (all_entries lists)
    ∙ ap (λ (xs : List Entry). onto xs (union_of lists)) whole
    ∙ onto_append (entries_among rs) (x ∷ []) (union_of lists)
    ∙ ap (onto (entries_among rs)) (insert_greatest x (union_of lists) under)
    ∙ onto_greatest x (entries_among rs) (union_of lists) greatest
    ∙ sym (ap (λ (xs : List Entry). xs ++ x ∷ [])
    (in_order_onto (entries_among rs) (all_entries lists)))
merged_greatest (l ∷ lists) (suc k) x rs within whole before after greatest =
    let more : union_of lists ≡ union_of (slice_set lists k rs) ++ x ∷ [] =
    merged_greatest lists k x rs (omega arith) whole (λ j lt. before (suc j) (omega arith))
    (λ j gt lt. after (suc j) (omega arith) (omega arith)) greatest in
    in_order_onto (entries_among l) (all_entries lists) ∙ ap (onto (entries_among l)) more
    ∙ onto_greatest x (entries_among l) (union_of (slice_set lists k rs))
    (before zero (omega arith))
    ∙ sym (ap (λ (xs : List Entry). xs ++ x ∷ [])
    (in_order_onto (entries_among l) (all_entries (slice_set lists k rs))))
