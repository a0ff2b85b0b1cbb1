-- The least or the greatest item is taken out of a merger's heap: it is the first or the last entry
-- of all that is left.
use Rattle.std.proofs.Common.{◌≡◌, inl, inr, refl, sym, ◌∙◌, ap, subst, ℕ, zero, suc, ◌<◌, Bool}
use Rattle.std.proofs.Common.{true, false, List, [], ◌∷◌, ◌++◌, map, length, arith, slice_index_or}
use Rattle.std.proofs.Common.{slice_set}
use Rattle.std.specs.Prelude.{Option, Some, None, Ok, Err, All, IsPermutation}
use Rattle.std.specs.List.{AllByRecursion}
use Rattle.std.specs.Ordering.{nat_cmp, is_gt, ordering_then, ordering_reverse}
use Rattle.std.specs.declared.cmp.Ordering.{Ordering}
use Rattle.std.specs.declared.cmp.Ordering.TheVariants.{Less, Equal, Greater}
use Rattle.std.proofs.lemmas.Bool.{cases_eq}
use Rattle.std.proofs.lemmas.Bool.Decides.{nat_tests}
use Rattle.std.proofs.lemmas.List.{append-nil, append_assoc, map-set, get_or-set_same, length-map}
use Rattle.std.proofs.Math.ListN.{get_or-map}
use Rattle.sst_entries.specs.Entry.{Entry}
use Rattle.sst_entries.specs.declared.stream.Direction.{Direction}
use Rattle.sst_entries.specs.declared.stream.Direction.TheVariants.{Front, Back}
use Rattle.sst_entries.specs.Key.{key_cmp}
use Rattle.sst_entries.specs.declared.error.Error.{Error}
use Rattle.sst_entries.proofs.Lists.{all_more, all_append, all_front, all_behind}
use Rattle.sst_entries.proofs.OrderLemmas.{gt_first}
use Rattle.lsm_sorted.specs.declared.merge.HeapItem.{HeapItem}
use Rattle.lsm_sorted.specs.merge.Ends.{R}
use Rattle.lsm_sorted.specs.merge.Union.{item_cmp, AtMost, Ascends, entries_among, errors_among}
use Rattle.lsm_sorted.specs.merge.Union.{all_errors, union_of}
use Rattle.lsm_sorted.specs.merge.Merge.{end_number, turn_cmp, entry_of}
use Rattle.lsm_sorted.proofs.Kept.{Kept, one, whole, taken_at, kept_at, taken, HeapHolds, Ready}
use Rattle.lsm_sorted.proofs.MergedLemmas.{item_total, Above, at_most_chain, merged_least}
use Rattle.lsm_sorted.proofs.MergedLemmas.{merged_greatest}
use Rattle.lsm_sorted.proofs.HeldLemmas.{Elsewhere, held_first, held_pop, held_found}
use Rattle.lsm_sorted.proofs.HeldLemmas.{taken_set_same}
use Rattle.lsm_sorted.proofs.HeldLemmas.{kept_set_other, taken_within}
use Rattle.lsm_sorted.proofs.TakeLemmas.{all_at, all_set}

-- ---- the order of heap items

first_less : (o p : Ordering) → is_gt (ordering_then o p) ≡ false → is_gt p ≡ true → o ≡ Less
first_less Less p h k = refl
first_less Equal p h k = let no : true ≡ false = sym k ∙ h in absurd cc
first_less Greater p h k = absurd cc

nat_greater : (j k : ℕ) → j < k → nat_cmp k j ≡ Greater
nat_greater j k lt = grind (arith, nat_tests)

nat_same : (k : ℕ) → nat_cmp k k ≡ Equal
nat_same k = grind (arith, nat_tests)

less_above : (x y : Entry) → item_cmp x y ≡ Less → Above y x
less_above x y e = ap is_gt (item_total.antisymm y x ∙ ap ordering_reverse e)

not_both : (x y : Entry) → AtMost x y → Above x y → ⊥
not_both x y h k = let no : true ≡ false = sym k ∙ h in absurd cc

turn_at_most : {A : Type 0} (x y : HeapItem A) → is_gt (turn_cmp x y) ≡ false
    → AtMost (entry_of x) (entry_of y)
turn_at_most x y h = gt_first (key_cmp x.key y.key) _ h

-- of two that tie, the one of the earlier source comes first
turn_source : {A : Type 0} (x y : HeapItem A) → is_gt (turn_cmp x y) ≡ false → y.source < x.source
    → Above (entry_of y) (entry_of x)
turn_source x y h lt =
    let more : is_gt (ordering_then (nat_cmp x.source y.source)
    (nat_cmp (end_number x.end) (end_number y.end))) ≡ true =
    ap (λ (o : Ordering). is_gt (ordering_then o
    (nat_cmp (end_number x.end) (end_number y.end)))) (nat_greater y.source x.source lt) in
    less_above (entry_of x) (entry_of y) (first_less (key_cmp x.key y.key) _ h more)

-- of two of a source that tie, the one from its front comes first
turn_end : {A : Type 0} (x y : HeapItem A) → is_gt (turn_cmp x y) ≡ false → y.source ≡ x.source
    → x.end ≡ Back → y.end ≡ Front → Above (entry_of y) (entry_of x)
turn_end x y h same at_back at_front =
    let level : nat_cmp x.source y.source ≡ Equal = ap (nat_cmp x.source) same
    ∙ nat_same x.source in
    let later : nat_cmp (end_number x.end) (end_number y.end) ≡ Greater =
    ap (λ (b : Direction). nat_cmp (end_number b) (end_number y.end)) at_back
    ∙ ap (λ (b : Direction). nat_cmp 1 (end_number b)) at_front
    ∙ nat_greater 0 1 (omega arith) in
    let more : is_gt (ordering_then (nat_cmp x.source y.source)
    (nat_cmp (end_number x.end) (end_number y.end))) ≡ true =
    ap (λ (o : Ordering). is_gt (ordering_then o
    (nat_cmp (end_number x.end) (end_number y.end)))) level ∙ ap is_gt later in
    less_above (entry_of x) (entry_of y) (first_less (key_cmp x.key y.key) _ h more)

-- ---- what bounds a source

entries_append : (xs ys : List R) → entries_among (xs ++ ys) ≡ entries_among xs ++ entries_among ys
entries_append [] ys = refl
entries_append (Ok x ∷ xs) ys = ap (λ (zs : List Entry). x ∷ zs) (entries_append xs ys)
entries_append (Err e ∷ xs) ys = entries_append xs ys

errors_append : (xs ys : List R) → errors_among (xs ++ ys) ≡ errors_among xs ++ errors_among ys
errors_append [] ys = refl
errors_append (Ok x ∷ xs) ys = errors_append xs ys
errors_append (Err e ∷ xs) ys = ap (λ (zs : List Error). e ∷ zs) (errors_append xs ys)

ascends_front : (xs ys : List Entry) → Ascends (xs ++ ys) → Ascends xs
ascends_front [] ys h = tt
ascends_front (x ∷ xs) ys h = (all_front (AtMost x) xs ys h.0, ascends_front xs ys h.1)

ascends_last : (xs : List Entry) (u : Entry) → Ascends (xs ++ u ∷ [])
    → AllByRecursion (λ y. AtMost y u) xs
ascends_last [] u h = tt
ascends_last (x ∷ xs) u h = ((all_behind (AtMost x) xs (u ∷ []) h.0).0, ascends_last xs u h.1)

-- what holds of the entries that are held, and upward, holds of all of a source whose front is
-- ready
up_from : (P : Entry → Type 0) → ((y z : Entry) → AtMost y z → P y → P z) → (s : Kept)
    → Ascends (entries_among (whole s)) → (s.front ≡ None → s.rest ≡ [])
    → ((b : Direction) (y : Entry) → taken_at b s ≡ Some y → P y)
    → AllByRecursion P (entries_among (whole s))
up_from P up s = go s.front s.rest s.back
  where
    go : (f : Option Entry) (rs : List R) (b : Option Entry)
        → Ascends (entries_among (one f ++ (rs ++ one b))) → (f ≡ None → rs ≡ [])
        → ((c : Direction) (y : Entry) → taken_at c (record { front = f; rest = rs; back = b })
        ≡ Some y → P y) → AllByRecursion P (entries_among (one f ++ (rs ++ one b)))
    go (Some x) rs b asc ready held = (
      held Front x refl,
      all_more (AtMost x) P
          (λ y le. up x y le (held Front x refl)) (entries_among (rs ++ one b)) asc.0,
    )
    go None rs None asc ready held = subst (λ (qs : List R). AllByRecursion P
        (entries_among (qs ++ []))) (sym (ready refl)) tt
    go None rs (Some x) asc ready held = subst (λ (qs : List R). AllByRecursion P
        (entries_among (qs ++ Ok x ∷ []))) (sym (ready refl)) (held Back x refl, tt)

down_from : (P : Entry → Type 0) → ((y z : Entry) → AtMost y z → P z → P y) → (s : Kept)
    → Ascends (entries_among (whole s)) → (s.back ≡ None → s.rest ≡ [])
    → ((b : Direction) (y : Entry) → taken_at b s ≡ Some y → P y)
    → AllByRecursion P (entries_among (whole s))
down_from P down s = go s.front s.rest s.back
  where
    go : (f : Option Entry) (rs : List R) (b : Option Entry)
        → Ascends (entries_among (one f ++ (rs ++ one b))) → (b ≡ None → rs ≡ [])
        → ((c : Direction) (y : Entry) → taken_at c (record { front = f; rest = rs; back = b })
        ≡ Some y → P y) → AllByRecursion P (entries_among (one f ++ (rs ++ one b)))
    go f rs (Some x) asc ready held =
        let parts : entries_among (one f ++ (rs ++ Ok x ∷ [])) ≡ entries_among (one f ++ rs) ++ x
        ∷ [] = ap entries_among (sym (append_assoc (one f) rs (Ok x ∷ [])))
        ∙ entries_append (one f ++ rs) (Ok x ∷ []) in
        let top : P x = held Back x refl in
        subst (AllByRecursion P) (sym parts) (all_append P (entries_among (one f ++ rs)) (x ∷ [])
        (all_more (λ y. AtMost y x) P (λ y le. down y x le top) (entries_among (one f ++ rs))
        (ascends_last (entries_among (one f ++ rs)) x (subst Ascends parts asc))) (top, tt))
    go None rs None asc ready held = subst (λ (qs : List R). AllByRecursion P
        (entries_among (qs ++ []))) (sym (ready refl)) tt
    go (Some x) rs None asc ready held = subst (λ (qs : List R). AllByRecursion P
        (entries_among (Ok x ∷ (qs ++ [])))) (sym (ready refl)) (held Front x refl, tt)

-- ---- a source without one of the entries that were held

abbrev pub cleared : Direction → Kept → Kept
cleared Back s = record { front = s.front; rest = s.rest; back = None }
cleared Front s = record { front = None; rest = s.rest; back = s.back }

pub cleared_rest : (b : Direction) (s : Kept) → (cleared b s).rest ≡ s.rest
cleared_rest Back s = refl
cleared_rest Front s = refl

cleared_gone : (b : Direction) (s : Kept) → taken_at b (cleared b s) ≡ None
cleared_gone Back s = refl
cleared_gone Front s = refl

cleared_other : (b c : Direction) (s : Kept) → (c ≡ b → ⊥) → taken_at c (cleared b s) ≡ taken_at c s
cleared_other Back Back s ne = absurd (ne refl)
cleared_other Back Front s ne = refl
cleared_other Front Back s ne = refl
cleared_other Front Front s ne = absurd (ne refl)

first_whole : (s : Kept) (b : Direction) (x : Entry) → taken_at b s ≡ Some x
    → (b ≡ Back → (s.front ≡ None) × (s.rest ≡ [])) → whole s ≡ Ok x ∷ whole (cleared b s)
first_whole s Front x e alone = ap (λ (f : Option Entry). one f ++ (s.rest ++ one s.back)) e
first_whole s Back x e alone =
    let none = alone refl in
    ap (λ (f : Option Entry). one f ++ (s.rest ++ one s.back)) none.0
    ∙ ap (λ (rs : List R). rs ++ one s.back) none.1 ∙ ap one e
    ∙ ap (λ (rs : List R). Ok x ∷ rs) (sym (ap (λ (f : Option Entry). one f ++ (s.rest ++ []))
    none.0 ∙ ap (λ (rs : List R). rs ++ []) none.1))

last_whole : (s : Kept) (b : Direction) (x : Entry) → taken_at b s ≡ Some x
    → (b ≡ Front → (s.back ≡ None) × (s.rest ≡ [])) → whole s ≡ whole (cleared b s) ++ Ok x ∷ []
last_whole s Back x e alone =
    ap (λ (f : Option Entry). one s.front ++ (s.rest ++ one f)) e
    ∙ sym (append_assoc (one s.front) s.rest (Ok x ∷ []))
    ∙ ap (λ (rs : List R). (one s.front ++ rs) ++ Ok x ∷ []) (sym (append-nil s.rest))
last_whole s Front x e alone =
    let none = alone refl in
    let before : s.rest ++ one s.back ≡ [] = ap (λ (f : Option Entry). s.rest ++ one f) none.0
    ∙ ap (λ (rs : List R). rs ++ []) none.1 in
    ap (λ (f : Option Entry). one f ++ (s.rest ++ one s.back)) e
    ∙ ap (λ (rs : List R). Ok x ∷ rs) before ∙ ap (λ (rs : List R). rs ++ Ok x ∷ [])
    (sym before)

errors_set : (lists : List (List R)) (k : ℕ) (rs : List R) → k < length lists
    → errors_among (slice_index_or lists k []) ≡ errors_among rs
    → all_errors lists ≡ all_errors (slice_set lists k rs)
errors_set [] k rs lt e = absurd (omega arith)
errors_set (l ∷ lists) zero rs lt e = ap (λ (es : List Error). es ++ all_errors lists) e
errors_set (l ∷ lists) (suc k) rs lt e = ap (λ (es : List Error). errors_among l ++ es)
    (errors_set lists k rs (omega arith) e)

-- ---- an item is taken out

abbrev pub Sorted : Kept → Type 0
Sorted s = Ascends (entries_among (whole s))

module _ {A : Type 0} (hs mid : List (HeapItem A)) (h : HeapItem A) (ks : List Kept)
    (sorted : AllByRecursion Sorted ks) (heap : HeapHolds hs ks)
    (pops : IsPermutation hs (h ∷ mid)) where
  abbrev pub its : Kept
  its = kept_at ks h.source

  -- the sources without it
  abbrev pub without : List Kept
  without = slice_set ks h.source (cleared h.end its)

  returned : taken ks h.source h.end ≡ Some (entry_of h)
  returned = held_first hs mid h ks heap pops

  pub within : h.source < length ks
  within = taken_within ks h.source h.end (entry_of h) returned

  pub without_gone : taken without h.source h.end ≡ None
  without_gone = taken_set_same ks h.source (cleared h.end its) h.end within
      ∙ cleared_gone h.end its

  pub without_elsewhere : Elsewhere h.source h.end ks without
  without_elsewhere j c ne = elim (cases_eq j h.source) [
    | inl e ↦ subst (λ (i : ℕ). taken without i c ≡ taken ks i c) (sym e)
        (taken_set_same ks h.source (cleared h.end its) c within ∙ cleared_other h.end c its (ne e))
    | inr off ↦ ap (taken_at c) (kept_set_other ks h.source j (cleared h.end its) off)
  ]

  pub without_rest : (j : ℕ) → (kept_at without j).rest ≡ (kept_at ks j).rest
  without_rest j = elim (cases_eq j h.source) [
    | inl e ↦ subst (λ (i : ℕ). (kept_at without i).rest ≡ (kept_at ks i).rest) (sym e)
        (ap (λ (q : Kept). q.rest) (get_or-set_same ks h.source (cleared h.end its) _ within)
        ∙ cleared_rest h.end its)
    | inr off ↦ ap (λ (q : Kept). q.rest) (kept_set_other ks h.source j (cleared h.end its) off)
  ]

  pub without_heap : HeapHolds mid without
  without_heap = held_pop hs mid h ks without heap pops without_gone without_elsewhere

  own_sorted : Sorted its
  own_sorted = all_at Sorted ks h.source _ within sorted

  pub at : (j : ℕ) → slice_index_or (map whole ks) j [] ≡ whole (kept_at ks j)
  at j = get_or-map whole ks j _

  pub rewritten : map whole without ≡ slice_set (map whole ks) h.source (whole (cleared h.end its))
  rewritten = map-set whole ks h.source (cleared h.end its)

  -- what holds of each held entry of a source, and upward or downward, holds of each of its entries
  all_of : (P : Entry → Type 0) (j : ℕ) → AllByRecursion P (entries_among (whole (kept_at ks j)))
      → AllByRecursion P (entries_among (slice_index_or (map whole ks) j []))
  all_of P j = subst (λ (rs : List R). AllByRecursion P (entries_among rs)) (sym (at j))

  module _ (least : All (λ y. is_gt (turn_cmp h y) ≡ false) hs) (ready : Ready true Front ks) where
    over : (j : ℕ) (b : Direction) (y : Entry) → taken ks j b ≡ Some y
        → (g : HeapItem A) × (g.source ≡ j) × (g.end ≡ b) × (entry_of g ≡ y)
        × (is_gt (turn_cmp h g) ≡ false)
    over j b y e =
        let found = held_found hs ks j b y heap e in (
          found.0,
          found.2,
          found.3,
          found.4,
          subst
              (λ (g : HeapItem A). is_gt (turn_cmp h g) ≡ false) found.1.2
              (least found.1.0 found.0 found.1.1),
        )

    over_at_most : (j : ℕ) (b : Direction) (y : Entry) → taken ks j b ≡ Some y
        → AtMost (entry_of h) y
    over_at_most j b y e = let g = over j b y e in
        subst (AtMost (entry_of h)) g.3 (turn_at_most h g.0 g.4)

    -- where it was taken from the back, nothing else of its source is left
    least_alone : h.end ≡ Back → (its.front ≡ None) × (its.rest ≡ [])
    least_alone back = let none = front_none its.front refl in (none, ready h.source none)
      where
        front_none : (f : Option Entry) → its.front ≡ f → its.front ≡ None
        front_none None e = e
        front_none (Some y) e =
            let g = over h.source Front y e in
            let above : Above y (entry_of h) = subst (λ (z : Entry). Above z (entry_of h)) g.3
            (turn_end h g.0 g.4 g.1 back g.2) in
            let asc : Ascends (y ∷ entries_among (its.rest ++ one its.back)) =
            subst (λ (f : Option Entry). Ascends (entries_among
            (one f ++ (its.rest ++ one its.back)))) e own_sorted in
            let last : its.back ≡ Some (entry_of h) =
            subst (λ (b : Direction). taken ks h.source b ≡ Some (entry_of h)) back returned in
            let parts : entries_among (its.rest ++ one its.back) ≡ entries_among its.rest
            ++ entry_of h ∷ [] = ap (λ (b : Option Entry). entries_among (its.rest ++ one b))
            last ∙ entries_append its.rest (Ok (entry_of h) ∷ []) in
            let under : AtMost y (entry_of h) = (all_behind (AtMost y) (entries_among its.rest)
            (entry_of h ∷ []) (subst (AllByRecursion (AtMost y)) parts asc.0)).0 in
            absurd (not_both y (entry_of h) under above)

    pub least_first : whole its ≡ Ok (entry_of h) ∷ whole (cleared h.end its)
    least_first = first_whole its h.end (entry_of h) returned least_alone

    pub least_merged : union_of (map whole ks) ≡ entry_of h ∷ union_of (map whole without)
    least_merged =
        merged_least (map whole ks) h.source (entry_of h) (whole (cleared h.end its))
        (omega (arith, within, length-map ks whole))
        (ap entries_among (at h.source ∙ least_first))
        (λ j lt. all_of (λ y. Above y (entry_of h)) j
        (up_from (λ y. Above y (entry_of h)) (λ y z le up. above_chain y z le up) (kept_at ks j)
        (all_at Sorted ks j _ (omega (arith, within)) sorted) (ready j)
        (λ b y e. before j b y lt e)))
        (λ j gt lt. all_of (AtMost (entry_of h)) j
        (up_from (AtMost (entry_of h)) (λ y z le up. at_most_chain (entry_of h) y z up le)
        (kept_at ks j) (all_at Sorted ks j _ (omega (arith, lt, length-map ks whole)) sorted)
        (ready j) (λ b y e. over_at_most j b y e)))
        ((subst (λ (rs : List R). Ascends (entries_among rs)) least_first own_sorted).0)
        ∙ ap (λ (ls : List (List R)). entry_of h ∷ union_of ls) (sym rewritten)
      where
        before : (j : ℕ) (b : Direction) (y : Entry) → j < h.source → taken ks j b ≡ Some y
            → Above y (entry_of h)
        before j b y lt e = let g = over j b y e in
            subst (λ (z : Entry). Above z (entry_of h)) g.3
            (turn_source h g.0 g.4 (subst (λ (i : ℕ). i < h.source) (sym g.1) lt))

        above_chain : (y z : Entry) → AtMost y z → Above y (entry_of h) → Above z (entry_of h)
        above_chain y z le up = either (is_gt (item_cmp z (entry_of h))) refl
          where
            either : (b : Bool) → is_gt (item_cmp z (entry_of h)) ≡ b → Above z (entry_of h)
            either true e = e
            either false e = absurd (not_both y (entry_of h)
                (at_most_chain y z (entry_of h) le e) up)

    pub least_errors : all_errors (map whole ks) ≡ all_errors (map whole without)
    least_errors =
        errors_set (map whole ks) h.source (whole (cleared h.end its))
        (omega (arith, within, length-map ks whole))
        (ap errors_among (at h.source ∙ least_first)) ∙ ap all_errors (sym rewritten)

    pub least_sorted : AllByRecursion Sorted without
    least_sorted = all_set Sorted ks h.source (cleared h.end its) sorted
        ((subst (λ (rs : List R). Ascends (entries_among rs)) least_first own_sorted).1)

    pub least_spent : h.end ≡ Back → (kept_at ks h.source).rest ≡ []
    least_spent e = (least_alone e).1

    pub least_free : taken without h.source Front ≡ None
    least_free = free h.end refl
      where
        free : (b : Direction) → h.end ≡ b → taken without h.source Front ≡ None
        free Front e = subst (λ (b : Direction). taken without h.source b ≡ None) e without_gone
        free Back e = without_elsewhere h.source Front
            (λ _ f. let no : Front ≡ Back = f ∙ e in absurd cc) ∙ (least_alone e).0

  module _ (greatest : All (λ y. is_gt (turn_cmp y h) ≡ false) hs)
      (ready : Ready true Back ks) where
    under : (j : ℕ) (b : Direction) (y : Entry) → taken ks j b ≡ Some y
        → (g : HeapItem A) × (g.source ≡ j) × (g.end ≡ b) × (entry_of g ≡ y)
        × (is_gt (turn_cmp g h) ≡ false)
    under j b y e =
        let found = held_found hs ks j b y heap e in (
          found.0,
          found.2,
          found.3,
          found.4,
          subst
              (λ (g : HeapItem A). is_gt (turn_cmp g h) ≡ false) found.1.2
              (greatest found.1.0 found.0 found.1.1),
        )

    under_at_most : (j : ℕ) (b : Direction) (y : Entry) → taken ks j b ≡ Some y
        → AtMost y (entry_of h)
    under_at_most j b y e = let g = under j b y e in
        subst (λ (z : Entry). AtMost z (entry_of h)) g.3 (turn_at_most g.0 h g.4)

    -- where it was taken from the front, nothing else of its source is left
    greatest_alone : h.end ≡ Front → (its.back ≡ None) × (its.rest ≡ [])
    greatest_alone front = let none = back_none its.back refl in (none, ready h.source none)
      where
        back_none : (b : Option Entry) → its.back ≡ b → its.back ≡ None
        back_none None e = e
        back_none (Some y) e =
            let g = under h.source Back y e in
            let above : Above (entry_of h) y = subst (Above (entry_of h)) g.3
            (turn_end g.0 h g.4 (sym g.1) g.2 front) in
            let first : its.front ≡ Some (entry_of h) =
            subst (λ (b : Direction). taken ks h.source b ≡ Some (entry_of h)) front returned in
            let asc : Ascends (entry_of h ∷ entries_among (its.rest ++ one its.back)) =
            subst (λ (f : Option Entry). Ascends (entries_among
            (one f ++ (its.rest ++ one its.back)))) first own_sorted in
            let parts : entries_among (its.rest ++ one its.back) ≡ entries_among its.rest ++ y
            ∷ [] = ap (λ (b : Option Entry). entries_among (its.rest ++ one b)) e
            ∙ entries_append its.rest (Ok y ∷ []) in
            let over : AtMost (entry_of h) y = (all_behind (AtMost (entry_of h))
            (entries_among its.rest) (y ∷ []) (subst
            (AllByRecursion (AtMost (entry_of h))) parts asc.0)).0 in
            absurd (not_both (entry_of h) y over above)

    pub greatest_last : whole its ≡ whole (cleared h.end its) ++ Ok (entry_of h) ∷ []
    greatest_last = last_whole its h.end (entry_of h) returned greatest_alone

    last_parts : entries_among (whole its) ≡ entries_among (whole (cleared h.end its)) ++ entry_of h
        ∷ []
    last_parts = ap entries_among greatest_last ∙ entries_append (whole (cleared h.end its))
        (Ok (entry_of h) ∷ [])

    pub greatest_merged : union_of (map whole ks) ≡ union_of (map whole without) ++ entry_of h ∷ []
    greatest_merged =
        merged_greatest (map whole ks) h.source (entry_of h) (whole (cleared h.end its))
        (omega (arith, within, length-map ks whole))
        (ap entries_among (at h.source) ∙ last_parts)
        (λ j lt. all_of (λ y. AtMost y (entry_of h)) j
        (down_from (λ y. AtMost y (entry_of h)) (λ y z le up. at_most_chain y z
        (entry_of h) le up) (kept_at ks j) (all_at Sorted ks j _ (omega (arith, within)) sorted)
        (ready j) (λ b y e. under_at_most j b y e)))
        (λ j gt lt. all_of (Above (entry_of h)) j (down_from (Above (entry_of h))
        (λ y z le up. above_chain y z le up) (kept_at ks j)
        (all_at Sorted ks j _ (omega (arith, lt, length-map ks whole)) sorted) (ready j)
        (λ b y e. after j b y gt e)))
        (ascends_last (entries_among (whole (cleared h.end its))) (entry_of h)
        (subst Ascends last_parts own_sorted))
        ∙ ap (λ (ls : List (List R)). union_of ls ++ entry_of h ∷ []) (sym rewritten)
      where
        after : (j : ℕ) (b : Direction) (y : Entry) → h.source < j → taken ks j b ≡ Some y
            → Above (entry_of h) y
        after j b y gt e = let g = under j b y e in
            subst (Above (entry_of h)) g.3 (turn_source g.0 h g.4
            (subst (λ (i : ℕ). h.source < i) (sym g.1) gt))

        above_chain : (y z : Entry) → AtMost y z → Above (entry_of h) z → Above (entry_of h) y
        above_chain y z le up = either (is_gt (item_cmp (entry_of h) y)) refl
          where
            either : (b : Bool) → is_gt (item_cmp (entry_of h) y) ≡ b → Above (entry_of h) y
            either true e = e
            either false e = absurd (not_both (entry_of h) z
                (at_most_chain (entry_of h) y z e le) up)

    pub greatest_errors : all_errors (map whole ks) ≡ all_errors (map whole without)
    greatest_errors =
        errors_set (map whole ks) h.source (whole (cleared h.end its))
        (omega (arith, within, length-map ks whole))
        (ap errors_among (at h.source ∙ greatest_last)
        ∙ errors_append (whole (cleared h.end its)) (Ok (entry_of h) ∷ [])
        ∙ append-nil (errors_among (whole (cleared h.end its))))
        ∙ ap all_errors (sym rewritten)

    pub greatest_sorted : AllByRecursion Sorted without
    greatest_sorted = all_set Sorted ks h.source (cleared h.end its) sorted
        (ascends_front (entries_among (whole (cleared h.end its))) (entry_of h ∷ [])
        (subst Ascends last_parts own_sorted))

    pub greatest_spent : h.end ≡ Front → (kept_at ks h.source).rest ≡ []
    greatest_spent e = (greatest_alone e).1

    pub greatest_free : taken without h.source Back ≡ None
    greatest_free = free h.end refl
      where
        free : (b : Direction) → h.end ≡ b → taken without h.source Back ≡ None
        free Back e = subst (λ (b : Direction). taken without h.source b ≡ None) e without_gone
        free Front e = without_elsewhere h.source Back
            (λ _ f. let no : Back ≡ Front = f ∙ e in absurd cc) ∙ (greatest_alone e).0
