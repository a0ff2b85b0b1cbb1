-- A merger's heap has just the entries that were taken: one is added, and one is taken out.
use Rattle.std.proofs.Common.{◌≡◌, ◌≢◌, ◌⊎◌, inl, inr, refl, sym, ◌∙◌, ap, subst, ℕ, zero, suc, ◌+◌}
use Rattle.std.proofs.Common.{◌<◌, ◌≤◌, Bool, true, false, cond, List, [], ◌∷◌, length, arith}
use Rattle.std.proofs.Common.{slice_set}
use Rattle.std.specs.Prelude.{◌==◌, ◌&&◌, Option, Some, None, Contains, IsPermutation, count_by}
use Rattle.std.specs.List.{AllByRecursion}
use Rattle.std.proofs.lemmas.Bool.{eqb-true, eq-eqb, cases_lt}
use Rattle.std.proofs.lemmas.List.{get_or-set_same, get_or-set_other, get_or_past}
use Rattle.std.proofs.lemmas.List.Elements.{recursion_from_All, All-from_recursion}
use Rattle.std.proofs.lemmas.List.Sorted.{All-permutation, sum_by-IsPermutation}
use Rattle.std.proofs.lemmas.List.Sums.{sum_by-cons}
use Rattle.sst_entries.proofs.Booleans.{and_parts}
use Rattle.sst_entries.specs.Entry.{Entry}
use Rattle.sst_entries.specs.declared.stream.Direction.{Direction}
use Rattle.sst_entries.specs.declared.stream.Direction.TheVariants.{Front, Back}
use Rattle.lsm_sorted.specs.declared.merge.HeapItem.{HeapItem}
use Rattle.lsm_sorted.specs.merge.Merge.{entry_of}
use Rattle.lsm_sorted.proofs.Kept.{is_same_end, is_from, Kept, count_of, taken_at, kept_at, taken}
use Rattle.lsm_sorted.proofs.Kept.{HeapHolds}

-- ---- tests

same_end_self : (b : Direction) → is_same_end b b ≡ true
same_end_self Front = refl
same_end_self Back = refl

same_end_true : (b c : Direction) → is_same_end b c ≡ true → c ≡ b
same_end_true Front Front h = refl
same_end_true Front Back h = absurd cc
same_end_true Back Front h = absurd cc
same_end_true Back Back h = refl

pub is_from_true : {A : Type 0} (k : ℕ) (b : Direction) (h : HeapItem A) → is_from k b h ≡ true
    → (h.source ≡ k) × (h.end ≡ b)
is_from_true k b h e = let both = and_parts (h.source == k) (is_same_end b h.end) e in
    (eqb-true h.source k both.0, same_end_true b h.end both.1)

pub true_is_from : {A : Type 0} (k : ℕ) (b : Direction) (h : HeapItem A) → h.source ≡ k → h.end ≡ b
    → is_from k b h ≡ true
true_is_from k b h e f =
    ap (λ (t : Bool). t && is_same_end b h.end) (eq-eqb h.source k e) ∙ ap (is_same_end b) f
    ∙ same_end_self b

pub not_is_from : {A : Type 0} (k : ℕ) (b : Direction) (h : HeapItem A) → is_from k b h ≡ false
    → h.source ≡ k → h.end ≡ b → ⊥
not_is_from k b h e f g = let no : true ≡ false = sym (true_is_from k b h f g) ∙ e in absurd cc

-- ---- counts

pub weight : Bool → ℕ
weight b = cond b 1 0

pub weight_true : weight true ≡ 1
unfolding weight
weight_true = refl

pub weight_false : weight false ≡ 0
unfolding weight
weight_false = refl

pub count_cons : {A : Type 0} (p : A → Bool) (x : A) (xs : List A)
    → count_by p (x ∷ xs) ≡ weight (p x) + count_by p xs
unfolding weight
count_cons p x xs = sum_by-cons (λ y. cond (p y) 1 0) x xs

pub count_yes : {A : Type 0} (p : A → Bool) (x : A) (xs : List A) → p x ≡ true
    → count_by p (x ∷ xs) ≡ 1 + count_by p xs
count_yes p x xs e = count_cons p x xs ∙ ap (λ (b : Bool). weight b + count_by p xs) e
    ∙ ap (λ (n : ℕ). n + count_by p xs) weight_true

pub count_no : {A : Type 0} (p : A → Bool) (x : A) (xs : List A) → p x ≡ false
    → count_by p (x ∷ xs) ≡ count_by p xs
count_no p x xs e = let none : count_by p (x ∷ xs) ≡ 0 + count_by p xs = count_cons p x xs
    ∙ ap (λ (b : Bool). weight b + count_by p xs) e
    ∙ ap (λ (n : ℕ). n + count_by p xs) weight_false in omega (arith, none)

pub none_counted : {A : Type 0} (p : A → Bool) (xs : List A) → count_by p xs ≡ 0
    → AllByRecursion (λ y. p y ≡ false) xs
none_counted p [] h = tt
none_counted p (x ∷ xs) h =
    elim (p x) as (λ b. p x ≡ b → (p x ≡ false) × AllByRecursion (λ y. p y ≡ false) xs) [
      | true ↦ λ e. absurd (omega (arith, h, count_yes p x xs e))
      | false ↦ λ e. (e, none_counted p xs (sym (count_no p x xs e) ∙ h))
    ] refl

pub some_counted : {A : Type 0} (p : A → Bool) (xs : List A) → 0 < count_by p xs
    → (x : A) × Contains xs x × (p x ≡ true)
some_counted p [] h = absurd (omega arith)
some_counted {A} p (x ∷ xs) h =
    elim (p x) as (λ b. p x ≡ b → (y : A) × Contains (x ∷ xs) y × (p y ≡ true)) [
      | true ↦ λ e. (x, (zero, omega arith, refl), e)
      | false ↦ λ e. let more = some_counted p xs (omega (arith, h, count_no p x xs e)) in
          (more.0, (suc more.1.0, omega arith, more.1.2), more.2)
    ] refl

count_some : (o : Option Entry) (y : Entry) → o ≡ Some y → count_of o ≡ 1
count_some o y e = ap count_of e

count_nothing : (o : Option Entry) → o ≡ None → count_of o ≡ 0
count_nothing o e = ap count_of e

pub nothing_counted : (o : Option Entry) → count_of o ≡ 0 → o ≡ None
nothing_counted None e = refl
nothing_counted (Some x) e = absurd (omega arith)

-- ---- what was taken

-- all but what was taken from end b of source k is the same
abbrev pub Elsewhere : ℕ → Direction → List Kept → List Kept → Type 0
Elsewhere k b ks new = (j : ℕ) (c : Direction) → (j ≡ k → c ≡ b → ⊥) → taken new j c ≡ taken ks j c

-- h is what was taken from its end of its source
abbrev Each : {A : Type 0} → List Kept → HeapItem A → Type 0
Each ks h = taken ks h.source h.end ≡ Some (entry_of h)

same_each : {A : Type 0} (k : ℕ) (b : Direction) (hs : List (HeapItem A)) (ks new : List Kept)
    → Elsewhere k b ks new → AllByRecursion (λ h. is_from k b h ≡ false) hs
    → AllByRecursion (Each ks) hs → AllByRecursion (Each new) hs
same_each k b [] ks new same none each = tt
same_each k b (h ∷ hs) ks new same none each = (
  same h.source h.end (λ e f. not_is_from k b h none.0 e f)
      ∙ each.0,
  same_each k b hs ks new same none.1 each.1,
)

pub held_push : {A : Type 0} (old new : List (HeapItem A)) (h : HeapItem A) (ks after : List Kept)
    → HeapHolds old ks → IsPermutation (h ∷ old) new
    → taken ks h.source h.end ≡ None → taken after h.source h.end ≡ Some (entry_of h)
    → Elsewhere h.source h.end ks after → HeapHolds new after
held_push {A} old new h ks after was perm free is same =
    let k : ℕ = h.source in
    let b : Direction = h.end in
    let zero_held : count_by (is_from k b) old ≡ 0 = was.once k b
    ∙ count_nothing (taken ks k b) free in
    let none = none_counted (is_from k b) old zero_held in
    let each_old = same_each k b old ks after same none
    (recursion_from_All (Each ks) old was.each) in
    record {
      each = All-permutation (Each after) (h ∷ old) new perm
          (All-from_recursion (Each after) (h ∷ old) (is, each_old));
      once = λ j c. sum_by-IsPermutation (λ x. cond (is_from j c x) 1 0) (h ∷ old) new perm
          ∙ elim (is_from j c h) as (λ t. is_from j c h ≡ t
          → count_by (is_from j c) (h ∷ old) ≡ count_of (taken after j c)) [
            | true ↦ λ e.
                let at = is_from_true j c h e in
                let here : taken after j c ≡ Some (entry_of h) =
                subst (λ (i : ℕ). taken after i c ≡ Some (entry_of h)) at.0
                (subst (λ (d : Direction). taken after k d ≡ Some (entry_of h)) at.1 is) in
                let was_none : count_by (is_from j c) old ≡ 0 =
                subst (λ (i : ℕ). count_by (is_from i c) old ≡ 0) at.0
                (subst (λ (d : Direction). count_by (is_from k d) old ≡ 0) at.1 zero_held) in
                omega (
                  arith,
                  count_yes (is_from j c) h old e,
                  was_none,
                  count_some (taken after j c)
                      (entry_of h) here,
                )
            | false ↦ λ e. count_no (is_from j c) h old e ∙ was.once j c
                ∙ ap count_of (sym (same j c (λ i d. not_is_from j c h e (sym i) (sym d))))
          ] refl;
    }

pub held_first : {A : Type 0} (old mid : List (HeapItem A)) (h : HeapItem A) (ks : List Kept)
    → HeapHolds old ks → IsPermutation old (h ∷ mid) → taken ks h.source h.end ≡ Some (entry_of h)
held_first old mid h ks was perm = (recursion_from_All (Each ks) (h ∷ mid)
    (All-permutation (Each ks) old (h ∷ mid) perm was.each)).0

pub held_pop : {A : Type 0} (old mid : List (HeapItem A)) (h : HeapItem A) (ks after : List Kept)
    → HeapHolds old ks → IsPermutation old (h ∷ mid)
    → taken after h.source h.end ≡ None → Elsewhere h.source h.end ks after → HeapHolds mid after
held_pop {A} old mid h ks after was perm free same =
    let k : ℕ = h.source in
    let b : Direction = h.end in
    let each = recursion_from_All (Each ks) (h ∷ mid)
    (All-permutation (Each ks) old (h ∷ mid) perm was.each) in
    let once : (j : ℕ) (c : Direction) → count_by (is_from j c) (h ∷ mid)
    ≡ count_of (taken ks j c) = λ j c. sum_by-IsPermutation (λ x. cond (is_from j c x) 1 0) old
    (h ∷ mid) perm ∙ was.once j c in
    let zero_held : count_by (is_from k b) mid ≡ 0 =
    omega (
      arith,
      once k b,
      count_some (taken ks k b) (entry_of h) each.0,
      count_yes
          (is_from k b) h mid (true_is_from k b h refl refl),
    ) in
    record {
      each = All-from_recursion (Each after) mid (same_each k b mid ks after same
          (none_counted (is_from k b) mid zero_held) each.1);
      once = λ j c. elim (is_from j c h) as (λ t. is_from j c h ≡ t
          → count_by (is_from j c) mid ≡ count_of (taken after j c)) [
            | true ↦ λ e.
                let at = is_from_true j c h e in
                let here : taken after j c ≡ None = subst (λ (i : ℕ). taken after i c ≡ None) at.0
                (subst (λ (d : Direction). taken after k d ≡ None) at.1 free) in
                let none : count_by (is_from j c) mid ≡ 0 =
                subst (λ (i : ℕ). count_by (is_from i c) mid ≡ 0) at.0
                (subst (λ (d : Direction). count_by (is_from k d) mid ≡ 0) at.1 zero_held) in
                none ∙ sym (count_nothing (taken after j c) here)
            | false ↦ λ e. sym (count_no (is_from j c) h mid e) ∙ once j c
                ∙ ap count_of (sym (same j c (λ i d. not_is_from j c h e (sym i) (sym d))))
          ] refl;
    }

-- what was taken is held
pub held_found : {A : Type 0} (hs : List (HeapItem A)) (ks : List Kept) (k : ℕ) (b : Direction)
    (y : Entry) → HeapHolds hs ks → taken ks k b ≡ Some y
    → (h : HeapItem A) × Contains hs h × (h.source ≡ k) × (h.end ≡ b) × (entry_of h ≡ y)
held_found {A} hs ks k b y holds e =
    let found = some_counted (is_from k b) hs (omega
    (arith, holds.once k b, count_some (taken ks k b) y e)) in
    let h = found.0 in
    let at = is_from_true k b h found.2 in
    let returned : taken ks h.source h.end ≡ Some (entry_of h) =
    subst (λ (x : HeapItem A). taken ks x.source x.end ≡ Some (entry_of x)) found.1.2
    (holds.each found.1.0 h found.1.1) in
    let told' : taken ks k b ≡ Some (entry_of h) =
    subst (λ (i : ℕ). taken ks i b ≡ Some (entry_of h)) at.0
    (subst (λ (c : Direction). taken ks h.source c ≡ Some (entry_of h)) at.1 returned) in
    let same : Some (entry_of h) ≡ Some y = sym told' ∙ e in
    (h, found.1, at.0, at.1, cc)

-- where nothing is held, nothing was taken
pub held_none : {A : Type 0} (hs : List (HeapItem A)) (ks : List Kept) (k : ℕ) (b : Direction)
    → HeapHolds hs ks → hs ≡ [] → taken ks k b ≡ None
held_none hs ks k b holds e = nothing_counted (taken ks k b)
    (sym (holds.once k b) ∙ ap (count_by (is_from k b)) e)

-- ---- one source is written

pub taken_set_same : (ks : List Kept) (k : ℕ) (s : Kept) (b : Direction) → k < length ks
    → taken (slice_set ks k s) k b ≡ taken_at b s
taken_set_same ks k s b lt = ap (taken_at b) (get_or-set_same ks k s _ lt)

pub kept_set_other : (ks : List Kept) (k j : ℕ) (s : Kept) → j ≢ k
    → kept_at (slice_set ks k s) j ≡ kept_at ks j
kept_set_other ks k j s ne = get_or-set_other ks k j s _ ne

pub taken_within : (ks : List Kept) (k : ℕ) (b : Direction) (y : Entry) → taken ks k b ≡ Some y
    → k < length ks
taken_within ks k b y e = elim (cases k (length ks)) [
  | inl lt ↦ lt
  | inr ge ↦ absurd (nowhere b (sym (ap (taken_at b) (get_or_past ks k _ ge)) ∙ e))
]
  where
    cases : (m n : ℕ) → (m < n) ⊎ (n ≤ m)
    cases m n = cases_lt m n

    nowhere : (b : Direction) → taken_at b (record { front = None; rest = []; back = None })
        ≡ Some y → ⊥
    nowhere Front e = absurd cc
    nowhere Back e = absurd cc
