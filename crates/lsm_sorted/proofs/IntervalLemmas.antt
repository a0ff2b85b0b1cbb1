-- The order of keys, and what intervals share.
use Rattle.std.proofs.Common.{◌≡◌, refl, sym, ◌∙◌, ap, ℕ, Bool, true, false, List, inl, inr}
use Rattle.std.specs.Prelude.{not, ◌&&◌, ◌↔◌, IsTrue}
use Rattle.std.specs.declared.cmp.Ordering.{Ordering}
use Rattle.std.specs.declared.cmp.Ordering.TheVariants.{Less, Equal, Greater}
use Rattle.std.specs.declared.ops.Bound.{Bound}
use Rattle.std.specs.declared.ops.Bound.TheVariants.{Included, Excluded, Unbounded}
use Rattle.std.specs.Ordering.{nat_cmp, is_lt, is_ge, ordering_reverse}
use Rattle.std.specs.Cmp.Lexicographic.{slice_cmp, nat_list_cmp_total}
use Rattle.sst_entries.proofs.Booleans.{not_is, not_not}
use Rattle.std.proofs.lemmas.Bool.{and_parts, and_from, cases_Bool, both_ways}
use Rattle.sst_entries.specs.Key.{key_lt}
use Rattle.lsm_sorted.specs.version.KeyRange.{Interval, key_le, is_well_formed, has_key, overlaps}
use Rattle.lsm_sorted.specs.version.KeyRange.{ShareKey}
use Rattle.sst_entries.specs.Point.{is_from, is_to}
use Rattle.sst_entries.proofs.KeyLemmas.{le_itself, lt_le, le_lt}

-- what a test by `>=` says
pub ge_is : (o : Ordering) → is_ge o ≡ not (is_lt o)
ge_is Less = refl
ge_is Equal = refl
ge_is Greater = refl

pub le_not : (a b : List ℕ) → key_le a b ≡ not (key_lt b a)
le_not a b = refl

pub le_to : (a b : List ℕ) → key_lt b a ≡ false → key_le a b ≡ true
le_to a b h = ap not h

pub le_from : (a b : List ℕ) → key_le a b ≡ true → key_lt b a ≡ false
le_from a b h = not_is (key_lt b a) h

pub above : (a b : List ℕ) → key_le a b ≡ false → key_lt b a ≡ true
above a b h = not_not (key_lt b a) h

pub not_le : (a b : List ℕ) → key_lt b a ≡ true → key_le a b ≡ false
not_le a b h = ap not h

pub le_refl : (a : List ℕ) → key_le a a ≡ true
le_refl a = ap not (le_itself a)

not_above : (o : Ordering) → is_lt o ≡ true → not (is_lt (ordering_reverse o)) ≡ true
not_above Less h = refl
not_above Equal h = absurd cc
not_above Greater h = absurd cc

pub lt_to_le : (a b : List ℕ) → key_lt a b ≡ true → key_le a b ≡ true
lt_to_le a b h = ap (λ o. not (is_lt o)) (nat_list_cmp_total.antisymm b a)
    ∙ not_above (slice_cmp nat_cmp a b) h

pub lt_then_le : (a b c : List ℕ) → key_lt a b ≡ true → key_le b c ≡ true → key_lt a c ≡ true
lt_then_le a b c p q = lt_le a b c p (le_from b c q)

pub le_then_lt : (a b c : List ℕ) → key_le a b ≡ true → key_lt b c ≡ true → key_lt a c ≡ true
le_then_lt a b c p q = le_lt a b c (le_from a b p) q

pub le_trans : (a b c : List ℕ) → key_le a b ≡ true → key_le b c ≡ true → key_le a c ≡ true
le_trans a b c p q =
    elim (cases_Bool (key_le a c)) [
      | inl e ↦ e
      | inr e ↦ let up : key_lt c b ≡ true = lt_then_le c a b (above a c e) p in
          absurd (both_ways (key_lt c b) (le_from b c q) up)
    ]

-- intervals that share a key overlap
pub shared_overlap : (a b : Interval) → ShareKey a b → overlaps a b ≡ true
shared_overlap a b (k, p, q) =
    let x = and_parts (key_le a.min k) (key_le k a.max) p in
    let y = and_parts (key_le b.min k) (key_le k b.max) q in
    and_from (key_le b.min a.max) (key_le a.min b.max) (le_trans b.min k a.max y.0 x.1)
    (le_trans a.min k b.max x.0 y.1)

-- well-formed intervals that overlap share the greater of their minima
pub overlap_shared : (a b : Interval) → is_well_formed a ≡ true → is_well_formed b ≡ true
    → overlaps a b ≡ true → ShareKey a b
overlap_shared a b wa wb h =
    let x = and_parts (key_le b.min a.max) (key_le a.min b.max) h in
    elim (cases_Bool (key_le a.min b.min)) [
      | inl e ↦ (
        b.min,
        and_from (key_le a.min b.min) (key_le b.min a.max) e x.0,
        and_from
            (key_le b.min b.min) (key_le b.min b.max) (le_refl b.min) wb,
      )
      | inr e ↦ (
        a.min,
        and_from (key_le a.min a.min) (key_le a.min a.max)
            (le_refl a.min) wa,
        and_from (key_le b.min a.min) (key_le a.min b.max)
            (lt_to_le b.min a.min (above a.min b.min e)) x.1,
      )
    ]

pub overlap_says : (a b : Interval) (r : Bool) → r ≡ overlaps a b → IsTrue (is_well_formed a)
    → IsTrue (is_well_formed b) → (IsTrue r ↔ ShareKey a b)
overlap_says a b r is wa wb = (
  (λ t. overlap_shared a b wa wb (sym is ∙ t)),
  (λ s. is ∙ shared_overlap a b s),
)

pub lower_up : (lower : Bound (List ℕ)) (k m : List ℕ) → is_from lower k ≡ true → key_le k m ≡ true
    → is_from lower m ≡ true
lower_up (Included low) k m p q = le_trans low k m p q
lower_up (Excluded low) k m p q = lt_then_le low k m p q
lower_up Unbounded k m p q = refl

pub upper_down : (upper : Bound (List ℕ)) (k m : List ℕ) → is_to upper k ≡ true → key_le m k ≡ true
    → is_to upper m ≡ true
upper_down (Included high) k m p q = le_trans m k high q p
upper_down (Excluded high) k m p q = le_then_lt m k high q p
upper_down Unbounded k m p q = refl

-- a key of an interval within two bounds shows that the interval reaches past both
pub none_within : (r : Interval) (lower upper : Bound (List ℕ)) (b : Bool)
    → b ≡ is_from lower r.max && is_to upper r.min → b ≡ false → (k : List ℕ) → IsTrue (has_key r k)
    → IsTrue (is_from lower k) → IsTrue (is_to upper k) → ⊥
none_within r lower upper b is no_overlap k inside low high =
    let x = and_parts (key_le r.min k) (key_le k r.max) inside in
    both_ways b no_overlap (is ∙ and_from (is_from lower r.max) (is_to upper r.min)
    (lower_up lower k r.max low x.1) (upper_down upper k r.min high x.0))
