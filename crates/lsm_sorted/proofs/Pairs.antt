-- A strict list, pair by pair.
use Rattle.std.proofs.Common.{◌≡◌, refl, ◌∙◌, ap, subst, ℕ, ◌<◌, ◌⊎◌, inl, inr, true, List, [], ◌∷◌}
use Rattle.std.proofs.Common.{arith, rules}
use Rattle.std.specs.Prelude.{Option, Some, None}
use Rattle.std.specs.List.{AllByRecursion}
use Rattle.std.specs.declared.cmp.Ordering.{Ordering}
use Rattle.std.specs.declared.cmp.Ordering.TheVariants.{Less, Equal, Greater}
use Rattle.std.specs.Ordering.{nat_cmp, is_lt, ordering_then}
use Rattle.std.specs.Cmp.Rules.{comparing}
use Rattle.std.specs.Cmp.Lexicographic.{slice_cmp}
use Rattle.sst_entries.specs.Entry.{Entry}
use Rattle.sst_entries.specs.Key.{key_lt}
use Rattle.sst_entries.specs.Strict.{is_before, IsStrictAfter, IsStrict}
use Rattle.sst_entries.proofs.OrderLemmas.{less_of, before_trans, tie_same}

-- each entry comes before all later ones
abbrev pub AllBefore : List Entry → Type 0
AllBefore [] = Unit {0}
AllBefore (x ∷ xs) = AllByRecursion (λ y. is_before x y ≡ true) xs × AllBefore xs

after_all : (x : Entry) (es : List Entry) → IsStrictAfter (Some x) es
    → AllByRecursion (λ y. is_before x y ≡ true) es
unfolding IsStrictAfter
after_all x [] h = tt
after_all x (e ∷ es) h = (h.0, beyond x e es h.0 (after_all e es h.1))
  where
    beyond : (x e : Entry) (es : List Entry) → is_before x e ≡ true
        → AllByRecursion (λ y. is_before e y ≡ true) es
        → AllByRecursion (λ y. is_before x y ≡ true) es
    beyond x e [] h k = tt
    beyond x e (f ∷ es) h k = (before_trans x e f h k.0, beyond x e es h k.1)

before_all : (before : Option Entry) (es : List Entry) → IsStrictAfter before es → AllBefore es
unfolding IsStrictAfter
before_all before [] h = tt
before_all before (e ∷ es) h = (after_all e es h.1, before_all (Some e) es h.1)

pub pairs_of : (es : List Entry) → IsStrict es → AllBefore es
pairs_of es h = before_all None es h

chained : (x : Entry) (es : List Entry) → AllByRecursion (λ y. is_before x y ≡ true) es
    → AllBefore es → IsStrictAfter (Some x) es
unfolding IsStrictAfter
chained x [] h k = tt
chained x (e ∷ es) h k = (h.0, chained e es k.0 k.1)

pub strict_from : (es : List Entry) → AllBefore es → IsStrict es
unfolding IsStrictAfter
strict_from [] h = tt
strict_from (e ∷ es) h = (refl, chained e es h.0 h.1)

-- an entry comes before another: its key is smaller, or it is a newer version of the same key
abbrev pub Precedes : Entry → Entry → Type 0
Precedes x y = (key_lt x.user_key y.user_key ≡ true)
    ⊎ ((x.user_key ≡ y.user_key) × (y.seqno < x.seqno))

abbrev pub Strict : List Entry → Type 0
Strict [] = Unit {0}
Strict (x ∷ xs) = AllByRecursion (Precedes x) xs × Strict xs

nat_less : (a b : ℕ) → is_lt (nat_cmp a b) ≡ true → a < b
nat_less a b h = grind (arith, rules)

pub nat_is_less : (a b : ℕ) → a < b → is_lt (nat_cmp a b) ≡ true
nat_is_less a b h = grind (arith, rules)

pub precedes_of : (x y : Entry) → is_before x y ≡ true → Precedes x y
precedes_of x y h = elim (slice_cmp nat_cmp x.user_key y.user_key) as
    (λ o. slice_cmp nat_cmp x.user_key y.user_key ≡ o
    → is_lt (ordering_then o (nat_cmp y.seqno x.seqno)) ≡ true → Precedes x y) [
      | Less ↦ λ e k. inl (ap is_lt e)
      | Equal ↦ λ e k. inr (tie_same x.user_key y.user_key e, nat_less y.seqno x.seqno k)
      | Greater ↦ λ e k. absurd cc
    ] refl h

pub tied : (xs : List ℕ) → slice_cmp nat_cmp xs xs ≡ Equal
tied xs = search (comparing, rules)

pub before_of : (x y : Entry) → Precedes x y → is_before x y ≡ true
before_of x y h = elim h [
  | inl lower ↦ ap (λ (o : Ordering). is_lt (ordering_then o (nat_cmp y.seqno x.seqno)))
      (less_of (slice_cmp nat_cmp x.user_key y.user_key) lower)
  | inr newer ↦
      let tie : slice_cmp nat_cmp x.user_key y.user_key ≡ Equal =
      subst (λ (k : List ℕ). slice_cmp nat_cmp x.user_key k ≡ Equal) newer.0
      (tied x.user_key) in
      ap (λ (o : Ordering). is_lt (ordering_then o (nat_cmp y.seqno x.seqno))) tie
      ∙ nat_is_less y.seqno x.seqno newer.1
]

all_precede : (x : Entry) (es : List Entry) → AllByRecursion (λ y. is_before x y ≡ true) es
    → AllByRecursion (Precedes x) es
all_precede x [] h = tt
all_precede x (e ∷ es) h = (precedes_of x e h.0, all_precede x es h.1)

all_before : (x : Entry) (es : List Entry) → AllByRecursion (Precedes x) es
    → AllByRecursion (λ y. is_before x y ≡ true) es
all_before x [] h = tt
all_before x (e ∷ es) h = (before_of x e h.0, all_before x es h.1)

strict_pairs : (es : List Entry) → AllBefore es → Strict es
strict_pairs [] h = tt
strict_pairs (e ∷ es) h = (all_precede e es h.0, strict_pairs es h.1)

pairs_strict : (es : List Entry) → Strict es → AllBefore es
pairs_strict [] h = tt
pairs_strict (e ∷ es) h = (all_before e es h.0, pairs_strict es h.1)

pub as_pairs : (es : List Entry) → IsStrict es → Strict es
as_pairs es h = strict_pairs es (pairs_of es h)

pub from_pairs : (es : List Entry) → Strict es → IsStrict es
from_pairs es h = strict_from es (pairs_strict es h)
