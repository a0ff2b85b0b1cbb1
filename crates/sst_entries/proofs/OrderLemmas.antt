-- The order of keys, and that of entries by key and number.
use Rattle.std.proofs.Common.{◌≡◌, refl, sym, ◌∙◌, ap, ℕ, zero, suc, ◌<◌, Bool, true, false}
use Rattle.std.proofs.Common.{cond, List, [], ◌∷◌, length, get_or, arith, rules}
use Rattle.std.specs.Prelude.{Option, Some}
use Rattle.std.specs.declared.cmp.Ordering.{Ordering}
use Rattle.std.specs.declared.cmp.Ordering.TheVariants.{Less, Equal, Greater}
use Rattle.std.specs.Ordering.{nat_cmp, is_lt, is_gt, is_eq, ordering_then}
use Rattle.std.specs.Cmp.{IsTotalOrder}
use Rattle.std.specs.Cmp.Rules.{comparing}
use Rattle.std.specs.Cmp.Lexicographic.{slice_cmp, nat_list_cmp_total, same_text, texts_ties}
use Rattle.sst_entries.specs.Entry.{Entry}
use Rattle.sst_entries.specs.Key.{key_lt}
use Rattle.sst_entries.specs.Strict.{version_cmp, is_before, IsStrictAfter}

pub number_total : IsTotalOrder version_cmp
number_total = search (comparing, rules)

pub less_of : (o : Ordering) → is_lt o ≡ true → o ≡ Less
less_of Less h = refl
less_of Equal h = absurd cc
less_of Greater h = absurd cc

pub gt_first : (o p : Ordering) → is_gt (ordering_then o p) ≡ false → is_gt o ≡ false
gt_first Less p h = refl
gt_first Equal p h = refl
gt_first Greater p h = absurd cc

pub lt_of_cond : (b c : Bool) → is_lt (cond b Less (cond c Equal Greater)) ≡ b
lt_of_cond true c = refl
lt_of_cond false true = refl
lt_of_cond false false = refl

-- ---- keys

-- keys that tie are the same
pub tie_same : (xs ys : List ℕ) → slice_cmp nat_cmp xs ys ≡ Equal → xs ≡ ys
tie_same xs ys h = same_text xs ys (sym (texts_ties xs ys ∙ ap is_eq h))

pub lt_trans : (a b c : List ℕ) → key_lt a b ≡ true → key_lt b c ≡ true → key_lt a c ≡ true
lt_trans a b c p q = ap is_lt (nat_list_cmp_total.trans a b c (less_of (slice_cmp nat_cmp a b) p)
    (less_of (slice_cmp nat_cmp b c) q))

-- ---- entries

pub before_trans : (a b c : Entry) → is_before a b ≡ true → is_before b c ≡ true
    → is_before a c ≡ true
before_trans a b c p q = ap is_lt (number_total.trans a b c (less_of (version_cmp a b) p)
    (less_of (version_cmp b c) q))

-- what may stand before a strict list comes before each of it
pub head_before : (x : Entry) (es : List Entry) (j : ℕ) (d : Entry) → IsStrictAfter (Some x) es
    → j < length es → is_before x (get_or es j d) ≡ true
unfolding IsStrictAfter
head_before x [] j d h lt = absurd (omega (arith, lt))
head_before x (y ∷ es) zero d h lt = h.0
head_before x (y ∷ es) (suc j) d h lt = before_trans x y (get_or es j d) h.0
    (head_before y es j d h.1 (omega (arith, lt)))

-- of two places of a strict list the earlier has what comes before
pub strict_at : (last : Option Entry) (es : List Entry) (i j : ℕ) (d : Entry)
    → IsStrictAfter last es → i < j → j < length es
    → is_before (get_or es i d) (get_or es j d) ≡ true
unfolding IsStrictAfter
strict_at last [] i j d h lt le = absurd (omega (arith, le))
strict_at last (x ∷ es) i zero d h lt le = absurd (omega (arith, lt))
strict_at last (x ∷ es) zero (suc j) d h lt le = head_before x es j d h.1 (omega (arith, le))
strict_at last (x ∷ es) (suc i) (suc j) d h lt le =
    strict_at (Some x) es i j d h.1 (omega (arith, lt)) (omega (arith, le))
