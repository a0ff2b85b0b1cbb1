-- Tests that are true or false.
use Rattle.std.proofs.Common.{◌≡◌, refl, sym, ◌∙◌, Bool, true, false}
use Rattle.std.specs.Prelude.{not, ◌&&◌, ◌||◌}

-- no test is both
pub apart : (b : Bool) → b ≡ true → b ≡ false → ⊥
apart b p q = let e : true ≡ false = sym p ∙ q in absurd cc

pub is_false : (b : Bool) → (b ≡ true → ⊥) → b ≡ false
is_false true h = absurd (h refl)
is_false false h = refl

-- ---- not

pub not_is : (b : Bool) → not b ≡ true → b ≡ false
not_is true h = absurd cc
not_is false h = refl

pub not_of : (b : Bool) → b ≡ false → not b ≡ true
not_of true h = absurd cc
not_of false h = refl

pub not_not : (b : Bool) → not b ≡ false → b ≡ true
not_not true h = refl
not_not false h = absurd cc

-- what a test by `!` or `!=` says
pub not_true : (b r : Bool) → r ≡ not b → r ≡ true → b ≡ false
not_true b r e h = not_is b (sym e ∙ h)

pub not_false : (b r : Bool) → r ≡ not b → r ≡ false → b ≡ true
not_false b r e h = not_not b (sym e ∙ h)

-- ---- and, or

pub and_left : (a b : Bool) → (a && b) ≡ true → a ≡ true
and_left true b h = refl
and_left false b h = h

pub and_right : (a b : Bool) → (a && b) ≡ true → b ≡ true
and_right true b h = h
and_right false b h = absurd cc

pub and_parts : (a b : Bool) → (a && b) ≡ true → (a ≡ true) × (b ≡ true)
and_parts a b h = (and_left a b h, and_right a b h)

pub and_both : (a b : Bool) → a ≡ true → b ≡ true → (a && b) ≡ true
and_both a b p q = rw (p, q) refl

pub and_false : (a b : Bool) → b ≡ false → (a && b) ≡ false
and_false true b h = h
and_false false b h = refl

pub or_right : (a b : Bool) → b ≡ true → (a || b) ≡ true
or_right true b h = refl
or_right false b h = h

pub or_left : (a b : Bool) → a ≡ true → (a || b) ≡ true
or_left true b h = refl
or_left false b h = absurd cc

pub or_first : (a b : Bool) → (a || b) ≡ true → b ≡ false → a ≡ true
or_first true b h none = refl
or_first false b h none = absurd (apart b h none)

pub or_no : (b : Bool) → (b || false) ≡ b
or_no true = refl
or_no false = refl
