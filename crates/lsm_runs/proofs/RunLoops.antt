-- Loops over runs: what holds at a place of several lists.
use Rattle.std.proofs.Common.{◌≡◌, refl, sym, ◌∙◌, ap, subst, ℕ, zero, suc, ◌+◌, ◌<◌, List, [], ◌∷◌}
use Rattle.std.proofs.Common.{◌++◌, get_or, length, take, arith}
use Rattle.std.specs.Prelude.{Some, map}
use Rattle.std.specs.List.{AllByRecursion, AllZip, slice_get}
use Rattle.lsm_run_parts.proofs.Places.{take_push}

module _ {X Y : Type 0} (f : X → Y) where
  -- what holds of all holds at a place
  pub all_at : (P : Y → Type 0) (xs : List X) (i : ℕ) (x : X) → AllByRecursion P (map f xs)
      → i < length xs → x ≡ get_or xs i x → P (f x)
  all_at P [] i x all less is = absurd (omega (arith, less))
  all_at P (y ∷ ys) zero x all less is = subst (λ (z : X). P (f z)) (sym is) all.0
  all_at P (y ∷ ys) (suc i) x all less is = all_at P ys i x all.1 (omega (arith, less)) is

  -- what holds of two lists, place by place
  pub zip_at : {Z : Type 0} (Q : Y → Z → Type 0) (xs : List X) (zs : List Z) (i : ℕ) (x : X)
      → AllZip Q (map f xs) zs → i < length xs → x ≡ get_or xs i x
      → (z : Z) × (slice_get zs i ≡ Some z) × Q (f x) z
  zip_at Q [] zs i x all less is = absurd (omega (arith, less))
  zip_at Q (y ∷ ys) [] i x all less is = absurd all
  zip_at Q (y ∷ ys) (z ∷ zs) zero x all less is =
      (z, refl, subst (λ (u : X). Q (f u) z) (sym is) all.0)
  zip_at Q (y ∷ ys) (z ∷ zs) (suc i) x all less is =
      zip_at Q ys zs i x all.1 (omega (arith, less)) is

  pub mapped_at : (xs : List X) (i : ℕ) (x : X) → slice_get xs i ≡ Some x
      → slice_get (map f xs) i ≡ Some (f x)
  mapped_at [] i x there = absurd cc
  mapped_at (y ∷ ys) zero x there = let same : y ≡ x = cc in ap (λ (z : X). Some (f z)) same
  mapped_at (y ∷ ys) (suc i) x there = mapped_at ys i x there

-- one more of a list
pub take_next : {X : Type 0} (xs : List X) (i : ℕ) (x : X) → slice_get xs i ≡ Some x
    → take (i + 1) xs ≡ take i xs ++ x ∷ []
take_next {X} xs i x there = ap (λ (n : ℕ). take n xs) (let e : i + 1 ≡ suc i = omega arith in e)
    ∙ take_push xs i x there
