-- What the instances of the walk have in common.
use Rattle.std.proofs.Common.{◌≡◌, ℕ, zero, suc, ◌+◌, ◌<◌, List, [], ◌∷◌, refl, ap, arith}
use Rattle.std.proofs.lemmas.List.Sums.{sum_by-append}
use Rattle.std.specs.List.{sum_by}
use Rattle.std.specs.Prelude.{Option, Some, None, Result, Ok, Err}
use Rattle.sst_entries.specs.declared.error.Error.{Error}
use Rattle.sst_entries.specs.declared.stream.Direction.{Direction}
use Rattle.sst_entries.specs.declared.stream.Direction.TheVariants.{Front, Back}
use Rattle.sst_entries.specs.Error.{Refuses}
use Rattle.sst_entries.specs.Span.{Span}
use Rattle.sst_entries.specs.Stream.{ok_results}
use Rattle.lsm_iters.specs.walk.Ends.{remains_in, rest_of, span_remains, taken_at}
use Rattle.lsm_iters.specs.walk.Parts.{Loading, early_behind, loads_in, none_behind, own_of}
use Rattle.lsm_iters.proofs.AtEnds.{behind_map, early_map, split}

-- a number that is not 0
pub positive : (n : ℕ) → (n ≡ 0 → ⊥) → 0 < n
positive zero some = absurd (some refl)
positive (suc n) some = omega arith

-- one load behind others
pub loads_one : {X : Type 0} (named : Option (Result (Loading X) Error))
    (more : List (Option (Result (Loading X) Error)))
    → loads_in (named ∷ []) + loads_in more ≡ loads_in (named ∷ more)
loads_one None more = omega arith
loads_one (Some (Ok part)) more = omega arith
loads_one (Some (Err e)) more = omega arith

-- what a load tells first is what it is refused with
pub refused_first : {X : Type 0} (r : Result X Error) (f : Error) → Refuses r (Some f)
    → Some r ≡ Some (Err f)
refused_first (Ok x) f e = let wrong : Some f ≡ None = e in absurd cc
refused_first (Err e) f is = let same : Some f ≡ Some e = is in cc

-- a sum over parts, by the part at an end
pub sum_taken : {X : Type 0} (f : X → ℕ) (at : Direction) (xs ys : List X) (x : X)
    → taken_at at xs ≡ (Some x, ys) → sum_by f xs ≡ f x + sum_by f ys
sum_taken f Front xs ys x e =
    omega (arith, ap (sum_by f) (split Front xs ys x e), sum_by-append f (x ∷ []) ys)
sum_taken f Back xs ys x e =
    omega (arith, ap (sum_by f) (split Back xs ys x e), sum_by-append f ys (x ∷ []))

-- ---- of parts that are windows in lists

module _ {X : Type 0} where
  pub none_own : (r : Result (Span X) Error) → own_of span_remains (Some r) ≡ 0
  none_own (Ok part) = refl
  none_own (Err e) = refl

  pub no_part_loads : (o : Option (Span X)) → (remains_in span_remains o).loads ≡ 0
  no_part_loads None = refl
  no_part_loads (Some s) = refl

  pub part_results : (o : Option (Span X))
      → (remains_in span_remains o).results ≡ ok_results (rest_of o)
  part_results None = refl
  part_results (Some s) = refl

  pub part_behind : (o : Option (Span X)) (n : ℕ)
      → none_behind (remains_in span_remains o).results n ≡ none_behind (rest_of o) n
  part_behind None n = refl
  part_behind (Some s) n = behind_map (λ (x : X). Ok x) _ n

  pub part_early : (o : Option (Span X)) (f : Option Error)
      → early_behind (remains_in span_remains o).results f ≡ early_behind (rest_of o) f
  part_early None f = refl
  part_early (Some s) f = early_map (λ (x : X). Ok x) _ f
