-- What holds of each of a list, and where there is none.
use Rattle.std.proofs.Common.{◌≡◌, refl, List, [], ◌∷◌, ◌++◌}
use Rattle.std.specs.Prelude.{Option, Some, None}
use Rattle.std.specs.List.{AllByRecursion}

-- what is nothing that there may be is none
pub none_of : {X : Type 0} (o : Option X) → ((x : X) → o ≡ Some x → ⊥) → o ≡ None
none_of None not = refl
none_of (Some x) not = absurd (not x refl)

module _ {X : Type 0} where
  pub all_more : (P Q : X → Type 0) → ((x : X) → P x → Q x) → (xs : List X) → AllByRecursion P xs
      → AllByRecursion Q xs
  all_more P Q more [] h = tt
  all_more P Q more (x ∷ xs) h = (more x h.0, all_more P Q more xs h.1)

  pub all_append : (P : X → Type 0) (xs ys : List X) → AllByRecursion P xs → AllByRecursion P ys
      → AllByRecursion P (xs ++ ys)
  all_append P [] ys h k = k
  all_append P (x ∷ xs) ys h k = (h.0, all_append P xs ys h.1 k)

  pub all_front : (P : X → Type 0) (xs ys : List X) → AllByRecursion P (xs ++ ys)
      → AllByRecursion P xs
  all_front P [] ys h = tt
  all_front P (x ∷ xs) ys h = (h.0, all_front P xs ys h.1)

  pub all_behind : (P : X → Type 0) (xs ys : List X) → AllByRecursion P (xs ++ ys)
      → AllByRecursion P ys
  all_behind P [] ys h = h
  all_behind P (x ∷ xs) ys h = all_behind P xs ys h.1
