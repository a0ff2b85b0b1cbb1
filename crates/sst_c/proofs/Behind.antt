-- Runs that are added to others. Assumes `Logic`.
use Rattle.std.proofs.Common.{◌≡◌, List, [], ◌∷◌, ◌++◌, ap, ◌∙◌}
use Rattle.std.specs.Prelude.{map}
use Rattle.std.proofs.lemmas.List.{map-append}

-- one more is seen behind the others
pub map_behind : {X Y : Type 0} (f : X → Y) (xs ys : List X) (x : X) (y : Y) → ys ≡ xs ++ x ∷ []
    → f x ≡ y → map f ys ≡ map f xs ++ y ∷ []
map_behind f xs ys x y same is =
    ap (map f) same ∙ (map-append f xs (x ∷ []) ∙ ap (λ v. map f xs ++ v ∷ []) is)
