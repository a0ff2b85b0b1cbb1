-- Lists of finished tables.
use Rattle.std.proofs.Common.{◌≡◌, ◌∷◌, ◌++◌, [], List, ap, ◌∙◌}

-- what is appended to an empty list is all of it
pub after_none : {T : Type 0} (xs ys : List T) (x : T) → xs ≡ [] → ys ≡ xs ++ x ∷ [] → ys ≡ x ∷ []
after_none xs ys x none appended = appended ∙ ap (λ zs. zs ++ x ∷ []) none
