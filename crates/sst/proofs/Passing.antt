-- An error that is passed on.
use Rattle.std.proofs.Common.{◌≡◌, ℕ, subst, sym}
use Rattle.std.specs.Prelude.{Err, IfErr, Ok, Result}
use Rattle.std.specs.Result.{result_and}

-- what holds of a call's error holds of the same error in place of a status
pub passed_on : {X E : Type 0} (P : E → Type 0) (r : Result X E) (n : ℕ) (s : Result ℕ E)
    → s ≡ result_and r (Ok n) → IfErr r P → IfErr s P
passed_on {X} {E} P (Ok x) n s is refused = subst (λ (t : Result ℕ E). IfErr t P) (sym is) tt
passed_on {X} {E} P (Err e) n s is refused =
    subst (λ (t : Result ℕ E). IfErr t P) (sym is) refused
