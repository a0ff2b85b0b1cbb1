-- Failures of commands.
use Rattle.std.specs.Prelude.{◌≡◌, IfErr, Result}
use Rattle.std.specs.Result.{IsErrAnd}
use Rattle.std.proofs.lemmas.Result.{err_from_is_err_and}
use Rattle.sst_tool.specs.declared.files.error.ToolError.{ToolError}

-- what holds of the failure holds of the one that is passed on
pub passed_failure : {X : Type 0} (P : ToolError → Type 0) (r : Result X ToolError) (e : ToolError)
    → IsErrAnd r (λ y. y ≡ e) → P e → IfErr r P
passed_failure P r e is holds = let p = err_from_is_err_and r is in rw (p.1, p.2) holds
