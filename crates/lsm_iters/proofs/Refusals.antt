-- A value that is handed on unless a call was refused.
use Rattle.std.proofs.Common.{◌≡◌}
use Rattle.std.specs.Prelude.{Result, Ok, Err, IfErr, IfOk, OnOk}
use Rattle.std.specs.Result.{result_and}

module _ {T U E : Type 0} where
  pub handed_on : (P : U → Type 0) (call : Result T E) (value : U) (r : Result U E)
      → r ≡ result_and call (Ok value) → OnOk call (P value) → IfOk r P
  handed_on P (Ok x) value r is holds = rw is holds
  handed_on P (Err e) value r is holds = rw is tt

  pub handed_on_always : (P : U → Type 0) (call : Result T E) (value : U) (r : Result U E)
      → r ≡ result_and call (Ok value) → P value → IfOk r P
  handed_on_always P (Ok x) value r is holds = rw is holds
  handed_on_always P (Err e) value r is holds = rw is tt

  pub refused_alike : (Q : E → Type 0) (call : Result T E) (value : U) (r : Result U E)
      → r ≡ result_and call (Ok value) → IfErr call Q → IfErr r Q
  refused_alike Q (Ok x) value r is holds = rw is tt
  refused_alike Q (Err e) value r is holds = rw is holds
