-- Errors that a call passes on.
use Rattle.std.proofs.Common.{◌≡◌, ap}
use Rattle.std.specs.Prelude.{Result, Ok, Err, IfErr}
use Rattle.std.specs.Result.{IsErrAnd}
use Rattle.sst_entries.specs.declared.error.Error.{Error}
use Rattle.sst_entries.specs.Error.{Fails, Gives}

-- an error for which a fact holds
pub passes : {T E : Type 0} (r : Result T E) (e : E) (P : E → Type 0) → IsErrAnd r (λ y. y ≡ e)
    → P e → IfErr r P
passes (Ok x) e P is p = absurd is
passes (Err y) e P is p = rw is p

-- the error itself
pub passed : {T E : Type 0} (r : Result T E) (e : E) → IsErrAnd r (λ y. y ≡ e) → r ≡ Err e
passed {T} {E} (Ok x) e is = absurd is
passed {T} {E} (Err y) e is = ap (λ (f : E). Err f) is

-- the result, except for `OutOfMemory`
pub gives_refusal : {X Y : Type 0} (view : X → Y) (r : Result X Error) (e : Error)
    (returned : Result Y Error) → IsErrAnd r (λ y. y ≡ e) → Fails e returned → Gives view r returned
gives_refusal view (Ok x) e returned is fails = absurd is
gives_refusal view (Err y) e returned is fails = rw is fails
