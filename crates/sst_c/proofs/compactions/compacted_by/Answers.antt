use Rattle.std.proofs.Common.{◌≡◌, subst, sym, List}
use Rattle.std.specs.Prelude.{IsErrAnd, Ok, Err, Result}
use Rattle.std.specs.Global.{Global}
use Rattle.sst_entries.specs.declared.error.Error.{Error}
use Rattle.lsm_readers.specs.point.Table.{OpenTable}
use Rattle.lsm_runs.specs.compaction.Unfiltered.{IsUnfiltered}
use Rattle.sst_c.proofs.compactions.compacted_by.Goals as goal

-- an error that is passed on
passed : {T : Type 0} (P : Result T Error → Type 0) (r : Result T Error) (e : Error)
    → IsErrAnd r (λ y. y ≡ e) → P (Err e) → P r
passed P (Ok v) e is h = absurd is
passed P (Err y) e is h = subst (λ (x : Error). P (Err x)) (sym is) h

pub returns-in_err-outcome : goal.returns-in_err-outcome
returns-in_err-outcome c =
    let a = c.args in
    let r = c.from_residual in
    passed (IsUnfiltered a.runs.now a.rules a.writer) r.result c.in_err-outcome.field-0.0 r.ensures.1
    (subst (λ (runs : List (List OpenTable)). IsUnfiltered {A = Global} runs a.rules a.writer (Err c.in_err-outcome.field-0.0)) c.as_slice.ensures.runs (c.in_err-outcome.ensures.plain (λ f g x v k. k) (λ o q p goes k. k)))

pub returns : goal.returns
returns c =
    let a = c.args in
    subst (λ (runs : List (List OpenTable)). IsUnfiltered runs a.rules a.writer (Ok c.in_ok-outcome.outcome)) c.as_slice.ensures.runs (c.in_ok-outcome.ensures.plain (λ f g x v k. k) (λ o q p goes k. k))
