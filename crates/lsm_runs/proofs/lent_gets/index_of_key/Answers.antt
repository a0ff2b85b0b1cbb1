use Rattle.std.proofs.Common.{ℕ, ap, ◌∙◌}
use Rattle.std.specs.Option.{option_and_then}
use Rattle.std.specs.Prelude.{slice_get}
use Rattle.lsm_run_parts.specs.RunParts.{range_of}
use Rattle.lsm_runs.proofs.RunPlaces.{index_of_key}
use Rattle.lsm_runs.proofs.lent_gets.index_of_key.Goals as goal

pub returns-in_err-index : goal.returns-in_err-index
returns-in_err-index g c order =
    let tables = c.args.run.now in
    rw c.from_residual.ensures
    (ap (option_and_then (λ (ends : ℕ × ℕ). slice_get tables ends.0)) (c.in_err-index.ensures.found order) ∙ index_of_key range_of c.args.key.now tables order)

pub returns : goal.returns
returns g c order =
    let tables = c.args.run.now in
    ap (option_and_then (λ (ends : ℕ × ℕ). slice_get tables ends.0)) (c.in_ok-index.ensures.found order) ∙ index_of_key range_of c.args.key.now tables order
