use Rattle.std.specs.Arc.{arc_value}
use Rattle.lsm_runs.specs.compaction.Compacted.{kept_in}
use Rattle.example_calling.proofs.PartRuns.{made_result}
use Rattle.example_calling.proofs.part.compact_part.Goals as goal

pub returns-clause-made : goal.returns-clause-made
returns-clause-made g c ps held =
    let a = c.args in
    let left = kept_in a.rules ps in
    made_result arc_value (λ v. v.items) left c.in_ok-run.run' c.shared_alone.result (c.in_ok-run.ensures.run ps held) c.shared_alone.ensures.runs
