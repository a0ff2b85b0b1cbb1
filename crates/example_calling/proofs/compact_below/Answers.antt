use Rattle.std.proofs.Common.{true, false}
use Rattle.lsm_tables.specs.Words.{kept_in, rules_by}
use Rattle.example_calling.proofs.Compacting.{kept_alike}
use Rattle.example_calling.proofs.compact_below.Goals as goal

pub returns-clause-seen : goal.returns-clause-seen
returns-clause-seen g c lists hold =
    let rules = rules_by c.args.watermark true false in (
      kept_in rules lists,
      c.in_ok-made.ensures.run lists hold,
      λ key bound reads. kept_alike rules lists key bound reads,
    )
