use Rattle.lsm_writers.proofs.Beginning.{nothing_held}
use Rattle.lsm_writers.proofs.writer.Writer.fresh.Goals as goal

pub invariant_of-result : goal.invariant_of-result
invariant_of-result g c = nothing_held _ c.in_ok-blocks.blocks _ _ c.args.label c.args.options c.in_ok-blocks.ensures.ok c.in_ok-new.ensures.ok c.default.ensures c.requires.label c.requires.small
