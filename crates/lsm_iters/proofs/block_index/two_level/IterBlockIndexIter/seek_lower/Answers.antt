use Rattle.std.specs.Prelude.{Some}
use Rattle.std.proofs.Common.{rules}
use Rattle.lsm_iters.proofs.Laws.{levels_between, levels_yields, levels_stays}
use Rattle.lsm_iters.proofs.block_index.two_level.IterBlockIndexIter.seek_lower.Goals as goal

pub returns-in-Ok-clause-sought : goal.returns-in-Ok-clause-sought
returns-in-Ok-clause-sought g c upper was = rw c.in-Ok.ensures.ok at (c.keep_lower.ensures.sought upper was)

pub returns-in-Ok-clause-between : goal.returns-in-Ok-clause-between
returns-in-Ok-clause-between g c upper was = levels_between _ (Some (c.args.key.now, c.args.seqno)) upper (returns-in-Ok-clause-sought g c upper was)

pub returns-in-Ok-clause-yields : goal.returns-in-Ok-clause-yields
returns-in-Ok-clause-yields g c = levels_yields _

pub returns-in-Err-clause-yields : goal.returns-in-Err-clause-yields
returns-in-Err-clause-yields g c = levels_yields _

pub returns-in-Err-clause-stays : goal.returns-in-Err-clause-stays
returns-in-Err-clause-stays g c = levels_stays _ (search rules)
