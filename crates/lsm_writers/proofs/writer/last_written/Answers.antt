use Rattle.std.proofs.Common.{◌∙◌, refl, rules}
use Rattle.lsm_writers.proofs.Orders.{behind_nothing, behind_some}
use Rattle.lsm_writers.proofs.writer.last_written.Goals as goal
use Rattle.lsm_writers.proofs.writer.last_written.Goals.{then-is_empty, else-is_empty}

pub returns-clause-last : goal.returns-clause-last
returns-clause-last g c = elim c.if-is_empty.branch [
  | then-is_empty w ↦
      behind_nothing _ _ _ (search rules)
      (c.last.ensures ∙ rw w.buffer-is c.last_block-cut.ensures.last)
  | else-is_empty w ↦
      behind_some _ _ _ (search rules) (c.last.ensures ∙ rw w.buffer-is refl)
]
