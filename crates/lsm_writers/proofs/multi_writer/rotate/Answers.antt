use Rattle.sst_entries.proofs.Refusals.{faults_memory}
use Rattle.lsm_writers.proofs.Turning.{ids_fine_first, ids_spent_first, rotation_spent}
use Rattle.lsm_writers.proofs.multi_writer.rotate.Goals as goal

pub returns-in_default-clause-refused : goal.returns-in_default-clause-refused
returns-in_default-clause-refused g c = λ memory. rotation_spent c.args.ids.now c.args.writer.now c.in_default.ensures.id

pub returns-in_default-clause-first : goal.returns-in_default-clause-first
returns-in_default-clause-first g c = ids_spent_first c.args.ids.now c.in_default.ensures.id

pub returns-in_err-next-clause-refused : goal.returns-in_err-next-clause-refused
returns-in_err-next-clause-refused g c = faults_memory c.from_residual.result c.in_err-next.field-0.0 _ c.from_residual.ensures.1 c.in_err-next.ensures.err

pub returns-in_err-next-clause-first : goal.returns-in_err-next-clause-first
returns-in_err-next-clause-first g c = λ x returned. absurd (ids_fine_first c.in-Some.id c.args.ids.now c.in-Some.ensures.id x returned)

pub returns-clause-first : goal.returns-clause-first
returns-clause-first g c = λ x returned. absurd (ids_fine_first c.in-Some.id c.args.ids.now c.in-Some.ensures.id x returned)
