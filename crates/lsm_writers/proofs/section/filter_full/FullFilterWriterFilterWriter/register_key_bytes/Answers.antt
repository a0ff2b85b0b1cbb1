-- A writer that has failed registers nothing.
use Rattle.std.proofs.Common.{ap}
use Rattle.lsm_writers.specs.section.Held.{Hashes}
use Rattle.lsm_writers.proofs.Sections.{spent_first, spent_result}
use Rattle.lsm_writers.proofs.SectionFinishing.{works_first}
use Rattle.lsm_writers.proofs.section.filter_full.FullFilterWriterFilterWriter.register_key_bytes.Goals as goal

pub returns-then-self-clause-refused : goal.returns-then-self-clause-refused
returns-then-self-clause-refused g c = λ keys h memory. spent_result c.self.inside.failed c.args.self.now.failed _ (ap (λ (w : Hashes). w.failed) c.self.view_is) c.if-self.true

pub returns-then-self-clause-first : goal.returns-then-self-clause-first
returns-then-self-clause-first g c = λ e returned. spent_first c.self.inside.failed c.args.self.now.failed e (ap (λ (w : Hashes). w.failed) c.self.view_is) c.if-self.true returned

pub returns-in_err-push-clause-first : goal.returns-in_err-push-clause-first
returns-in_err-push-clause-first g c = works_first c.from_residual.result c.self.inside.failed c.args.self.now.failed (ap (λ (w : Hashes). w.failed) c.self.view_is) c.if-self.false
