use Rattle.std.proofs.Common.{refl, subst, inl, inr}
use Rattle.std.specs.Prelude.{Result, Ok, Err, ⊤}
use Rattle.sst_script.specs.declared.stop.Stop.{Stop}
use Rattle.std.proofs.KnownBytes.{Keeps-refl}
use Rattle.sst_script.specs.Answering.{ScriptEnds}
use Rattle.sst_script.proofs.ScriptLemmas.{reported}
use Rattle.sst_script.proofs.script.run_script.Goals as goal

pub returns-in-Ok-clause-status : goal.returns-in-Ok-clause-status
returns-in-Ok-clause-status g c = inl refl

pub returns-in-Ok-clause-ended : goal.returns-in-Ok-clause-ended
returns-in-Ok-clause-ended g c = (Ok tt, refl, subst (λ (r : Result ⊤ Stop). ScriptEnds g.row.A.Denot (g.R.Read.remaining c.args.input) (g.W.Write.contents c.args.output.now) (g.W.Write.contents c.answer_script.new.output) r) c.in-Ok.is c.answer_script.ensures, Keeps-refl (g.E.Write.contents c.args.errors.now))

pub returns-in-Ok-clause-silent : goal.returns-in-Ok-clause-silent
returns-in-Ok-clause-silent g c = λ h. refl

pub returns-in-Err-clause-status : goal.returns-in-Err-clause-status
returns-in-Err-clause-status g c = inr refl

pub returns-in-Err-clause-ended : goal.returns-in-Err-clause-ended
returns-in-Err-clause-ended g c = (Err c.in-Err.stop, refl, subst (λ (r : Result ⊤ Stop). ScriptEnds g.row.A.Denot (g.R.Read.remaining c.args.input) (g.W.Write.contents c.args.output.now) (g.W.Write.contents c.answer_script.new.output) r) c.in-Err.is c.answer_script.ensures, reported (g.E.Write.contents c.args.errors.now) (g.E.Write.contents c.print_stop.new.errors) c.in-Err.stop c.print_stop.result c.print_stop.ensures)

pub returns-in-Err-clause-silent : goal.returns-in-Err-clause-silent
returns-in-Err-clause-silent g c = λ h. absurd cc
