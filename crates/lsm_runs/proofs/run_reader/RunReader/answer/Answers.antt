use Rattle.lsm_runs.proofs.RunSteps.{run_gives_unlent}
use Rattle.lsm_runs.proofs.run_reader.RunReader.answer.Goals as goal

pub returns : goal.returns
returns g c =
    rw (← c.self.view_is, c.unlend_in.ensures) (run_gives_unlent c.args.at c.self.inside.walk c.step-answer.new.self c.step-answer.result c.step-answer.ensures.walk)
