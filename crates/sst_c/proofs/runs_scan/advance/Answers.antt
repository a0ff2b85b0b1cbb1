use Rattle.sst_c.proofs.Asking.{behind_front}
use Rattle.sst_c.proofs.runs_scan.advance.Goals as goal

pub returns-clause-can : goal.returns-clause-can
returns-clause-can g c = behind_front _ _ _ _ c.args.source.now _ c.advance.new.self c.requires c.advance.ensures.goes
