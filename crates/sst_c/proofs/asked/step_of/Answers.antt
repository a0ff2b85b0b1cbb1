use Rattle.sst_c.proofs.Asking.{behind_back, behind_front}
use Rattle.sst_c.proofs.asked.step_of.Goals as goal

pub returns-then-back-clause-can : goal.returns-then-back-clause-can
returns-then-back-clause-can g c = behind_back _ _ _ _ c.args.newest.now c.next_back.result
    c.next_back.new.self c.requires c.next_back.ensures.steps

pub returns-else-back-clause-can : goal.returns-else-back-clause-can
returns-else-back-clause-can g c = behind_front _ _ _ _ c.args.newest.now c.next.result
    c.next.new.self c.requires c.next.ensures.steps
