-- One call.
use Rattle.lsm_sorted.proofs.compaction.lending.LendingCompactionLending.advance.Goals as goal

pub returns-clause-goes : goal.returns-clause-goes
returns-clause-goes g c =
    let goes = c.go_on.ensures.goes in
    record {
      may = goes.may;
      live = λ o. let call = goes.live o in record {
        step = record {
          answers = call.step.answers;
          gave = call.step.gave;
          returned = call.step.returned;
          idle = call.step.idle;
          rules = call.step.rules;
          does = call.step.does;
        };
        ended = call.ended;
        idle = call.idle;
        rests = call.rests;
      };
      ended = goes.ended;
    }
