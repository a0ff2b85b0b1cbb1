use Rattle.std.proofs.Common.{◌<◌, ◌+◌, ◌++◌, ◌∷◌, [], length, arith}
use Rattle.std.proofs.lemmas.List.{take_more}
use Rattle.sst_entries.specs.declared.stream.Direction.TheVariants.{Front}
use Rattle.sst_entries.proofs.StreamLemmas.{on_err, runs_more}
use Rattle.sst_entries.proofs.stream.answers_at.Goals as goal

pub loop-end-preserved : goal.loop-end-preserved
loop-end-preserved g c =
    let below : c.loop-end.end-index < length c.args.ends.now = omega arith in
    let d = c.answer_at-answer.ensures.steps in
    record {
      can = c.answer_at-answer.ensures.can;
      ran = rw (take_more c.args.ends.now c.loop-end.end-index Front below, c.in_ok-push.ensures.items) (runs_more _ _ _ _ _ _ d _ _ _ c.loop-end.invariant.ran);
    }

pub returns-in_err-push-clause-refused : goal.returns-in_err-push-clause-refused
returns-in_err-push-clause-refused g c =
    let below : c.loop-end.end-index < length c.args.ends.now = omega arith in
    let d = c.answer_at-answer.ensures.steps in
    on_err c.from_residual.result (record {
      asked = c.loop-end.end-index + 1;
      answers = c.loop-end.answers.items ++ c.answer_at-answer.result ∷ [];
      ran = rw (take_more c.args.ends.now c.loop-end.end-index Front below) (runs_more _ _ _ _ _ _ d _ _ _ c.loop-end.invariant.ran);
    })
