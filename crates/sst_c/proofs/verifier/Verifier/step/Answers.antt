use Rattle.std.proofs.Common.{◌∙◌, ap, subst}
use Rattle.lsm_readers.specs.Verification.{Verifying}
use Rattle.sst_c.specs.Stepwise.{ReportsStep, progress_result}
use Rattle.sst_c.proofs.verifier.Verifier.step.Goals as goal

-- what is told is what the library's step answered
pub returns : goal.returns
returns c =
    let is = c.step-answer.ensures in
    let code = c.tell_answer.result in
    let returned = c.tell_answer.new.returned in
    let left = c.step-answer.new.self in
    subst (λ (v : Verifying). ReportsStep v code c.progress.result returned left) c.self.view_is (
      c.step-answer.result,
      record {
        table = is.table;
        goes = is.goes;
        reads = is.reads;
        sizes = is.sizes;
        ends = is.ends;
        returned = is.returned;
        refused = is.refused;
        next = is.next;
        early = is.early;
        calm = is.calm;
        answered = is.answered;
        unchanged = is.unchanged;
        first = is.first;
        sound = is.sound;
        complete = is.complete;
      },
      c.tell_answer.ensures.code,
      c.tell_answer.ensures.returned,
      c.progress.ensures ∙ ap (progress_result left) c.end_of.ensures,
    )
