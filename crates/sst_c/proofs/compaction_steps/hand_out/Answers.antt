use Rattle.std.proofs.Common.{refl, sym}
use Rattle.sst_c.proofs.Asking.{same_source}
use Rattle.sst_c.proofs.compaction_steps.hand_out.Goals as goal

-- what is left is none after a code, and else the compaction after the call
pub returns-then-code-ne0-clause-hands : goal.returns-then-code-ne0-clause-hands
returns-then-code-ne0-clause-hands c s same =
    let one = same_source c.args.compaction.now c.in-Some.source s c.in-Some.is same in
    rw (sym one) (record {
      taken = c.take_next-taken.result;
      after = c.take_next-taken.new.self;
      call = c.take_next-taken.ensures;
      reports = c.tell_taken-code.ensures.returned;
      goes = λ zero. absurd (c.if-code-ne0.true zero);
      ends = λ other. c.give_up.ensures;
    })

pub returns-else-code-ne0-clause-hands : goal.returns-else-code-ne0-clause-hands
returns-else-code-ne0-clause-hands c s same =
    let one = same_source c.args.compaction.now c.in-Some.source s c.in-Some.is same in
    rw (sym one) (record {
      taken = c.take_next-taken.result;
      after = c.take_next-taken.new.self;
      call = c.take_next-taken.ensures;
      reports = c.tell_taken-code.ensures.returned;
      goes = λ zero. refl;
      ends = λ other. absurd (other c.if-code-ne0.false);
    })
