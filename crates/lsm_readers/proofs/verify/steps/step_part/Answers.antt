use Rattle.std.proofs.Common.{drop}
use Rattle.lsm_readers.proofs.Verifications.{at_none}
use Rattle.lsm_readers.proofs.VerifyEarly.{some_first}
use Rattle.lsm_readers.proofs.VerifyReads.{next_is}
use Rattle.lsm_readers.proofs.verify.steps.step_part.Goals as goal

pub returns-in-None-clause-none : goal.returns-in-None-clause-none
returns-in-None-clause-none g c =
    let none = at_none _ c.next.result c.next.ensures.none c.in-None.is in
    (none, none)

pub returns-in_err-handles-clause-calm : goal.returns-in_err-handles-clause-calm
returns-in_err-handles-clause-calm g c = λ none.
    let tops = c.args.tops.now in
    let next = c.in-Some.next in
    let first = next_is next.0.now tops next.1 c.in-Some.ensures.within c.in-Some.ensures.some in
    absurd (some_first tops first.0 (drop 1 tops) first.2 none)
