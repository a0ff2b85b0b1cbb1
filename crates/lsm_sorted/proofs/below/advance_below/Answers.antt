use Rattle.std.proofs.Common.{sym, ◌∙◌, arith}
use Rattle.std.proofs.lemmas.Result.{err_from_is_err_and}
use Rattle.sst_entries.specs.Stream.{nowhere}
use Rattle.sst_entries.proofs.StreamLemmas.{can_front, can_now}
use Rattle.lsm_sorted.proofs.LentBelows.{below_entry, below_error, below_none, lowers_fewer, passed_fewer, passed_over}
use Rattle.lsm_sorted.proofs.BelowLemmas.{none_gone}
use Rattle.lsm_sorted.proofs.below.advance_below.Goals as goal

pub loop-source-init : goal.loop-source-init
loop-source-init g c = record { asks = c.requires; before = none_gone c.args.seqno g.L.Lending.advances c.args.source.now; fewer = omega arith }

pub advance-requires : goal.advance-requires
advance-requires g c = can_now g.L.Lending.advances nowhere g.L.Lending.can_advance g.L.Lending.can_advance c.loop-source.source c.loop-source.invariant.asks

pub returns-in_err-advance-clause-goes : goal.returns-in_err-advance-clause-goes
returns-in_err-advance-clause-goes g c =
    let p = err_from_is_err_and c.from_residual.result c.from_residual.ensures.1 in
    let before = c.loop-source.invariant in
    rw (p.1, p.2) (below_error g.L.Lending.advances g.L.Lending.can_advance g.L.Lending.left c.args.seqno c.args.source.now c.loop-source.source c.advance.new.self before.asks before.before c.in_err-advance.field-0.0 c.in_err-advance.ensures.goes)

pub returns-then-is_low-clause-goes : goal.returns-then-is_low-clause-goes
returns-then-is_low-clause-goes g c =
    let before = c.loop-source.invariant in
    let step = c.in_ok-advance.ensures in
    below_entry g.L.Lending.advances g.L.Lending.can_advance g.L.Lending.left c.args.seqno c.args.source.now c.loop-source.source c.advance.new.self before.asks before.before (g.L.Lending.lent c.advance.new.self) step.goes (sym c.is_low.ensures ∙ c.if-is_low.true)

pub returns-then-is_low-clause-lowers : goal.returns-then-is_low-clause-lowers
returns-then-is_low-clause-lowers g c = lowers_fewer (g.L.Lending.lent c.advance.new.self) _ _ _ c.in_ok-advance.ensures.lowers c.loop-source.invariant.fewer

pub loop-source-preserved : goal.loop-source-preserved
loop-source-preserved g c =
    let before = c.loop-source.invariant in
    let step = c.in_ok-advance.ensures in
    let lent = g.L.Lending.lent c.advance.new.self in
    let high = sym c.is_low.ensures ∙ c.if-is_low.false in
    record {
      asks = can_front g.L.Lending.advances nowhere g.L.Lending.can_advance g.L.Lending.can_advance c.loop-source.source _ c.advance.new.self before.asks step.goes;
      before = passed_over g.L.Lending.advances g.L.Lending.can_advance g.L.Lending.left c.args.seqno c.args.source.now c.loop-source.source c.advance.new.self before.asks before.before lent step.goes high;
      fewer = let less = passed_fewer c.args.seqno lent (g.L.Lending.left c.loop-source.source) (g.L.Lending.left c.advance.new.self) high step.lowers in omega (arith, less, before.fewer);
    }

pub loop-source-smaller : goal.loop-source-smaller
loop-source-smaller g c = passed_fewer c.args.seqno (g.L.Lending.lent c.advance.new.self) _ _ (sym c.is_low.ensures ∙ c.if-is_low.false) c.in_ok-advance.ensures.lowers

pub returns-clause-goes : goal.returns-clause-goes
returns-clause-goes g c =
    let before = c.loop-source.invariant in
    let step = c.in_ok-advance.ensures in
    below_none g.L.Lending.advances g.L.Lending.can_advance g.L.Lending.left c.args.seqno c.args.source.now c.loop-source.source c.advance.new.self before.asks before.before (g.L.Lending.lent c.advance.new.self) step.goes (sym step.more ∙ c.if-branch.false)

pub returns-clause-lowers : goal.returns-clause-lowers
returns-clause-lowers g c = lowers_fewer (g.L.Lending.lent c.advance.new.self) _ _ _ c.in_ok-advance.ensures.lowers c.loop-source.invariant.fewer
