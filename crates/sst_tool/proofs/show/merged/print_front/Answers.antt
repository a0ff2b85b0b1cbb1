use Rattle.std.proofs.Common.{ℕ, arith, subst}
use Rattle.std.specs.Prelude.{Ok, Option}
use Rattle.sst_entries.proofs.StreamLemmas.{can_front, can_now}
use Rattle.sst_tool.proofs.MergedLemmas.{ShowsStep, entries_end, entry_more, entry_shown, error_shown}
use Rattle.sst_tool.proofs.MergedLemmas.{error_unnamed, most_read}
use Rattle.sst_tool.proofs.show.merged.print_front.Goals as goal

pub print_next-requires : goal.print_next-requires
print_next-requires g c = can_now _ _ _ _ c.loop-left.source c.loop-left.invariant.can

pub returns-in_err-count-clause-unnamed : goal.returns-in_err-count-clause-unnamed
returns-in_err-count-clause-unnamed g c =
    error_unnamed g.L.Lending.advances c.loop-left.source c.print_next.new.source
    c.from_residual.result c.in_err-count.field-0.0 c.from_residual.ensures.1
    c.in_err-count.ensures.shows

pub returns-in_err-count-clause-prints : goal.returns-in_err-count-clause-prints
returns-in_err-count-clause-prints g c stops rs yields =
    error_shown g.L.Lending.advances c.loop-left.source c.print_next.new.source stops c.args.most rs
    c.loop-left.left c.from_residual.result c.in_err-count.field-0.0 c.from_residual.ensures.1
    c.in_err-count.ensures.shows (c.loop-left.invariant.prints stops rs yields)

pub returns-in_default-clause-prints : goal.returns-in_default-clause-prints
returns-in_default-clause-prints g c stops rs yields =
    let one = subst (λ (o : Option ℕ). ShowsStep g.L.Lending.advances c.loop-left.source
    c.print_next.new.source (Ok o)) c.in_default.is c.in_ok-count.ensures.shows in (
      entries_end g.L.Lending.advances c.loop-left.source c.print_next.new.source stops c.args.most rs
          c.loop-left.left one (c.loop-left.invariant.prints stops rs yields),
      tt,
    )

pub loop-left-preserved : goal.loop-left-preserved
loop-left-preserved g c =
    let one = subst (λ (o : Option ℕ). ShowsStep g.L.Lending.advances c.loop-left.source
    c.print_next.new.source (Ok o)) c.in-Some.is c.in_ok-count.ensures.shows in
    let e = entry_shown g.L.Lending.advances c.loop-left.source c.print_next.new.source
    c.in-Some.count one in
    record {
      can = can_front _ _ _ _ c.loop-left.source _ c.print_next.new.source
          c.loop-left.invariant.can e.2;
      few = omega (arith, c.loop-left.invariant.few);
      prints = λ stops rs yields. entry_more g.L.Lending.advances c.loop-left.source
          c.print_next.new.source stops c.args.most rs c.loop-left.left c.in-Some.count
          c.loop-left-test.true one (c.loop-left.invariant.prints stops rs yields);
    }

pub returns-clause-prints : goal.returns-clause-prints
returns-clause-prints g c stops rs yields = (
  most_read g.L.Lending.advances stops c.args.most rs c.loop-left.source c.loop-left.left
      c.loop-left-test.false (c.loop-left.invariant.prints stops rs yields),
  tt,
)
