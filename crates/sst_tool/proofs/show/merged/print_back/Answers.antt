use Rattle.std.proofs.Common.{◌<◌, ℕ, arith, subst}
use Rattle.std.specs.Prelude.{IfSome, Ok, Option}
use Rattle.std.specs.Iterator.{IsFinite, size}
use Rattle.sst_entries.proofs.StreamLemmas.{can_after_back, can_now_back}
use Rattle.sst_tool.proofs.MergedLemmas.{ShowsStep, entries_end, entry_more, entry_shown, error_shown}
use Rattle.sst_tool.proofs.MergedLemmas.{error_unnamed, most_read}
use Rattle.sst_tool.proofs.show.merged.print_back.Goals as goal

pub print_last-requires : goal.print_last-requires
print_last-requires g c = can_now_back _ _ _ _ c.loop-left.items c.loop-left.invariant.can

pub returns-in_err-count-clause-unnamed : goal.returns-in_err-count-clause-unnamed
returns-in_err-count-clause-unnamed g c =
    error_unnamed g.I.DoubleEndedIterator.next_back_gives c.loop-left.items c.print_last.new.items
    c.from_residual.result c.in_err-count.field-0.0 c.from_residual.ensures.1
    c.in_err-count.ensures.shows

pub returns-in_err-count-clause-prints : goal.returns-in_err-count-clause-prints
returns-in_err-count-clause-prints g c stops rs yields =
    error_shown g.I.DoubleEndedIterator.next_back_gives c.loop-left.items c.print_last.new.items stops c.args.most rs
    c.loop-left.left c.from_residual.result c.in_err-count.field-0.0 c.from_residual.ensures.1
    c.in_err-count.ensures.shows (c.loop-left.invariant.prints stops rs yields)

pub returns-in_default-clause-prints : goal.returns-in_default-clause-prints
returns-in_default-clause-prints g c stops rs yields =
    let one = subst (λ (o : Option ℕ). ShowsStep g.I.DoubleEndedIterator.next_back_gives c.loop-left.items
    c.print_last.new.items (Ok o)) c.in_default.is c.in_ok-count.ensures.shows in (
      entries_end g.I.DoubleEndedIterator.next_back_gives c.loop-left.items c.print_last.new.items stops c.args.most rs
          c.loop-left.left one (c.loop-left.invariant.prints stops rs yields),
      tt,
    )

pub loop-left-preserved : goal.loop-left-preserved
loop-left-preserved g c =
    let one = subst (λ (o : Option ℕ). ShowsStep g.I.DoubleEndedIterator.next_back_gives c.loop-left.items
    c.print_last.new.items (Ok o)) c.in-Some.is c.in_ok-count.ensures.shows in
    let e = entry_shown g.I.DoubleEndedIterator.next_back_gives c.loop-left.items c.print_last.new.items
    c.in-Some.count one in
    record {
      can = can_after_back _ _ _ _ c.loop-left.items _ c.print_last.new.items
          c.loop-left.invariant.can e.2;
      finite = (subst (λ (o : Option ℕ). IfSome o (λ _. IsFinite (g.I.Iterator.remaining c.print_last.new.items)
          × (size (g.I.Iterator.remaining c.print_last.new.items)
          < size (g.I.Iterator.remaining c.loop-left.items)))) c.in-Some.is
          (c.in_ok-count.ensures.lowers c.loop-left.invariant.finite)).0;
      few = omega (arith, c.loop-left.invariant.few);
      prints = λ stops rs yields. entry_more g.I.DoubleEndedIterator.next_back_gives c.loop-left.items
          c.print_last.new.items stops c.args.most rs c.loop-left.left c.in-Some.count
          c.loop-left-test.true one (c.loop-left.invariant.prints stops rs yields);
    }

pub returns-clause-prints : goal.returns-clause-prints
returns-clause-prints g c stops rs yields = (
  most_read g.I.DoubleEndedIterator.next_back_gives stops c.args.most rs c.loop-left.items c.loop-left.left
      c.loop-left-test.false (c.loop-left.invariant.prints stops rs yields),
  tt,
)
