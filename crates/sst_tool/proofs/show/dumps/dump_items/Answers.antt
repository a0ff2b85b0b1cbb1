use Rattle.std.proofs.Common.{◌≡◌, refl, true}
use Rattle.std.specs.Prelude.{Err, Ok, Some}
use Rattle.sst_entries.specs.Error.{is_memory}
use Rattle.sst_entries.specs.Stream.{ok_results}
use Rattle.sst_entries.proofs.StreamLemmas.{can_now, can_now_back}
use Rattle.sst_tool.specs.show.Failures.{FailsAs, NamesNone}
use Rattle.sst_tool.specs.show.Read.{dumped, first_error}
use Rattle.sst_tool.proofs.DumpLemmas.{end_shown, entry_shown, error_is_memory, error_shown}
use Rattle.sst_tool.proofs.DumpLemmas.{may_go_on, none_fails, shows_all, shows_end, shows_none}
use Rattle.sst_tool.proofs.DumpLemmas.{shows_one}
use Rattle.sst_tool.proofs.EndingLemmas.{comes_error, comes_none, comes_one, ends_up}
use Rattle.sst_tool.proofs.show.dumps.dump_items.Goals as goal

pub loop-left-init : goal.loop-left-init
loop-left-init g c = (
  c.requires.can,
  λ stops rs yields. shows_none _ _ stops c.args.items c.args.options.now.reverse c.args.most rs yields,
  λ rs yields. comes_none _ _ c.args.items c.args.options.now.reverse c.args.most rs
      (ends_up _ _ _ _ c.args.items rs yields),
)

pub print_item-requires-clause-can : goal.print_item-requires-clause-can
print_item-requires-clause-can g c = can_now _ _ _ _ c.loop-left.items c.loop-left.invariant.0

pub print_item-requires-clause-can_back : goal.print_item-requires-clause-can_back
print_item-requires-clause-can_back g c =
    can_now_back _ _ _ _ c.loop-left.items c.loop-left.invariant.0

pub loop-left-preserved : goal.loop-left-preserved
loop-left-preserved g c =
    let one = entry_shown g.I.Lending.advances g.I.DoubleEndedIterator.next_back_gives
    c.loop-left.items c.print_item.new.items c.args.options.now.reverse
    c.in_ok-print_item.field-0 c.if-not-branch.false c.in_ok-print_item.ensures in (
      may_go_on _ _ _ _ c.loop-left.items c.print_item.new.items c.args.options.now.reverse
          (Some (Ok one.0)) c.loop-left.invariant.0 one.1.at_front one.1.at_back,
      λ stops rs yields. shows_one _ _ stops c.loop-left.items c.print_item.new.items
          c.args.options.now.reverse c.loop-left.left _ one.0 _ c.loop-left-test.true
          (c.loop-left.invariant.1 stops rs yields) one.1.at_front one.1.at_back,
      λ rs yields. comes_one _ _ c.loop-left.items c.print_item.new.items
          c.args.options.now.reverse c.loop-left.left (Ok one.0) one.0 _ c.loop-left-test.true refl
          (c.loop-left.invariant.2 rs yields) one.1.at_front one.1.at_back,
    )

pub returns-then-not-branch-clause-returned : goal.returns-then-not-branch-clause-returned
returns-then-not-branch-clause-returned g c = λ rs yields.
    let end = end_shown g.I.Lending.advances g.I.DoubleEndedIterator.next_back_gives
    c.loop-left.items c.print_item.new.items c.args.options.now.reverse
    c.in_ok-print_item.field-0 c.if-not-branch.true c.in_ok-print_item.ensures in
    (shows_all _ _ (λ _. true) c.loop-left.items c.print_item.new.items
    c.args.options.now.reverse c.loop-left.left _ _
    (c.loop-left.invariant.1 (λ _. true) rs yields) end.at_front end.at_back).0

pub returns-then-not-branch-clause-left : goal.returns-then-not-branch-clause-left
returns-then-not-branch-clause-left g c = λ rs yields.
    let end = end_shown g.I.Lending.advances g.I.DoubleEndedIterator.next_back_gives
    c.loop-left.items c.print_item.new.items c.args.options.now.reverse
    c.in_ok-print_item.field-0 c.if-not-branch.true c.in_ok-print_item.ensures in
    (shows_all _ _ (λ _. true) c.loop-left.items c.print_item.new.items
    c.args.options.now.reverse c.loop-left.left _ _
    (c.loop-left.invariant.1 (λ _. true) rs yields) end.at_front end.at_back).1

pub returns-clause-returned : goal.returns-clause-returned
returns-clause-returned g c = λ rs yields.
    (shows_end _ _ (λ _. true) c.loop-left.items c.args.options.now.reverse c.loop-left.left _ _
    c.loop-left-test.false (c.loop-left.invariant.1 (λ _. true) rs yields)).0

pub returns-clause-left : goal.returns-clause-left
returns-clause-left g c = λ rs yields.
    (shows_end _ _ (λ _. true) c.loop-left.items c.args.options.now.reverse c.loop-left.left _ _
    c.loop-left-test.false (c.loop-left.invariant.1 (λ _. true) rs yields)).1

pub returns-in_err-print_item-clause-sound : goal.returns-in_err-print_item-clause-sound
returns-in_err-print_item-clause-sound g c = λ es yields.
    error_shown g.I.Lending.advances g.I.DoubleEndedIterator.next_back_gives c.loop-left.items
    c.print_item.new.items c.args.options.now.reverse c.from_residual.result
    c.in_err-print_item.field-0.0 NamesNone c.from_residual.ensures.1 (λ none. none)
    (λ e gave. error_is_memory _ _ c.loop-left.items c.print_item.new.items
    c.args.options.now.reverse c.loop-left.left _ e es c.loop-left-test.true
    (c.loop-left.invariant.1 is_memory (ok_results es) (yields is_memory refl))
    gave.at_front gave.at_back)
    c.in_err-print_item.ensures

pub returns-in_err-print_item-clause-refused : goal.returns-in_err-print_item-clause-refused
returns-in_err-print_item-clause-refused g c = λ rs yields.
    let f = c.in_err-print_item.field-0.0 in
    let read = dumped c.args.options.now.reverse c.args.most rs in
    error_shown g.I.Lending.advances g.I.DoubleEndedIterator.next_back_gives c.loop-left.items
    c.print_item.new.items c.args.options.now.reverse c.from_residual.result f
    (FailsAs (λ e. first_error read ≡ Some e)) c.from_residual.ensures.1
    (none_fails f (λ e. first_error read ≡ Some e))
    (λ e gave other. comes_error _ _ c.loop-left.items c.print_item.new.items
    c.args.options.now.reverse c.loop-left.left (Err e) e read c.loop-left-test.true refl other
    (c.loop-left.invariant.2 rs yields) gave.at_front gave.at_back)
    c.in_err-print_item.ensures
