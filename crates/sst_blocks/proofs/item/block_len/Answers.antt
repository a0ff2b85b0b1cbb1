use Rattle.std.proofs.Common.{◌≡◌, arith}
use Rattle.sst_blocks.specs.Bounds.{bound_of}
use Rattle.sst_blocks.proofs.Faults.{fault_at, no_fault, no_fault_at, passed_on, too_large}
use Rattle.sst_blocks.proofs.Grown.{all_fit, all_summed, one_more_fits, one_more_summed}
use Rattle.sst_blocks.proofs.item.block_len.Goals as goal

pub loop-item-preserved : goal.loop-item-preserved
loop-item-preserved g c =
    let item = c.item-item.result in
    let lt = c.loop-item-test.true in
    record {
      fine = no_fault_at g.T.Item.fault_or g.T.Item.bound _ _ item c.loop-item.invariant.fine lt c.item-item.is c.in_ok-test.ensures.fine;
      short = one_more_fits g.T.Item.Short _ _ item lt c.item-item.is c.loop-item.invariant.short c.in_ok-test.ensures.short;
      sum = one_more_summed g.T.Item.bound 28 _ _ item _ _ lt c.item-item.is c.loop-item.invariant.sum c.added_to-bound.ensures;
    }

pub returns-in_err-test-clause-refused : goal.returns-in_err-test-clause-refused
returns-in_err-test-clause-refused g c =
    let returned = fault_at g.T.Item.fault_or g.T.Item.bound c.args.items.now _ c.item-item.result c.in_err-test.field-0.0 c.loop-item.invariant.fine c.loop-item-test.true c.item-item.is c.in_err-test.ensures.refused in
    passed_on c.from_residual.result c.in_err-test.field-0.0 _ c.from_residual.ensures.1 returned

pub returns-then-bound-from-clause-refused : goal.returns-then-bound-from-clause-refused
returns-then-bound-from-clause-refused g c =
    let items = c.args.items.now in
    let sum : c.loop-item.bound ≡ bound_of g.T.Item.bound items = all_summed g.T.Item.bound 28 items _ _ c.loop-item-test.false c.loop-item.invariant.sum in
    too_large g.T.Item.fault_or g.T.Item.bound items _ c.loop-item.invariant.fine c.loop-item-test.false (omega (arith, sum, c.from.ensures, c.if-bound-from.true))

pub returns-clause-len : goal.returns-clause-len
returns-clause-len g c =
    let items = c.args.items.now in
    let sum : c.loop-item.bound ≡ bound_of g.T.Item.bound items = all_summed g.T.Item.bound 28 items _ _ c.loop-item-test.false c.loop-item.invariant.sum in
    (sum, omega (arith, c.from.ensures, c.if-bound-from.false))

pub returns-clause-short : goal.returns-clause-short
returns-clause-short g c = all_fit g.T.Item.Short _ _ c.loop-item-test.false c.loop-item.invariant.short

pub returns-clause-refused : goal.returns-clause-refused
returns-clause-refused g c =
    let items = c.args.items.now in
    let sum : c.loop-item.bound ≡ bound_of g.T.Item.bound items = all_summed g.T.Item.bound 28 items _ _ c.loop-item-test.false c.loop-item.invariant.sum in
    no_fault g.T.Item.fault_or g.T.Item.bound items _ c.loop-item.invariant.fine c.loop-item-test.false (omega (arith, sum, c.from.ensures, c.if-bound-from.false))
