-- From the last run down, the first that is touched ends the count.
use Rattle.std.proofs.Common.{◌≡◌, ◌-◌, true, sym, subst, arith}
use Rattle.std.specs.Prelude.{map}
use Rattle.lsm_sorted.specs.version.Run.{are_in_order}
use Rattle.lsm_sorted.specs.version.Packing.{touches}
use Rattle.lsm_sorted.proofs.PackLemmas.{count_found, count_past, count_nothing, count_start}
use Rattle.lsm_sorted.proofs.PackLemmas.{order_at}
use Rattle.lsm_sorted.proofs.version.optimize.count_to_last_touched.Goals as goal

pub loop-level-init : goal.loop-level-init
loop-level-init g c ordered = count_start (touches g.T.Ranged.range c.args.range.now) c.args.packed.now

pub returns-then-has_overlap-clause-value : goal.returns-then-has_overlap-clause-value
returns-then-has_overlap-clause-value g c ordered =
    count_found (touches g.T.Ranged.range c.args.range.now) c.args.packed.now c.loop-level.level c.index-packed-level.result c.has_overlap.result c.loop-level-test.true c.loop-level.auto.level c.index-packed-level.is (c.has_overlap.ensures (subst (λ run. are_in_order (map g.T.Ranged.range run) ≡ true) (sym c.index-packed-level.is) (order_at g.T.Ranged.range c.args.packed.now (c.loop-level.level - 1) c.index-packed-level.result (omega arith) ordered))) c.if-has_overlap.true (c.loop-level.invariant ordered)

pub loop-level-preserved : goal.loop-level-preserved
loop-level-preserved g c ordered =
    count_past (touches g.T.Ranged.range c.args.range.now) c.args.packed.now c.loop-level.level c.index-packed-level.result c.has_overlap.result c.loop-level-test.true c.loop-level.auto.level c.index-packed-level.is (c.has_overlap.ensures (subst (λ run. are_in_order (map g.T.Ranged.range run) ≡ true) (sym c.index-packed-level.is) (order_at g.T.Ranged.range c.args.packed.now (c.loop-level.level - 1) c.index-packed-level.result (omega arith) ordered))) c.if-has_overlap.false (c.loop-level.invariant ordered)

pub returns-clause-value : goal.returns-clause-value
returns-clause-value g c ordered = count_nothing (touches g.T.Ranged.range c.args.range.now) c.args.packed.now c.loop-level.level (omega arith) (c.loop-level.invariant ordered)
