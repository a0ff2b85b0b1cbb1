-- One more table goes on above the last one, or does not.
use Rattle.std.proofs.Common.{◌∙◌, sym, ap, arith, None, Some, drop, ◌+◌}
use Rattle.std.specs.Prelude.{map}
use Rattle.std.specs.Option.{option_copied}
use Rattle.lsm_sorted.proofs.RunLemmas.{goes_on, stops, ended, ascends_from_first, ascends_after}
use Rattle.lsm_sorted.proofs.version.run.Run.is_in_order.Goals as goal

pub loop-table-init : goal.loop-table-init
loop-table-init g c =
    ap (λ ts. ascends_after None (map g.T.Ranged.range ts)) (sym (c.deref-table-items.ensures.value ∙ c.self.view_is))

pub loop-table-preserved : goal.loop-table-preserved
loop-table-preserved g c =
    c.loop-table.invariant
    ∙ goes_on g.T.Ranged.range (option_copied c.loop-table.last) c.deref-table-items.result.now c.loop-table.table-index c.table-item.result c.key_range-range.result.now c.goes_on.result
    (omega arith) c.table-item.is c.key_range-range.ensures c.goes_on.ensures c.if-not-goes_on.false
    ∙ ap (λ k. ascends_after (Some k) (map g.T.Ranged.range (drop (c.loop-table.table-index + 1) c.deref-table-items.result.now))) (sym c.max.ensures)

pub returns-then-not-goes_on : goal.returns-then-not-goes_on
returns-then-not-goes_on g c =
    sym (sym (ascends_from_first (map g.T.Ranged.range c.args.self.now)) ∙ c.loop-table.invariant
    ∙ stops g.T.Ranged.range (option_copied c.loop-table.last) c.deref-table-items.result.now c.loop-table.table-index c.table-item.result c.key_range-range.result.now c.goes_on.result
    (omega arith) c.table-item.is c.key_range-range.ensures c.goes_on.ensures c.if-not-goes_on.true)

pub returns : goal.returns
returns g c =
    sym (sym (ascends_from_first (map g.T.Ranged.range c.args.self.now)) ∙ c.loop-table.invariant
    ∙ ended g.T.Ranged.range (option_copied c.loop-table.last) c.deref-table-items.result.now c.loop-table.table-index (omega arith))
