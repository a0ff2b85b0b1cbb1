use Rattle.std.proofs.Common.{List, ℕ, subst}
use Rattle.std.specs.declared.ops.Bound.{Bound}
use Rattle.std.specs.declared.ops.Bound.TheVariants.{Unbounded}
use Rattle.lsm_readers.specs.Ranges.{IsRangeOf}
use Rattle.lsm_readers.proofs.Steps.{beside_first, beside_is}
use Rattle.lsm_readers.proofs.TableRanges.{list_yields, list_lends, list_lends_few, list_loads, table_yields, table_lends}
use Rattle.lsm_readers.proofs.table.Table.range.Goals as goal

pub returns-clause-is : goal.returns-clause-is
returns-clause-is g c =
    let t = c.args.self.now in
    let call = c.unbounded in
    let arm = c.in_ok-lower in
    let bounds : Bound (List ℕ) × Bound (List ℕ) = (c.args.lower, c.args.upper) in
    let kept : Bound (List ℕ) × Bound (List ℕ) = (arm.lower, arm.upper) in
    let whole = beside_is _ _ bounds call.result kept arm.iter call.ensures.is arm.ensures.both in
    let set = c.set_upper.ensures t arm.lower (c.set_lower.ensures t Unbounded whole) in
    subst (λ (b : Bound (List ℕ) × Bound (List ℕ)). IsRangeOf t b.0 b.1 c.set_upper.new.iter) (beside_first bounds call.result kept arm.iter arm.ensures.both) set

pub returns-clause-yields : goal.returns-clause-yields
returns-clause-yields g c = table_yields c.args.self.now c.args.lower c.args.upper c.set_upper.new.iter (returns-clause-is g c)

pub returns-clause-list : goal.returns-clause-list
returns-clause-list g c es is =
    let arm = c.in_ok-lower in
    let held = beside_is _ _ (c.args.lower, c.args.upper) c.unbounded.result (arm.lower, arm.upper) arm.iter c.unbounded.ensures.open arm.ensures.both in
    list_yields c.args.self.now c.args.lower c.args.upper c.set_upper.new.iter (returns-clause-is g c) held es is

pub returns-clause-few : goal.returns-clause-few
returns-clause-few g c es is =
    let arm = c.in_ok-lower in
    let held = beside_is _ _ (c.args.lower, c.args.upper) c.unbounded.result (arm.lower, arm.upper) arm.iter c.unbounded.ensures.open arm.ensures.both in
    list_loads c.args.self.now c.args.lower c.args.upper c.set_upper.new.iter (returns-clause-is g c) held es is

pub returns-clause-lends : goal.returns-clause-lends
returns-clause-lends g c = table_lends c.args.self.now c.args.lower c.args.upper c.set_upper.new.iter (returns-clause-is g c)

pub returns-clause-lends_list : goal.returns-clause-lends_list
returns-clause-lends_list g c es is =
    let arm = c.in_ok-lower in
    let held = beside_is _ _ (c.args.lower, c.args.upper) c.unbounded.result (arm.lower, arm.upper) arm.iter c.unbounded.ensures.open arm.ensures.both in
    list_lends c.args.self.now c.args.lower c.args.upper c.set_upper.new.iter (returns-clause-is g c) held es is

pub returns-clause-lends_few : goal.returns-clause-lends_few
returns-clause-lends_few g c es is =
    let arm = c.in_ok-lower in
    let held = beside_is _ _ (c.args.lower, c.args.upper) c.unbounded.result (arm.lower, arm.upper) arm.iter c.unbounded.ensures.open arm.ensures.both in
    list_lends_few c.args.self.now c.args.lower c.args.upper c.set_upper.new.iter (returns-clause-is g c) held es is
