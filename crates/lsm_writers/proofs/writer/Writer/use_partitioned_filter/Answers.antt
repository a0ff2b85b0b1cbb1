use Rattle.std.proofs.Common.{arith}
use Rattle.lsm_writers.proofs.Filtered.{filtered_anew, fresh_list}
use Rattle.lsm_writers.proofs.writer.Writer.use_partitioned_filter.Goals as goal

pub invariant_of-self : goal.invariant_of-self
invariant_of-self g c =
    let none = fresh_list _ c.args.self c.self.view_is c.requires in
    (c.self.invariant.0, c.self.invariant.1, c.self.invariant.2, filtered_anew _ _ _ _ _ _ _ none c.self.invariant.3 (omega arith))
