use Rattle.std.proofs.Common.{subst, sym}
use Rattle.lsm_writers.specs.Writing.{IsFresh}
use Rattle.lsm_writers.proofs.Beginning.{goes_on_anew, held_anew}
use Rattle.lsm_writers.proofs.Filtered.{filtered_anew, fresh_list}
use Rattle.lsm_writers.proofs.writer.Writer.with_options.Goals as goal

pub invariant_of-self : goal.invariant_of-self
invariant_of-self g c =
    let fresh = subst IsFresh (sym c.self.view_is) c.requires.fresh in
    let none = fresh_list _ c.args.self c.self.view_is c.requires.fresh in
    let size = c.args.options.data_block_size in (
      held_anew _ size _ _ _ _ fresh.0 fresh.1 c.self.invariant.0,
      goes_on_anew _ _ size _ _ fresh.1 c.self.invariant.1,
      c.self.invariant.2,
      filtered_anew _ _ _ _ _ _ _ none c.self.invariant.3 c.requires.small,
    )
