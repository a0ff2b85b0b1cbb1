use Rattle.lsm_writers.proofs.Turning.{fresh_present, goes_on_with, none_held_with}
use Rattle.lsm_writers.proofs.multi_writer.MultiWriter.with_options.Goals as goal

pub with_options-requires-clause-fresh : goal.with_options-requires-clause-fresh
with_options-requires-clause-fresh g c =
    let i = c.self.inside in
    fresh_present i.target_size i.ids i.finished.items i.writer i.failed c.args.self c.self.view_is c.requires.fresh

pub invariant_of-self : goal.invariant_of-self
invariant_of-self g c =
    let i = c.self.inside in (
      none_held_with i.target_size i.ids i.finished.items i.writer i.failed c.args.self c.self.view_is c.requires.fresh c.with_options.result,
      goes_on_with i.target_size i.ids i.finished.items i.writer i.failed c.args.self c.self.view_is c.requires.fresh c.with_options.result _ c.self.invariant.1 c.with_options.ensures,
    )
