use Rattle.std.proofs.Common.{refl}
use Rattle.sst_blocks.specs.Sections.{body_of}
use Rattle.sst_entries.specs.Stream.{back_of}
use Rattle.sst_entries.proofs.Lists.{none_of}
use Rattle.lsm_iters.specs.block_index.Left.{OnDemand, on_demand_left}
use Rattle.lsm_iters.proofs.IndexAtEnds.{carries_back}
use Rattle.lsm_iters.proofs.Going.{progress, back_shortens}
use Rattle.lsm_iters.proofs.OnDemands.{demand_item, demand_first, demand_fault}
use Rattle.lsm_iters.proofs.block_index.volatile.IterDoubleEndedIterator.next_back.Goals as goal

pub returns-in-Some-clause-steps : goal.returns-in-Some-clause-steps
returns-in-Some-clause-steps g c =
    let s : OnDemand = record { body = body_of c.self.inside.source; place = c.self.inside.handle; lower = c.self.inside.edges.0; upper = c.self.inside.edges.1; part = c.self.inside.part; opened = c.self.inside.opened } in
    rw (← c.self.view_is) (demand_item back_of back_of carries_back s c.in-Some.part c.next_back.new.self c.next_back.result c.in-Some.is c.next_back.ensures)

pub returns-in-Ok-clause-steps : goal.returns-in-Ok-clause-steps
returns-in-Ok-clause-steps g c =
    let s : OnDemand = record { body = body_of c.self.inside.source; place = c.self.inside.handle; lower = c.self.inside.edges.0; upper = c.self.inside.edges.1; part = c.self.inside.part; opened = c.self.inside.opened } in
    rw (← c.self.view_is, c.replace.ensures.after) (demand_first back_of back_of carries_back s c.in-Ok.part c.next_back-item.new.self c.next_back-item.result c.load_part.new.opened (none_of c.self.inside.part c.in_default.not-Some) c.in-Ok.ensures.counted c.in-Ok.ensures.ok c.in-Ok.ensures.first c.next_back-item.ensures)

pub returns-in-Err-clause-steps : goal.returns-in-Err-clause-steps
returns-in-Err-clause-steps g c =
    let s : OnDemand = record { body = body_of c.self.inside.source; place = c.self.inside.handle; lower = c.self.inside.edges.0; upper = c.self.inside.edges.1; part = c.self.inside.part; opened = c.self.inside.opened } in
    rw (← c.self.view_is, c.end.ensures) (demand_fault back_of (λ e. refl) s c.in-Err.error c.load_part.new.opened (none_of c.self.inside.part c.in_default.not-Some) c.in-Err.ensures.counted c.in-Err.ensures.err c.in-Err.ensures.first)

pub returns-in-Some-clause-goes : goal.returns-in-Some-clause-goes
returns-in-Some-clause-goes g c = progress on_demand_left back_of back_shortens _ _ _ (returns-in-Some-clause-steps g c).gives

pub returns-in-Ok-clause-goes : goal.returns-in-Ok-clause-goes
returns-in-Ok-clause-goes g c = progress on_demand_left back_of back_shortens _ _ _ (returns-in-Ok-clause-steps g c).gives

pub returns-in-Err-clause-goes : goal.returns-in-Err-clause-goes
returns-in-Err-clause-goes g c = progress on_demand_left back_of back_shortens _ _ _ (returns-in-Err-clause-steps g c).gives
