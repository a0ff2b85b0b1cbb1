use Rattle.std.specs.Prelude.{Option, Some, Err}
use Rattle.std.proofs.Common.{List, sym, subst}
use Rattle.sst_blocks.specs.Handle.{Handle}
use Rattle.sst_blocks.specs.Sections.{body_of}
use Rattle.sst_entries.proofs.Lists.{none_of}
use Rattle.lsm_iters.specs.block_index.Left.{OnDemand, OnDemandGives}
use Rattle.lsm_iters.specs.block_index.Seen.{TakesPlace}
use Rattle.lsm_iters.specs.walk.Ends.{taken_at}
use Rattle.lsm_iters.proofs.Taken.{demand_place, demand_place_fault, demand_place_first}
use Rattle.lsm_iters.proofs.block_index.volatile.Iter.take_place.Goals as goal

pub returns-in-Some : goal.returns-in-Some
returns-in-Some g c =
    let s : OnDemand = record { body = body_of c.self.inside.source; place = c.self.inside.handle; lower = c.self.inside.edges.0; upper = c.self.inside.edges.1; part = c.self.inside.part; opened = c.self.inside.opened } in
    subst (λ (x : OnDemand). TakesPlace (OnDemandGives (taken_at c.args.at)) x c.take_place.result (record s { part = Some c.take_place.new.self })) c.self.view_is (demand_place c.args.at s c.in-Some.part c.take_place.new.self c.take_place.result c.in-Some.is c.take_place.ensures)

pub returns-in-Ok : goal.returns-in-Ok
returns-in-Ok g c =
    let s : OnDemand = record { body = body_of c.self.inside.source; place = c.self.inside.handle; lower = c.self.inside.edges.0; upper = c.self.inside.edges.1; part = c.self.inside.part; opened = c.self.inside.opened } in
    let took = demand_place_first c.args.at s c.in-Ok.part c.take_place-place.new.self c.take_place-place.result c.load_part.new.opened (none_of c.self.inside.part c.in_default.not-Some) c.in-Ok.ensures.counted c.in-Ok.ensures.ok c.in-Ok.ensures.first c.take_place-place.ensures in
    let after = subst (λ (part : Option (List Handle)). TakesPlace (OnDemandGives (taken_at c.args.at)) s c.take_place-place.result (record s { part = part; opened = c.load_part.new.opened })) (sym c.replace.ensures.after) took in
    subst (λ (x : OnDemand). TakesPlace (OnDemandGives (taken_at c.args.at)) x c.take_place-place.result (record s { part = c.replace.new.self; opened = c.load_part.new.opened })) c.self.view_is after

pub returns-in-Err : goal.returns-in-Err
returns-in-Err g c =
    let s : OnDemand = record { body = body_of c.self.inside.source; place = c.self.inside.handle; lower = c.self.inside.edges.0; upper = c.self.inside.edges.1; part = c.self.inside.part; opened = c.self.inside.opened } in
    let took = demand_place_fault c.args.at s c.in-Err.error c.load_part.new.opened (none_of c.self.inside.part c.in_default.not-Some) c.in-Err.ensures.counted c.in-Err.ensures.err c.in-Err.ensures.first in
    let after = subst (λ (x : OnDemand). TakesPlace (OnDemandGives (taken_at c.args.at)) s (Some (Err c.in-Err.error)) x) (sym c.end.ensures) took in
    subst (λ (x : OnDemand). TakesPlace (OnDemandGives (taken_at c.args.at)) x (Some (Err c.in-Err.error)) c.end.new.self) c.self.view_is after
