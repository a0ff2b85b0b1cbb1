use Rattle.std.proofs.Common.{sym, subst}
use Rattle.sst_blocks.specs.Sections.{body_of}
use Rattle.lsm_iters.specs.block_index.Left.{IsEnded, OnDemand, on_demand_left}
use Rattle.lsm_iters.proofs.Sought.{demand_upper, demand_over}
use Rattle.lsm_iters.proofs.block_index.volatile.Iter.keep_upper.Goals as goal

pub returns-clause-sought : goal.returns-clause-sought
returns-clause-sought g c lower was =
    let s : OnDemand = record { body = body_of c.self.inside.source; place = c.self.inside.handle; lower = c.self.inside.edges.0; upper = c.self.inside.edges.1; part = c.self.inside.part; opened = c.self.inside.opened } in
    demand_upper s c.set_upper.new.self c.args.key lower c.set_upper.ensures (rw (← c.self.view_is) at was)

pub returns-clause-over : goal.returns-clause-over
returns-clause-over g c over =
    let s : OnDemand = record { body = body_of c.self.inside.source; place = c.self.inside.handle; lower = c.self.inside.edges.0; upper = c.self.inside.edges.1; part = c.self.inside.part; opened = c.self.inside.opened } in
    demand_over s c.set_upper.new.self (subst (λ (x : OnDemand). IsEnded (on_demand_left x)) (sym c.self.view_is) over)
