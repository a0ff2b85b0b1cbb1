use Rattle.std.proofs.Common.{sym, subst}
use Rattle.sst_blocks.specs.Sections.{body_of}
use Rattle.lsm_iters.specs.block_index.Left.{IsEnded, OnDemand, on_demand_left}
use Rattle.lsm_iters.proofs.Sought.{demand_lower, demand_over}
use Rattle.lsm_iters.proofs.block_index.volatile.Iter.keep_lower.Goals as goal

pub returns-clause-sought : goal.returns-clause-sought
returns-clause-sought g c upper was =
    let s : OnDemand = record { body = body_of c.self.inside.source; place = c.self.inside.handle; lower = c.self.inside.edges.0; upper = c.self.inside.edges.1; part = c.self.inside.part; opened = c.self.inside.opened } in
    demand_lower s c.set_lower.new.self (c.args.key, c.args.seqno) upper c.set_lower.ensures (rw (← c.self.view_is) at was)

pub returns-clause-over : goal.returns-clause-over
returns-clause-over g c over =
    let s : OnDemand = record { body = body_of c.self.inside.source; place = c.self.inside.handle; lower = c.self.inside.edges.0; upper = c.self.inside.edges.1; part = c.self.inside.part; opened = c.self.inside.opened } in
    demand_over s c.set_lower.new.self (subst (λ (x : OnDemand). IsEnded (on_demand_left x)) (sym c.self.view_is) over)
