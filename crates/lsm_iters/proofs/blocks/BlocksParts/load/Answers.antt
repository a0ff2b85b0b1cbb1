use Rattle.std.proofs.Common.{refl}
use Rattle.sst_blocks.specs.Sections.{body_of}
use Rattle.lsm_iters.specs.Blocks.{Blocks}
use Rattle.lsm_iters.specs.Bounds.{edge_in}
use Rattle.lsm_iters.specs.Rows.{Bounded}
use Rattle.lsm_iters.proofs.Naming.{no_place_taken, place_failed, place_taken}
use Rattle.lsm_iters.proofs.blocks.BlocksParts.load.Goals as goal

pub returns-in-Some-Ok : goal.returns-in-Some-Ok
returns-in-Some-Ok g c =
    let of : Bounded = record { body = body_of c.self.inside.source; global_seqno = c.self.inside.global_seqno; low = edge_in c.self.inside.range.0; high = edge_in c.self.inside.range.1 } in
    let s : Blocks g.row.A.Denot = record { of = of; handles = c.self.inside.index; opened = c.self.inside.opened } in
    let took = rw c.in-Some-Ok.field-0-is at c.in-Some-Ok.ensures.gives in
    let read = c.read.ensures in
    rw (← c.self.view_is) (place_taken c.args.at s (record s { handles = c.take.new.self }) refl c.in-Some-Ok.ensures.sought c.read.new.self c.in-Some-Ok.handle c.read.result took read.ok read.err read.first read.counted)

pub returns-in-Some-Err : goal.returns-in-Some-Err
returns-in-Some-Err g c =
    let of : Bounded = record { body = body_of c.self.inside.source; global_seqno = c.self.inside.global_seqno; low = edge_in c.self.inside.range.0; high = edge_in c.self.inside.range.1 } in
    let s : Blocks g.row.A.Denot = record { of = of; handles = c.self.inside.index; opened = c.self.inside.opened } in
    let took = rw c.in-Some-Err.field-0-is at c.in-Some-Err.ensures.gives in
    rw (← c.self.view_is) (place_failed c.args.at s (record s { handles = c.take.new.self }) refl c.in-Some-Err.ensures.sought c.in-Some-Err.error took)

pub returns-in-None : goal.returns-in-None
returns-in-None g c =
    let of : Bounded = record { body = body_of c.self.inside.source; global_seqno = c.self.inside.global_seqno; low = edge_in c.self.inside.range.0; high = edge_in c.self.inside.range.1 } in
    let s : Blocks g.row.A.Denot = record { of = of; handles = c.self.inside.index; opened = c.self.inside.opened } in
    rw (← c.self.view_is) (no_place_taken c.args.at s (record s { handles = c.take.new.self }) refl c.in-None.ensures.sought c.in-None.ensures.gives)
