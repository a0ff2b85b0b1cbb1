use Rattle.std.proofs.Common.{refl, arith}
use Rattle.sst_entries.specs.Stream.{front_of}
use Rattle.sst_blocks.proofs.SpanLemmas.{gives_front, gives_refusal}
use Rattle.lsm_iters.proofs.block_index.iter.OwnedIndexBlockIterIterator.next.Goals as goal

pub returns-in-Ok-clause-steps : goal.returns-in-Ok-clause-steps
returns-in-Ok-clause-steps g c =
    rw (← c.self.view_is) (gives_front (record { list = c.self.inside.block; from = c.self.inside.from; to = c.self.inside.to }) c.in-Ok.handle (omega arith) c.in-Ok.ensures.found)

pub returns-in-Err-clause-steps : goal.returns-in-Err-clause-steps
returns-in-Err-clause-steps g c =
    rw (← c.self.view_is) (gives_refusal front_of (record { list = c.self.inside.block; from = c.self.inside.from; to = c.self.inside.to }) (record { list = c.self.inside.block; from = c.self.inside.to; to = c.self.inside.to }) c.in-Err.refusal (omega arith) c.self.invariant c.in-Err.ensures.err refl (omega arith))
