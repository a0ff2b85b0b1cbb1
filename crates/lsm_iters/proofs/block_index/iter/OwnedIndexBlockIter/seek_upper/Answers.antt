use Rattle.std.proofs.Common.{◌≡◌, ◌+◌, min, arith}
use Rattle.sst_blocks.specs.Handle.{Handle}
use Rattle.sst_entries.specs.Span.{Span}
use Rattle.sst_blocks.specs.Seeking.{above_place}
use Rattle.sst_blocks.proofs.Narrowing.{sought_above, keeps_lower_edge}
use Rattle.sst_blocks.proofs.SpanLemmas.{span_left, left_any}
use Rattle.lsm_iters.proofs.block_index.iter.OwnedIndexBlockIter.seek_upper.Goals as goal

pub returns-clause-kept : goal.returns-clause-kept
returns-clause-kept g c =
    let s : Span Handle = record { list = c.self.inside.block; from = c.self.inside.from; to = c.self.inside.to } in
    let place : c.min-self-inside.result ≡ min s.to (1 + above_place c.args.key.now s.list) = omega arith in
    rw (← c.self.view_is) (sought_above c.args.key.now s c.min-self-inside.result place)

pub returns-clause-both : goal.returns-clause-both
returns-clause-both g c =
    let s : Span Handle = record { list = c.self.inside.block; from = c.self.inside.from; to = c.self.inside.to } in
    let place : c.min-self-inside.result ≡ min s.to (1 + above_place c.args.key.now s.list) = omega arith in
    rw (← c.self.view_is) (keeps_lower_edge c.args.key.now s c.min-self-inside.result place)

pub returns-clause-yields : goal.returns-clause-yields
returns-clause-yields g c = span_left (record { list = c.self.inside.block; from = c.self.inside.from; to = c.min-self-inside.result })

pub returns-clause-left : goal.returns-clause-left
returns-clause-left g c = left_any (record { list = c.self.inside.block; from = c.self.inside.from; to = c.min-self-inside.result }) (omega (arith, c.self.invariant, c.min-self-inside.ensures))
