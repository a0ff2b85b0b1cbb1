use Rattle.std.proofs.Common.{◌≡◌, max, rules}
use Rattle.sst_blocks.specs.Handle.{Handle}
use Rattle.sst_entries.specs.Span.{Span}
use Rattle.sst_blocks.specs.Seeking.{reaching_place}
use Rattle.sst_blocks.proofs.Narrowing.{sought_edge, keeps_upper_edge}
use Rattle.sst_blocks.proofs.SpanLemmas.{span_left, left_any}
use Rattle.sst_blocks.proofs.index_block.iter.Iter.seek.Goals as goal

pub returns-clause-kept : goal.returns-clause-kept
returns-clause-kept g c =
    let s : Span Handle = record { list = c.self.inside.block.now; from = c.self.inside.from; to = c.self.inside.to } in
    let place : c.max-self-inside.result ≡ max s.from (reaching_place (c.args.key.now, c.args.seqno) s.list) = search rules in
    rw (← c.self.view_is) (sought_edge c.args.key.now c.args.seqno s c.max-self-inside.result c.first_reaching.ensures.strict place)

pub returns-clause-both : goal.returns-clause-both
returns-clause-both g c =
    let s : Span Handle = record { list = c.self.inside.block.now; from = c.self.inside.from; to = c.self.inside.to } in
    let place : c.max-self-inside.result ≡ max s.from (reaching_place (c.args.key.now, c.args.seqno) s.list) = search rules in
    rw (← c.self.view_is) (keeps_upper_edge (c.args.key.now, c.args.seqno) s (record s { from = c.max-self-inside.result }) (sought_edge c.args.key.now c.args.seqno s c.max-self-inside.result c.first_reaching.ensures.strict place))

pub returns-clause-yields : goal.returns-clause-yields
returns-clause-yields g c = span_left (record { list = c.self.inside.block.now; from = c.max-self-inside.result; to = c.self.inside.to })

pub returns-clause-left : goal.returns-clause-left
returns-clause-left g c = left_any (record { list = c.self.inside.block.now; from = c.max-self-inside.result; to = c.self.inside.to }) c.self.invariant
