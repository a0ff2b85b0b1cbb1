use Rattle.std.proofs.Common.{◌≡◌, max, rules}
use Rattle.std.specs.declared.ops.Bound.TheVariants.{Included}
use Rattle.sst_entries.specs.Entry.{Entry}
use Rattle.sst_entries.specs.Point.{lower_place}
use Rattle.sst_entries.specs.Span.{Span}
use Rattle.sst_blocks.proofs.Narrowing.{sought_lower, keeps_upper}
use Rattle.sst_blocks.proofs.SpanLemmas.{span_left, left_any}
use Rattle.sst_blocks.proofs.data_block.iter.Iter.seek.Goals as goal

pub returns-clause-kept : goal.returns-clause-kept
returns-clause-kept g c =
    let s : Span Entry = record { list = c.self.inside.block.now; from = c.self.inside.from; to = c.self.inside.to } in
    let place : c.max-self-inside.result ≡ max s.from (lower_place (Included c.args.key.now) s.list) = search rules in
    rw (← c.self.view_is) (sought_lower (Included c.args.key.now) s c.max-self-inside.result c.first_at_least.ensures.strict place)

pub returns-clause-both : goal.returns-clause-both
returns-clause-both g c =
    let s : Span Entry = record { list = c.self.inside.block.now; from = c.self.inside.from; to = c.self.inside.to } in
    let place : c.max-self-inside.result ≡ max s.from (lower_place (Included c.args.key.now) s.list) = search rules in
    rw (← c.self.view_is) (keeps_upper (Included c.args.key.now) s (record s { from = c.max-self-inside.result }) (sought_lower (Included c.args.key.now) s c.max-self-inside.result c.first_at_least.ensures.strict place))

pub returns-clause-yields : goal.returns-clause-yields
returns-clause-yields g c = span_left (record { list = c.self.inside.block.now; from = c.max-self-inside.result; to = c.self.inside.to })

pub returns-clause-left : goal.returns-clause-left
returns-clause-left g c = left_any (record { list = c.self.inside.block.now; from = c.max-self-inside.result; to = c.self.inside.to }) c.self.invariant
