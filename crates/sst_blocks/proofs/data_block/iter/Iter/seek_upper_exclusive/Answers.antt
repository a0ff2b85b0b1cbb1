use Rattle.std.proofs.Common.{arith, ◌≡◌, ◌∙◌, ap, min}
use Rattle.std.specs.declared.ops.Bound.TheVariants.{Excluded}
use Rattle.sst_entries.specs.Entry.{Entry}
use Rattle.sst_entries.specs.Point.{upper_place}
use Rattle.sst_entries.specs.Span.{Span}
use Rattle.sst_blocks.proofs.Narrowing.{sought_upper, keeps_lower}
use Rattle.sst_blocks.proofs.SpanLemmas.{span_left, left_any}
use Rattle.sst_blocks.proofs.data_block.iter.Iter.seek_upper_exclusive.Goals as goal

pub returns-clause-kept : goal.returns-clause-kept
returns-clause-kept g c =
    let s : Span Entry = record { list = c.self.inside.block.now; from = c.self.inside.from; to = c.self.inside.to } in
    let place : c.min-self-inside.result ≡ min s.to (upper_place (Excluded c.args.key.now) s.list) = c.min-self-inside.ensures ∙ ap (min c.self.inside.to) c.first_at_least.ensures.place in
    rw (← c.self.view_is) (sought_upper (Excluded c.args.key.now) s c.min-self-inside.result c.first_at_least.ensures.strict place)

pub returns-clause-both : goal.returns-clause-both
returns-clause-both g c =
    let s : Span Entry = record { list = c.self.inside.block.now; from = c.self.inside.from; to = c.self.inside.to } in
    let place : c.min-self-inside.result ≡ min s.to (upper_place (Excluded c.args.key.now) s.list) = c.min-self-inside.ensures ∙ ap (min c.self.inside.to) c.first_at_least.ensures.place in
    rw (← c.self.view_is) (keeps_lower (Excluded c.args.key.now) s (record s { to = c.min-self-inside.result }) (sought_upper (Excluded c.args.key.now) s c.min-self-inside.result c.first_at_least.ensures.strict place))

pub returns-clause-yields : goal.returns-clause-yields
returns-clause-yields g c = span_left (record { list = c.self.inside.block.now; from = c.self.inside.from; to = c.min-self-inside.result })

pub returns-clause-left : goal.returns-clause-left
returns-clause-left g c = left_any (record { list = c.self.inside.block.now; from = c.self.inside.from; to = c.min-self-inside.result }) (omega (arith, c.self.invariant, c.min-self-inside.ensures))
