use Rattle.std.proofs.Common.{ap, sym, ◌∙◌}
use Rattle.sst_blocks.specs.Handle.{Handle}
use Rattle.sst_blocks.specs.Seeking.{reaching_place, span_from}
use Rattle.sst_entries.specs.Span.{Span, rest_in}
use Rattle.lsm_iters.proofs.Seeks.{lower_of, none_left}
use Rattle.lsm_iters.proofs.Laws.{span_yields}
use Rattle.lsm_iters.proofs.block_index.full.FullBlockIndex.forward_reader.Goals as goal

pub returns-else-seek_lower-clause-none : goal.returns-else-seek_lower-clause-none
returns-else-seek_lower-clause-none g c =
    let none = none_left (rest_in c.seek_lower.new.self) c.seek_lower.result c.seek_lower.ensures.left c.if-seek_lower.false in
    sym (lower_of c.iter-2.inside.0 c.seek_lower.new.self c.args.self.now (c.args.key.now, c.args.seqno) (c.iter-2.view_is ∙ c.in_ok-iter.ensures.whole) c.seek_lower.ensures.both) ∙ none

pub returns-then-seek_lower-clause-none : goal.returns-then-seek_lower-clause-none
returns-then-seek_lower-clause-none g c = c.seek_lower.ensures.left.0 c.if-seek_lower.true

pub returns-then-seek_lower-clause-found : goal.returns-then-seek_lower-clause-found
returns-then-seek_lower-clause-found g c =
    c.seek_lower.ensures.narrowed ∙ ap (λ (s : Span Handle). span_from (reaching_place (c.args.key.now, c.args.seqno) s.list) s) (c.iter-2.view_is ∙ c.in_ok-iter.ensures.whole)

pub returns-then-seek_lower-clause-kept : goal.returns-then-seek_lower-clause-kept
returns-then-seek_lower-clause-kept g c =
    lower_of c.iter-2.inside.0 c.seek_lower.new.self c.args.self.now (c.args.key.now, c.args.seqno) (c.iter-2.view_is ∙ c.in_ok-iter.ensures.whole) c.seek_lower.ensures.both

pub returns-then-seek_lower-clause-yields : goal.returns-then-seek_lower-clause-yields
returns-then-seek_lower-clause-yields g c = span_yields _
