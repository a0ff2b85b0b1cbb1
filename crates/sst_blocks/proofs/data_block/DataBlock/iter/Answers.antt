use Rattle.std.proofs.Common.{◌≡◌, ◌∙◌, ap}
use Rattle.sst_entries.specs.Entry.{Entry}
use Rattle.sst_entries.specs.Span.{Span, rest_in}
use Rattle.sst_blocks.proofs.SpanLemmas.{span_yields, span_ends}
use Rattle.sst_blocks.proofs.Within.{left_whole}
use Rattle.sst_blocks.proofs.data_block.DataBlock.iter.Goals as goal

pub returns-clause-yields : goal.returns-clause-yields
returns-clause-yields g c stops memory =
    let left : rest_in c.new.result ≡ c.args.self.now = ap (λ (s : Span Entry). rest_in s) c.new.ensures ∙ left_whole c.args.self.now in
    rw left at (span_yields stops c.new.result memory)

pub returns-clause-ends : goal.returns-clause-ends
returns-clause-ends g c = span_ends c.new.result
