use Rattle.std.specs.Prelude.{None}
use Rattle.std.proofs.Common.{List, ap, sym, ◌∙◌}
use Rattle.sst_entries.specs.Span.{Span}
use Rattle.sst_blocks.specs.Handle.{Handle}
use Rattle.sst_blocks.specs.Handles.{window}
use Rattle.sst_blocks.specs.Seeking.{whole_span}
use Rattle.lsm_iters.proofs.Laws.{span_between, span_yields}
use Rattle.lsm_iters.proofs.Seeks.{all_of}
use Rattle.lsm_iters.proofs.block_index.full.FullBlockIndex.iter.Goals as goal

pub returns-clause-whole : goal.returns-clause-whole
returns-clause-whole g c = c.new.ensures.whole ∙ ap whole_span (c.in_ok-clone.ensures.cases ∙ c.self.view_is)

pub returns-clause-between : goal.returns-clause-between
returns-clause-between g c =
    let whole = c.new.ensures.whole in
    span_between c.new.result None None (all_of c.new.result c.in_ok-clone.field-0 whole ∙ ap (λ (hs : List Handle). window hs None None) (sym (ap (λ (s : Span Handle). s.list) whole)))

pub returns-clause-yields : goal.returns-clause-yields
returns-clause-yields g c = span_yields _
