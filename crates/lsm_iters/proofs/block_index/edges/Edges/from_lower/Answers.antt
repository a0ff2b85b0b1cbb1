use Rattle.std.specs.Prelude.{Option, Some, None}
use Rattle.std.proofs.Common.{ℕ, List, sym, ap, ◌∙◌}
use Rattle.sst_blocks.specs.Handles.{window}
use Rattle.lsm_iters.proofs.Seeks.{all_of, lower_of}
use Rattle.lsm_iters.proofs.block_index.edges.Edges.from_lower.Goals as goal

pub returns-in-Some-clause-rest : goal.returns-in-Some-clause-rest
returns-in-Some-clause-rest g c =
    lower_of c.new-iter.result c.seek_lower.new.self c.args.block (c.as_slice.result.now, c.in-Some.seqno) c.new-iter.ensures.whole c.seek_lower.ensures.both
    ∙ ap (λ (edge : Option (List ℕ × ℕ)). window c.args.block edge None) (ap (λ (key : List ℕ). Some (key, c.in-Some.seqno)) c.as_slice.ensures ∙ sym c.in-Some.is ∙ ap (λ x. x.0) c.self.view_is)

pub returns-in-None-clause-rest : goal.returns-in-None-clause-rest
returns-in-None-clause-rest g c =
    all_of c.new-iter.result c.args.block c.new-iter.ensures.whole
    ∙ ap (λ (edge : Option (List ℕ × ℕ)). window c.args.block edge None) (sym c.in-None.is ∙ ap (λ x. x.0) c.self.view_is)
