use Rattle.std.proofs.Common.{ℕ, List, refl, arith, subst, sym}
use Rattle.sst_blocks.specs.Handles.{handles_in}
use Rattle.sst_blocks.specs.Starts.{HandlesAt}
use Rattle.sst_blocks.proofs.HandleLaws.{block_len}
use Rattle.sst_blocks.proofs.index_block.IndexBlock.handle_ref.Goals as goal

pub item_at-requires : goal.item_at-requires
unfolding handles_in
item_at-requires g c κs =
    let spelled = subst (λ (bytes : List ℕ). HandlesAt c.self.inside.version bytes c.self.inside.starts) (sym c.as_slice.ensures) c.self.invariant in
    ((refl, tt), (spelled, omega (arith, c.requires, block_len _ _ _ _ c.self.invariant c.self.view_is)))
