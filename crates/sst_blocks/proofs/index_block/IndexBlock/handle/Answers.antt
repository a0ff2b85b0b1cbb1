use Rattle.std.proofs.Common.{◌≡◌, Some, arith, ap, ◌∙◌, sym, refl}
use Rattle.sst_blocks.specs.SeenHandle.{handle_of_ref}
use Rattle.sst_blocks.proofs.HandleLaws.{block_holds, block_len}
use Rattle.sst_blocks.proofs.index_block.IndexBlock.handle.Goals as goal

pub at-start-requires : goal.at-start-requires
at-start-requires g c = omega (arith, c.requires, block_len _ _ _ _ c.self.invariant c.self.view_is)

pub slice-requires-clause-within : goal.slice-requires-clause-within
slice-requires-clause-within g c =
    let s = block_holds _ _ _ c.args.self.now c.args.index c.at-start.result (handle_of_ref c.handle_ref-handle.result) c.self.invariant c.self.view_is c.handle_ref-handle.ensures c.at-start.ensures.found in
    omega (arith, s.within, c.head_len.ensures)

pub returns-clause-found : goal.returns-clause-found
returns-clause-found g c =
    let s = block_holds _ _ _ c.args.self.now c.args.index c.at-start.result (handle_of_ref c.handle_ref-handle.result) c.self.invariant c.self.view_is c.handle_ref-handle.ensures c.at-start.ensures.found in
    let key : c.in_ok-end_key.end_key ≡ c.handle_ref-handle.result.end_key.now = c.in_ok-end_key.ensures.ok ∙ rw c.head_len.ensures s.key in
    c.handle_ref-handle.ensures ∙ ap (λ x. Some x) (sym (c.new.ensures ∙ rw (key, c.new-inner.ensures.offset, c.new-inner.ensures.size) refl))
