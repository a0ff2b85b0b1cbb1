use Rattle.std.proofs.Common.{◌≡◌, ℕ, List, Bool, refl, rules, arith, subst, sym, ap, ◌∙◌}
use Rattle.std.specs.Prelude.{not}
use Rattle.std.specs.List.Sorted.{IsPartitionedBy}
use Rattle.sst_entries.specs.Point.{read_place}
use Rattle.sst_entries.specs.Span.{front_length}
use Rattle.sst_entries.specs.Strict.{is_before}
use Rattle.sst_blocks.specs.Format.{items_of}
use Rattle.sst_blocks.specs.Handle.{Handle}
use Rattle.sst_blocks.specs.Handles.{end_of, handle_format, handles_in}
use Rattle.sst_blocks.specs.Starts.{HandlesAt}
use Rattle.sst_blocks.proofs.HandleLaws.{block_len, block_strict}
use Rattle.sst_blocks.proofs.Reaching.{reach_before, reach_parted}
use Rattle.sst_blocks.proofs.index_block.IndexBlock.first_reaching.Goals as goal

pub front_len-requires : goal.front_len-requires
unfolding handles_in
front_len-requires g c κs =
    let spelled = subst (λ (bytes : List ℕ). HandlesAt c.self.inside.version bytes c.self.inside.starts) (sym c.as_slice-payload.ensures) c.self.invariant in
    ((refl, tt), (spelled, search rules))

pub returns-clause-within : goal.returns-clause-within
returns-clause-within g c = omega (arith, c.front_len.ensures.within, block_len _ _ _ _ c.self.invariant c.self.view_is)

pub returns-clause-strict : goal.returns-clause-strict
returns-clause-strict g c = block_strict _ _ _ _ c.self.invariant c.self.view_is

pub returns-clause-place : goal.returns-clause-place
unfolding handles_in
returns-clause-place g c =
    let hs = c.args.self.now in
    let key = c.args.key.now in
    let n = c.args.seqno in
    let q = λ (h : Handle). not (is_before (read_place key n) (end_of h)) in
    let same : items_of (handle_format c.self.inside.version) c.as_slice-payload.result.now ≡ hs = ap (items_of (handle_format c.self.inside.version)) c.as_slice-payload.ensures ∙ c.self.view_is in
    let parted : IsPartitionedBy q hs = subst (λ (p : Handle → Bool). IsPartitionedBy (λ h. not (p h)) hs) (reach_before key n) (reach_parted hs key n (block_strict _ _ _ _ c.self.invariant c.self.view_is)) in
    c.front_len.ensures.value (λ (k : List ℕ) (m : ℕ). not (is_before (read_place key n) (read_place k m))) (λ k m r h. search rules) (subst (IsPartitionedBy q) (sym same) parted)
    ∙ ap (front_length q) same ∙ ap (λ (p : Handle → Bool). front_length (λ h. not (p h)) hs) (sym (reach_before key n))
