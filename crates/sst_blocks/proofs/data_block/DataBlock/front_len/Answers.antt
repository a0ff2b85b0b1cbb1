use Rattle.std.proofs.Common.{◌≡◌, ℕ, List, refl, arith, subst, sym, ap, ◌∙◌}
use Rattle.std.specs.List.Sorted.{IsPartitionedBy}
use Rattle.sst_entries.specs.Entry.{Entry}
use Rattle.sst_entries.specs.Span.{front_length}
use Rattle.sst_blocks.specs.Format.{items_of}
use Rattle.sst_blocks.specs.Reading.{entries_in, entry_format}
use Rattle.sst_blocks.specs.Starts.{EntriesAt}
use Rattle.sst_blocks.proofs.Entries.{block_len, block_strict}
use Rattle.sst_blocks.proofs.data_block.DataBlock.front_len.Goals as goal

pub front_len-requires : goal.front_len-requires
unfolding entries_in
front_len-requires g c κs =
    let spelled = subst (λ (bytes : List ℕ). EntriesAt c.self.inside.version bytes c.self.inside.starts) (sym c.as_slice-payload.ensures) c.self.invariant in
    ((refl, tt), (spelled, c.requires))

pub returns-clause-within : goal.returns-clause-within
returns-clause-within g c = omega (arith, c.front_len.ensures.within, block_len _ _ _ _ c.self.invariant c.self.view_is)

pub returns-clause-strict : goal.returns-clause-strict
returns-clause-strict g c = block_strict _ _ _ _ c.self.invariant c.self.view_is

pub returns-clause-value : goal.returns-clause-value
unfolding entries_in
returns-clause-value g c p computes parted =
    let q = λ (e : Entry). p e.user_key e.seqno in
    let same : items_of (entry_format c.self.inside.version) c.as_slice-payload.result.now ≡ c.args.self.now = ap (items_of (entry_format c.self.inside.version)) c.as_slice-payload.ensures ∙ c.self.view_is in
    c.front_len.ensures.value p computes (subst (IsPartitionedBy q) (sym same) parted) ∙ ap (front_length q) same
