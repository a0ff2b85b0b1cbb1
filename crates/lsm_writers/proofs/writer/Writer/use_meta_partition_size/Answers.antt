use Rattle.std.proofs.Common.{subst, sym}
use Rattle.sst_blocks.specs.declared.table.options.FilterKind.{FilterKind}
use Rattle.lsm_writers.specs.Filtering.{IsSmallFilter}
use Rattle.lsm_writers.proofs.Filtered.{filtered_anew, fresh_list, sized_small}
use Rattle.lsm_writers.proofs.writer.Writer.use_meta_partition_size.Goals as goal

pub invariant_of-self : goal.invariant_of-self
invariant_of-self g c =
    let none = fresh_list _ c.args.self c.self.view_is c.requires.fresh in
    let small = subst (λ (kind : FilterKind). IsSmallFilter kind) (sym c.with_size-self-inside-2.ensures) (sized_small c.args.size _ c.requires.small) in
    (c.self.invariant.0, c.self.invariant.1, c.self.invariant.2, filtered_anew _ _ _ _ _ _ _ none c.self.invariant.3 small)
