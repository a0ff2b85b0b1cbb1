use Rattle.std.proofs.Common.{◌∙◌, ap, subst, List}
use Rattle.std.specs.List.{AllByRecursion}
use Rattle.sst_blocks.specs.declared.version.TableVersion.TheVariants.{V4}
use Rattle.sst_entries.specs.Entry.{Entry}
use Rattle.sst_blocks.specs.table.Fits.{BlockFits}
use Rattle.sst_blocks.specs.table.Index.{handles}
use Rattle.lsm_writers.specs.Cut.{Cut}
use Rattle.lsm_writers.proofs.Cutting.{blocks_fit}
use Rattle.lsm_writers.proofs.writer.data_blocks.DataBlocks.into_parts.Goals as goal

pub returns-clause-index : goal.returns-clause-index
returns-clause-index g c = c.self.invariant.0.index ∙ ap (λ (x : Cut). handles V4 x.chunks) c.self.view_is

pub returns-clause-blocks : goal.returns-clause-blocks
returns-clause-blocks g c = subst (λ (cs : List (List Entry)). AllByRecursion (BlockFits V4) cs) (ap (λ (x : Cut). x.chunks) c.self.view_is) (blocks_fit _ c.self.invariant.0.readable)
