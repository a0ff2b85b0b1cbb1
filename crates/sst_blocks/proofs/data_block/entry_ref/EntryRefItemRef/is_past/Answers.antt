use Rattle.std.proofs.Common.{ap, ◌∙◌}
use Rattle.std.specs.Ordering.{is_lt}
use Rattle.sst_blocks.proofs.data_block.entry_ref.EntryRefItemRef.is_past.Goals as goal

pub returns : goal.returns
returns c v = c.is_lt.ensures ∙ ap is_lt c.compare_versions.ensures
