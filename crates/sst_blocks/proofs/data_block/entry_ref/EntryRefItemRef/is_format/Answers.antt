use Rattle.sst_blocks.proofs.Entries.{entries_advance, entries_format}
use Rattle.sst_blocks.proofs.data_block.entry_ref.EntryRefItemRef.is_format.Goals as goal

pub returns : goal.returns
returns c = record { law = entries_format c.args.version; advances = entries_advance c.args.version }
