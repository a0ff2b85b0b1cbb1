use Rattle.sst_blocks.proofs.BlockLaws.{built_load, entries_load, filter_load, handles_load}
use Rattle.sst_blocks.proofs.block.written_blocks_load.Goals as goal

pub returns-clause-entries : goal.returns-clause-entries
returns-clause-entries c v kind es holds strict fit lt = entries_load v kind es holds strict fit lt

pub returns-clause-handles : goal.returns-clause-handles
returns-clause-handles c v hs strict fit lt = handles_load v hs strict fit lt

pub returns-clause-filters : goal.returns-clause-filters
returns-clause-filters c v f ok lt = filter_load v f ok lt

pub returns-clause-built : goal.returns-clause-built
returns-clause-built c v f built = built_load v f built
