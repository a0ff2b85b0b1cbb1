use Rattle.sst_blocks.proofs.Asked.{point_visible}
use Rattle.sst_blocks.proofs.LoadLemmas.{data_holds}
use Rattle.sst_blocks.proofs.loads.LoadBlocks.point_read.Goals as goal

pub new-entries-requires : goal.new-entries-requires
new-entries-requires g c = data_holds _ c.in_ok-block.ensures.kind

pub returns-clause-visible : goal.returns-clause-visible
returns-clause-visible g c = point_visible c.new-entries.result c.args.key.now c.args.seqno c.point_read-found.result c.point_read-found.ensures.found
