use Rattle.sst_blocks.specs.declared.block_type.BlockType.TheVariants.{Data}
use Rattle.sst_blocks.specs.Sections.{body_of}
use Rattle.sst_blocks.specs.Block.{entries_of, load_result}
use Rattle.sst_blocks.proofs.Asked.{point_visible, visible_given}
use Rattle.sst_blocks.proofs.LoadLemmas.{load_kind, data_holds}
use Rattle.lsm_readers.specs.point.Keeping.{IsLoaded}
use Rattle.lsm_readers.proofs.keeping.KeepingLoadBlocks.point_read.Goals as goal

pub read_kept-requires : goal.read_kept-requires
read_kept-requires g c =
    let body = body_of c.self.inside.source.now in
    let place = c.args.handle.now in
    let is : IsLoaded body place Data c.in-Some.block.now = c.in-Some.ensures body c.self.invariant.1.1 in
    data_holds _ (load_kind body place.offset place.size Data c.in-Some.block.now is.returned)

-- what is found is visible

pub returns-in-Some-clause-visible : goal.returns-in-Some-clause-visible
returns-in-Some-clause-visible g c = point_visible (entries_of c.in-Some.block.now) c.args.key.now c.args.seqno c.read_kept.result c.read_kept.ensures.found

pub returns-in-None-clause-visible : goal.returns-in-None-clause-visible
returns-in-None-clause-visible g c =
    let place = c.args.handle.now in
    visible_given (load_result (body_of c.self.inside.source.now) place.offset place.size Data) c.args.key.now c.args.seqno c.point_read.result c.point_read.ensures.returned
