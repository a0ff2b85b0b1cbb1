use Rattle.std.specs.Prelude.{Some}
use Rattle.sst_blocks.specs.Seeking.{reaching_place}
use Rattle.lsm_iters.proofs.KindLaws.{demand_reader, full_reader_from, levels_reader_from}
use Rattle.lsm_iters.proofs.block_index.kinds.BlockIndexImplBlockIndex.forward_reader.Goals as goal

pub returns-in-Some-clause-found : goal.returns-in-Some-clause-found
returns-in-Some-clause-found g c =
    let found = rw c.in-Some.is at c.in_ok-iter-in-Full.ensures.found in
    let kept = rw c.in-Some.is at c.in_ok-iter-in-Full.ensures.kept in
    rw c.in-Full.is (full_reader_from c.in-Some.iter c.in-Full.index (reaching_place (c.args.key.now, c.args.seqno) c.in-Full.index) (c.args.key.now, c.args.seqno) found kept)

pub returns-in_ok-iter-in-VolatileFull-clause-found : goal.returns-in_ok-iter-in-VolatileFull-clause-found
returns-in_ok-iter-in-VolatileFull-clause-found g c =
    rw c.in-VolatileFull.is (demand_reader c.in_ok-iter-in-VolatileFull.iter c.in-VolatileFull.index.0 c.in-VolatileFull.index.1 (Some (c.args.key.now, c.args.seqno)) c.in_ok-iter-in-VolatileFull.ensures.sought)

pub returns-in_ok-iter-in-TwoLevel-clause-found : goal.returns-in_ok-iter-in-TwoLevel-clause-found
returns-in_ok-iter-in-TwoLevel-clause-found g c =
    let found = c.in_ok-iter-in-TwoLevel.ensures in
    rw c.in-TwoLevel.is (levels_reader_from c.in_ok-iter-in-TwoLevel.iter c.in-TwoLevel.index.0 c.in-TwoLevel.index.1 (Some (c.args.key.now, c.args.seqno)) found.sought found.index found.opened)
