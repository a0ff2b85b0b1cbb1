use Rattle.std.specs.Prelude.{None}
use Rattle.lsm_iters.proofs.KindLaws.{demand_reader, full_reader, levels_reader}
use Rattle.lsm_iters.proofs.block_index.kinds.BlockIndexImplBlockIndex.iter.Goals as goal

pub returns-in_ok-iter-in-Full-clause-all : goal.returns-in_ok-iter-in-Full-clause-all
returns-in_ok-iter-in-Full-clause-all g c =
    rw c.in-Full.is (full_reader c.in_ok-iter-in-Full.field-0 c.in-Full.index c.in_ok-iter-in-Full.ensures.whole)

pub returns-in_ok-iter-in-VolatileFull-clause-all : goal.returns-in_ok-iter-in-VolatileFull-clause-all
returns-in_ok-iter-in-VolatileFull-clause-all g c =
    rw c.in-VolatileFull.is (demand_reader c.in_ok-iter-in-VolatileFull.field-0 c.in-VolatileFull.index.0 c.in-VolatileFull.index.1 None c.in_ok-iter-in-VolatileFull.ensures.unsought)

pub returns-in_ok-iter-in-TwoLevel-clause-all : goal.returns-in_ok-iter-in-TwoLevel-clause-all
returns-in_ok-iter-in-TwoLevel-clause-all g c =
    rw c.in-TwoLevel.is (levels_reader c.in_ok-iter-in-TwoLevel.field-0 c.in-TwoLevel.index.0 c.in-TwoLevel.index.1 c.in_ok-iter-in-TwoLevel.ensures.unsought)
