use Rattle.std.proofs.Common.{◌≡◌, true, false}
use Rattle.lsm_files.proofs.Known.{fails_may}
use Rattle.lsm_files.proofs.blocks.FileBlocks.failure_or.Goals as goal

pub returns-in-Some-clause-returned : goal.returns-in-Some-clause-returned
returns-in-Some-clause-returned g c = fails_may g.R.ReadAt.reads
    (λ never. let wrong : true ≡ false = rw c.in-Some.is at (c.self.invariant.1 never) in cc)
