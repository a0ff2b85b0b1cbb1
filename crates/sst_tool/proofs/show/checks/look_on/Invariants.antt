-- The table stays, and each step leaves one step less.
use Rattle.std.proofs.Common.{◌≡◌}
use Rattle.lsm_readers.specs.Verification.{steps_of}
use Rattle.sst_tool.proofs.show.checks.look_on.Given as goal

abbrev pub invariant-loop-blocks : goal.invariant-loop-blocks
invariant-loop-blocks g l = l.verification.table ≡ l.fn.verification.table

abbrev pub decreases-loop-blocks : goal.decreases-loop-blocks
decreases-loop-blocks g l = steps_of l.verification
