use Rattle.std.proofs.Common.{◌≡◌}
use Rattle.std.specs.Prelude.{Some}
use Rattle.sst_blocks.specs.Sections.{body_of}
use Rattle.lsm_readers.specs.declared.verify.Finding.{Finding}
use Rattle.lsm_readers.specs.Verification.{IsOfTable, ahead_of, step_early, steps_left}
use Rattle.lsm_readers.specs.Verify.{table_early}
use Rattle.lsm_readers.proofs.table.Table.read_all.Given as goal

-- the first fault is in the rest, and what is found of the whole before memory is taken is found so
-- by the next step
abbrev pub invariant-loop-left : goal.invariant-loop-left
invariant-loop-left g l =
    let t = l.self in
    let body = body_of t.bytes in
    let ahead = ahead_of t.parts l.stage in
    record {
      rest : IsOfTable t ahead l.left;
      early : (f : Finding) → table_early body t.parts ≡ Some f
          → step_early body t.parts ahead l.left ≡ Some f;
    }

abbrev pub decreases-loop-left : goal.decreases-loop-left
decreases-loop-left g l =
    steps_left (body_of l.self.bytes) l.self.parts (ahead_of l.self.parts l.stage)
