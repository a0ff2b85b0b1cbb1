use Rattle.std.proofs.Common.{subst, sym}
use Rattle.lsm_sorted.specs.version.Packing.{AreInOrder}
use Rattle.lsm_runs.specs.Words.{range_of}
use Rattle.sst_c.proofs.merged.newest_within.Goals as goal

pub returns-clause-ranges : goal.returns-clause-ranges
returns-clause-ranges c =
    let order = subst (AreInOrder range_of) (sym c.as_slice.ensures.runs) c.as_slice.ensures.order in
    rw (c.new.ensures, sym c.as_slice.ensures.runs)
    (record {
      steps = c.in_ok-range_runs_at.ensures.steps order;
      list = c.in_ok-range_runs_at.ensures.list;
    })
