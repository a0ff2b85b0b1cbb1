use Rattle.std.proofs.Common.{subst, sym}
use Rattle.lsm_sorted.specs.version.Packing.{AreInOrder}
use Rattle.lsm_runs.specs.Words.{range_of}
use Rattle.sst_c.proofs.runs_scan_open.newest_within.Goals as goal

pub returns-clause-scans : goal.returns-clause-scans
returns-clause-scans c =
    let order = subst (AreInOrder range_of) (sym c.as_slice.ensures.runs) c.as_slice.ensures.order in
    rw (c.new.ensures, sym c.as_slice.ensures.runs)
    (record {
      places = c.in_ok-lend_runs_at.ensures.places order;
      list = c.in_ok-lend_runs_at.ensures.list;
    })
