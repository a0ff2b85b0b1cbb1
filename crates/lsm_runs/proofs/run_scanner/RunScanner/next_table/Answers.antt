use Rattle.std.proofs.Common.{◌+◌, arith}
use Rattle.std.specs.Arc.{arc_value}
use Rattle.lsm_runs.proofs.ScanSteps.{begins_next}
use Rattle.lsm_runs.proofs.run_scanner.RunScanner.next_table.Goals as goal

pub returns : goal.returns
returns g c =
    let i = c.self.inside in
    rw (← c.self.view_is)
    (begins_next i.lo_reader (arc_value i.tables) i.lo i.hi (i.lo + 1) c.scan_at.result (omega arith) (omega arith) (omega arith) (λ t at. c.scan_at.ensures.begins t (rw (c.as_slice.ensures, c.deref.ensures) at)))
