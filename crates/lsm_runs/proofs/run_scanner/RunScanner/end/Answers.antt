use Rattle.std.proofs.Common.{refl}
use Rattle.std.specs.Prelude.{None}
use Rattle.std.specs.Arc.{arc_value}
use Rattle.lsm_runs.proofs.ScanSteps.{none_scanned}
use Rattle.lsm_runs.proofs.run_scanner.RunScanner.end.Goals as goal

pub returns : goal.returns
returns g c = none_scanned None (arc_value c.self.inside.tables) c.self.inside.hi c.self.inside.hi refl
