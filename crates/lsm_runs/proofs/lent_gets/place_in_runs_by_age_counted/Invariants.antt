use Rattle.std.proofs.Common.{length}
use Rattle.std.specs.Prelude.{IfSome, map, min}
use Rattle.std.specs.Arc.{arc_value}
use Rattle.std.specs.Option.{option_and_then}
use Rattle.lsm_runs.specs.RunPlaces.{IsThere, placed_in_runs}
use Rattle.lsm_runs.specs.SeveralRuns.{LoadsEach, run_read_behind}
use Rattle.lsm_runs.proofs.RunReads.{AreSmall, ReadsOn}
use Rattle.lsm_runs.proofs.lent_gets.place_in_runs_by_age_counted.Given as goal

abbrev pub invariant-loop-number : goal.invariant-loop-number
invariant-loop-number g l = record {
  reads : ReadsOn arc_value (run_read_behind l.key l.seqno) l.runs l.number
      (option_and_then (placed_in_runs (map arc_value l.runs)) l.found) l.opened;
  small : AreSmall l.opened;
  few : LoadsEach (min l.number (length l.runs)) l.opened;
  there : IfSome l.found (IsThere (map arc_value l.runs));
}
