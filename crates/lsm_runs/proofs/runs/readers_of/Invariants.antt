use Rattle.std.proofs.Common.{List}
use Rattle.std.specs.Prelude.{map}
use Rattle.std.specs.Arc.{arc_value}
use Rattle.sst_entries.specs.Entry.{Entry}
use Rattle.sst_entries.specs.Stream.{back_of, front_of}
use Rattle.lsm_runs.specs.LentRun.{RunLends}
use Rattle.lsm_runs.specs.RunLists.{RunsHoldLists}
use Rattle.lsm_runs.specs.RunRange.{RunGives, back_tables, front_tables}
use Rattle.lsm_runs.proofs.Spanned.{SpannedSoFar}
use Rattle.lsm_runs.proofs.Together.{ReadSoFar}
use Rattle.lsm_runs.proofs.runs.readers_of.Given as goal

abbrev pub invariant-loop-run : goal.invariant-loop-run
invariant-loop-run g l = record {
  list :
      (lists : List (List (List Entry))) (held : RunsHoldLists (map arc_value l.runs) lists) →
      ReadSoFar (RunGives front_of front_tables) (RunGives back_of back_tables) arc_value l.range.0
      l.range.1 l.runs l.run-index lists held l.readers.items l.run-index;
  lends :
      (lists : List (List (List Entry))) (held : RunsHoldLists (map arc_value l.runs) lists) →
      ReadSoFar RunLends (RunGives back_of back_tables) arc_value l.range.0 l.range.1 l.runs
      l.run-index lists held l.readers.items l.run-index;
  spans : SpannedSoFar arc_value l.range.0 l.range.1 l.runs l.readers.items l.run-index;
}
