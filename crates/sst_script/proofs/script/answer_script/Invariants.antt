use Rattle.std.specs.Prelude.{map}
use Rattle.std.specs.Arc.{arc_value}
use Rattle.std.specs.Io.Buffered.{reader_remaining}
use Rattle.lsm_runs.specs.compaction.Compacted.{AreCompactable}
use Rattle.sst_script.specs.Runs.{HasRuns}
use Rattle.sst_script.specs.Script.{store}
use Rattle.sst_script.proofs.ScriptLemmas.{IsAt}
use Rattle.sst_script.proofs.script.answer_script.Given as goal

abbrev pub invariant-loop-before : goal.invariant-loop-before
invariant-loop-before g l =
    AreCompactable (map arc_value l.script.runs.items)
    × HasRuns (map arc_value l.script.runs.items) (λ runs.
    IsAt g.row.A.Denot (g.R.Read.remaining l.fn.input)
    (reader_remaining g.R.Read.remaining l.input)
    (g.W.Write.contents l.fn.output) (g.W.Write.contents l.output)
    l.before (store l.script.pending runs l.script.ids))
