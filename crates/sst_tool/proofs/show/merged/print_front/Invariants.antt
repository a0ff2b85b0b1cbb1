-- The source may be read on. What was printed and what may still be are together what may be.
use Rattle.std.proofs.Common.{Bool, List, ◌≤◌}
use Rattle.sst_entries.specs.Stream.{CanYield, YieldsExactly, answer_stops, nowhere}
use Rattle.sst_entries.specs.declared.error.Error.{Error}
use Rattle.sst_tool.proofs.MergedLemmas.{Printing}
use Rattle.sst_tool.specs.show.Read.{Outcome}
use Rattle.sst_tool.proofs.show.merged.print_front.Given as goal

abbrev pub invariant-loop-left : goal.invariant-loop-left
invariant-loop-left g l = record {
  can : CanYield g.L.Lending.advances nowhere g.L.Lending.can_advance g.L.Lending.can_advance l.source;
  few : l.left ≤ l.fn.most;
  prints : (stops : Error → Bool) (rs : List Outcome)
      → YieldsExactly (answer_stops stops) g.L.Lending.advances nowhere l.fn.source rs
      → Printing g.L.Lending.advances stops l.fn.most rs l.source l.left;
}

abbrev pub decreases-loop-left : goal.decreases-loop-left
decreases-loop-left g l = g.L.Lending.left l.source
