use Rattle.std.proofs.Common.{List}
use Rattle.sst_entries.specs.Entry.{Entry}
use Rattle.sst_entries.specs.Stream.{CanYield, nowhere}
use Rattle.lsm_runs.specs.RunLists.{YieldsList}
use Rattle.sst_script.proofs.LineLemmas.{HasLines}
use Rattle.sst_script.proofs.lines.add_lines.Given as goal

abbrev pub invariant-loop-source : goal.invariant-loop-source
invariant-loop-source g l =
    CanYield g.L.Lending.advances nowhere g.L.Lending.can_advance g.L.Lending.can_advance l.source
    × ((es : List Entry) → YieldsList g.L.Lending.advances nowhere es l.fn.source
    → HasLines g.L.Lending.advances es l.fn.text.items l.text.items l.source)

abbrev pub decreases-loop-source : goal.decreases-loop-source
decreases-loop-source g l = g.L.Lending.left l.source
