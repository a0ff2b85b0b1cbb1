use Rattle.std.specs.Prelude.{◌≤◌}
use Rattle.sst_tool.proofs.Taken.{Took}
use Rattle.sst_tool.proofs.make.entries.write_lines.Given as goal

abbrev pub invariant-loop-before : goal.invariant-loop-before
invariant-loop-before g l = record {
  took : Took l.fn.format (g.I.Read.remaining l.fn.input) (g.I.Read.remaining l.input)
      l.fn.writer l.writer l.count l.before;
  few : l.count ≤ l.before;
}
