use Rattle.sst_tool.proofs.LineLemmas.{Goes, GoesRows}
use Rattle.sst_tool.specs.make.Entries.{numbered, row_entries}
use Rattle.sst_tool.proofs.make.entries.collect_lines.Given as goal

abbrev pub invariant-loop-before : goal.invariant-loop-before
invariant-loop-before g l = record {
  entries : Goes l.fn.format (g.I.Read.remaining l.fn.input) (g.I.Read.remaining l.input)
      (row_entries l.rows.items) l.before;
  rows : GoesRows l.fn.format (g.I.Read.remaining l.fn.input) (g.I.Read.remaining l.input)
      (numbered l.rows.items) l.before;
}
