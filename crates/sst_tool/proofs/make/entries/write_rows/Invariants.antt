use Rattle.std.proofs.Common.{take}
use Rattle.sst_tool.specs.make.Entries.{row_entries}
use Rattle.sst_tool.specs.make.Taken.{TookAll}
use Rattle.sst_tool.proofs.make.entries.write_rows.Given as goal

abbrev pub invariant-loop-row : goal.invariant-loop-row
invariant-loop-row g l = TookAll l.fn.writer (row_entries (take l.row-index l.rows)) l.writer
