use Rattle.std.proofs.Common.{List}
use Rattle.sst_entries.specs.Entry.{Entry}
use Rattle.sst_blocks.specs.declared.table.label.Label.{Label}
use Rattle.sst_blocks.specs.table.Options.{default_options}
use Rattle.lsm_writers.specs.Tables.{AreFinished}
use Rattle.lsm_runs.proofs.RunWriting.{OpenSoFar}
use Rattle.lsm_runs.proofs.compaction.written_run.open_tables.Given as goal

abbrev pub invariant-loop-table : goal.invariant-loop-table
invariant-loop-table g l =
    (label : Label) (lists : List (List Entry)) → AreFinished default_options label lists
    l.fn.tables.items →
    OpenSoFar label lists l.fn.global_seqno l.opened.items l.table-iterator.rest.items
