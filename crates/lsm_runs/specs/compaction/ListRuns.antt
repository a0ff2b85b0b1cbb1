-- Runs that were written from lists, each alone and several together.
use Rattle.std.specs.Prelude.{◌≡◌, List}
use Rattle.std.specs.List.{AllByRecursion}
use Rattle.sst_entries.specs.Entry.{Entry}
use Rattle.sst_blocks.specs.table.Chunks.{joined}
use Rattle.lsm_sorted.specs.version.Run.{IsInOrder}
use Rattle.lsm_readers.specs.point.Table.{OpenTable}
use Rattle.lsm_runs.specs.compaction.Compacted.{HaveEntries}
use Rattle.lsm_runs.specs.compaction.ReadsCompacted.{joined_in}
use Rattle.lsm_runs.specs.RunLists.{HoldLists, RunsHoldLists}
use Rattle.lsm_run_parts.specs.RunParts.{range_of}

-- a run in order whose tables' lists, none of them empty, are together a list
pub record HasList (es : List Entry) (run : List OpenTable) : Type 0 where
  pub lists : List (List Entry)
  pub order : IsInOrder range_of run
  pub hold : HoldLists run lists
  pub some : HaveEntries lists
  pub whole : joined lists ≡ es

-- several such runs, whose lists are together a list
pub record HaveAll (es : List Entry) (runs : List (List OpenTable)) : Type 0 where
  pub lists : List (List (List Entry))
  pub hold : RunsHoldLists runs lists
  pub some : AllByRecursion HaveEntries lists
  pub whole : joined_in lists ≡ es
