-- Scans of a table as C sees them.
use Rattle.std.specs.Prelude.{◌≡◌, ◌<◌, ◌⊎◌, ℕ, Bool, true, List, Result, length}
use Rattle.sst_blocks.specs.Opened.{none_opened, with_load}
use Rattle.sst_blocks.specs.declared.block_type.BlockType.TheVariants.{Data}
use Rattle.sst_entries.specs.Entry.{Entry}
use Rattle.sst_entries.specs.Stream.{YieldsExactly, answer_stops, nowhere, ok_results}
use Rattle.sst_entries.specs.declared.error.Error.{Error}
use Rattle.sst_entries.specs.declared.error.Error.TheVariants.{OutOfMemory}
use Rattle.sst_blocks.specs.Sections.{body_of}
use Rattle.lsm_readers.specs.Scan.{IsNewScan, Scan, ScansLent, ScansNext}
use Rattle.lsm_readers.specs.Stored.{StoresList}
use Rattle.lsm_readers.specs.point.Table.{OpenTable}
use Rattle.lsm_iters.specs.Lift.{lift}
use Rattle.lsm_runs.specs.RunScan.{early_scan_fault, scan_fault, table_scan}
use Rattle.sst_c.specs.Codes.{ReportsFirst}
use Rattle.sst_c.specs.What.{IsScanWhere}
use Rattle.sst_c.specs.Writing.{FaultReported}
use Rattle.sst_c.specs.declared.held.What.{What}
use Rattle.sst_c.specs.declared.held.What.TheVariants.{Table}

-- a scan of as many data blocks as the table claims that has not been stepped; its first block was
-- loaded
abbrev pub IsBegunScan : OpenTable → Scan → Type 0
IsBegunScan t s = IsNewScan (body_of t.bytes) t.parts.facts.data_block_count t.global_seqno s
    × (s.opened ≡ with_load Data none_opened)

-- the scan yields these results one after another, for a reader that stops when out of memory. This
-- holds for its iterator and its lending iterator
unfoldable pub YieldsScan : List (Result Entry Error) → Scan → Type 0
YieldsScan rs s = (stops : Error → Bool) → stops OutOfMemory ≡ true →
    YieldsExactly (answer_stops stops) ScansNext nowhere s rs
    × YieldsExactly (answer_stops stops) ScansLent nowhere s rs

-- a scan reads all blocks of a table, and has not been stepped
pub record ScansTable (t : OpenTable) (s : Scan) : Type 0 where
  pub begun : IsBegunScan t s
  -- for any bytes, it yields the entries of the blocks, up to the first fault
  pub yields : YieldsScan (table_scan t) s
  -- for bytes that store a list, it yields each entry once, in order, global sequence number applied
  pub list : (es : List Entry) → StoresList t.bytes es
      → YieldsScan (ok_results (lift es t.global_seqno)) s

-- opening a scan of a table returns 0 or the fault of its first block, or 1 if out of memory
pub record ReportsScan (t : OpenTable) (code : ℕ) : Type 0 where
  pub returned : FaultReported code (scan_fault t)
  -- a fault of the block's header, checksum or count takes precedence over `OutOfMemory`
  pub early : ReportsFirst code (early_scan_fault t)
  -- for bytes that store a list with an entry there is no fault
  pub fine : (es : List Entry) → StoresList t.bytes es → 0 < length es → (code ≡ 0) ⊎ (code ≡ 1)

-- if the object w is a table, v is a scan of it
pub record ScansHeld (w v : What) : Type 0 where
  pub scan : (t : OpenTable) → w ≡ Table t → IsScanWhere (ScansTable t) v
