-- The results that a scan of a run has left, and one call of it.
use Rattle.std.specs.Prelude.{◌≡◌, ℕ, suc, ◌+◌, ◌-◌, ◌≤◌, false, List, [], ◌∷◌, ◌++◌, drop, length}
use Rattle.std.specs.Prelude.{max, take, Option, Some, None, Result, Ok, Err, MatchOption}
use Rattle.std.specs.Prelude.{MatchResult}
use Rattle.std.specs.List.{flat_map}
use Rattle.sst_blocks.specs.Sections.{body_of}
use Rattle.sst_blocks.specs.declared.block_type.BlockType.TheVariants.{Data}
use Rattle.sst_blocks.specs.Block.{load_at_result, position_fault}
use Rattle.sst_entries.specs.declared.error.Error.{Error}
use Rattle.sst_entries.specs.Entry.{Entry}
use Rattle.sst_entries.specs.Error.{is_memory}
use Rattle.sst_entries.specs.Stream.{Lowers, first}
use Rattle.lsm_readers.specs.Scan.{IsNewScan, Scan, fault_of, scan_left, scan_size, up_to_error}
pub use Rattle.lsm_readers.specs.Scan.{table_scan}
use Rattle.lsm_readers.specs.point.Table.{OpenTable}

-- a bound on the calls of a table's scan that yield something
abbrev pub table_size : OpenTable → ℕ
table_size t = length (table_scan t) + max 1 t.parts.facts.data_block_count

-- the error of beginning the scan of a table, except for `OutOfMemory`: that of loading its first
-- block; and the same if it is found before any allocation
abbrev pub scan_fault : OpenTable → Option Error
scan_fault t = fault_of (load_at_result (body_of t.bytes) 0 Data)

abbrev pub early_scan_fault : OpenTable → Option Error
early_scan_fault t = position_fault (body_of t.bytes) 0 Data

-- the scan of the open table, and the unopened tables
pub record RunScan : Type 0 where
  pub scan : Option Scan
  pub tables : List OpenTable

-- the tables of a run from a first index to a last
abbrev pub tables_between : List OpenTable → ℕ × ℕ → List OpenTable
tables_between tables ends = take (suc ends.1 - ends.0) (drop ends.0 tables)

-- the results that a scan has left, and all scans, up to the first error
abbrev pub left_of_scan : Option Scan → List (Result Entry Error)
left_of_scan None = []
left_of_scan (Some s) = scan_left s

abbrev pub tables_scan : List OpenTable → List (Result Entry Error)
tables_scan ts = up_to_error (flat_map table_scan ts)

abbrev pub run_scan_left : RunScan → List (Result Entry Error)
run_scan_left s = up_to_error (left_of_scan s.scan ++ flat_map table_scan s.tables)

-- a bound on the calls that still yield something
abbrev pub size_of_scan : Option Scan → ℕ
size_of_scan None = 0
size_of_scan (Some s) = scan_size s

abbrev pub tables_size : List OpenTable → ℕ
tables_size [] = 0
tables_size (t ∷ ts) = table_size t + tables_size ts

abbrev pub run_scan_size : RunScan → ℕ
run_scan_size s = size_of_scan s.scan + tables_size s.tables

-- the entry that is lent
abbrev pub lent_of_scan : Option Scan → Option Entry
lent_of_scan None = None
lent_of_scan (Some s) = s.lent

abbrev pub lent_of_run : RunScan → Option Entry
lent_of_run s = lent_of_scan s.scan

-- nothing is left to yield or to open
abbrev pub IsRunScanEnded : RunScan → Type 0
IsRunScanEnded s = run_scan_size s ≡ 0

-- the result of a call: the first result left, `None` if nothing is left, or `OutOfMemory` in place
-- of any
abbrev pub ScanAnswer : RunScan → Option (Result Entry Error) → RunScan → Type 0
ScanAnswer s None t = run_scan_left s ≡ []
ScanAnswer s (Some (Ok e)) t = run_scan_left s ≡ Ok e ∷ run_scan_left t
ScanAnswer s (Some (Err e)) t = is_memory e ≡ false → first (run_scan_left s) ≡ Some (Err e)

-- one call; an error ends the scan
pub record RunScansNext (s : RunScan) (r : Option (Result Entry Error)) (t : RunScan) : Type 0 where
  pub answer : ScanAnswer s r t
  pub ends : MatchOption r (Unit {0}) (λ x. MatchResult x (λ _. Unit {0}) (λ _. IsRunScanEnded t))
  pub lowers : Lowers r (run_scan_size s) (run_scan_size t)

-- a scanner of a span of a run: its first table is open, and no step was made
pub record IsScanOf (tables : List OpenTable) (ends : ℕ × ℕ) (s : RunScan) : Type 0 where
  pub left : run_scan_left s ≡ tables_scan (tables_between tables ends)
  pub size : run_scan_size s ≤ tables_size (tables_between tables ends)

-- ---- one step of its parts

-- the result of a call of the scan of one table; nothing if none is open
abbrev pub ScannerAnswer : Option Scan → Option (Result Entry Error) → Option Scan → Type 0
ScannerAnswer s None t = left_of_scan s ≡ []
ScannerAnswer s (Some (Ok e)) t = left_of_scan s ≡ Ok e ∷ left_of_scan t
ScannerAnswer s (Some (Err e)) t = is_memory e ≡ false → first (left_of_scan s) ≡ Some (Err e)

pub record ScansItem (s : Option Scan) (r : Option (Result Entry Error)) (t : Option Scan) : Type 0
  where
    pub answer : ScannerAnswer s r t
    pub lowers : Lowers r (size_of_scan s) (size_of_scan t)

-- the scan of a table begins, or fails: except for `OutOfMemory`, with the first result of the scan
abbrev pub BeginsScan : OpenTable → Result Scan Error → Type 0
BeginsScan t (Ok s) = IsNewScan (body_of t.bytes) t.parts.facts.data_block_count t.global_seqno s
BeginsScan t (Err e) = is_memory e ≡ false → first (table_scan t) ≡ Some (Err e)

-- the scan of the next table, if one is left
abbrev pub BeginsNext : RunScan → Option (Result Scan Error) → RunScan → Type 0
BeginsNext s None t = (s.tables ≡ []) × (t ≡ s)
BeginsNext s (Some r) t = (table : OpenTable) × (s.tables ≡ table ∷ t.tables) × (t.scan ≡ s.scan)
    × BeginsScan table r

-- nothing is left
abbrev pub over_scan : RunScan → RunScan
over_scan s = record { scan = None; tables = [] }
