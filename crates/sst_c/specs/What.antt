-- The objects in a handle.
use Rattle.std.specs.Prelude.{◌≡◌, ℕ, ◌==◌, Bool, true, false, List, [], Option, None, Some}
use Rattle.std.specs.Prelude.{Result, Ok, IsSomeAnd, if◌then◌else◌}
use Rattle.std.specs.Global.{Global}
use Rattle.std.specs.declared.ops.Bound.{Bound}
use Rattle.std.specs.declared.ops.Bound.TheVariants.{Unbounded, Included, Excluded}
use Rattle.sst_entries.specs.Entry.{Entry}
use Rattle.sst_entries.specs.declared.error.Error.{Error}
use Rattle.lsm_iters.specs.Range.{Range, RangeGives, back_next, front_next}
use Rattle.lsm_iters.specs.Words.{back_of, front_of}
use Rattle.lsm_readers.specs.point.Parts.{recovered_result}
use Rattle.lsm_readers.specs.Ranges.{IsRangeOf, YieldsWithin}
use Rattle.lsm_readers.specs.Scan.{Scan}
use Rattle.lsm_readers.specs.Stored.{StoresList}
use Rattle.lsm_readers.specs.point.Table.{OpenTable}
use Rattle.lsm_readers.specs.Verification.{Verifying, verifying}
use Rattle.lsm_writers.specs.declared.writer.FinishedTable.{FinishedTable}
use Rattle.lsm_writers.specs.Tables.{TablesWriting}
use Rattle.lsm_writers.specs.Writing.{Writing}
use Rattle.sst_c.specs.declared.held.FoundEntry.TheVariants.{Kept}
use Rattle.sst_c.specs.declared.held.Held.{Held}
use Rattle.sst_c.specs.declared.held.What.{What}
use Rattle.sst_c.specs.declared.held.What.TheVariants.{Table, Files as FilesOf, Runs}
use Rattle.sst_c.specs.declared.held.What.TheVariants.{Range as RangeOf, Merged as MergedOf}
use Rattle.sst_c.specs.declared.held.What.TheVariants.{Answers as AnswersOf, Scan as ScanOf}
use Rattle.sst_c.specs.declared.held.What.TheVariants.{Compaction as CompactionOf}
use Rattle.sst_c.specs.declared.held.What.TheVariants.{MultiWriter as MultiWriterOf}
use Rattle.sst_c.specs.declared.held.What.TheVariants.{RunsScan as RunsScanOf}
use Rattle.sst_c.specs.declared.held.What.TheVariants.{Packing as PackingOf}
use Rattle.sst_c.specs.declared.held.What.TheVariants.{Verification as VerificationOf}
use Rattle.lsm_runs.specs.Words.{range_of}
use Rattle.lsm_sorted.specs.version.Packed.{IsPackedOf}
use Rattle.lsm_sorted.specs.version.Packing.{tables_in}
use Rattle.lsm_sorted.specs.declared.version.packed.Packed.{Packed}
use Rattle.lsm_sorted.specs.declared.version.packed.Placed.{Placed}
use Rattle.sst_c.specs.Compacting.{Compacting}
use Rattle.sst_c.specs.Newest.{LentNewestAt, NewestAt}
use Rattle.sst_c.specs.Steps.{StepsAs}
use Rattle.sst_c.specs.Reported.{found_by}

-- the contents of a handle with a new object: nothing was found yet
abbrev pub begun : What → Held
begun what = record { found = Kept None; what = what }

-- the object is a table that satisfies this predicate
abbrev pub IsTableWhere : (OpenTable → Type 0) → What → Type 0
IsTableWhere holds (Table t) = holds t
IsTableWhere holds _ = ⊥

-- the object is a range of a table that satisfies this predicate
abbrev pub IsRangeWhere : (Range Global → Type 0) → What → Type 0
IsRangeWhere holds (RangeOf s) = holds s
IsRangeWhere holds _ = ⊥

-- the object is a table
abbrev pub is_table : What → Bool
is_table (Table t) = true
is_table _ = false

-- the object is a range of several runs without an error so far that satisfies this predicate
abbrev pub IsMergedWhere : (NewestAt → Type 0) → What → Type 0
IsMergedWhere holds (MergedOf (Some s)) = holds s
IsMergedWhere holds _ = ⊥

-- a step of a range of several runs, with a code and an entry, leads to this object. It is the
-- stepped range, or none after an error
abbrev pub MergedStepsBy : (NewestAt → Option (Result Entry Error) → NewestAt → Type 0)
    → NewestAt → ℕ → Option Entry → What → Type 0
MergedStepsBy gives s code found (MergedOf left) = StepsAs gives s code found left
MergedStepsBy gives s code found _ = ⊥

-- the object is a range of a table or of several runs
abbrev pub is_range : What → Bool
is_range (RangeOf s) = true
is_range (MergedOf s) = true
is_range _ = false

-- the object is a scan of a table that satisfies this predicate
abbrev pub IsScanWhere : (Scan → Type 0) → What → Type 0
IsScanWhere holds (ScanOf s) = holds s
IsScanWhere holds _ = ⊥

-- the object is a scan of several runs that satisfies this predicate, `None` after a read failed
abbrev pub IsRunsScanAs : (Option LentNewestAt → Type 0) → What → Type 0
IsRunsScanAs holds (RunsScanOf m) = holds m
IsRunsScanAs holds _ = ⊥

-- the object is a scan of several runs without an error so far that satisfies this predicate
abbrev pub IsRunsScanWhere : (LentNewestAt → Type 0) → What → Type 0
IsRunsScanWhere holds = IsRunsScanAs (λ m. IsSomeAnd m holds)

-- the object is a scan of a table or of several runs
abbrev pub is_scan : What → Bool
is_scan (ScanOf s) = true
is_scan (RunsScanOf m) = true
is_scan _ = false

-- the results of reading many keys, if the object is that
abbrev pub many_in : What → Option (List (Option Entry))
many_in (AnswersOf found) = Some found
many_in _ = None

-- the object is finished tables or a writer
abbrev pub are_files : What → Bool
are_files (FilesOf fs) = true
are_files _ = false

-- the writer of the unfinished table, if there is one
abbrev pub writer_in : What → Option Writing
writer_in (FilesOf fs) = fs.writer
writer_in _ = None

-- the finished tables
abbrev pub files_held : What → List (FinishedTable Global)
files_held (FilesOf fs) = fs.tables.items
files_held _ = []

-- the object has these finished tables, and no writer
abbrev pub HoldsFiles : List (FinishedTable Global) → What → Type 0
HoldsFiles tables (FilesOf fs) = (fs.writer ≡ None) × (fs.tables.items ≡ tables)
HoldsFiles tables _ = ⊥

-- the object is a list of runs
abbrev pub are_runs : What → Bool
are_runs (Runs rs) = true
are_runs _ = false

-- the tables of each run
abbrev pub runs_held : What → List (List OpenTable)
runs_held (Runs rs) = rs
runs_held _ = []

-- the object is a verification that satisfies this predicate
abbrev pub IsVerificationWhere : (Verifying → Type 0) → What → Type 0
IsVerificationWhere holds (VerificationOf v) = holds v
IsVerificationWhere holds _ = ⊥

-- the object is a verification
abbrev pub is_verification : What → Bool
is_verification (VerificationOf v) = true
is_verification _ = false

-- the object is a compaction that satisfies this predicate, `None` after its end or an error
abbrev pub IsCompactionAs : (Option Compacting → Type 0) → What → Type 0
IsCompactionAs holds (CompactionOf m) = holds m
IsCompactionAs holds _ = ⊥

-- the object is a compaction that has not ended and satisfies this predicate
abbrev pub IsCompactionWhere : (Compacting → Type 0) → What → Type 0
IsCompactionWhere holds = IsCompactionAs (λ m. IsSomeAnd m holds)

-- the object is a compaction
abbrev pub is_compaction : What → Bool
is_compaction (CompactionOf m) = true
is_compaction _ = false

-- the writer of several tables, unless it is finished
abbrev pub multi_writer_in : What → Option TablesWriting
multi_writer_in (MultiWriterOf m) = m
multi_writer_in _ = None

-- the object is a packing that satisfies this predicate
abbrev pub IsPackingWhere : (Packed OpenTable Global → Type 0) → What → Type 0
IsPackingWhere holds (PackingOf p) = holds p
IsPackingWhere holds _ = ⊥

-- the object is a packing
abbrev pub is_packing : What → Bool
is_packing (PackingOf p) = true
is_packing _ = false

-- the packed runs
abbrev pub packed_runs : What → List (List (Placed OpenTable))
packed_runs (PackingOf p) = p.runs.items
packed_runs _ = []

-- the chain of the packing, as indexes of tables
abbrev pub packed_chain : What → List (ℕ × ℕ)
packed_chain (PackingOf p) = p.chain.items
packed_chain _ = []

-- a table opened from these bytes with this global sequence number and these pins, without any read
-- yet
abbrev pub IsOpenedAs : List ℕ → ℕ → Bool → Bool → Held → Type 0
IsOpenedAs bytes g pin_filter pin_index h =
    (found_by h ≡ None) × IsTableWhere (λ t. (t.bytes ≡ bytes) × (t.global_seqno ≡ g)
    × (recovered_result bytes g pin_filter pin_index ≡ Ok t.parts)) h.what

-- a bound as C passes it: kind 0 for none, 1 to include the key, 2 to exclude it
abbrev pub decode_bound : ℕ → List ℕ → Bound (List ℕ)
decode_bound kind key =
    if kind == 0 then Unbounded else (if kind == 1 then Included key else Excluded key)

-- both ends of a range yield the list's entries within the bounds, global sequence number applied
unfoldable pub YieldsTable : Bound (List ℕ) → Bound (List ℕ) → List Entry → ℕ → Range Global → Type 0
YieldsTable low high es g s =
    YieldsWithin (RangeGives front_of front_next) (RangeGives back_of back_next) low high es g s

-- a range reads a table within bounds, and has not been stepped
pub record RangesTable (low high : Bound (List ℕ)) (t : OpenTable) (s : Range Global) : Type 0 where
  pub range : IsRangeOf t low high s
  -- for bytes that store a list, both ends yield its entries within the bounds
  pub list : (es : List Entry) → StoresList t.bytes es → YieldsTable low high es t.global_seqno s

-- the object is a range of this table within bounds as C passes them
abbrev pub IsRangeWithin : ℕ → List ℕ → ℕ → List ℕ → OpenTable → What → Type 0
IsRangeWithin lower_kind lower upper_kind upper t = IsRangeWhere
    (RangesTable (decode_bound lower_kind lower) (decode_bound upper_kind upper) t)

-- if the object w is a table, v is a range of it within bounds as C passes them
pub record RangesHeld (lower_kind : ℕ) (lower : List ℕ) (upper_kind : ℕ) (upper : List ℕ) (w v : What)
    : Type 0 where
  pub range : (t : OpenTable) → w ≡ Table t →
      IsRangeWithin lower_kind lower upper_kind upper t v

-- if the object w is a table, v is a verification of it that has read nothing yet
pub record VerifiesHeld (w v : What) : Type 0 where
  pub begun : (t : OpenTable) → w ≡ Table t → v ≡ VerificationOf (verifying t)

-- the object v is a packing of the tables of the runs w
abbrev pub PacksHeld : What → What → Type 0
PacksHeld w v = IsPackingWhere (IsPackedOf range_of (tables_in (runs_held w))) v
