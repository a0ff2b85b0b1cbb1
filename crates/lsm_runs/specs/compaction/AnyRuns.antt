-- The result of a compaction of any tables.
use Rattle.std.specs.Prelude.{◌≡◌, ◌⊎◌, ℕ, Bool, true, false, List, [], ◌∷◌, ◌++◌, filter, map}
use Rattle.std.specs.Prelude.{IfOk, Option, None, Some, Result, Ok, Err}
use Rattle.std.specs.List.{AllZip, Any}
use Rattle.std.specs.Option.{option_or}
use Rattle.std.specs.declared.sync.Arc.{Arc}
use Rattle.sst_entries.specs.Entry.{Entry}
use Rattle.sst_entries.specs.Error.{is_memory}
use Rattle.sst_entries.specs.Stream.{YieldsExactly, answer_stops, first, nowhere, ok_results}
use Rattle.sst_entries.specs.declared.error.Error.{Error}
use Rattle.sst_entries.specs.declared.error.Error.TheVariants.{OutOfMemory}
use Rattle.lsm_sorted.specs.declared.compaction.Rules.{Rules}
use Rattle.lsm_sorted.specs.lending.LentCompaction.{lent_outs}
use Rattle.lsm_sorted.specs.merge.Ends.{R}
use Rattle.lsm_sorted.specs.merge.InPlace.{merge_of}
use Rattle.lsm_writers.specs.declared.table_stream.TableStream.{TableStream}
use Rattle.lsm_writers.specs.declared.writer.FinishedTable.{FinishedTable}
use Rattle.lsm_writers.specs.Streamed.{IsAfter, took_each}
use Rattle.lsm_writers.specs.Tables.{TablesWriting, all_written, took, took_fault}
use Rattle.lsm_writers.specs.Writing.{IsWritable, may_be_written}
use Rattle.lsm_readers.specs.point.Table.{OpenTable}
use Rattle.lsm_runs.specs.LentNewestRuns.{EachAscends}
use Rattle.lsm_runs.specs.RunLists.{each_run}
use Rattle.lsm_runs.specs.RunScan.{scan_fault, tables_scan}
use Rattle.lsm_runs.specs.compaction.Chain.{writes_fault}
use Rattle.lsm_runs.specs.compaction.Compacted.{AreWrittenBy}
use Rattle.lsm_runs.specs.compaction.Packed.{has_table}
use Rattle.lsm_runs.specs.declared.compaction.any_runs.CompactionOutcome.{CompactionOutcome}
use Rattle.lsm_runs.specs.declared.compaction.any_runs.CompactionOutcome.TheVariants.{OutOfOrder}
use Rattle.lsm_runs.specs.declared.compaction.any_runs.CompactionOutcome.TheVariants.{Stopped}
use Rattle.lsm_runs.specs.declared.compaction.any_runs.CompactionOutcome.TheVariants.{Tables}

-- the first error of some results whose entries are written one after another
abbrev pub results_fault : TablesWriting → List R → Option Error
results_fault m [] = None
results_fault m (Ok e ∷ rs) = option_or (took_fault m e) (results_fault (took m e) rs)
results_fault m (Err f ∷ rs) = Some f

-- entries that a writer takes one after another: each may follow, and none fails
pub record AreTaken (w : TablesWriting) (es : List Entry) : Type 0 where
  pub writable : IsWritable es
  pub none : results_fault w (ok_results es) ≡ None

-- a writer took this list, one entry after another, and none failed
pub record TookList (w : TablesWriting) (es : List Entry) (m : TablesWriting) : Type 0 where
  pub taken : AreTaken w es
  pub is : m ≡ took_each w es
  pub listed : all_written m ≡ es

-- some results: entries that a writer takes, then an entry that may not follow them
pub record LeavesOrder (w : TablesWriting) (rs : List R) : Type 0 where
  pub front : List Entry
  pub entry : Entry
  pub behind : List R
  pub whole : rs ≡ ok_results front ++ Ok entry ∷ behind
  pub taken : AreTaken w front
  pub follows : may_be_written front entry.user_key entry.seqno ≡ false

-- the outcome is the tables of this list, made by a writer that had written nothing
abbrev pub AreTablesBy : {A : Type 0} → TablesWriting → List Entry → CompactionOutcome A → Type 0
AreTablesBy w es (Tables tables left) = AreWrittenBy w es tables.items left
AreTablesBy w es OutOfOrder = ⊥
AreTablesBy w es Stopped = ⊥

-- the outcome is the tables of this list, or out of order at its first entry that may not follow
abbrev pub CameInOrder : {A : Type 0} → TablesWriting → List Entry → CompactionOutcome A → Type 0
CameInOrder w es (Tables tables left) = AreWrittenBy w es tables.items left
CameInOrder w es OutOfOrder = LeavesOrder w (ok_results es)
CameInOrder w es Stopped = ⊥

-- finished tables of some list that can be written, and the counter after them
pub record WritesSome {A : Type 0} (w : TablesWriting) (fs : List (FinishedTable A))
    (left : Option ℕ) : Type 0 where
  pub list : List Entry
  pub writable : IsWritable list
  pub written : AreWrittenBy w list fs left

-- if the outcome is tables, they are those of such a list
abbrev pub HasMade : {A : Type 0} → TablesWriting → CompactionOutcome A → Type 0
HasMade w (Tables tables left) = WritesSome w tables.items left
HasMade w OutOfOrder = Unit {0}
HasMade w Stopped = Unit {0}

-- no observer stopped it
abbrev pub GoesThrough : {A : Type 0} → CompactionOutcome A → Type 0
GoesThrough (Tables tables left) = Unit {0}
GoesThrough OutOfOrder = Unit {0}
GoesThrough Stopped = ⊥

-- ---- results that are written one by one, as long as each may follow those before it

-- an error, or an entry that may follow these
abbrev pub MayCome : List Entry → R → Type 0
MayCome es (Ok x) = may_be_written es x.user_key x.seqno ≡ true
MayCome es (Err e) = Unit {0}

-- after entries that a writer takes comes this error, or an entry for which the writer fails with
-- it
pub record MeetsFault (w : TablesWriting) (rs : List R) (e : Error) : Type 0 where
  pub front : List Entry
  pub last : R
  pub behind : List R
  pub whole : rs ≡ ok_results front ++ last ∷ behind
  pub taken : AreTaken w front
  pub comes : MayCome front last
  pub fault : results_fault w (ok_results front ++ last ∷ []) ≡ Some e

-- all results are entries that a writer takes, and finishing fails with this error
pub record FailsBehind (w : TablesWriting) (rs : List R) (e : Error) : Type 0 where
  pub list : List Entry
  pub whole : rs ≡ ok_results list
  pub taken : AreTaken w list
  pub fault : writes_fault w list ≡ Some e

-- it fails with this error, at a result or at the end
abbrev pub RefusesOf : TablesWriting → List R → Error → Type 0
RefusesOf w rs e = MeetsFault w rs e ⊎ FailsBehind w rs e

-- all results are entries, and the finished tables are theirs
pub record TakesWhole {A : Type 0} (w : TablesWriting) (rs : List R) (fs : List (FinishedTable A))
    (left : Option ℕ) : Type 0 where
  pub list : List Entry
  pub whole : rs ≡ ok_results list
  pub none : writes_fault w list ≡ None
  pub written : AreWrittenBy w list fs left

-- the result of writing these, except for `OutOfMemory`: the tables of all, the first entry that
-- may not follow, or the first error
abbrev pub CameOf : {A : Type 0} → TablesWriting → List R → Result (CompactionOutcome A) Error
    → Type 0
CameOf w rs (Ok (Tables tables left)) = TakesWhole w rs tables.items left
CameOf w rs (Ok OutOfOrder) = LeavesOrder w rs
CameOf w rs (Ok Stopped) = ⊥
CameOf w rs (Err e) = is_memory e ≡ false → RefusesOf w rs e

-- this holds whichever errors stop a source, `OutOfMemory` among them
abbrev pub UpToMemory : ((Error → Bool) → Type 0) → Type 0
UpToMemory P = (stops : Error → Bool) → stops OutOfMemory ≡ true → P stops

-- up to `OutOfMemory`, a source yields exactly these results
abbrev pub YieldsResults : {S : Type 0} → (S → Option R → S → Type 0) → List R → S → Type 0
YieldsResults next rs s = (stops : Error → Bool) → stops OutOfMemory ≡ true →
    YieldsExactly (answer_stops stops) next nowhere s rs

-- this holds of the merge of any results that sources yield, if those of each come in order
abbrev pub OnYieldedResults : {S : Type 0} → (S → Option R → S → Type 0) → List S
    → (List R → Type 0) → Type 0
OnYieldedResults next sources P =
    (lists : List (List R)) → AllZip (λ s rs. YieldsResults next rs s) sources lists →
    EachAscends lists → P (merge_of lists)

-- up to `OutOfMemory`, a call returned a stream before the first table of these results
abbrev pub StartsTables : {S A : Type 0} → (S → Option R → S → Type 0) → TablesWriting → List R
    → Result (TableStream S A) Error → Type 0
StartsTables next w rs r = UpToMemory (λ stops. IfOk r (IsAfter stops next w rs []))

-- ---- tables of any bytes

-- the results of the scans of the runs that have a table, each up to its first error
abbrev pub scans_of : List (List OpenTable) → List (List R)
scans_of runs = map tables_scan (filter has_table runs)

-- this holds of the merge of the scans, if each comes in order
abbrev pub OnMergedScans : {Z : Type 0} → List (Arc (List OpenTable) Z) → (List R → Type 0) → Type 0
OnMergedScans runs P =
    let scans = scans_of (each_run runs) in EachAscends scans → P (merge_of scans)

-- this holds of what is kept of that merge
abbrev pub OnKeptScans : {Z : Type 0} → List (Arc (List OpenTable) Z) → Rules → (List R → Type 0)
    → Type 0
OnKeptScans runs rules P = OnMergedScans runs (λ rs. P (lent_outs rules rs))

-- the error of loading the first data block of a run
abbrev pub first_block_fault : List OpenTable → Option Error
first_block_fault [] = None
first_block_fault (t ∷ ts) = scan_fault t

-- the first of these errors, in the order of the runs
abbrev pub first_blocks_fault : List (List OpenTable) → Option Error
first_blocks_fault [] = None
first_blocks_fault (run ∷ runs) = option_or (first_block_fault run) (first_blocks_fault runs)

-- this is the error of the first run, in order, whose first data block cannot be loaded, and a scan
-- begins with it
pub record BeginsWith (runs : List (List OpenTable)) (e : Error) : Type 0 where
  pub fault : first_blocks_fault runs ≡ Some e
  pub begins : Any (λ (rs : List R). first rs ≡ Some (Err e)) (scans_of runs)
