-- One read of the object in a handle, at either end.
use Rattle.std.specs.Prelude.{◌≡◌, ◌<◌, ℕ, Bool, true, false, List, Option, Some, None, Result, length}
use Rattle.std.specs.Global.{Global}
use Rattle.sst_entries.specs.Entry.{Entry}
use Rattle.sst_entries.specs.declared.error.Error.{Error}
use Rattle.lsm_iters.specs.Range.{Range, RangeGives, back_next, front_next}
use Rattle.lsm_iters.specs.Words.{back_of, front_of}
use Rattle.lsm_readers.specs.Scan.{IsEndedScan, Scan, ScansLent}
use Rattle.sst_c.specs.Newest.{LentNewestAt, NewestAt}
use Rattle.sst_c.specs.Steps.{StepsAs, StepsBy}
use Rattle.sst_c.specs.Takes.{ReadsMany}
use Rattle.sst_c.specs.What.{IsRangeWhere, IsRunsScanAs, IsScanWhere, MergedStepsBy}
use Rattle.sst_c.specs.declared.entries.EntryReport.{EntryReport}
use Rattle.sst_c.specs.declared.held.What.{What}
use Rattle.sst_c.specs.declared.held.What.TheVariants.{Merged, Range as RangeOf}
use Rattle.sst_c.specs.declared.held.What.TheVariants.{RunsScan as RunsScanOf, Scan as ScanOf}

-- the steps at one of two ends
abbrev pub gives_at : {S : Type 0} → (front back : S → Option (Result Entry Error) → S → Type 0)
    → Bool → S → Option (Result Entry Error) → S → Type 0
gives_at {S} front back false = front
gives_at {S} front back true = back

-- the object is a range of several runs that satisfies this predicate, `None` after a read failed
abbrev pub IsMergedAs : (Option NewestAt → Type 0) → What → Type 0
IsMergedAs holds (Merged m) = holds m
IsMergedAs holds _ = ⊥

-- one read of several runs: a step, or nothing after a read failed
abbrev pub MergedReads : {S : Type 0} → (S → Option (Result Entry Error) → S → Type 0)
    → Option S → ℕ → Option Entry → Option S → Type 0
MergedReads {S} gives (Some s) code found left = StepsAs gives s code found left
MergedReads {S} gives None code found left = (code ≡ 0) × (found ≡ None) × (left ≡ None)

-- one read takes a scan or a range from w to v with a code and an entry. It is a step of a table's
-- scan or range, or of one over several runs
pub record ReadsOn (front back : NewestAt → Option (Result Entry Error) → NewestAt → Type 0)
    (advances : LentNewestAt → Option (Result Entry Error) → LentNewestAt → Type 0)
    (at_back : Bool) (w : What) (code : ℕ) (found : Option Entry) (v : What) : Type 0 where
  pub scan : (s : Scan) → w ≡ ScanOf s → IsScanWhere (StepsBy ScansLent s code found) v
  pub runs_scan : (m : Option LentNewestAt) → w ≡ RunsScanOf m
      → IsRunsScanAs (MergedReads advances m code found) v
  pub range : (s : Range Global) → w ≡ RangeOf s → IsRangeWhere
      (StepsBy (gives_at (RangeGives front_of front_next) (RangeGives back_of back_next) at_back)
      s code found) v
  pub merged : (m : Option NewestAt) → w ≡ Merged m
      → IsMergedAs (MergedReads (gives_at front back at_back) m code found) v

-- a step at one end leads from the range w to v, with a code and an entry
pub record StepsRange (gives back_gives : NewestAt → Option (Result Entry Error) → NewestAt → Type 0)
    (at_back : Bool) (w : What) (code : ℕ) (found : Option Entry) (v : What) : Type 0 where
  -- it is one step of a table's range from that end
  pub front : (s : Range Global) → w ≡ RangeOf s → at_back ≡ false
      → IsRangeWhere (StepsBy (RangeGives front_of front_next) s code found) v
  pub back : (s : Range Global) → w ≡ RangeOf s → at_back ≡ true
      → IsRangeWhere (StepsBy (RangeGives back_of back_next) s code found) v
  -- it is one step of a range of several runs, which is dropped if the step fails
  pub merged_front : (s : NewestAt) → w ≡ Merged (Some s) → at_back ≡ false
      → MergedStepsBy gives s code found v
  pub merged_back : (s : NewestAt) → w ≡ Merged (Some s) → at_back ≡ true
      → MergedStepsBy back_gives s code found v
  -- after that, the range is at its end
  pub over : w ≡ Merged None → (code ≡ 0) × (found ≡ None) × (v ≡ Merged None)

-- a bulk read at one end leads from the range w to v
pub record TakesRange (gives back_gives : NewestAt → Option (Result Entry Error) → NewestAt → Type 0)
    (at_back : Bool) (places returned : List EntryReport) (room copied : List ℕ) (count : ℕ)
    (w : What) (code : ℕ) (found : Option Entry) (v : What) : Type 0 where
  -- it makes as many steps of a table's range as needed, each as `sst_range_next` does
  pub reads : (s : Range Global) → w ≡ RangeOf s → IsRangeWhere (ReadsMany (StepsBy
      (gives_at (RangeGives front_of front_next) (RangeGives back_of back_next) at_back))
      s places returned room copied count code found) v
  -- it does the same with a range of several runs
  pub merged : (m : Option NewestAt) → w ≡ Merged m → IsMergedAs (ReadsMany (MergedReads
      (gives_at gives back_gives at_back)) m places returned room copied count code found) v

-- a step leads from the scan w to v, with a code and an entry
pub record StepsScan (advances : LentNewestAt → Option (Result Entry Error) → LentNewestAt → Type 0)
    (w : What) (code : ℕ) (found : Option Entry) (v : What) : Type 0 where
  -- it is one step of the scanner as a lending iterator
  pub steps : (s : Scan) → w ≡ ScanOf s → IsScanWhere (StepsBy ScansLent s code found) v
  -- if it finds nothing, at the end or at an error, nothing is left to read
  pub ends : (s : Scan) → w ≡ ScanOf s → found ≡ None → IsScanWhere IsEndedScan v
  -- if nothing is left, it finds nothing and returns 0
  pub over : (s : Scan) → w ≡ ScanOf s → IsEndedScan s → (code ≡ 0) × (found ≡ None)
  -- for several runs, it is one step of the stream that `lend_runs_at` returns. The stream is
  -- dropped if the step fails
  pub runs : (s : LentNewestAt) → w ≡ RunsScanOf (Some s)
      → IsRunsScanAs (StepsAs advances s code found) v
  -- after that, the scan is at its end
  pub over_runs : w ≡ RunsScanOf None → (code ≡ 0) × (found ≡ None) × (v ≡ RunsScanOf None)

-- a bulk read leads from the scan w to v
pub record TakesScan (advances : LentNewestAt → Option (Result Entry Error) → LentNewestAt → Type 0)
    (places returned : List EntryReport) (room copied : List ℕ) (count : ℕ) (w : What) (code : ℕ)
    (found : Option Entry) (v : What) : Type 0 where
  -- it makes as many steps of the scanner as needed, each as `sst_scan_next` does
  pub reads : (s : Scan) → w ≡ ScanOf s → IsScanWhere
      (ReadsMany (StepsBy ScansLent) s places returned room copied count code found) v
  -- if not all places are filled and nothing is found, nothing is left to read
  pub ends : (s : Scan) → w ≡ ScanOf s → found ≡ None → count < length places
      → IsScanWhere IsEndedScan v
  -- it does the same with a scan of several runs
  pub runs : (m : Option LentNewestAt) → w ≡ RunsScanOf m → IsRunsScanAs
      (ReadsMany (MergedReads advances) m places returned room copied count code found) v
