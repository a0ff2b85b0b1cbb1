-- Ranges and scans of several runs within bounds, as C opens them.
use Rattle.std.specs.Prelude.{ℕ, List, Option, Result, map}
use Rattle.std.specs.Global.{Global}
use Rattle.std.specs.List.{AllByRecursion}
use Rattle.std.specs.declared.ops.Bound.{Bound}
use Rattle.sst_entries.specs.Entry.{Entry}
use Rattle.sst_entries.specs.Point.{within}
use Rattle.sst_entries.specs.Stream.{nowhere}
use Rattle.sst_entries.specs.declared.error.Error.{Error}
use Rattle.lsm_sorted.specs.Below.{below_results, numbered_below}
use Rattle.lsm_sorted.specs.declared.below.Below.{Below}
use Rattle.lsm_sorted.specs.lending.LentNewest.{newest_results}
use Rattle.lsm_sorted.specs.merge.InPlace.{merge_of}
use Rattle.lsm_sorted.specs.merge.Union.{Ascends, entries_among, newest}
use Rattle.lsm_readers.specs.point.Table.{OpenTable}
use Rattle.lsm_runs.specs.LentNewestRuns.{LendsResults, runs_results_within}
use Rattle.lsm_runs.specs.RunLists.{RunsHoldLists, YieldsList}
use Rattle.lsm_runs.specs.RunRange.{RunRange}
use Rattle.lsm_runs.specs.SeveralRuns.{union_in}
use Rattle.lsm_runs.specs.SpansRead.{IsOverSpansBelow}
use Rattle.sst_c.specs.Newest.{LentNewestAt, NewestAt}
use Rattle.sst_c.specs.What.{IsMergedWhere, IsRunsScanWhere, decode_bound, runs_held}
use Rattle.sst_c.specs.declared.held.What.{What}

-- the newest versions of all entries of runs within bounds and below a sequence number
abbrev pub newest_of_runs : Bound (List ℕ) → Bound (List ℕ) → ℕ → List (List (List Entry))
    → List Entry
newest_of_runs low high seqno lists = newest (numbered_below seqno (within low high (union_in lists)))

-- a range reads runs within bounds and below a sequence number, from both ends
pub record RangesRuns
    (reads reads_back : Below (RunRange Global) → Option (Result Entry Error)
    → Below (RunRange Global) → Type 0)
    (gives back_gives : NewestAt → Option (Result Entry Error) → NewestAt → Type 0)
    (low high : Bound (List ℕ)) (seqno : ℕ) (runs : List (List OpenTable)) (s : NewestAt)
    : Type 0 where
  -- for any bytes, it merges readers of the runs. Each covers the tables of its run whose ranges
  -- overlap the bounds. An error of a reader is yielded at its position
  pub steps : IsOverSpansBelow reads reads_back gives back_gives low high seqno runs s
  -- for tables of lists, it yields the newest versions, global sequence numbers applied
  pub list : (lists : List (List (List Entry))) → RunsHoldLists runs lists
      → YieldsList gives back_gives (newest_of_runs low high seqno lists) s

-- a scan lends the entries of runs within bounds and below a sequence number
pub record ScansRuns (advances : LentNewestAt → Option (Result Entry Error) → LentNewestAt → Type 0)
    (low high : Bound (List ℕ)) (seqno : ℕ) (runs : List (List OpenTable)) (s : LentNewestAt)
    : Type 0 where
  -- for any bytes: suppose each run's results within the bounds ascend up to its first error. It then
  -- lends the newest versions of their merge, up to the first error, at its position
  pub places : AllByRecursion (λ rs. Ascends (entries_among rs)) (runs_results_within low high runs)
      → LendsResults advances (newest_results (merge_of (map (below_results seqno)
      (runs_results_within low high runs)))) s
  -- for tables of lists, it lends the newest versions, global sequence numbers applied
  pub list : (lists : List (List (List Entry))) → RunsHoldLists runs lists
      → YieldsList advances nowhere (newest_of_runs low high seqno lists) s

-- the object v is a range of the runs w within bounds as C passes them
abbrev pub RangesRunsHeld :
    (Below (RunRange Global) → Option (Result Entry Error) → Below (RunRange Global) → Type 0)
    → (Below (RunRange Global) → Option (Result Entry Error) → Below (RunRange Global) → Type 0)
    → (NewestAt → Option (Result Entry Error) → NewestAt → Type 0)
    → (NewestAt → Option (Result Entry Error) → NewestAt → Type 0)
    → ℕ → List ℕ → ℕ → List ℕ → ℕ → What → What → Type 0
RangesRunsHeld reads reads_back gives back_gives lower_kind lower upper_kind upper seqno w v =
    IsMergedWhere (RangesRuns reads reads_back gives back_gives (decode_bound lower_kind lower)
    (decode_bound upper_kind upper) seqno (runs_held w)) v

-- the object v is a scan of the runs w within bounds as C passes them
abbrev pub ScansRunsHeld : (LentNewestAt → Option (Result Entry Error) → LentNewestAt → Type 0)
    → ℕ → List ℕ → ℕ → List ℕ → ℕ → What → What → Type 0
ScansRunsHeld advances lower_kind lower upper_kind upper seqno w v = IsRunsScanWhere (ScansRuns
    advances (decode_bound lower_kind lower) (decode_bound upper_kind upper) seqno (runs_held w)) v
