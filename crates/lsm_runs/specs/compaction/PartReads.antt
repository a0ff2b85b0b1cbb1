-- The results of reading several runs before and after a part of them is compacted.
use Rattle.std.specs.Prelude.{◌≡◌, ◌≤◌, ℕ, List, ◌++◌, Option, Result}
use Rattle.std.specs.declared.ops.Bound.{Bound}
use Rattle.sst_entries.specs.declared.error.Error.{Error}
use Rattle.sst_entries.specs.Entry.{Entry}
use Rattle.sst_entries.specs.Point.{point, within}
use Rattle.lsm_sorted.specs.merge.Union.{newest}
use Rattle.lsm_readers.specs.point.Table.{OpenTable}
use Rattle.lsm_sorted.specs.declared.compaction.Rules.{Rules}
use Rattle.lsm_sorted.specs.Point.{shown}
use Rattle.lsm_runs.specs.compaction.Compacted.{kept_in}
use Rattle.lsm_runs.specs.compaction.ReadsCompacted.{all_shown, joined_in}
use Rattle.lsm_runs.specs.RunLists.{YieldsList, RunsHoldLists}
use Rattle.lsm_runs.specs.SeveralRuns.{union_in}

-- tables of lists in adjacent runs: before a part, in the part, and after it
pub record HoldSides (front part behind : List (List OpenTable))
    (fs ps bs : List (List (List Entry))) : Type 0 where
  pub in_front : RunsHoldLists front fs
  pub in_part : RunsHoldLists part ps
  pub in_behind : RunsHoldLists behind bs

module _ {S : Type 0} (front back : S → Option (Result Entry Error) → S → Type 0)
    (key : List ℕ) (bound : ℕ) (low high : Bound (List ℕ)) where
  -- the results of reading a list: the first match of a key, and the newest versions within two
  -- bounds
  pub record ReadsOf (es : List Entry) (read : Option Entry × S) : Type 0 where
    pub point_is : read.0 ≡ point es key bound
    pub range_is : YieldsList front back (newest (within low high es)) read.1

  -- the results of reading what is kept of a part's lists, with the lists before and after them
  pub record ReadsKept (rules : Rules) (fs ps bs : List (List (List Entry)))
      (read : Option Entry × S) : Type 0 where
    pub made : List (List (List Entry))
    pub kept_are : joined_in made ≡ kept_in rules ps
    pub reads : ReadsOf (union_in (fs ++ (made ++ bs))) read

  -- reads of one list before and of another after show the same, point reads if their bound is the
  -- watermark or above
  pub record ShowAlike (watermark : ℕ) (before after : Option Entry × S) : Type 0 where
    pub had : List Entry
    pub has : List Entry
    pub had_read : ReadsOf had before
    pub has_read : ReadsOf has after
    pub same_point : watermark ≤ bound → shown after.0 ≡ shown before.0
    pub same_range : all_shown (newest (within low high has)) ≡ all_shown
        (newest (within low high had))
