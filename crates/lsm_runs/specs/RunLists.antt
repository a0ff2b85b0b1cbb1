-- Runs of tables whose bytes store lists, and the results of reading them.
use Rattle.std.specs.Prelude.{◌≡◌, ℕ, suc, ◌-◌, Bool, true, List, [], ◌∷◌, drop, map, take, Option}
use Rattle.std.specs.Prelude.{Result, if◌then◌else◌}
use Rattle.std.specs.Arc.{arc_value}
use Rattle.std.specs.List.{AllByRecursion, AllZip}
use Rattle.std.specs.declared.sync.Arc.{Arc}
use Rattle.std.specs.declared.ops.Bound.{Bound}
use Rattle.sst_entries.specs.declared.error.Error.{Error}
use Rattle.sst_entries.specs.declared.error.Error.TheVariants.{OutOfMemory}
use Rattle.sst_entries.specs.Entry.{Entry}
use Rattle.sst_entries.specs.Point.{within}
use Rattle.sst_entries.specs.Stream.{CanYield, YieldsExactly, answer_stops, nowhere, ok_results}
use Rattle.sst_blocks.specs.table.Chunks.{joined}
use Rattle.lsm_iters.specs.Lift.{lift}
use Rattle.lsm_sorted.specs.merge.Union.{Ascends}
use Rattle.lsm_sorted.specs.version.Run.{IsInOrder}
use Rattle.lsm_readers.specs.Stored.{StoresList}
use Rattle.lsm_readers.specs.point.Table.{IsOpen, OpenTable}
use Rattle.lsm_run_parts.specs.RunParts.{RunSpan, is_edge, range_of}

-- an opened table whose bytes store a list, which it yields with the global seqno applied
pub record HoldsList (t : OpenTable) (es : List Entry) : Type 0 where
  pub stored : List Entry
  pub opened : IsOpen t
  pub table : StoresList t.bytes stored
  pub lifted_is : es ≡ lift stored t.global_seqno

-- the same of each table of a run
abbrev pub HoldLists : List OpenTable → List (List Entry) → Type 0
HoldLists tables lists = AllZip HoldsList tables lists

-- the list at an index: within the bounds where the span begins or ends there, else whole
abbrev pub list_at : RunSpan → ℕ → List Entry → List Entry
list_at s place es = if is_edge s place then within s.low s.high es else es

-- the same of each list, from an index on
abbrev pub lists_at : RunSpan → ℕ → List (List Entry) → List (List Entry)
lists_at s place [] = []
lists_at s place (es ∷ ls) = list_at s place es ∷ lists_at s (suc place) ls

-- the lists of the span, concatenated
abbrev pub span_list : RunSpan → List (List Entry) → List Entry
span_list s lists = joined (take (suc s.last - s.first) (drop s.first (lists_at s 0 lists)))

-- each of several runs is in order, and their tables yield these lists, global seqnos applied
abbrev pub RunsHoldLists : List (List OpenTable) → List (List (List Entry)) → Type 0
RunsHoldLists runs lists =
    AllZip (λ tables ls. IsInOrder range_of tables × HoldLists tables ls) runs lists

-- for each run, the list of each of its tables
abbrev pub TableLists : Type 0
TableLists = List (List (List Entry))

-- the tables of each of several shared runs
abbrev pub each_run : {Z : Type 0} → List (Arc (List OpenTable) Z) → List (List OpenTable)
each_run runs = map arc_value runs

-- these runs are in order, and their tables yield these lists, global seqnos applied
abbrev pub RunsHold : {Z : Type 0} → List (Arc (List OpenTable) Z) → TableLists → Type 0
RunsHold runs lists = RunsHoldLists (each_run runs) lists

-- this holds of any lists that the runs hold
abbrev pub OnLists : {Z : Type 0} → List (Arc (List OpenTable) Z) → (TableLists → Type 0) → Type 0
OnLists runs P = (lists : TableLists) → RunsHold runs lists → P lists

-- each of these runs is in order
abbrev pub AreRunsInOrder : {Z : Type 0} → List (Arc (List OpenTable) Z) → Type 0
AreRunsInOrder runs = AllByRecursion (IsInOrder range_of) (each_run runs)

-- up to `OutOfMemory`, a source yields exactly these entries, for every list of ends
abbrev pub YieldsList : {S : Type 0} (front back : S → Option (Result Entry Error) → S → Type 0)
    → List Entry → S → Type 0
YieldsList front back es s =
    (stops : Error → Bool) → stops OutOfMemory ≡ true →
    YieldsExactly (answer_stops stops) front back s (ok_results es)

-- the source may be polled from the front
abbrev pub CanLend : {S : Type 0} (next : S → Option (Result Entry Error) → S → Type 0)
    → (S → Type 0) → S → Type 0
CanLend next can s = CanYield next nowhere can can s

-- sources yield sorted lists, one each, which have together exactly the entries of these lists
pub record YieldTogether {S : Type 0} (front back : S → Option (Result Entry Error) → S → Type 0)
    (sources : List S) (found : List (List Entry)) : Type 0 where
  pub yielded : List (List Entry)
  pub same : joined yielded ≡ joined found
  pub ascend : AllByRecursion Ascends yielded
  pub yield_each : AllZip (λ s es. YieldsList front back es s) sources yielded

-- this holds of any lists that sources yield together
abbrev pub OnYieldedLists : {S : Type 0} → (S → Option (Result Entry Error) → S → Type 0)
    → List S → (TableLists → Type 0) → Type 0
OnYieldedLists next sources P =
    (lists : TableLists) → YieldTogether next nowhere sources (map joined lists) → P lists

-- each source yields the part within the bounds of one of these lists, which are sorted
pub record YieldWithin {S : Type 0} (front back : S → Option (Result Entry Error) → S → Type 0)
    (low high : Bound (List ℕ)) (sources : List S) (lists : List (List Entry)) : Type 0 where
  pub ascend : AllByRecursion Ascends lists
  pub yield_each : AllZip (λ s es. YieldsList front back (within low high es) s) sources lists

-- the list of a source, as a run of one table
abbrev pub single : List Entry → List (List Entry)
single es = es ∷ []
