-- The entries that several runs hold together.
use Rattle.std.specs.Prelude.{◌≡◌, ℕ, ◌==◌, Bool, ◌&&◌, List, map, Option, Result}
use Rattle.std.specs.Borrow.{Bor}
use Rattle.std.specs.List.{list_any}
use Rattle.std.specs.declared.ops.Bound.{Bound}
use Rattle.sst_entries.specs.Entry.{Entry}
use Rattle.sst_entries.specs.Key.{same_key}
use Rattle.sst_entries.specs.Point.{within}
use Rattle.sst_entries.specs.Stream.{nowhere, ok_results}
use Rattle.sst_entries.specs.declared.error.Error.{Error}
use Rattle.lsm_sorted.specs.merge.Union.{newest, union_of}
use Rattle.lsm_sorted.specs.version.KeyRange.{key_bound}
use Rattle.lsm_readers.specs.point.Table.{OpenTable}
use Rattle.lsm_runs.specs.RunLists.{YieldsList}
use Rattle.lsm_runs.specs.compaction.Chain.{IsRunOfList}

-- a run: a list, and the tables that were written of it and opened without a global seqno
pub record Run : Type 0 where
  pub list : List Entry
  pub tables : List OpenTable
  pub is : IsRunOfList list 0 tables

abbrev pub run_tables : List Run → List (List OpenTable)
run_tables runs = map (λ r. r.tables) runs

-- for all runs whose tables these are
abbrev pub ForRuns : List (List OpenTable) → (List Run → Type 0) → Type 0
ForRuns tables P = (runs : List Run) → run_tables runs ≡ tables → P runs

-- these are the tables of some runs
abbrev pub HasRuns : List (List OpenTable) → (List Run → Type 0) → Type 0
HasRuns tables P = (runs : List Run) × (run_tables runs ≡ tables) × P runs

-- the sorted entries of the lists of some runs
abbrev pub union : List Run → List Entry
union runs = union_of (map (λ r. ok_results r.list) runs)

-- the newest version of each key within two bounds
abbrev pub newest_between : Bound (Bor (List ℕ)) → Bound (Bor (List ℕ)) → List Run → List Entry
newest_between low high runs = newest (within (key_bound low) (key_bound high) (union runs))

-- whether a list has an entry of a key and a seqno
abbrev pub has_entry : List Entry → List ℕ → ℕ → Bool
has_entry es key n = list_any (λ e. same_key e.user_key key && (e.seqno == n)) es

-- whether some runs have an entry with the key and seqno of one of these entries
abbrev pub repeats : List Run → List Entry → Bool
repeats runs es = list_any (λ e. has_entry (union runs) e.user_key e.seqno) es

-- this holds of any list that a source lends
abbrev pub OnLent : {S : Type 0} (next : S → Option (Result Entry Error) → S → Type 0) → S
    → (List Entry → Type 0) → Type 0
OnLent next s P = (es : List Entry) → YieldsList next nowhere es s → P es
