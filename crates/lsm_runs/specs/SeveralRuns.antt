-- The result of reading several runs together.
use Rattle.std.specs.Prelude.{◌≡◌, ℕ, ◌+◌, ◌-◌, ◌^◌, ◌≤◌, Bool, false, nat_lt, List, [], ◌∷◌, map}
use Rattle.std.specs.Prelude.{min, Option, Some, None, Result, if◌then◌else◌}
use Rattle.sst_entries.specs.declared.error.Error.{Error}
use Rattle.sst_entries.specs.Entry.{Entry}
use Rattle.sst_entries.specs.Stream.{ok_results}
use Rattle.sst_blocks.specs.declared.opened.Opened.{Opened}
use Rattle.sst_blocks.specs.table.Chunks.{joined}
use Rattle.lsm_sorted.specs.merge.Union.{union_of}
use Rattle.lsm_sorted.specs.version.Run.{table_of_key}
use Rattle.lsm_readers.specs.point.Answer.{table_answer}
use Rattle.lsm_readers.specs.point.Read.{Read, known, read_then}
use Rattle.lsm_readers.specs.point.Table.{OpenTable}
use Rattle.lsm_sorted.specs.Leading.{leading_of}
use Rattle.lsm_run_parts.specs.RunParts.{range_of}

-- a point read of a table, if there is one: its result, and the blocks it loads
abbrev pub table_read : List ℕ → ℕ → Option OpenTable → Read (Option Entry)
table_read key bound None = known None
table_read key bound (Some t) = table_answer t key bound

-- a point read of a run: of the one table whose range has the key
abbrev pub run_read : List ℕ → ℕ → List OpenTable → Read (Option Entry)
run_read key bound tables = table_read key bound (table_of_key range_of key tables)

-- point reads of several runs in order, after what was found: the leading entry, or the error of
-- the first run that has one
abbrev pub runs_read_by : (Option Entry → List OpenTable → Read (Option Entry)) → Option Entry
    → List (List OpenTable) → Read (Option Entry)
runs_read_by read found [] = known found
runs_read_by read found (tables ∷ runs) =
    read_then (read found tables) (λ next. runs_read_by read (leading_of found next) runs)

-- every run is read
abbrev pub runs_read : List ℕ → ℕ → Option Entry → List (List OpenTable) → Read (Option Entry)
runs_read key bound found runs = runs_read_by (λ _ tables. run_read key bound tables) found runs

-- the result of it
abbrev pub runs_result : List ℕ → ℕ → Option Entry → List (List OpenTable)
    → Result (Option Entry) Error
runs_result key bound found runs = (runs_read key bound found runs).returned

-- a table's highest seqno, with the global seqno applied
abbrev pub highest_number : OpenTable → ℕ
highest_number t = t.parts.facts.seqno_max + t.global_seqno

-- every seqno of a table is below that of what was found
abbrev pub is_older : Option Entry → OpenTable → Bool
is_older None t = false
is_older (Some e) t = nat_lt (highest_number t) e.seqno

-- a table is read unless it is older than what was found
abbrev pub worth_asking : Option Entry → Option OpenTable → Option OpenTable
worth_asking found None = None
worth_asking found (Some t) = if is_older found t then None else Some t

-- a point read of a run after what was found: of the one table whose range has the key, unless it
-- is older
abbrev pub run_read_behind : List ℕ → ℕ → Option Entry → List OpenTable → Read (Option Entry)
run_read_behind key bound found tables =
    table_read key bound (worth_asking found (table_of_key range_of key tables))

-- a point read of several runs, without the tables older than what the runs before have
abbrev pub runs_read_by_age : List ℕ → ℕ → Option Entry → List (List OpenTable)
    → Read (Option Entry)
runs_read_by_age key bound found runs = runs_read_by (run_read_behind key bound) found runs

-- the sum of two counts, at most the largest value
abbrev pub sum_within : ℕ → ℕ → ℕ
sum_within m n = min (m + n) (2 ^ 64 - 1)

-- the sum of two counts of loads
abbrev pub loads_together : Opened → Opened → Opened
loads_together a b = record {
  data_loads = sum_within a.data_loads b.data_loads;
  index_loads = sum_within a.index_loads b.index_loads;
  filter_loads = sum_within a.filter_loads b.filter_loads;
  meta_loads = sum_within a.meta_loads b.meta_loads;
}

-- at most so many data blocks, index blocks and filter blocks, of each kind, were loaded, and no
-- others
pub record LoadsEach (most : ℕ) (o : Opened) : Type 0 where
  pub data_few : o.data_loads ≤ most
  pub index_few : o.index_loads ≤ most
  pub filter_few : o.filter_loads ≤ most
  pub no_meta : o.meta_loads ≡ 0

-- the sorted entries of several runs' lists
abbrev pub union_in : List (List (List Entry)) → List Entry
union_in lists = union_of (map (λ run. ok_results (joined run)) lists)

-- the same as results without errors
abbrev pub union_results : List (List (List Entry)) → List (Result Entry Error)
union_results lists = ok_results (union_in lists)
