-- The entries that a merged dump prints.
use Rattle.std.specs.Prelude.{◌≡◌, ◌≤◌, ◌⊎◌, ◌++◌, ◌^◌, ◌-◌, ℕ, Bool, List, [], Option, None, Some}
use Rattle.std.specs.Prelude.{MatchResult, Result, Ok, Err, IfErr, IfOk, false, filter, find, is_some, true}
use Rattle.std.specs.Prelude.{if◌then◌else◌, length, map, not, take}
use Rattle.std.specs.List.{AllByRecursion}
use Rattle.sst_entries.specs.Entry.{Entry}
use Rattle.sst_entries.specs.Error.{is_memory}
use Rattle.sst_entries.specs.Kind.{is_tombstone_kind}
use Rattle.sst_entries.specs.Point.{within}
use Rattle.sst_entries.specs.Stream.{YieldsExactly, answer_stops, nowhere, ok_results}
use Rattle.sst_entries.specs.declared.error.Error.{Error}
use Rattle.lsm_sorted.specs.Below.{below_results, numbered_below}
use Rattle.lsm_sorted.specs.lending.LentNewest.{newest_results}
use Rattle.lsm_sorted.specs.merge.InPlace.{merge_of}
use Rattle.lsm_sorted.specs.merge.Union.{Ascends, entries_among, newest}
use Rattle.lsm_sorted.specs.version.Run.{IsInOrder}
use Rattle.lsm_readers.specs.point.Table.{OpenTable}
use Rattle.lsm_run_parts.specs.RunParts.{range_of}
use Rattle.lsm_runs.specs.LentNewestRuns.{runs_results_within}
use Rattle.lsm_runs.specs.SeveralRuns.{union_in}
use Rattle.sst_tool.specs.declared.files.error.ToolError.{ToolError}
use Rattle.sst_tool.specs.declared.files.error.ToolError.TheVariants as error
use Rattle.sst_tool.specs.declared.show.dumps.DumpOptions.{DumpOptions}
use Rattle.sst_tool.specs.declared.show.named.NamedTable.{NamedTable}
use Rattle.sst_tool.specs.show.Failures.{NamesNone}
use Rattle.sst_tool.specs.show.Files.{IsSoundTable}
use Rattle.sst_tool.specs.show.Read.{Outcome, dumped, first_error, from_key, in_turn, readable}
use Rattle.sst_tool.specs.show.Read.{up_to_key}

-- The entry is no tombstone.
abbrev pub is_live : Entry → Bool
is_live e = not (is_tombstone_kind e.kind)

-- The entries that are no tombstones.
abbrev pub live_of : List Entry → List Entry
live_of es = filter is_live es

-- The first n entries in turn that are no tombstones.
abbrev pub merged_entries : Bool → ℕ → List Entry → List Entry
merged_entries back n es = take n (live_of (in_turn back es))

-- The newest versions below a seqno of all lists together, in the range.
abbrev pub newest_in : DumpOptions → ℕ → List (List (List Entry)) → List Entry
newest_in o seqno lists =
    newest (numbered_below seqno (within (from_key o.from) (up_to_key o.to) (union_in lists)))

-- The results of reading the range from each run's bytes, up to its first error.
abbrev pub ranges_in : DumpOptions → List (List OpenTable) → List (List Outcome)
ranges_in o runs = runs_results_within (from_key o.from) (up_to_key o.to) runs

-- This holds if the range is read from the front, the tables of each run are in order, and so are
-- the entries that it reads of each run.
abbrev pub IfReadInOrder : DumpOptions → List (List OpenTable) → Type 0 → Type 0
IfReadInOrder o runs holds = o.reverse ≡ false → AllByRecursion (IsInOrder range_of) runs
    → AllByRecursion (λ rs. Ascends (entries_among rs)) (ranges_in o runs) → holds

-- The newest versions below a seqno of these results, merged up to the first error.
abbrev pub newest_found : DumpOptions → ℕ → List (List OpenTable) → List Outcome
newest_found o seqno runs = newest_results (merge_of (map (below_results seqno) (ranges_in o runs)))

-- The number of lines of an entry.
abbrev pub merged_lines : Entry → ℕ
merged_lines e = if is_live e then 1 else 0

-- The result of printing an item: none for no item, and else its number of lines unless printing
-- fails. An error of the item is passed on.
abbrev pub ShowsLive : Option Outcome → Result (Option ℕ) ToolError → Type 0
ShowsLive None r = r ≡ Ok None
ShowsLive (Some (Ok e)) r = MatchResult r (λ shown. shown ≡ Some (merged_lines e)) NamesNone
ShowsLive (Some (Err e)) r = r ≡ Err (error.Refused e)

-- The error is one of the output or OutOfMemory, or another of the library with this property. So
-- it names no file.
abbrev pub FailsOnlyAs : (Error → Type 0) → ToolError → Type 0
FailsOnlyAs IsReported (error.Output e) = Unit {0}
FailsOnlyAs IsReported (error.Refused e) = is_memory e ≡ false → IsReported e
FailsOnlyAs IsReported e = ⊥

-- The first of these results were read. All of them are entries, and those that are no tombstones
-- were printed: as many as may be, or all that there are.
pub record PrintsMerged (most : ℕ) (rs : List Outcome) (count : ℕ) : Type 0 where
  pub read : List Entry
  pub rest : List Outcome
  pub split : ok_results read ++ rest ≡ rs
  pub counted : count ≡ length (live_of read)
  pub few : count ≤ most
  pub ends : (count ≡ most) ⊎ (rest ≡ [])

-- Of the results that the source yields by these steps, so many are printed; or the first error
-- among them is passed on, unless it is one that stops the source.
abbrev pub PrintsSteps : {S : Type 0} (step : S → Option Outcome → S → Type 0) → S → ℕ
    → Result ℕ ToolError → Type 0
PrintsSteps step s most result =
    (stops : Error → Bool) (rs : List Outcome) → YieldsExactly (answer_stops stops) step nowhere s rs
    → IfOk result (PrintsMerged most rs)
    × IfErr result (FailsOnlyAs (λ e. stops e ≡ false → first_error rs ≡ Some e))

-- The first error of reading the file's range, in the order of printing.
abbrev pub range_error : DumpOptions → OpenTable → Option Error
range_error o t = first_error (dumped o.reverse (2 ^ 64 - 1) (readable o t))

-- The first of these files whose range cannot be read.
abbrev pub unread_file : {A : Type 0} → DumpOptions → List (NamedTable A) → Option (NamedTable A)
unread_file o fs = find (λ f. is_some (range_error o f.table)) fs

-- An error that names a file names this one: reading its range meets this error, and it stores no
-- list.
abbrev pub IsUnread : {A : Type 0} → DumpOptions → NamedTable A → ToolError → Type 0
IsUnread o f (error.Unreadable name at e) =
    (name ≡ f.name) × (range_error o f.table ≡ Some e) × (IsSoundTable f.table → ⊥)
IsUnread o f (error.Refused e) = is_memory e ≡ true
IsUnread o f e = Unit {0}

-- An error that names a file names the first of these whose range cannot be read. If another error
-- than OutOfMemory of the library names none, the range of each can be read.
abbrev pub NamesUnread : {A : Type 0} → DumpOptions → List (NamedTable A) → ToolError → Type 0
NamesUnread {A} o fs (error.Unreadable name at e) = (f : NamedTable A)
    × (unread_file o fs ≡ Some f) × IsUnread o f (error.Unreadable name at e)
NamesUnread o fs (error.Refused e) = is_memory e ≡ false → unread_file o fs ≡ None
NamesUnread o fs e = Unit {0}
