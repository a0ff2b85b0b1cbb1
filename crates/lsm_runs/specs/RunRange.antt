-- The results that a reader of a run has left, and one call of it.
use Rattle.std.specs.Prelude.{◌≡◌, ℕ, suc, ◌+◌, ◌≤◌, false, List, [], ◌∷◌, ◌++◌, length, reverse}
use Rattle.std.specs.Prelude.{Option, Some, None, Result, Ok, Err, MatchOption, MatchResult}
use Rattle.sst_entries.specs.declared.error.Error.{Error}
use Rattle.sst_entries.specs.declared.stream.Direction.{Direction}
use Rattle.sst_entries.specs.declared.stream.Direction.TheVariants.{Front, Back}
use Rattle.sst_entries.specs.Entry.{Entry}
use Rattle.sst_entries.specs.Error.{is_memory}
use Rattle.sst_entries.specs.Stream.{Lowers, Runs, answer_stops}
use Rattle.lsm_iters.specs.walk.Ends.{remains_in}
use Rattle.lsm_iters.specs.walk.Parts.{none_behind}
use Rattle.lsm_iters.specs.declared.walk.Walk.{Walk}
use Rattle.lsm_iters.specs.Range.{LendsOn, Range, range_remains}
use Rattle.lsm_readers.specs.point.Table.{OpenTable}
use Rattle.lsm_run_parts.specs.RunParts.{Part, RunSpan, part_read_results, span_parts}
use Rattle.lsm_run_parts.specs.Tables.{Unopened, parts_loads, run_parts_results}

-- the unopened tables, the number of those opened, and the readers at the front and at the back, if
-- opened
pub record RunRange (A : Type 0) : Type 0 where
  pub unopened : Unopened
  pub front : Option (Range A)
  pub back : Option (Range A)

-- an iteration over such tables, as a reader of a run
abbrev pub run_of : {A : Type 0} → Walk Unopened (Range A) → RunRange A
run_of w = record { unopened = w.parts; front = w.front; back = w.back }

-- the results that a reader has left, and a bound on its loads for them
abbrev pub left_of_reader : {A : Type 0} → Option (Range A) → List (Result Entry Error)
left_of_reader reader = (remains_in range_remains reader).results

abbrev pub loads_of_reader : {A : Type 0} → Option (Range A) → ℕ
loads_of_reader reader = (remains_in range_remains reader).loads

-- the results left, and a bound on the loads for them
abbrev pub run_left : {A : Type 0} → RunRange A → List (Result Entry Error)
run_left s = left_of_reader s.front ++ (run_parts_results s.unopened.parts ++ left_of_reader s.back)

abbrev pub run_loads : {A : Type 0} → RunRange A → ℕ
run_loads s = loads_of_reader s.front + parts_loads s.unopened.parts + loads_of_reader s.back

-- a bound on the calls that still yield something
abbrev pub run_size : {A : Type 0} → RunRange A → ℕ
run_size s = length (run_left s) + run_loads s

-- nothing is left to yield or to open
abbrev pub IsRunEnded : {A : Type 0} → RunRange A → Type 0
IsRunEnded s = run_size s ≡ 0

-- before any call, a reader of a span of a run: no table is opened
pub record IsRunOf {A : Type 0} (tables : List OpenTable) (span : RunSpan) (s : RunRange A) : Type 0
  where
    pub parts : s.unopened.parts ≡ span_parts span tables
    pub opened : s.unopened.opened ≡ 0
    pub front : s.front ≡ None
    pub back : s.back ≡ None

-- the number of these tables that one call opens, the next one first: up to the first that has an
-- item
abbrev pub tables_needed : List Part → ℕ
tables_needed [] = 0
tables_needed (p ∷ ps) = suc (none_behind (part_read_results p) (tables_needed ps))

-- the number of tables that one call opens, at the front and at the back: none if an open table has
-- an item there
abbrev pub front_tables : {A : Type 0} → RunRange A → ℕ
front_tables s = none_behind (left_of_reader s.front) (tables_needed s.unopened.parts)

abbrev pub back_tables : {A : Type 0} → RunRange A → ℕ
back_tables s = none_behind (left_of_reader s.back) (tables_needed (reverse s.unopened.parts))

abbrev pub tables_at : {A : Type 0} → Direction → RunRange A → ℕ
tables_at Front s = front_tables s
tables_at Back s = back_tables s

-- the result of a call at an end: the first result there, `None` if nothing is left, or
-- `OutOfMemory` in place of any
abbrev pub RunAnswer : {A : Type 0}
    → (List (Result Entry Error) → Option (Result Entry Error) × List (Result Entry Error))
    → RunRange A → Option (Result Entry Error) → RunRange A → Type 0
RunAnswer end s None t = run_left s ≡ []
RunAnswer end s (Some (Ok e)) t = end (run_left s) ≡ (Some (Ok e), run_left t)
RunAnswer end s (Some (Err e)) t = is_memory e ≡ false → (end (run_left s)).0 ≡ Some (Err e)

-- each table that a call opens is counted, was unopened, and is needed for the result
pub record CountsTables (needed : ℕ) (s t : Unopened) : Type 0 where
  pub count : ℕ
  pub counts : t.opened ≡ count + s.opened
  pub within : count + length t.parts ≤ length s.parts
  pub most : count ≤ needed

-- the entry that a table lends, if one is open
abbrev pub lent_of_reader : {A : Type 0} → Option (Range A) → Option Entry
lent_of_reader None = None
lent_of_reader (Some s) = s.lent

-- one call at an end. An error ends the reader. It opens exactly the tables that it needs, or at
-- most these if out of memory. Each result but the last `None` brings the end nearer, and after the
-- end only `None` comes
pub record RunGives {A : Type 0} (end : List (Result Entry Error) → Option (Result Entry Error)
    × List (Result Entry Error)) (needed : RunRange A → ℕ) (s : RunRange A)
    (r : Option (Result Entry Error)) (t : RunRange A) : Type 0 where
  pub answer : RunAnswer end s r t
  pub ends : MatchOption r (Unit {0}) (λ x. MatchResult x (λ _. Unit {0}) (λ _. IsRunEnded t))
  pub lowers : Lowers r (run_size s) (run_size t)
  pub tables : CountsTables (needed s) s.unopened t.unopened
  pub exact : answer_stops is_memory r ≡ false → tables.count ≡ needed s
  pub lent : LendsOn r (lent_of_reader t.front)

-- whatever calls are made, at most so many tables are opened
abbrev pub OpensAtMost : {A : Type 0} (front back : RunRange A → Option (Result Entry Error)
    → RunRange A → Type 0) → ℕ → RunRange A → Type 0
OpensAtMost {A} front back most s =
    (ends : List Direction) (rs : List (Option (Result Entry Error))) (t : RunRange A) →
    Runs front back s ends rs t → t.unopened.opened ≤ most
