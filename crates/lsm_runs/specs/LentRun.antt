-- A lending reader of a run, from the front.
use Rattle.std.specs.Prelude.{◌≡◌, true, List, ◌∷◌, Option, Some, None, Result, Ok, Err}
use Rattle.sst_entries.specs.declared.error.Error.{Error}
use Rattle.sst_entries.specs.declared.stream.Direction.TheVariants.{Front}
use Rattle.sst_entries.specs.Entry.{Entry}
use Rattle.sst_entries.specs.Stream.{front_of}
use Rattle.lsm_iters.specs.declared.walk.Walk.{Walk}
use Rattle.lsm_iters.specs.walk.Ends.{StepGives, remains_in}
use Rattle.lsm_iters.specs.walk.Parts.{LoadGives}
use Rattle.lsm_iters.specs.Lift.{lifted_result}
use Rattle.lsm_iters.specs.Range.{Range, range_remains}
use Rattle.lsm_run_parts.specs.Tables.{KeepsTables, Unopened, coming_tables, none_unopened}
pub use Rattle.lsm_runs.specs.RunRange.{lent_of_reader}
use Rattle.lsm_runs.specs.RunRange.{RunGives, RunRange, front_tables}

-- ---- the reader of one table

-- the next result of a table is an entry in a loaded block
pub record Stands {A : Type 0} (reader : Option (Range A)) (x : Result Entry Error) : Type 0 where
  pub range : Range A
  pub is : reader ≡ Some range
  pub sought : range.handles.sought ≡ true
  pub entry : Entry
  pub others : List Entry
  pub front : range.front ≡ entry ∷ others
  pub returned : x ≡ lifted_result range.of.global_seqno entry

-- one step of it; an entry in a loaded block is yielded even when out of memory
pub record ReaderLends {A : Type 0} (s : Option (Range A)) (r : Option (Result Entry Error))
    (t : Option (Range A)) : Type 0 where
  pub gives : StepGives Front (remains_in range_remains s) r (remains_in range_remains t)
  pub there : (x : Result Entry Error) → Stands s x → r ≡ Some x

-- ---- an iteration over the tables of a run

-- one load at the front: of the parts s, with p left
abbrev pub LoadsFront : {A : Type 0} → Unopened → Option (Result (Range A) Error) → Unopened
    → Type 0
LoadsFront s r p = LoadGives range_remains coming_tables KeepsTables Front s r p

-- the next table was opened and is now at the front, or opening it failed, or none is left
abbrev pub OpensNext : {A : Type 0} → Walk Unopened (Range A)
    → Option (Result (Unit {0}) Error) → Walk Unopened (Range A) → Type 0
OpensNext {A = A} s None t =
    LoadsFront {A = A} s.parts None t.parts × (t ≡ record s { parts = t.parts })
OpensNext {A = A} s (Some (Err e)) t =
    LoadsFront {A = A} s.parts (Some (Err e)) t.parts × (t ≡ record s { parts = t.parts })
OpensNext {A = A} s (Some (Ok u)) t =
    (reader : Range A) × LoadsFront s.parts (Some (Ok reader)) t.parts
    × (t ≡ record s { parts = t.parts; front = Some reader })

-- ---- the run

-- nothing is lent, and nothing is left
abbrev pub over_run : {A : Type 0} → RunRange A → RunRange A
over_run s = record { unopened = none_unopened s.unopened; front = None; back = None }

-- one step: one call at the front of the run; the next entry in a loaded block of the front table
-- is yielded even when out of memory
pub record RunLends {A : Type 0} (s : RunRange A) (r : Option (Result Entry Error))
    (t : RunRange A) : Type 0 where
  pub gives : RunGives front_of front_tables s r t
  pub there : (x : Result Entry Error) → Stands s.front x → r ≡ Some x
