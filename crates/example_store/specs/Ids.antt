-- The runs that a store makes of lists, and the counter of table ids after them.
use Rattle.std.specs.Prelude.{◌≡◌, ℕ, ◌<◌, ◌≤◌, ◌⊎◌, false, List, [], ◌∷◌, ◌++◌, Option, Some}
use Rattle.std.specs.Prelude.{length, sum_by}
use Rattle.std.specs.List.{AllByRecursion}
use Rattle.lsm_tables.specs.Words.{AreCutOf, Entry, Error, HaveAll, OpenTable, ids_behind}
use Rattle.lsm_tables.specs.Words.{is_memory, run_label, tables_fault}
use Rattle.example_store.specs.Recent.{IsPut}
use Rattle.example_store.specs.Story.{Holding}

-- the counter after runs whose tables drew its ids; unchanged if there are none
abbrev pub counter_behind : Option ℕ → ℕ → List (List OpenTable) → Option ℕ
counter_behind ids target [] = ids
counter_behind ids target (run ∷ runs) = ids_behind ids target (sum_by length (run ∷ runs))

-- the tables of each of these runs are those of a list that is cut by a target, with consecutive ids
-- from a counter on
abbrev pub AreAllCut : Option ℕ → ℕ → List Entry → List (List OpenTable) → Type 0
AreAllCut ids target es runs = AllByRecursion (AreCutOf (run_label ids target 0) target es 0) runs

-- the tables that a store writes of a list, in one run at most: cut by its target, with consecutive
-- ids from its counter on
pub record AreMadeOf (s : Holding) (es : List Entry) (made : List (List OpenTable)) : Type 0 where
  pub has : HaveAll es made
  pub few : length made ≤ 1
  pub cut : AreAllCut s.ids s.target es made

-- except for `OutOfMemory`, this is the error of writing a list as tables of a store
abbrev pub FailsToWrite : Holding → List Entry → Error → Type 0
FailsToWrite s es e = is_memory e ≡ false → tables_fault s.ids s.target 0 es ≡ Some e

-- except for `OutOfMemory`, this is the error of flushing the entries that are in no table, of which
-- there are as many as the limit
abbrev pub FailsToFlush : Holding → Error → Type 0
FailsToFlush s e = is_memory e ≡ false →
    (s.limit ≤ length s.recent) × (tables_fault s.ids s.target 0 s.recent ≡ Some e)

-- the entries that were in no table are in tables now, before the others, and the counter is after
-- these
pub record HasFlushed (old new : Holding) : Type 0 where
  pub made : List (List OpenTable)
  pub written : AreMadeOf old old.recent made
  pub placed : new.runs ≡ made ++ old.runs
  pub counter : new.ids ≡ counter_behind old.ids old.target made

-- nothing changed, or the entries that were in no table were flushed
abbrev pub StaysOrFlushes : Holding → Holding → Type 0
StaysOrFlushes old new = (new ≡ old) ⊎ HasFlushed old new × (new.recent ≡ [])

-- an entry was added to those in no table if there was room; else these were flushed before
pub record IsTakenIn (e : Entry) (old new : Holding) : Type 0 where
  pub beside : length old.recent < old.limit → IsPut e old.recent new.recent
  pub runs : length old.recent < old.limit → new.runs ≡ old.runs
  pub ids : length old.recent < old.limit → new.ids ≡ old.ids
  pub alone : old.limit ≤ length old.recent → IsPut e [] new.recent
  pub flushed : old.limit ≤ length old.recent → HasFlushed old new
