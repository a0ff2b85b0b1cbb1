-- Double-ended iteration over parts, and one step of it.
use Rattle.std.specs.Prelude.{◌≡◌, ℕ, ◌+◌, ◌<◌, ◌≤◌, false, List, ◌++◌, length, Option, Some, None}
use Rattle.std.specs.Prelude.{Result, Ok, Err}
use Rattle.sst_entries.specs.declared.error.Error.{Error}
use Rattle.sst_entries.specs.declared.stream.Direction.{Direction}
use Rattle.sst_entries.specs.declared.stream.Direction.TheVariants.{Front, Back}
use Rattle.sst_entries.specs.Error.{is_memory}
use Rattle.sst_entries.specs.Stream.{answer_stops}
use Rattle.lsm_iters.specs.declared.walk.Walk.{Walk}
use Rattle.lsm_iters.specs.walk.Ends.{Remains, StepAnswers, remains_in, seen_from}
use Rattle.lsm_iters.specs.walk.Parts.{Coming, IsDone, Loading, Loads, all_results, early_among}
use Rattle.lsm_iters.specs.walk.Parts.{early_behind, loads_in, needed, none_behind}

-- The part loaded at this end, and the one at the other end.
abbrev pub near : {P T : Type 0} → Direction → Walk P T → Option T
near Front w = w.front
near Back w = w.back

abbrev pub far : {P T : Type 0} → Direction → Walk P T → Option T
far Front w = w.back
far Back w = w.front

-- The iteration with that part replaced.
abbrev pub with_near : {P T : Type 0} → Direction → Walk P T → Option T → Walk P T
with_near Front w part = record w { front = part }
with_near Back w part = record w { back = part }

abbrev pub with_far : {P T : Type 0} → Direction → Walk P T → Option T → Walk P T
with_far Front w part = record w { back = part }
with_far Back w part = record w { front = part }

-- Everything left was dropped, at both ends.
pub record Ended {P T X : Type 0} (coming : P → Coming X) (ends : P → P → Type 0)
    (s t : Walk P T) : Type 0 where
  pub front : t.front ≡ None
  pub back : t.back ≡ None
  pub done : IsDone (coming t.parts)
  pub kept : ends s.parts t.parts

module _ {P T X : Type 0} (left : T → Remains X) (coming : P → Coming X) where
  -- The number of loads left, except those of the unloaded parts.
  abbrev pub other_loads : Walk P T → ℕ
  other_loads w =
      (remains_in left w.front).loads + (coming w.parts).loads + (remains_in left w.back).loads

  -- The results left: those of the front part, of the unloaded parts and of the back part.
  abbrev pub walk_left : Walk P T → Remains X
  walk_left w =
      let front = remains_in left w.front in
      let back = remains_in left w.back in
      let to_come = coming w.parts in
      record {
        results = front.results ++ (all_results to_come.parts ++ back.results);
        loads = length to_come.parts + other_loads w;
      }

  -- The number of parts that a step at an end needs: none if the part there has a result.
  abbrev pub needed_at : Direction → Walk P T → ℕ
  needed_at at w =
      let parts = seen_from at (coming w.parts).parts in
      none_behind (remains_in left (near at w)).results (needed parts)

  -- The error at an end that precedes allocation.
  abbrev pub early_at : Direction → Walk P T → Option Error
  early_at at w =
      let parts = seen_from at (coming w.parts).parts in
      early_behind (remains_in left (near at w)).results (early_among parts)

  -- One step at an end, before an error ends the iteration. It loads exactly the parts that it
  -- needs, or fewer if an allocation fails. If the part at the end has no loads of its own, it
  -- tries at least one that is needed. Once all are loaded, an error that precedes allocation is
  -- returned.
  pub record WalkTakes (keeps : P → Option (Result (Loading X) Error) → P → Type 0)
      (at : Direction) (s : Walk P T) (r : Option (Result X Error)) (t : Walk P T) : Type 0 where
    pub answer : StepAnswers at (walk_left s) r (walk_left t)
    pub others : other_loads t ≤ other_loads s
    pub named : List (Option (Result (Loading X) Error))
    pub loads : Loads keeps s.parts named t.parts
    pub within :
        loads_in named + length (coming t.parts).parts ≤ length (coming s.parts).parts
    pub most : loads_in named ≤ needed_at at s
    pub some :
        (remains_in left (near at s)).loads ≡ 0 → 0 < needed_at at s → 0 < length named
    pub exact : answer_stops is_memory r ≡ false → loads_in named ≡ needed_at at s
    pub first :
        (f : Error) → early_at at s ≡ Some f → loads_in named ≡ needed_at at s → r ≡ Some (Err f)

  -- An item leaves the iteration as it is, and an error ends it.
  abbrev pub StopsAtError : (P → P → Type 0) → Option (Result X Error) → Walk P T → Walk P T
      → Type 0
  StopsAtError ends None s t = t ≡ s
  StopsAtError ends (Some (Ok x)) s t = t ≡ s
  StopsAtError ends (Some (Err e)) s t = Ended coming ends s t

  -- One step at an end, which an error ends for good.
  pub record WalkGives (keeps : P → Option (Result (Loading X) Error) → P → Type 0)
      (ends : P → P → Type 0) (at : Direction) (s : Walk P T) (r : Option (Result X Error))
      (t : Walk P T) : Type 0 where
    pub taken : Walk P T
    pub takes : WalkTakes keeps at s r taken
    pub goes : StopsAtError ends r taken t
