-- What packing does to runs that may be compacted, and to one run alone.
use Rattle.std.proofs.Common.{◌≡◌, refl, sym, subst, ◌<◌, ◌≤◌, List, [], ◌∷◌, length, arith}
use Rattle.std.specs.Prelude.{◌≢◌, IfOk, Result, Ok, Err}
use Rattle.std.specs.List.{AllByRecursion}
use Rattle.std.proofs.lemmas.List.Elements.{All-from_recursion, recursion_from_All}
use Rattle.std.proofs.lemmas.List.Sorted.{All-permutation}
use Rattle.sst_entries.specs.declared.error.Error.{Error}
use Rattle.sst_entries.specs.Entry.{Entry}
use Rattle.sst_entries.proofs.Lists.{all_append, all_behind, all_front, all_more}
use Rattle.lsm_sorted.specs.version.Packing.{AreInOrder, ArePacked, SameTables, tables_in}
use Rattle.lsm_readers.specs.point.Table.{OpenTable}
use Rattle.lsm_writers.specs.Writing.{IsWritable}
use Rattle.lsm_runs.specs.RunLists.{HoldLists, RunsHoldLists}
use Rattle.lsm_run_parts.specs.RunParts.{range_of}
use Rattle.lsm_runs.specs.SeveralRuns.{union_in}
use Rattle.lsm_runs.proofs.RunPoints.{runs_in_order}
use Rattle.lsm_runs.specs.compaction.Compacted.{AreCompactable, HaveEntries}
use Rattle.lsm_runs.specs.compaction.Packed.{HoldUnion}
use Rattle.lsm_runs.proofs.Packing.{list_is, list_of}

-- ---- tables whose lists have entries

abbrev HasEntries : OpenTable → Type 0
HasEntries t = 0 < length (list_of t)

tables_some : (ts : List OpenTable) (ls : List (List Entry)) → HoldLists ts ls
    → AllByRecursion (λ (es : List Entry). 0 < length es) ls → AllByRecursion HasEntries ts
tables_some [] ls h some = tt
tables_some (t ∷ ts) [] h some = absurd h
tables_some (t ∷ ts) (es ∷ ls) h some = (
  subst (λ (xs : List Entry). 0 < length xs)
      (sym (list_is t es h.0)) some.0,
  tables_some ts ls h.1 some.1,
)

runs_some : (runs : List (List OpenTable)) (lists : List (List (List Entry)))
    → RunsHoldLists runs lists → AllByRecursion HaveEntries lists
    → AllByRecursion HasEntries (tables_in runs)
runs_some [] lists h some = tt
runs_some (run ∷ runs) [] h some = absurd h
runs_some (run ∷ runs) (ls ∷ lists) h some = all_append HasEntries run (tables_in runs)
    (tables_some run ls h.0.1 some.0.1) (runs_some runs lists h.1 some.1)

-- so it is in other runs of the same tables
packed_some : (runs packed : List (List OpenTable)) → SameTables runs packed
    → AllByRecursion HasEntries (tables_in runs) → AllByRecursion HasEntries (tables_in packed)
packed_some runs packed same h =
    recursion_from_All HasEntries (tables_in packed)
    (All-permutation HasEntries (tables_in runs) (tables_in packed) same
    (All-from_recursion HasEntries (tables_in runs) h))

lists_some : (ts : List OpenTable) (ls : List (List Entry)) → HoldLists ts ls
    → AllByRecursion HasEntries ts → AllByRecursion (λ (es : List Entry). 0 < length es) ls
lists_some [] [] h some = tt
lists_some [] (es ∷ ls) h some = absurd h
lists_some (t ∷ ts) [] h some = tt
lists_some (t ∷ ts) (es ∷ ls) h some = (
  subst (λ (xs : List Entry). 0 < length xs)
      (list_is t es h.0) some.0,
  lists_some ts ls h.1 some.1,
)

many_lists : (ts : List OpenTable) (ls : List (List Entry)) → HoldLists ts ls → ts ≢ []
    → 0 < length ls
many_lists [] ls h some = absurd (some refl)
many_lists (t ∷ ts) [] h some = absurd h
many_lists (t ∷ ts) (es ∷ ls) h some = omega arith

have_entries : (runs : List (List OpenTable)) (lists : List (List (List Entry)))
    → RunsHoldLists runs lists → AllByRecursion (λ (run : List OpenTable). run ≢ []) runs
    → AllByRecursion HasEntries (tables_in runs) → AllByRecursion HaveEntries lists
have_entries [] [] h some each = tt
have_entries [] (ls ∷ lists) h some each = absurd h
have_entries (run ∷ runs) [] h some each = tt
have_entries (run ∷ runs) (ls ∷ lists) h some each = (
  (
    many_lists run ls h.0.1 some.0,
    lists_some run ls h.0.1
        (all_front HasEntries run (tables_in runs) each),
  ),
  have_entries runs lists h.1 some.1 (all_behind HasEntries run (tables_in runs) each),
)

-- ---- packed runs

each_some : (packed : List (List OpenTable)) → ArePacked range_of packed
    → AllByRecursion (λ (run : List OpenTable). run ≢ []) packed
each_some packed ordered = all_more _ _ (λ run h. h.1) packed ordered

packed_able : (ts packed : List (List OpenTable)) (able : AreCompactable ts)
    → HoldUnion packed (union_in able.lists) → ArePacked range_of packed → SameTables ts packed
    → AreCompactable packed
packed_able ts packed able held ordered tables =
    record {
      lists = held.lists;
      hold = held.hold;
      some = have_entries packed held.lists held.hold (each_some packed ordered)
          (packed_some ts packed tables (runs_some ts able.lists able.hold able.some));
      writable = subst IsWritable (sym held.union) able.writable;
    }

pub result_able : {V : Type 0} (view : V → List (List OpenTable)) (ts : List (List OpenTable))
    (r : Result V Error)
    → ((lists : List (List (List Entry))) → RunsHoldLists ts lists
    → IfOk r (λ v. HoldUnion (view v) (union_in lists)))
    → IfOk r (λ v. SameTables ts (view v))
    → IfOk r (λ v. AreInOrder range_of ts → ArePacked range_of (view v))
    → AreCompactable ts → IfOk r (λ v. AreCompactable (view v))
result_able view ts (Ok v) held tables ordered able =
    packed_able ts (view v) able (held able.lists able.hold)
    (ordered (runs_in_order ts able.lists able.hold)) tables
result_able view ts (Err e) held tables ordered able = tt

-- ---- one run alone

pub result_one : {V E : Type 0} (view : V → List (List OpenTable)) (v : V)
    (given : List (List OpenTable)) → view v ≡ given → (r : Result V E)
    → (length (view v) ≤ 1 → r ≡ Ok v) → length given ≤ 1 → IfOk r (λ p. view p ≡ given)
result_one view v given is r one few = let same =
    one (subst (λ (runs : List (List OpenTable)). length runs ≤ 1) (sym is) few) in rw same is
