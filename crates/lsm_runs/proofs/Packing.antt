-- The same tables in other runs in order hold the same entries.
use Rattle.std.proofs.Common.{◌≡◌, refl, sym, ◌∙◌, ap, subst, ℕ, ◌+◌, Bool, cond, List, [], ◌∷◌}
use Rattle.std.proofs.Common.{◌++◌}
use Rattle.std.specs.Prelude.{IsPermutation, count_by, flat_map, map, sum_by}
use Rattle.std.specs.List.{AllByRecursion}
use Rattle.std.specs.declared.ops.Bound.TheVariants.{Unbounded}
use Rattle.std.proofs.lemmas.List.Concat.{flat_map-append}
use Rattle.std.proofs.lemmas.List.Elements.{All-from_recursion, recursion_from_All}
use Rattle.std.proofs.lemmas.List.Sorted.{All-permutation, sum_by-IsPermutation}
use Rattle.std.proofs.lemmas.List.Sums.{sum_by-append, sum_by-cons}
use Rattle.sst_entries.specs.Entry.{Entry}
use Rattle.sst_entries.specs.Strict.{IsStrict}
use Rattle.sst_entries.specs.Stream.{ok_results}
use Rattle.sst_entries.proofs.Lists.{all_append, all_behind, all_front}
use Rattle.sst_blocks.specs.table.Chunks.{joined}
use Rattle.lsm_sorted.specs.merge.Ends.{R}
use Rattle.lsm_sorted.specs.merge.Union.{IsUnion, all_entries, entries_among, sort_entries}
use Rattle.lsm_sorted.proofs.UnionLemmas.{merged_union, only_union}
use Rattle.lsm_sorted.specs.version.Packing.{AreInOrder, SameTables, tables_in}
use Rattle.lsm_readers.specs.Ranges.{range_results}
use Rattle.lsm_readers.specs.point.Table.{OpenTable}
use Rattle.lsm_runs.specs.compaction.Packed.{HoldUnion, PackedLaw}
use Rattle.lsm_runs.specs.RunLists.{HoldLists, HoldsList, RunsHoldLists}
use Rattle.lsm_run_parts.specs.RunParts.{range_of}
use Rattle.lsm_runs.specs.SeveralRuns.{union_in}
use Rattle.lsm_runs.proofs.RunWithin.{held_result}
use Rattle.lsm_runs.proofs.Unions.{entries_of}
use Rattle.lsm_iters.proofs.Cuts.{all_within}

-- ---- the list of a table, by the table

pub list_of : OpenTable → List Entry
list_of t = entries_among (range_results t Unbounded Unbounded)

pub list_is : (t : OpenTable) (es : List Entry) → HoldsList t es → list_of t ≡ es
unfolding list_of
list_is t es h = ap entries_among (held_result t es h Unbounded Unbounded
    ∙ ap ok_results (all_within es)) ∙ entries_of es

pub record Holds (t : OpenTable) : Type 0 where
  pub list : HoldsList t (list_of t)

pub lists_are : (ts : List OpenTable) (ls : List (List Entry)) → HoldLists ts ls
    → ls ≡ map list_of ts
lists_are [] [] h = refl
lists_are [] (es ∷ ls) h = absurd h
lists_are (t ∷ ts) [] h = absurd h
lists_are (t ∷ ts) (es ∷ ls) h =
    ap (λ (xs : List Entry). xs ∷ ls) (sym (list_is t es h.0))
    ∙ ap (λ (xs : List (List Entry)). list_of t ∷ xs) (lists_are ts ls h.1)

pub all_hold : (ts : List OpenTable) (ls : List (List Entry)) → HoldLists ts ls
    → AllByRecursion Holds ts
all_hold [] [] h = tt
all_hold [] (es ∷ ls) h = absurd h
all_hold (t ∷ ts) [] h = absurd h
all_hold (t ∷ ts) (es ∷ ls) h = (
  record { list = subst (HoldsList t) (sym (list_is t es h.0)) h.0 },
  all_hold ts ls h.1,
)

hold_all : (ts : List OpenTable) → AllByRecursion Holds ts → HoldLists ts (map list_of ts)
hold_all [] h = tt
hold_all (t ∷ ts) h = (h.0.list, hold_all ts h.1)

-- ---- of several runs

abbrev pub lists_of : List (List OpenTable) → List (List (List Entry))
lists_of runs = map (map list_of) runs

pub runs_lists_are : (runs : List (List OpenTable)) (lists : List (List (List Entry)))
    → RunsHoldLists runs lists → lists ≡ lists_of runs
runs_lists_are [] [] h = refl
runs_lists_are [] (ls ∷ lists) h = absurd h
runs_lists_are (run ∷ runs) [] h = absurd h
runs_lists_are (run ∷ runs) (ls ∷ lists) h =
    ap (λ (xs : List (List Entry)). xs ∷ lists) (lists_are run ls h.0.1)
    ∙ ap (λ (xs : List (List (List Entry))). map list_of run ∷ xs) (runs_lists_are runs lists h.1)

pub runs_all_hold : (runs : List (List OpenTable)) (lists : List (List (List Entry)))
    → RunsHoldLists runs lists → AllByRecursion Holds (tables_in runs)
runs_all_hold [] [] h = tt
runs_all_hold [] (ls ∷ lists) h = absurd h
runs_all_hold (run ∷ runs) [] h = absurd h
runs_all_hold (run ∷ runs) (ls ∷ lists) h = all_append Holds run (tables_in runs)
    (all_hold run ls h.0.1) (runs_all_hold runs lists h.1)

runs_hold_all : (runs : List (List OpenTable)) → AreInOrder range_of runs
    → AllByRecursion Holds (tables_in runs) → RunsHoldLists runs (lists_of runs)
runs_hold_all [] order h = tt
runs_hold_all (run ∷ runs) order h = (
  (order.0, hold_all run (all_front Holds run (tables_in runs) h)),
  runs_hold_all runs order.1
      (all_behind Holds run (tables_in runs) h),
)

-- ---- all entries, table by table

join_lists : (ts : List OpenTable) → joined (map list_of ts) ≡ flat_map list_of ts
join_lists [] = refl
join_lists (t ∷ ts) = ap (λ (xs : List Entry). list_of t ++ xs) (join_lists ts)

abbrev pub results_of : List (List (List Entry)) → List (List R)
results_of lists = map (λ (run : List (List Entry)). ok_results (joined run)) lists

entries_in : (runs : List (List OpenTable))
    → all_entries (results_of (lists_of runs)) ≡ flat_map list_of (tables_in runs)
entries_in [] = refl
entries_in (run ∷ runs) =
    ap (λ (xs : List Entry). xs ++ all_entries (results_of (lists_of runs)))
    (entries_of (joined (map list_of run)) ∙ join_lists run)
    ∙ ap (λ (xs : List Entry). flat_map list_of run ++ xs) (entries_in runs)
    ∙ sym (flat_map-append list_of run (tables_in runs))

pub union_sorts : (runs : List (List OpenTable))
    → union_in (lists_of runs) ≡ sort_entries (flat_map list_of (tables_in runs))
union_sorts runs = ap sort_entries (entries_in runs)

-- ---- the same tables in other runs

pub same_hold : (runs packed : List (List OpenTable)) → SameTables runs packed
    → AllByRecursion Holds (tables_in runs) → AllByRecursion Holds (tables_in packed)
same_hold runs packed same h =
    recursion_from_All Holds (tables_in packed) (All-permutation Holds (tables_in runs)
    (tables_in packed) same (All-from_recursion Holds (tables_in runs) h))

-- whatever lists they hold, the entries are to be compared alone
pub packed_union : (runs packed : List (List OpenTable)) (lists : List (List (List Entry)))
    → RunsHoldLists runs lists → SameTables runs packed → AreInOrder range_of packed
    → (lists ≡ lists_of runs → union_in (lists_of packed) ≡ union_in lists)
    → HoldUnion packed (union_in lists)
packed_union runs packed lists h same order union = record {
  lists = lists_of packed;
  hold = runs_hold_all packed order (same_hold runs packed same (runs_all_hold runs lists h));
  union = union (runs_lists_are runs lists h);
}

count_in : (p : Entry → Bool) (ts : List OpenTable)
    → count_by p (flat_map list_of ts) ≡ sum_by (λ (t : OpenTable). count_by p (list_of t)) ts
count_in p [] = refl
count_in p (t ∷ ts) =
    sum_by-append (λ (e : Entry). cond (p e) 1 0) (list_of t) (flat_map list_of ts)
    ∙ ap (λ (n : ℕ). count_by p (list_of t) + n) (count_in p ts)
    ∙ sym (sum_by-cons (λ (u : OpenTable). count_by p (list_of u)) t ts)

count_same : (p : Entry → Bool) (ts us : List OpenTable) → IsPermutation ts us
    → count_by p (flat_map list_of ts) ≡ count_by p (flat_map list_of us)
count_same p ts us same = count_in p ts ∙ sym
    (sum_by-IsPermutation (λ (t : OpenTable). count_by p (list_of t)) ts us same)
    ∙ sym (count_in p us)

same_union : (runs packed : List (List OpenTable)) → SameTables runs packed
    → IsUnion (results_of (lists_of packed)) (union_in (lists_of runs))
same_union runs packed same =
    let own = merged_union (results_of (lists_of runs)) in record {
      ascends = own.ascends;
      same = record {
        count = λ p.
            own.same.count p
            ∙ ap (count_by p) (entries_in runs)
            ∙ count_same p (tables_in runs) (tables_in packed) same
            ∙ ap (count_by p) (sym (entries_in packed));
      };
    }

pub packed_alike : PackedLaw
packed_alike runs packed lists h strict same order =
    packed_union runs packed lists h same order (λ are.
    let own : IsStrict (union_in (lists_of runs)) =
    subst (λ (ls : List (List (List Entry))). IsStrict (union_in ls)) are strict in
    sym (only_union (results_of (lists_of packed)) (union_in (lists_of runs))
    (same_union runs packed same) own) ∙ sym (ap union_in are))
