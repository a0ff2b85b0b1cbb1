-- Runs that lists were written as may be compacted where their lists together can be written.
use Rattle.std.proofs.Common.{◌≡◌, sym, ◌∙◌, ap, subst, ℕ, cond, List, [], ◌∷◌, ◌++◌}
use Rattle.std.specs.Prelude.{IsPermutation, count_by, map}
use Rattle.std.specs.List.{AllByRecursion}
use Rattle.std.proofs.lemmas.List.{append-nil, map-append}
use Rattle.std.proofs.lemmas.List.Concat.{flat_map-append}
use Rattle.std.proofs.lemmas.List.Sorted.{sum_by-IsPermutation}
use Rattle.sst_entries.specs.Entry.{Entry}
use Rattle.sst_entries.specs.Strict.{IsStrict}
use Rattle.sst_blocks.specs.declared.table.label.Label.{Label}
use Rattle.sst_blocks.specs.table.Chunks.{joined}
use Rattle.lsm_sorted.proofs.Pairs.{as_pairs}
use Rattle.lsm_sorted.proofs.UnionLemmas.{merged_union, only_union}
use Rattle.lsm_sorted.specs.version.Run.{IsInOrder}
use Rattle.lsm_readers.specs.point.Answer.{lift}
use Rattle.lsm_readers.specs.point.Table.{OpenTable}
use Rattle.lsm_writers.specs.Writing.{IsWritable}
use Rattle.lsm_runs.specs.RunLists.{HoldLists, RunsHoldLists}
use Rattle.lsm_run_parts.specs.RunParts.{range_of}
use Rattle.lsm_runs.specs.SeveralRuns.{union_in}
use Rattle.lsm_runs.proofs.Rising.{ascends_of}
use Rattle.lsm_runs.specs.compaction.Chain.{AreCutOf, IsRunOfList}
use Rattle.lsm_runs.specs.compaction.Compacted.{AreCompactable, HaveEntries}
use Rattle.lsm_runs.specs.compaction.ListRuns.{HasList, HaveAll}
use Rattle.lsm_runs.specs.compaction.ReadsCompacted.{joined_in}
use Rattle.lsm_runs.proofs.Compactable.{run_entries}
use Rattle.lsm_runs.proofs.CompactedBack.{lift_zero}
use Rattle.lsm_runs.proofs.Packing.{results_of}
use Rattle.lsm_runs.proofs.Replaced.{union_count}

-- a run of a list that was written and cut
pub of_cut : (label : Label) (target : ℕ) (es : List Entry) (g : ℕ) (run : List OpenTable)
    → IsRunOfList es g run → AreCutOf label target es g run → HasList (lift es g) run
of_cut label target es g run h cut = record {
  lists = h.lists;
  order = h.order;
  hold = h.hold;
  some = run_entries label target es g run h cut;
  whole = h.whole;
}

-- where it was opened without a global number
pub of_cut_unlifted : (label : Label) (target : ℕ) (es : List Entry) (run : List OpenTable)
    → IsRunOfList es 0 run → AreCutOf label target es 0 run → HasList es run
of_cut_unlifted label target es run h cut =
    subst (λ (us : List Entry). HasList us run) (lift_zero es) (of_cut label target es 0 run h cut)

-- ---- several runs

held_more : (runs : List (List OpenTable)) (lists : List (List (List Entry)))
    (run : List OpenTable) (ls : List (List Entry)) → RunsHoldLists runs lists
    → IsInOrder range_of run × HoldLists run ls
    → RunsHoldLists (runs ++ run ∷ []) (lists ++ ls ∷ [])
held_more [] [] run ls h one = (one, tt)
held_more [] (l ∷ lists) run ls h one = absurd h
held_more (r ∷ runs) [] run ls h one = absurd h
held_more (r ∷ runs) (l ∷ lists) run ls h one = (h.0, held_more runs lists run ls h.1 one)

some_more : (lists : List (List (List Entry))) (ls : List (List Entry))
    → AllByRecursion HaveEntries lists → HaveEntries ls
    → AllByRecursion HaveEntries (lists ++ ls ∷ [])
some_more [] ls h one = (one, tt)
some_more (l ∷ lists) ls h one = (h.0, some_more lists ls h.1 one)

whole_more : (lists : List (List (List Entry))) (ls : List (List Entry))
    → joined_in (lists ++ ls ∷ []) ≡ joined_in lists ++ joined ls
whole_more lists ls =
    ap joined (map-append joined lists (ls ∷ []))
    ∙ flat_map-append (λ (es : List Entry). es) (map joined lists) (joined ls ∷ [])
    ∙ ap (λ (es : List Entry). joined_in lists ++ es) (append-nil (joined ls))

-- one more run
pub one_more : (es : List Entry) (runs : List (List OpenTable)) (us : List Entry)
    (run : List OpenTable) → HaveAll es runs → HasList us run
    → HaveAll (es ++ us) (runs ++ run ∷ [])
one_more es runs us run all one = record {
  lists = all.lists ++ one.lists ∷ [];
  hold = held_more runs all.lists run one.lists all.hold (one.order, one.hold);
  some = some_more all.lists one.lists all.some one.some;
  whole = whole_more all.lists one.lists
      ∙ ap (λ (xs : List Entry). xs ++ joined one.lists) all.whole
      ∙ ap (λ (xs : List Entry). es ++ xs) one.whole;
}

-- a list that can be written, of the same entries, is their union
sorted_union : (lists : List (List (List Entry))) (es sorted : List Entry)
    → joined_in lists ≡ es → IsPermutation es sorted → IsStrict sorted → sorted ≡ union_in lists
sorted_union lists es sorted whole moved strict =
    only_union (results_of lists) sorted (record {
      ascends = ascends_of sorted (as_pairs sorted strict);
      same = record {
        count = λ p. sum_by-IsPermutation (λ x. cond (p x) 1 0) es sorted moved
            ∙ ap (count_by p) (sym whole) ∙ sym (union_count lists p)
            ∙ (merged_union (results_of lists)).same.count p;
      };
    }) strict

pub compactable : (runs : List (List OpenTable)) (es sorted : List Entry) → HaveAll es runs
    → IsPermutation es sorted → IsWritable sorted → AreCompactable runs
compactable runs es sorted all moved writable = record {
  lists = all.lists;
  hold = all.hold;
  some = all.some;
  writable = subst IsWritable
      (sorted_union all.lists es sorted all.whole moved writable.strict) writable;
}

-- one more run behind others, with the entries behind theirs
pub more_runs : {R : Type 0} (f : R → List OpenTable) (es : List Entry) (runs : List R) (run : R)
    (us all : List Entry) (new : List R) → HaveAll es (map f runs) → HasList us (f run)
    → all ≡ es ++ us → new ≡ runs ++ run ∷ [] → HaveAll all (map f new)
more_runs f es runs run us all new have one all_is new_is =
    let whole : HaveAll (es ++ us) (map f runs ++ f run ∷ []) =
    one_more es (map f runs) us (f run) have one in
    let runs_are : map f new ≡ map f runs ++ f run ∷ [] =
    ap (map f) new_is ∙ map-append f runs (run ∷ []) in
    subst (λ (l : List (List OpenTable)). HaveAll all l) (sym runs_are)
    (subst (λ (xs : List Entry). HaveAll xs (map f runs ++ f run ∷ [])) (sym all_is) whole)
