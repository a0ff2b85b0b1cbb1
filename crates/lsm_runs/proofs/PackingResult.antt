-- What packing the shared tables of runs gives of the runs themselves.
use Rattle.std.proofs.Common.{◌≡◌, sym, ◌∙◌, ap, subst, ℕ, ◌<◌, ◌≤◌, ◌⊎◌, List, [], ◌∷◌, filter}
use Rattle.std.proofs.Common.{length, inl, inr, arith}
use Rattle.std.specs.Prelude.{◌≢◌, IfOk, IsPermutation, Result, Ok, Err}
use Rattle.std.specs.List.{AllByRecursion}
use Rattle.sst_entries.specs.Entry.{Entry}
use Rattle.sst_entries.proofs.Lists.{all_more}
use Rattle.lsm_sorted.specs.version.KeyRange.{has_key}
use Rattle.lsm_sorted.specs.version.Packing.{AreDisjointRuns, AreInOrder, ArePacked, ArePlaced}
use Rattle.lsm_sorted.specs.version.Packing.{AreWellFormed, IsLeastSize, SameHolders, SameTables}
use Rattle.lsm_sorted.specs.version.Packing.{holders}
use Rattle.lsm_sorted.specs.version.Packing.{tables_in}
use Rattle.lsm_sorted.proofs.PackLemmas.{if_ok}
use Rattle.lsm_readers.specs.point.Table.{OpenTable}
use Rattle.lsm_runs.specs.compaction.Packed.{HoldUnion}
use Rattle.lsm_runs.specs.RunLists.{RunsHoldLists}
use Rattle.lsm_run_parts.specs.RunParts.{range_of}
use Rattle.lsm_runs.specs.SeveralRuns.{union_in}
use Rattle.lsm_runs.proofs.PackingRuns.{formed, kept, kept_disjoint, kept_order, kept_some}
use Rattle.lsm_runs.proofs.PackingRuns.{kept_tables, least_kept}
use Rattle.lsm_runs.proofs.PackingTies.{kept_alike}
use Rattle.lsm_runs.proofs.RunPoints.{runs_in_order}

few_or_many : {X : Type 0} (xs : List X) → (length xs ≤ 1) ⊎ (1 < length xs)
few_or_many [] = inl (omega arith)
few_or_many (x ∷ []) = inl (omega arith)
few_or_many (x ∷ y ∷ xs) = inr (omega arith)

-- runs in order that have a table each
packed_of : (runs : List (List OpenTable)) → AreInOrder range_of runs
    → AllByRecursion (λ (run : List OpenTable). run ≢ []) runs → ArePacked range_of runs
packed_of [] order some = tt
packed_of (run ∷ runs) order some = ((order.0, some.0), packed_of runs order.1 some.1)

order_of : (runs : List (List OpenTable)) → ArePacked range_of runs → AreInOrder range_of runs
order_of runs packed = all_more _ _ (λ run h. h.0) runs packed

module _ {V E : Type 0} (items : V → List (List OpenTable)) (runs : List (List OpenTable)) (v : V)
    (are : items v ≡ kept runs) (r : Result V E) where
  same_tables : tables_in (items v) ≡ tables_in runs
  same_tables = ap tables_in are ∙ kept_tables runs

  formed_shared : AreInOrder range_of runs → AreWellFormed range_of (items v)
  formed_shared order = subst (AreWellFormed range_of) (sym are)
      (formed (kept runs) (kept_order runs order))

  pub result_tables : IfOk r (λ p. SameTables (items v) (items p))
      → IfOk r (λ p. SameTables runs (items p))
  result_tables = if_ok r (λ p same. subst (λ (ts : List OpenTable). IsPermutation ts
      (tables_in (items p))) same_tables same)

  pub result_holders : IfOk r (λ p. AreWellFormed range_of (items v)
      → SameHolders range_of (items v) (items p))
      → IfOk r (λ p. AreInOrder range_of runs → SameHolders range_of runs (items p))
  result_holders =
      if_ok r (λ p same order.
      subst (λ (ts : List OpenTable). (k : List ℕ)
      → holders range_of (items p) k ≡ filter (λ (t : OpenTable). has_key (range_of t) k) ts)
      same_tables (same (formed_shared order)))

  pub result_ordered : (length (items v) ≤ 1 → r ≡ Ok v)
      → IfOk r (λ p. AreWellFormed range_of (items v) → 1 < length (items v)
      → ArePacked range_of (items p)) → IfOk r (λ p. AreInOrder range_of runs
      → ArePacked range_of (items p))
  result_ordered one packs =
      elim (few_or_many (items v)) [
        | inl few ↦
            subst (λ (s : Result V E). IfOk s (λ p. AreInOrder range_of runs
            → ArePacked range_of (items p))) (sym (one few))
            (λ order. subst (ArePacked range_of) (sym are)
            (packed_of (kept runs) (kept_order runs order) (kept_some runs)))
        | inr many ↦ if_ok r (λ p packed order. packed (formed_shared order) many) packs
      ]

  pub result_placed : IfOk r (λ p. AreWellFormed range_of (items v) → 1 < length (items v)
      → ArePlaced range_of (tables_in (items v)) (items p))
      → IfOk r (λ p. AreInOrder range_of runs → 1 < length (kept runs)
      → ArePlaced range_of (tables_in runs) (items p))
  result_placed =
      if_ok r (λ p placed order many.
      subst (λ (ts : List OpenTable). ArePlaced range_of ts (items p)) same_tables
      (placed (formed_shared order) (subst (λ (rs : List (List OpenTable)). 1 < length rs)
      (sym are) many)))

  pub result_least : IfOk r (λ p. AreDisjointRuns range_of (items v)
      → IsLeastSize range_of (items v) (length (items p)))
      → IfOk r (λ p. AreInOrder range_of runs → IsLeastSize range_of runs (length (items p)))
  result_least =
      if_ok r (λ p least order.
      least_kept runs (length (items p))
      (subst (λ (rs : List (List OpenTable)). IsLeastSize range_of rs (length (items p))) are
      (least (subst (AreDisjointRuns range_of) (sym are) (kept_disjoint runs order)))))

pub result_list : {V E : Type 0} (items : V → List (List OpenTable)) (runs : List (List OpenTable))
    (r : Result V E) → IfOk r (λ p. SameTables runs (items p))
    → IfOk r (λ p. AreInOrder range_of runs → SameHolders range_of runs (items p))
    → IfOk r (λ p. AreInOrder range_of runs → ArePacked range_of (items p))
    → (lists : List (List (List Entry))) → RunsHoldLists runs lists
    → IfOk r (λ p. HoldUnion (items p) (union_in lists))
result_list items runs (Ok p) same holds packs lists held =
    let order = runs_in_order runs lists held in
    kept_alike runs (items p) lists held same (holds order) (order_of (items p) (packs order))
result_list items runs (Err e) same holds packs lists held = tt
