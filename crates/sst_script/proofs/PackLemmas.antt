-- The result of packing the runs.
use Rattle.std.proofs.Common.{◌≡◌, refl, sym, ◌∙◌, ap, subst, ℕ, List, [], length}
use Rattle.std.specs.Prelude.{◌≢◌, Option}
use Rattle.std.specs.List.{AllByRecursion}
use Rattle.std.proofs.lemmas.List.{length-map}
use Rattle.sst_entries.specs.Entry.{Entry}
use Rattle.sst_entries.proofs.Lists.{all_more}
use Rattle.lsm_sorted.specs.version.Packing.{AreInOrder, ArePacked, IsLeastSize, SameHolders}
use Rattle.lsm_sorted.specs.version.Packing.{SameTables}
use Rattle.lsm_readers.specs.point.Table.{OpenTable}
use Rattle.lsm_runs.specs.compaction.Packed.{HoldUnion}
use Rattle.lsm_run_parts.specs.RunParts.{range_of}
use Rattle.lsm_runs.specs.SeveralRuns.{union_in}
use Rattle.lsm_runs.proofs.OneList.{one_way}
use Rattle.lsm_runs.proofs.RunPoints.{runs_in_order}
use Rattle.sst_script.specs.Runs.{HasRuns, Run, run_tables, union}
use Rattle.sst_script.specs.Script.{ArePackedRuns, Packs, store}
use Rattle.sst_script.proofs.CompactLemmas.{runs_of}
use Rattle.sst_script.proofs.RunLemmas.{held, lists_of, union_same}

-- ---- packed runs

pub in_order : (rs : List Run) (ts : List (List OpenTable)) → run_tables rs ≡ ts
    → AreInOrder range_of ts
in_order rs ts same = runs_in_order ts (lists_of rs) (held rs ts same)

module _ (rs : List Run) (ts packed : List (List OpenTable)) (same : run_tables rs ≡ ts)
    (hold : HoldUnion packed (union_in (lists_of rs))) (ordered : ArePacked range_of packed) where
  some : AllByRecursion (λ (run : List OpenTable). run ≢ []) packed
  some = all_more _ _ (λ run h. h.1) packed ordered

  made : (new : List Run) × (run_tables new ≡ packed)
  made = runs_of packed hold.lists hold.hold some

  lists_are : hold.lists ≡ lists_of made.0
  lists_are = one_way packed hold.lists (lists_of made.0) hold.hold (held made.0 packed made.1)

  same_union : union made.0 ≡ union rs
  same_union = sym (union_same made.0) ∙ ap union_in (sym lists_are) ∙ hold.union ∙ union_same rs

  -- they replace the runs
  pub packed_runs : (es : List Entry) (next : Option ℕ) (count : ℕ) → count ≡ length packed
      → SameTables ts packed → SameHolders range_of ts packed
      → IsLeastSize range_of ts (length packed)
      → HasRuns packed (λ after. Packs (store es rs next) count (store es after next))
  packed_runs es next count count_is tables holders least =
      let many : length packed ≡ length made.0 = sym (ap length made.1)
      ∙ length-map made.0 (λ (r : Run). r.tables) in
      let ts_is = sym same in
      let packed_is = sym made.1 in
      let are : ArePackedRuns rs made.0 = record {
        tables = subst (λ (us : List (List OpenTable)). SameTables us (run_tables made.0)) ts_is
            (subst (SameTables ts) packed_is tables);
        holders = subst (λ (us : List (List OpenTable)). SameHolders range_of us
            (run_tables made.0)) ts_is (subst (SameHolders range_of ts) packed_is holders);
        ordered = subst (ArePacked range_of) packed_is ordered;
        least = subst (λ (us : List (List OpenTable)). IsLeastSize range_of us (length made.0))
            ts_is (subst (IsLeastSize range_of ts) many least);
        union_is = same_union;
      } in
      (made.0, made.1, (count_is ∙ many, are, refl))
