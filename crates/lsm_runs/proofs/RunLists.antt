-- What a new reader of a run of tables of lists deals.
use Rattle.std.proofs.Common.{◌≡◌, ℕ, suc, ◌+◌, ◌-◌, true, List, ◌++◌, length, sym, ap}
use Rattle.std.proofs.Common.{subst, ◌∙◌, append-nil, arith}
use Rattle.std.specs.Prelude.{Option, Some}
use Rattle.std.specs.declared.ops.Bound.{Bound}
use Rattle.sst_entries.specs.Entry.{Entry}
use Rattle.sst_entries.specs.Point.{within}
use Rattle.sst_entries.specs.Stream.{back_of, front_of, ok_results}
use Rattle.lsm_iters.specs.block_index.Yielded.{YieldsEnding}
use Rattle.sst_blocks.specs.table.Chunks.{joined}
use Rattle.lsm_iters.specs.Range.{Range}
use Rattle.lsm_sorted.specs.version.Run.{ArePlacesOf, are_in_order, overlap_indexes}
use Rattle.lsm_readers.specs.point.Table.{OpenTable}
use Rattle.lsm_runs.specs.RunLists.{YieldsList, HoldLists, span_list}
use Rattle.lsm_run_parts.specs.RunParts.{RunSpan, span_parts_from, ranges_of, span_of, span_parts}
use Rattle.lsm_runs.specs.RunRange.{IsRunOf, OpensAtMost, RunGives, RunRange, back_tables}
use Rattle.lsm_run_parts.specs.Tables.{run_parts_results}
use Rattle.lsm_runs.specs.RunRange.{front_tables, left_of_reader, run_left}
use Rattle.lsm_runs.proofs.RunLaws.{few_between, opens_few, run_yields}
use Rattle.lsm_runs.proofs.RunSteps.{R}
use Rattle.lsm_runs.proofs.RunWithin.{span_yields}
use Rattle.lsm_runs.proofs.SpanLists.{reported_between}
use Rattle.lsm_readers.proofs.TableRanges.{yields_values}

module _ {A : Type 0} (ts : List OpenTable) (span : RunSpan) (s : RunRange A)
    (is : IsRunOf ts span s) where
  pub new_left : run_left s ≡ run_parts_results (span_parts span ts)
  new_left =
      ap (λ (o : Option (Range A)). left_of_reader o
      ++ (run_parts_results s.unopened.parts ++ left_of_reader s.back)) is.front
      ∙ ap (λ (o : Option (Range A)). run_parts_results s.unopened.parts ++ left_of_reader o) is.back
      ∙ append-nil (run_parts_results s.unopened.parts)
      ∙ ap run_parts_results is.parts

  pub new_few : OpensAtMost (RunGives front_of front_tables) (RunGives back_of back_tables)
      (span.last + 1 - span.first) s
  new_few = opens_few (span.last + 1 - span.first) s
      (omega (
        arith,
        is.opened,
        ap length is.parts,
        few_between
            (span_parts_from span 0 ts) span.first (suc span.last),
      ))

module _ {A : Type 0} (low high : Bound (List ℕ)) (ts : List OpenTable) (ends : ℕ × ℕ)
    (s : RunRange A) (is : IsRunOf ts (span_of ends low high) s) where
  -- of the tables that were found
  pub few_found : (found : Option (ℕ × ℕ)) (others : ℕ × ℕ) → found ≡ Some ends
      → found ≡ Some others
      → OpensAtMost (RunGives front_of front_tables) (RunGives back_of back_tables)
      (others.1 + 1 - others.0) s
  few_found found others returned same =
      let one : Some ends ≡ Some others = sym returned ∙ same in
      let are : ends ≡ others = cc in
      subst (λ (e : ℕ × ℕ). OpensAtMost (RunGives front_of front_tables)
      (RunGives back_of back_tables) (e.1 + 1 - e.0) s) are
      (new_few ts (span_of ends low high) s is)

  -- of all tables
  pub few_all : ArePlacesOf ts ends → OpensAtMost (RunGives front_of front_tables)
      (RunGives back_of back_tables) (length ts) s
  few_all places asked rs t runs = let few = new_few ts
      (span_of ends low high) s is asked rs t runs in omega (arith, few, places.1)

-- what is left, where it is a list
left_yields : {A : Type 0} (s : RunRange A) (es : List Entry) → run_left s ≡ ok_results es
    → YieldsList (RunGives front_of front_tables) (RunGives back_of back_tables) es s
left_yields s es returned stops memory =
    let yields = subst (λ (xs : List R). YieldsEnding (RunGives front_of front_tables)
    (RunGives back_of back_tables) (λ _. Unit {0}) (λ _. Unit {0}) s xs) returned (run_yields s) in
    yields_values (RunGives front_of front_tables) (RunGives back_of back_tables) (λ _. Unit {0})
    (λ _. Unit {0}) s es yields stops memory

module _ {A : Type 0} (low high : Bound (List ℕ)) (ts : List OpenTable) (ls : List (List Entry))
    (h : HoldLists ts ls) (ends : ℕ × ℕ) (s : RunRange A)
    (is : IsRunOf ts (span_of ends low high) s) where
  pub new_yields : are_in_order (ranges_of ts) ≡ true
      → overlap_indexes low high (ranges_of ts) ≡ Some ends
      → YieldsList (RunGives front_of front_tables) (RunGives back_of back_tables)
      (within low high (joined ls)) s
  new_yields order found = left_yields s (within low high (joined ls))
      (new_left ts (span_of ends low high) s is ∙ span_yields low high ts ls h order ends found)

  -- whatever the places are
  pub culled_yields : YieldsList (RunGives front_of front_tables) (RunGives back_of back_tables)
      (span_list (span_of ends low high) ls) s
  culled_yields =
      left_yields s (span_list (span_of ends low high) ls)
      (new_left ts (span_of ends low high) s is
      ∙ reported_between (span_of ends low high) ends.0 (suc ends.1 - ends.0) 0 ts ls h)
