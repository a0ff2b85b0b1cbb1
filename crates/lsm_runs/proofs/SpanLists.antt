-- What the tables of a span deal, each of a list, of which only the first and the last are read
-- within bounds.
use Rattle.std.proofs.Common.{◌≡◌, refl, sym, ap, ◌∙◌, ℕ, zero, suc, Bool, inl, inr, List, [], ◌∷◌}
use Rattle.std.proofs.Common.{◌++◌, drop, take}
use Rattle.std.specs.Prelude.{Ok, if◌then◌else◌}
use Rattle.std.specs.declared.ops.Bound.TheVariants.{Unbounded}
use Rattle.std.proofs.lemmas.Bool.{cases_Bool}
use Rattle.std.proofs.lemmas.List.{map-append}
use Rattle.sst_entries.specs.Entry.{Entry}
use Rattle.sst_entries.specs.Point.{within}
use Rattle.sst_entries.specs.Stream.{ok_results}
use Rattle.sst_blocks.specs.table.Chunks.{joined}
use Rattle.lsm_readers.specs.point.Table.{OpenTable}
use Rattle.lsm_runs.specs.RunLists.{HoldLists, HoldsList, list_at, lists_at}
use Rattle.lsm_run_parts.specs.RunParts.{Part, RunSpan, is_edge, span_part_at, part_read_results}
use Rattle.lsm_run_parts.specs.RunParts.{span_parts_from}
use Rattle.lsm_run_parts.specs.Tables.{run_parts_results}
use Rattle.lsm_iters.proofs.Cuts.{all_within}
use Rattle.lsm_runs.proofs.RunSteps.{R}
use Rattle.lsm_runs.proofs.RunWithin.{held_result}

module _ (span : RunSpan) where
  abbrev bounded : OpenTable → Bool → Part
  bounded t b = if b then record { table = t; low = span.low; high = span.high }
      else record { table = t; low = Unbounded; high = Unbounded }

  abbrev among : List Entry → Bool → List Entry
  among es b = if b then within span.low span.high es else es

  reported_at : (k : ℕ) (t : OpenTable) (es : List Entry) → HoldsList t es
      → part_read_results (span_part_at span k t) ≡ ok_results (list_at span k es)
  reported_at k t es h = elim (cases_Bool (is_edge span k)) [
    | inl e ↦
        ap (λ (b : Bool). part_read_results (bounded t b)) e ∙ held_result t es h span.low span.high
        ∙ sym (ap (λ (b : Bool). ok_results (among es b)) e)
    | inr e ↦
        ap (λ (b : Bool). part_read_results (bounded t b)) e
        ∙ held_result t es h Unbounded Unbounded
        ∙ ap ok_results (all_within es)
        ∙ sym (ap (λ (b : Bool). ok_results (among es b)) e)
  ]

  reported_first : (m k : ℕ) (ts : List OpenTable) (ls : List (List Entry)) → HoldLists ts ls
      → run_parts_results (take m (span_parts_from span k ts)) ≡ ok_results
      (joined (take m (lists_at span k ls)))
  reported_first zero k ts ls h = refl
  reported_first (suc m) k [] [] h = refl
  reported_first (suc m) k [] (es ∷ ls) h = absurd h
  reported_first (suc m) k (t ∷ ts) [] h = absurd h
  reported_first (suc m) k (t ∷ ts) (es ∷ ls) h =
      ap (λ (rs : List R). rs ++ run_parts_results (take m (span_parts_from span (suc k) ts)))
      (reported_at k t es h.0)
      ∙ ap (λ (rs : List R). ok_results (list_at span k es) ++ rs) (reported_first m (suc k) ts ls h.1)
      ∙ sym (map-append (λ (x : Entry). Ok x) (list_at span k es)
      (joined (take m (lists_at span (suc k) ls))))

  pub reported_between : (n m k : ℕ) (ts : List OpenTable) (ls : List (List Entry)) → HoldLists ts ls
      → run_parts_results (take m (drop n (span_parts_from span k ts))) ≡ ok_results
      (joined (take m (drop n (lists_at span k ls))))
  reported_between zero m k ts ls h = reported_first m k ts ls h
  reported_between (suc n) m k [] [] h = reported_first m k [] [] h
  reported_between (suc n) m k [] (es ∷ ls) h = absurd h
  reported_between (suc n) m k (t ∷ ts) [] h = absurd h
  reported_between (suc n) m k (t ∷ ts) (es ∷ ls) h = reported_between n m (suc k) ts ls h.1
