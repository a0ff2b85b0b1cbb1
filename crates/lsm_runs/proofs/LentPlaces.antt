-- Readers of runs of any tables that lend, below a bound of numbers, errors in their places.
use Rattle.std.proofs.Common.{◌≡◌, refl, sym, ap, subst, ◌∙◌, ℕ, Bool, true, false, cond, List, []}
use Rattle.std.proofs.Common.{◌∷◌, inl, inr, map}
use Rattle.std.specs.Prelude.{Option, Some, None, Result, Ok, Err, nat_lt}
use Rattle.std.specs.List.{AllByRecursion, AllZip}
use Rattle.std.specs.declared.ops.Bound.{Bound}
use Rattle.std.proofs.lemmas.Bool.{cases_Bool}
use Rattle.sst_entries.specs.declared.error.Error.{Error}
use Rattle.sst_entries.specs.declared.error.Error.TheVariants.{OutOfMemory}
use Rattle.sst_entries.specs.declared.stream.Direction.{Direction}
use Rattle.sst_entries.specs.declared.stream.Direction.TheVariants.{Front, Back}
use Rattle.sst_entries.specs.Entry.{Entry}
use Rattle.sst_entries.specs.Error.{is_memory}
use Rattle.sst_entries.specs.Stream.{YieldsExactly, NoneStops, Runs, answer_stops, yield_each, nowhere}
use Rattle.sst_entries.proofs.Refusals.{memory_is}
use Rattle.lsm_iters.specs.block_index.Yielded.{YieldsEnding, ended_at_error}
use Rattle.lsm_sorted.specs.merge.Ends.{R}
use Rattle.lsm_sorted.specs.merge.InPlace.{merge_of, up_to_error}
use Rattle.lsm_sorted.specs.merge.Union.{Ascends, entries_among}
use Rattle.lsm_readers.specs.point.Table.{OpenTable}
use Rattle.lsm_sorted.specs.Below.{below_of, below_results, numbered_below}
use Rattle.lsm_sorted.specs.lending.LentNewest.{newest_results}
use Rattle.lsm_sorted.specs.declared.below.Below.{Below}
use Rattle.lsm_sorted.proofs.BelowLemmas.{yields_in_front}
use Rattle.lsm_sorted.specs.LentBelow.{LendsBelow, MayLendBelow}
use Rattle.lsm_runs.specs.LentNewestRuns.{LendsNewest, LendsResults, runs_results_within, span_results}
use Rattle.lsm_runs.specs.LentRun.{RunLends}
use Rattle.lsm_run_parts.specs.RunParts.{RunSpan}
use Rattle.lsm_runs.specs.RunRange.{IsRunOf, RunRange, run_left, run_size}
use Rattle.lsm_runs.specs.SpansRead.{spans_within}
use Rattle.lsm_runs.proofs.LentRunLaws.{lending_front}
use Rattle.lsm_runs.proofs.RunLists.{new_left}
use Rattle.lsm_runs.proofs.Unions.{filter_ascends}

-- ---- what ends at an error lends what is left up to it

module _ {S : Type 0} (next : S → Option R → S → Type 0) where
  none_left : (xs : List R) (ends : List Direction)
      → map {B = Option R} (λ (r : Option R). None) (yield_each xs ends) ≡ yield_each [] ends
  none_left xs [] = refl
  none_left xs (Front ∷ ends) = ap (λ (rs : List (Option R)). None ∷ rs) (none_left _ ends)
  none_left xs (Back ∷ ends) = ap (λ (rs : List (Option R)). None ∷ rs) (none_left _ ends)

  ended : (xs : List R) (ends : List Direction) (rs : List (Option R)) (s t : S)
      → Runs next nowhere s ends rs t
      → ended_at_error (yield_each xs ends) ≡ yield_each (up_to_error xs) ends
  ended xs [] rs s t runs = refl
  ended xs (e ∷ ends) [] s t runs = absurd runs
  ended xs (Back ∷ ends) (r ∷ rs) s t runs = absurd runs.1
  ended [] (Front ∷ ends) (r ∷ rs) s t runs =
      ap (λ (qs : List (Option R)). None ∷ qs) (ended [] ends rs runs.0 t runs.2)
  ended (Ok x ∷ xs) (Front ∷ ends) (r ∷ rs) s t runs =
      ap (λ (qs : List (Option R)). Some (Ok x) ∷ qs) (ended xs ends rs runs.0 t runs.2)
  ended (Err e ∷ xs) (Front ∷ ends) (r ∷ rs) s t runs =
      ap (λ (qs : List (Option R)). Some (Err e) ∷ qs) (none_left xs ends)

  none_memory : (stops : Error → Bool) → stops OutOfMemory ≡ true → (rs : List (Option R))
      → NoneStops (answer_stops stops) rs → NoneStops (answer_stops is_memory) rs
  none_memory stops memory [] h = tt
  none_memory stops memory (None ∷ rs) h = (refl, none_memory stops memory rs h.1)
  none_memory stops memory (Some (Ok x) ∷ rs) h = (refl, none_memory stops memory rs h.1)
  none_memory stops memory (Some (Err e) ∷ rs) h =
      (fine e h.0, none_memory stops memory rs h.1)
    where
      fine : (f : Error) → stops f ≡ false → is_memory f ≡ false
      fine f goes = elim (cases_Bool (is_memory f)) [
        | inl lacks ↦
            let both : true ≡ false = sym (ap stops (memory_is f lacks) ∙ memory) ∙ goes in
            absurd cc
        | inr not ↦ not
      ]

  ends_lending : (xs : List R) (s : S)
      → YieldsEnding next nowhere (λ _. Unit {0}) (λ _. Unit {0}) s xs
      → LendsResults next (up_to_error xs) s
  ends_lending xs s d stops memory = record {
    answers = λ ends rs t runs fine. d.answers ends rs t runs (none_memory stops memory rs fine)
        ∙ ended xs ends rs s t runs;
  }

-- ---- below a bound

entries_below : (bound : ℕ) (rs : List R)
    → entries_among (below_results bound rs) ≡ numbered_below bound (entries_among rs)
entries_below bound [] = refl
entries_below bound (Ok x ∷ rs) = elim (nat_lt x.seqno bound) as
    (λ b. entries_among (cond b (Ok x ∷ below_results bound rs) (below_results bound rs))
    ≡ cond b (x ∷ numbered_below bound (entries_among rs))
    (numbered_below bound (entries_among rs))) [
      | true ↦ ap (λ (es : List Entry). x ∷ es) (entries_below bound rs)
      | false ↦ entries_below bound rs
    ]
entries_below bound (Err e ∷ rs) = entries_below bound rs

pub below_ascend : (bound : ℕ) (lists : List (List R))
    → AllByRecursion (λ (rs : List R). Ascends (entries_among rs)) lists
    → AllByRecursion (λ (rs : List R). Ascends (entries_among rs)) (map (below_results bound) lists)
below_ascend bound [] up = tt
below_ascend bound (rs ∷ lists) up = (
  subst Ascends (sym (entries_below bound rs))
      (filter_ascends (λ (e : Entry). nat_lt e.seqno bound) (entries_among rs) up.0),
  below_ascend bound lists up.1,
)

-- ---- the readers of the spans

-- a reader of a span lends the span's results
pub reader_lends : {A : Type 0} (s : RunRange A) (run : List OpenTable × RunSpan)
    → IsRunOf run.0 run.1 s → LendsResults RunLends (span_results run) s
reader_lends s run is stops memory =
    subst (λ (xs : List R). YieldsExactly (answer_stops stops) RunLends nowhere s (up_to_error xs))
    (new_left run.0 run.1 s is)
    (ends_lending RunLends (run_left s) s (lending_front s) stops memory)

module _ {A : Type 0} (bound : ℕ) where
  abbrev Below_lends : Below (RunRange A) → Option R → Below (RunRange A) → Type 0
  Below_lends = LendsBelow RunLends (λ _. Unit {0}) run_size

  one_lends : (s : RunRange A) (run : List OpenTable × RunSpan) → IsRunOf run.0 run.1 s
      → LendsResults Below_lends (below_results bound (span_results run)) (below_of bound s)
  one_lends s run is stops memory =
      (yields_in_front RunLends (MayLendBelow RunLends (λ _. Unit {0}) run_size) s bound
      (below_of bound s) refl).yields stops (span_results run) (reader_lends s run is stops memory)

  each_lends : (stops : Error → Bool) → stops OutOfMemory ≡ true → (ss : List (RunRange A))
      (spans : List (List OpenTable × RunSpan))
      → AllZip (λ (u : RunRange A) (run : List OpenTable × RunSpan). IsRunOf run.0 run.1 u)
      ss spans
      → AllZip (YieldsExactly (answer_stops stops) Below_lends nowhere) (map (below_of bound) ss)
      (map (below_results bound) (map span_results spans))
  each_lends stops memory [] [] all = tt
  each_lends stops memory [] (run ∷ spans) all = absurd all
  each_lends stops memory (s ∷ ss) [] all = absurd all
  each_lends stops memory (s ∷ ss) (run ∷ spans) all =
      (one_lends s run all.0 stops memory, each_lends stops memory ss spans all.1)

  -- together
  pub newest_places : {T : Type 0} (next : T → Option R → T → Type 0) (t : T)
      (low high : Bound (List ℕ)) (runs : List (List OpenTable)) (ss : List (RunRange A))
      (below : List (Below (RunRange A))) → below ≡ map (below_of bound) ss
      → AllZip (λ (u : RunRange A) (run : List OpenTable × RunSpan). IsRunOf run.0 run.1 u)
      ss (spans_within low high runs)
      → AllByRecursion (λ (rs : List R). Ascends (entries_among rs))
      (runs_results_within low high runs)
      → LendsNewest Below_lends below next t
      → LendsResults next (newest_results (merge_of
      (map (below_results bound) (runs_results_within low high runs)))) t
  newest_places next t low high runs ss below are spans up law stops memory =
      let returned = map (below_results bound) (runs_results_within low high runs) in
      law.places stops returned memory (record {
        yield_each = subst (λ (bs : List (Below (RunRange A))). AllZip
            (YieldsExactly (answer_stops stops) Below_lends nowhere) bs returned) (sym are)
            (each_lends stops memory ss (spans_within low high runs) spans);
        ascend = below_ascend bound (runs_results_within low high runs) up;
      })
