-- What a reader of a run deals, how many tables it opens, and how far off its end is.
use Rattle.std.proofs.Common.{◌≡◌, ℕ, ◌+◌, ◌-◌, ◌≤◌, List, [], ◌∷◌, drop}
use Rattle.std.proofs.Common.{length, take, subst, arith}
use Rattle.std.proofs.lemmas.List.{length-take, nil_from_length}
use Rattle.std.specs.Iterator.{MakesProgress, at_most}
use Rattle.std.specs.Prelude.{Option, Some, None, Result, Ok, Err, IfOk}
use Rattle.sst_entries.specs.declared.stream.Direction.{Direction}
use Rattle.sst_entries.specs.declared.stream.Direction.TheVariants.{Front, Back}
use Rattle.sst_entries.specs.Stream.{Runs, front_of, back_of}
use Rattle.lsm_iters.specs.block_index.Yielded.{YieldsEnding}
use Rattle.lsm_iters.proofs.Dealing.{Ending, yields_ending}
use Rattle.lsm_runs.specs.RunRange.{IsRunEnded, OpensAtMost, RunGives, RunRange, back_tables}
use Rattle.lsm_runs.specs.RunRange.{front_tables, run_left, run_size}
use Rattle.lsm_runs.proofs.RunSteps.{End, R}

module _ {A : Type 0} where
  pub nothing : (s : RunRange A) → IsRunEnded s → run_left s ≡ []
  nothing s ended = nil_from_length (run_left s) (omega (arith, ended))

  pub ends_by : (of : End) (needed : RunRange A → ℕ) (s : RunRange A) (r : Option R) (t : RunRange A)
      → RunGives of needed s r t → Ending run_left IsRunEnded of s r t
  ends_by of needed s None t step = record { answer = (step.answer, step.lowers); ends = tt }
  ends_by of needed s (Some (Ok e)) t step = record { answer = step.answer; ends = tt }
  ends_by of needed s (Some (Err e)) t step = record
      { answer = (step.answer, λ ended. omega (arith, ended, step.lowers)); ends = step.ends }

  -- whatever ends are asked, what is left is dealt up to the first error
  pub run_yields : (s : RunRange A) → YieldsEnding (RunGives front_of front_tables)
      (RunGives back_of back_tables) (λ _. Unit {0}) (λ _. Unit {0}) s (run_left s)
  run_yields s =
      yields_ending run_left IsRunEnded nothing (RunGives front_of front_tables)
      (RunGives back_of back_tables)
      (λ u r t step. ends_by front_of front_tables u r t step)
      (λ u r t step. ends_by back_of back_tables u r t step) s

  pub progress : (of : End) (needed : RunRange A → ℕ) (s : RunRange A) (r : Option R)
      (t : RunRange A) → RunGives of needed s r t
      → MakesProgress (λ _. Unit {0}) (λ u. at_most (run_size u)) s r t
  progress of needed s None t step = record { on = λ _. tt; keeps = tt; rests = λ _. tt }
  progress of needed s (Some x) t step = record
      { on = λ _. (tt, tt, step.lowers); keeps = tt; rests = λ _. tt }

  -- ---- how many tables are opened

  abbrev Fits : ℕ → RunRange A → Type 0
  Fits most s = s.unopened.opened + length s.unopened.parts ≤ most

  along : (most : ℕ) (ends : List Direction) (rs : List (Option R)) (s t : RunRange A)
      → Runs (RunGives front_of front_tables) (RunGives back_of back_tables) s ends rs t
      → Fits most s → Fits most t
  along most [] [] s t runs held = subst (λ (x : RunRange A). Fits most x) runs held
  along most [] (r ∷ rs) s t runs held = absurd runs
  along most (e ∷ ends) [] s t runs held = absurd runs
  along most (Front ∷ ends) (r ∷ rs) s t runs held = let step = runs.1 in
      along most ends rs runs.0 t runs.2 (omega (
        arith,
        step.tables.counts,
        step.tables.within,
        held,
      ))
  along most (Back ∷ ends) (r ∷ rs) s t runs held = let step = runs.1 in
      along most ends rs runs.0 t runs.2 (omega (
        arith,
        step.tables.counts,
        step.tables.within,
        held,
      ))

  pub opens_few : (most : ℕ) (s : RunRange A) → s.unopened.opened + length s.unopened.parts ≤ most
      → OpensAtMost (RunGives front_of front_tables) (RunGives back_of back_tables) most s
  opens_few most s held ends rs t runs = omega (arith, along most ends rs s t runs held)

-- what stands between two places
pub few_between : {X : Type 0} (xs : List X) (lo hi : ℕ)
    → length (take (hi - lo) (drop lo xs)) ≤ hi - lo
few_between xs lo hi = omega (arith, length-take (hi - lo) (drop lo xs))

-- two facts of a success give another
pub if_ok_both : {Y E : Type 0} {P Q S : Y → Type 0} (r : Result Y E) → ((y : Y) → P y → Q y → S y)
    → IfOk r P → IfOk r Q → IfOk r S
if_ok_both (Ok y) h p q = h y p q
if_ok_both (Err e) h p q = p
