-- What a reader of a run that lends deals.
use Rattle.sst_entries.specs.Stream.{back_of, front_of, nowhere}
use Rattle.lsm_iters.specs.block_index.Yielded.{YieldsEnding}
use Rattle.lsm_iters.proofs.Dealing.{yields_ending}
use Rattle.lsm_runs.specs.LentRun.{RunLends}
use Rattle.lsm_runs.specs.RunRange.{IsRunEnded, RunGives, RunRange, back_tables, front_tables}
use Rattle.lsm_runs.specs.RunRange.{run_left}
use Rattle.lsm_runs.proofs.RunLaws.{ends_by, nothing}

module _ {A : Type 0} where
  -- what is left is lent up to the first error, also where the back gives in between
  pub lending_yields : (s : RunRange A) → YieldsEnding RunLends (RunGives back_of back_tables)
      (λ _. Unit {0}) (λ _. Unit {0}) s (run_left s)
  lending_yields s =
      yields_ending run_left IsRunEnded nothing RunLends (RunGives back_of back_tables)
      (λ u r t step. ends_by front_of front_tables u r t step.gives)
      (λ u r t step. ends_by back_of back_tables u r t step) s

  -- from the front alone
  pub lending_front : (s : RunRange A) → YieldsEnding RunLends nowhere (λ _. Unit {0})
      (λ _. Unit {0}) s (run_left s)
  lending_front s =
      yields_ending run_left IsRunEnded nothing RunLends nowhere
      (λ u r t step. ends_by front_of front_tables u r t step.gives) (λ u r t step. absurd step) s
