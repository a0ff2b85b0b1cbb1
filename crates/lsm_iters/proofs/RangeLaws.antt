-- What an iterator over a range deals, and how far off its end is.
use Rattle.std.proofs.Common.{◌≡◌, ℕ, ◌<◌, ◌≤◌, [], length, ap, arith}
use Rattle.std.proofs.lemmas.List.{nil_from_length}
use Rattle.std.specs.Iterator.{MakesProgress, at_most}
use Rattle.std.specs.Prelude.{Option, Some, None, Ok, Err}
use Rattle.sst_entries.specs.declared.stream.Direction.{Direction}
use Rattle.sst_entries.specs.Stream.{front_of, back_of}
use Rattle.lsm_iters.specs.block_index.Yielded.{YieldsEnding}
use Rattle.lsm_iters.proofs.Dealing.{Ending, yields_ending}
use Rattle.lsm_iters.specs.walk.Ends.{StepAnswers, StepGives, taken_at}
use Rattle.lsm_iters.proofs.Instances.{positive}
use Rattle.lsm_iters.specs.Range.{IsEndedRange, Next, Range, RangeGives, back_next, front_next}
use Rattle.lsm_iters.specs.Range.{next_at}
use Rattle.lsm_iters.specs.Range.{range_left, range_loads, range_remains, range_size}
use Rattle.lsm_iters.proofs.RangeEnds.{Shortens, if_true}
use Rattle.lsm_iters.proofs.Ranges.{R, End}

module _ {A : Type 0} where
  pub nothing : (s : Range A) → IsEndedRange s → range_left s ≡ []
  nothing s ended = nil_from_length (range_left s) (omega (arith, ended))

  pub ends_by : (of : End) (next : Range A → Next) (s : Range A) (r : Option R) (t : Range A)
      → RangeGives of next s r t → Ending range_left IsEndedRange of s r t
  ends_by of next s None t step = record { answer = step.answer; ends = tt }
  ends_by of next s (Some (Ok e)) t step = record { answer = step.answer; ends = tt }
  ends_by of next s (Some (Err e)) t step = record { answer = step.answer; ends = step.ends }

  -- whatever ends are asked, what is left is dealt up to the first error
  pub range_yields : (s : Range A) → YieldsEnding (RangeGives front_of front_next)
      (RangeGives back_of back_next) (λ _. Unit {0}) (λ _. Unit {0}) s (range_left s)
  range_yields s =
      yields_ending range_left IsEndedRange nothing (RangeGives front_of front_next)
      (RangeGives back_of back_next)
      (λ u r t step. ends_by front_of front_next u r t step)
      (λ u r t step. ends_by back_of back_next u r t step) s

  -- no call makes the loads that are left more
  no_more : (of : End) (next : Range A → Next) (s : Range A) (r : Option R) (t : Range A)
      → RangeGives of next s r t → range_loads t ≤ range_loads s
  no_more of next s None t step = omega (arith, step.answer.1)
  no_more of next s (Some (Ok e)) t step =
      omega (
        arith,
        step.loads.within,
        step.loads.index_within,
        if_true {X = ℕ} t.handles.sought 0 1
            step.initialized,
      )
  no_more of next s (Some (Err e)) t step = omega (arith, step.ends)

  -- it is a step of a part of a walk
  range_answers : (at : Direction) (s t : Range A) (r : Option R)
      → RangeGives (taken_at at) (next_at at) s r t
      → StepAnswers at (range_remains s) r (range_remains t)
  range_answers at s t None step = (
    step.answer.0,
    record {
      results = nothing t step.answer.1;
      loads =
          omega (arith, step.answer.1);
    },
  )
  range_answers at s t (Some (Ok e)) step = step.answer
  range_answers at s t (Some (Err e)) step =
      (step.answer.0, λ over. step.answer.1 (omega (arith, ap length over.results, over.loads)))

  pub range_step : (at : Direction) (s t : Range A) (r : Option R)
      → RangeGives (taken_at at) (next_at at) s r t
      → StepGives at (range_remains s) r (range_remains t)
  range_step at s t r step =
      record {
        answer = range_answers at s t r step;
        loads =
            no_more (taken_at at) (next_at at) s r t step;
      }

  -- an answer brings the end nearer
  pub nearer : (of : End) → Shortens of → (next : Range A → Next) (s t : Range A) (x : R)
      → RangeGives of next s (Some x) t → range_size t < range_size s
  nearer of shortens next s t (Ok e) step =
      omega (
        arith,
        shortens (range_left s) (range_left t) (Ok e) step.answer,
        no_more of next s (Some (Ok e)) t step,
      )
  nearer of shortens next s t (Err e) step = omega
      (arith, step.ends, positive (range_size s) step.answer.1)

  pub progress : (of : End) → Shortens of → (next : Range A → Next) (s : Range A) (r : Option R)
      (t : Range A) → RangeGives of next s r t → MakesProgress (λ _. Unit {0})
      (λ u. at_most (range_size u)) s r t
  progress of shortens next s None t step = record { on = λ _. tt; keeps = tt; rests = λ _. tt }
  progress of shortens next s (Some x) t step =
      record { on = λ _. (tt, tt, nearer of shortens next s t x step); keeps = tt; rests = λ _. tt }
