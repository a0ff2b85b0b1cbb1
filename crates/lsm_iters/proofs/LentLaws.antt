-- What a range that lends deals, and how far off its end is.
use Rattle.std.specs.Prelude.{Option, Some, None}
use Rattle.sst_entries.specs.Stream.{Lowers, back_of, front_of}
use Rattle.lsm_iters.specs.block_index.Yielded.{YieldsEnding}
use Rattle.lsm_iters.proofs.Dealing.{Ending, yields_ending}
use Rattle.lsm_iters.specs.Lending.{RangeLends}
use Rattle.lsm_iters.specs.Range.{IsEndedRange, Range, RangeGives, back_next, front_next}
use Rattle.lsm_iters.specs.Range.{range_left, range_size}
use Rattle.lsm_iters.proofs.RangeEnds.{front_shortens}
use Rattle.lsm_iters.proofs.RangeLaws.{ends_by, nearer, nothing}
use Rattle.lsm_iters.proofs.Ranges.{R}

module _ {A : Type 0} where
  lends_by : (s : Range A) (r : Option R) (t : Range A) → RangeLends s r t
      → Ending range_left IsEndedRange front_of s r t
  lends_by s r t step = ends_by front_of front_next s r t step.gives

  -- what is left is lent up to the first error, also where the back gives in between
  pub lending_yields : (s : Range A) → YieldsEnding RangeLends (RangeGives back_of back_next)
      (λ _. Unit {0}) (λ _. Unit {0}) s (range_left s)
  lending_yields s =
      yields_ending range_left IsEndedRange nothing RangeLends (RangeGives back_of back_next)
      (λ u r t step. lends_by u r t step) (λ u r t step. ends_by back_of back_next u r t step) s

  -- an answer brings the end nearer
  pub lending_lowers : (s : Range A) (r : Option R) (t : Range A) → RangeLends s r t
      → Lowers r (range_size s) (range_size t)
  lending_lowers s None t step = step.gives.answer.1
  lending_lowers s (Some x) t step = nearer front_of front_shortens front_next s t x step.gives
