-- The definitions that contracts of `Walk` and `Parts` cite.
pub use Rattle.lsm_iters.specs.walk.Ends.{IsOver, Remains, StepGives, laid_from, remains_in}
pub use Rattle.lsm_iters.specs.walk.Ends.{seen_from}
pub use Rattle.lsm_iters.specs.walk.Ends.{span_remains, taken_at}
pub use Rattle.lsm_iters.specs.walk.Parts.{Coming, IsDone, LoadGives, Loading, all_results}
pub use Rattle.lsm_iters.specs.walk.Walks.{Ended, WalkGives, WalkTakes, far, near, walk_left}
pub use Rattle.lsm_iters.specs.walk.Walks.{with_far}
pub use Rattle.lsm_iters.specs.walk.Walks.{with_near}
