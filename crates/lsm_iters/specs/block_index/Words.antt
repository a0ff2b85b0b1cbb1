-- The definitions that contracts of block indexes cite.
pub use Rattle.sst_entries.specs.Span.{SpanGives, rest_in}
pub use Rattle.sst_entries.specs.Stream.{back_of, front_of}
pub use Rattle.sst_blocks.specs.Sections.{body_of}
pub use Rattle.sst_blocks.specs.Handles.{window}
pub use Rattle.sst_blocks.specs.Opened.{none_opened}
pub use Rattle.sst_blocks.specs.Seeking.{YieldsLeft, KeepsLowerEdge, KeepsUpperEdge, above_place}
pub use Rattle.sst_blocks.specs.Seeking.{reaching_place, span_from, span_to, whole_span}
pub use Rattle.lsm_iters.specs.block_index.Answers.{AnswersAny, AnswersTrue}
pub use Rattle.lsm_iters.specs.block_index.Yielded.{YieldsEnding}
pub use Rattle.lsm_iters.specs.block_index.Index.{Index, block_between, block_early, full}
pub use Rattle.lsm_iters.specs.block_index.Index.{on_demand}
pub use Rattle.lsm_iters.specs.block_index.Index.{two_level}
pub use Rattle.lsm_iters.specs.block_index.Left.{IsBetween, IsDemandSought, IsEnded, IsSpanSought}
pub use Rattle.lsm_iters.specs.block_index.Left.{IsTwoLevelSought, Left, LeftGives, StaysEnded}
pub use Rattle.lsm_iters.specs.block_index.Left.{OnDemand, OnDemandGives, demanded, demands}
pub use Rattle.lsm_iters.specs.block_index.Left.{left_size}
pub use Rattle.lsm_iters.specs.block_index.Left.{with_index_loads, new_on_demand, new_two_level}
pub use Rattle.lsm_iters.specs.block_index.Left.{on_demand_left, span_left, two_level_left}
pub use Rattle.lsm_iters.specs.block_index.Left.{TwoLevel, TwoLevelGives, back_early, back_needs}
pub use Rattle.lsm_iters.specs.block_index.Left.{fault_at, front_early, front_needs, needs_at}
pub use Rattle.lsm_iters.specs.block_index.Seen.{PartGives, PlaceGives, TakesPlace, rest_of}
pub use Rattle.lsm_iters.specs.walk.Ends.{span_remains, taken_at}
