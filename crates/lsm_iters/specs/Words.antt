-- The definitions that contracts of ranges cite.
pub use Rattle.sst_entries.specs.Point.{lower_place, upper_place, within}
pub use Rattle.sst_entries.specs.Span.{SpanGives, rest_in}
pub use Rattle.sst_entries.specs.Lending.{came, entry_of_ref}
pub use Rattle.sst_entries.specs.Stream.{back_of, front_of, nowhere, ok_results}
pub use Rattle.sst_entries.specs.Strict.{IsStrict}
pub use Rattle.sst_entries.specs.Error.{FaultsFirst, is_memory}
pub use Rattle.sst_blocks.specs.Sections.{body_of}
pub use Rattle.sst_blocks.specs.Block.{place_fault}
pub use Rattle.sst_blocks.specs.Seeking.{KeepsLower, KeepsLowerEdge, KeepsUpper, KeepsUpperEdge}
pub use Rattle.sst_blocks.specs.Seeking.{YieldsLeft, above_place, reaching_place, span_from}
pub use Rattle.sst_blocks.specs.Seeking.{span_to, whole_span}
pub use Rattle.lsm_iters.specs.block_index.Yielded.{YieldsEnding, YieldsFreely}
pub use Rattle.lsm_iters.specs.block_index.Kinds.{BackGives, FrontGives, HasReader, IsReader}
pub use Rattle.lsm_iters.specs.block_index.Kinds.{IsSought, SeekAnswers, TakesMemory, index_of}
pub use Rattle.lsm_iters.specs.block_index.Kinds.{left_of}
pub use Rattle.lsm_iters.specs.block_index.Left.{IsBetween, IsDemandSought, IsEnded, IsSpanSought}
pub use Rattle.lsm_iters.specs.block_index.Left.{IsTwoLevelSought, Left, LeftGives, OnDemandGives}
pub use Rattle.lsm_iters.specs.block_index.Left.{StaysEnded, TwoLevelGives, back_early, back_needs}
pub use Rattle.lsm_iters.specs.block_index.Left.{fault_at, front_early, front_needs, left_size}
pub use Rattle.lsm_iters.specs.block_index.Left.{needs_at, new_on_demand, new_two_level}
pub use Rattle.lsm_iters.specs.block_index.Left.{on_demand_left, span_left, two_level_left}
pub use Rattle.lsm_iters.specs.block_index.Left.{with_index_loads}
pub use Rattle.lsm_iters.specs.Bounds.{edge_in, edge_of, key_of, lower_edge, upper_edge}
pub use Rattle.lsm_iters.specs.Lift.{global_seqno_result, lift, lift_results, lifted, lifted_result}
pub use Rattle.lsm_iters.specs.Range.{LendsOn, Range, RangeGives, back_next, data_loaded}
pub use Rattle.lsm_iters.specs.Range.{front_next, left_in, new_range, next_at, opened_in}
pub use Rattle.lsm_iters.specs.Range.{range_left, range_remains, range_size, with_sought}
pub use Rattle.lsm_iters.specs.Rows.{Bounded, block_rows, rows}
pub use Rattle.lsm_iters.specs.Steps.{LoadsNone, SeeksOnce, all_over, lifted_answer, over, stopped}
pub use Rattle.lsm_iters.specs.Steps.{without_lent}
pub use Rattle.lsm_iters.specs.walk.Ends.{Remains, StepGives, remains_in, rest_of, span_remains}
pub use Rattle.lsm_iters.specs.walk.Ends.{taken_at}
pub use Rattle.sst_blocks.specs.Cursor.{Cursor, advanced, cursor_of, unlent}
pub use Rattle.lsm_iters.specs.walk.Walks.{Ended, WalkGives, WalkTakes, far, near, walk_left}
pub use Rattle.lsm_iters.specs.walk.Walks.{with_far, with_near}
pub use Rattle.lsm_iters.specs.Blocks.{EndsBlocks, KeepsBlocks, coming_blocks, lent_at, range_at}
pub use Rattle.lsm_iters.specs.Blocks.{range_lending, stored_at, swapped}
pub use Rattle.lsm_iters.specs.Lending.{LendsAt, RangeLends, RangeLendsAt, behind_in}
pub use Rattle.lsm_iters.specs.Lending.{cursor_remains, lent_in}
pub use Rattle.std.specs.Iterator.{at_most}
pub use Rattle.std.specs.Option.{option_map}
pub use Rattle.std.specs.declared.ops.Bound.TheVariants.{Unbounded}
pub use Rattle.sst_entries.specs.Entry.{Entry}
pub use Rattle.sst_entries.specs.declared.error.Error.{Error}
pub use Rattle.sst_entries.specs.declared.error.Error.TheVariants.{OutOfMemory}
pub use Rattle.sst_entries.specs.declared.stream.Direction.TheVariants.{Back}
pub use Rattle.sst_blocks.specs.Handles.{window}
pub use Rattle.sst_blocks.specs.Opened.{none_opened}
pub use Rattle.sst_blocks.specs.declared.block_type.BlockType.TheVariants.{Data}
pub use Rattle.lsm_iters.specs.block_index.Answers.{AnswersAny, AnswersTrue}
pub use Rattle.lsm_iters.specs.block_index.Index.{Index, block_between, block_early, two_level}
pub use Rattle.lsm_iters.specs.block_index.Partitions.{EndsPartitions, KeepsPartitions}
pub use Rattle.lsm_iters.specs.block_index.Partitions.{coming_partitions}
pub use Rattle.lsm_iters.specs.block_index.Seen.{PartGives, PlaceGives, TakesPlace}
pub use Rattle.lsm_iters.specs.walk.Parts.{Coming, IsDone, LoadGives, Loading}
