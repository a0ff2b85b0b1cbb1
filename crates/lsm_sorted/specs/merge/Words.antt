-- The definitions for contracts of mergers, with those of the crate below, so that a file imports
-- them from one module.
pub use Rattle.sst_entries.specs.Entry.{Entry}
pub use Rattle.sst_entries.specs.Stream.{Steps, nowhere, EndsAtError}
pub use Rattle.sst_entries.specs.Strict.{IsStrict}
pub use Rattle.lsm_sorted.specs.merge.Ends.{R, new_ends, Goes}
pub use Rattle.lsm_sorted.specs.merge.Union.{IsUnion, union_of}
pub use Rattle.lsm_sorted.specs.merge.Merge.{HoldsAtMost, Adds, SameRoom, HasPlaces, MayMerge}
pub use Rattle.lsm_sorted.specs.merge.Merge.{LowersTotal}
pub use Rattle.lsm_sorted.specs.merge.Merge.{merge_size, entry_of, is_ready, turn_cmp, turn_total}
pub use Rattle.lsm_sorted.specs.merge.Asks.{AsksSource, Fills, Calls, IsMergerOf, HoldsNone, Pops}
pub use Rattle.lsm_sorted.specs.merge.Asks.{made_ready}
pub use Rattle.lsm_sorted.specs.merge.MergeLaws.{YieldsBeforeErrors, YieldsInPlace, YieldsMerged}
pub use Rattle.lsm_sorted.specs.merge.MergeLaws.{YieldsUntilError}
pub use Rattle.lsm_sorted.specs.merge.MergeLaws.{MeetsErrorsLate, CanMerge}
