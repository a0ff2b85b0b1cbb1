-- Names in one place all definitions that clauses of this crate cite.
pub use Rattle.std.specs.Cmp.{partial_equiv_from_equiv, partial_order_from_own_ties}
pub use Rattle.std.specs.Cmp.Lexicographic.{nat_list_cmp_total, nat_list_eq_equiv, pointwise}
pub use Rattle.std.specs.Cmp.Lexicographic.{slice_cmp, texts_po, texts_ties}
pub use Rattle.std.specs.Cmp.Rules.{comparing, hashing}
pub use Rattle.std.specs.Option.{option_map}
pub use Rattle.std.specs.Ordering.{as_partial_cmp, nat_cmp}
pub use Rattle.sst_entries.specs.Entry.{entry}
pub use Rattle.sst_entries.specs.Error.{number_of}
pub use Rattle.sst_entries.specs.Key.{key_cmp}
pub use Rattle.sst_entries.specs.Kind.{is_tombstone_kind, kind_of, tag_of}
pub use Rattle.sst_entries.specs.Lending.{entry_cmp, entry_of_ref}
pub use Rattle.sst_entries.specs.Point.{read_place}
pub use Rattle.sst_entries.specs.Stream.{AnswersOf, CanYield, LedBy, Runs, Steps, YieldsExactly}
pub use Rattle.sst_entries.specs.Stream.{YieldsInFront, answer_stops, nowhere}
pub use Rattle.sst_entries.specs.Strict.{IsStrict, may_follow, version_cmp}
unfoldable pub use Rattle.sst_entries.specs.Strict.{is_strict_after}
pub use Rattle.sst_entries.specs.declared.error.Error.{Error}
pub use Rattle.sst_entries.specs.declared.error.Error.TheVariants.{OutOfMemory}
