-- The definitions that contracts of this crate cite, under one name.
pub use Rattle.json.specs.Json.{Members, object, string}
pub use Rattle.json.specs.Strict.{keys}
pub use Rattle.json.specs.Value.{value_view}
pub use Rattle.std.specs.Char.{digit_char}
pub use Rattle.std.specs.List.{position}
pub use Rattle.std.specs.Option.{SomeIff, option_copied}
pub use Rattle.std.specs.Str.Parse.{digits_value}
pub use Rattle.sst_entries.specs.Entry.{Entry}
pub use Rattle.sst_entries.specs.declared.value_type.ValueType.{ValueType}
pub use Rattle.sst_tool.specs.lines.Escapes.{AreCodes, Begins, WordMeans, escaped, is_plain}
pub use Rattle.sst_tool.specs.lines.Faults.{IsSameFault, lacks_memory}
pub use Rattle.sst_tool.specs.lines.ObjectLine.{AreMembersOf, IsEntryObject, IsStrictLine, MeansBytes}
pub use Rattle.sst_tool.specs.lines.ObjectLine.{MeansNumber, SpellsObject, StandsInDigits, kind_name}
pub use Rattle.sst_tool.specs.lines.WordLine.{IsNumberWord, SpellsEntry, kind_letter, line_words}
pub use Rattle.sst_tool.specs.lines.WordLine.{line_words_behind}
pub use Rattle.sst_tool.specs.declared.lines.entry_line.Format.TheVariants.{Lines}
pub use Rattle.sst_tool.specs.declared.lines.entry_line.LineError.TheVariants.{Key, OutOfMemory}
