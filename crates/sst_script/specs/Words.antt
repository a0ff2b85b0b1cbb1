-- The definitions of the crates below that contracts of runs use, so that a file imports them once.
pub use Rattle.sst_entries.specs.Entry.{entry}
pub use Rattle.sst_entries.specs.Error.{Faults, Gives}
pub use Rattle.sst_entries.specs.Point.{point}
pub use Rattle.sst_entries.specs.Lending.{entry_of_ref}
pub use Rattle.sst_entries.specs.Stream.{CanYield, nowhere}
pub use Rattle.lsm_sorted.specs.version.KeyRange.{key_bound}
pub use Rattle.lsm_writers.specs.Writing.{IsWritable, may_be_written}
pub use Rattle.std.specs.Arc.{arc_value}
pub use Rattle.std.specs.Char.{is_ascii_graphic}
pub use Rattle.std.specs.Fmt.{decimal}
pub use Rattle.std.specs.Io.BufRead.{strip_last}
pub use Rattle.std.specs.List.{flat_map, list_all, position}
pub use Rattle.std.specs.Option.{SomeIff, option_copied, option_map, option_map_or}
pub use Rattle.std.specs.Str.Parse.{digits_value}
pub use Rattle.std.specs.Vec.{vec_items}
pub use Rattle.std.specs.declared.ops.Bound.{Bound}
pub use Rattle.sst_entries.specs.declared.error.Error.TheVariants.{OutOfMemory}
pub use Rattle.sst_entries.specs.declared.value_type.ValueType.{ValueType}
pub use Rattle.lsm_runs.specs.compaction.Chain.{AreCutOf, IsRunOfList, ids_behind, run_label}
pub use Rattle.lsm_runs.specs.compaction.Chain.{tables_fault}
pub use Rattle.lsm_runs.specs.compaction.Compacted.{AreCompactable}
pub use Rattle.sst_script.specs.Answer.{answer_lines, entry_line, entry_lines, found_line}
pub use Rattle.sst_script.specs.Answer.{refusal_line}
pub use Rattle.sst_script.specs.Answering.{LineEnds, PrintEnds, ScriptEnds, ScriptReturns}
pub use Rattle.sst_script.specs.Answering.{outcome_text}
pub use Rattle.sst_script.specs.Command.{AddsEntry, AskFor, CompactsBy, Limits, ReadsKey}
pub use Rattle.sst_script.specs.Command.{ReadsRange, StandsFor, setting_words, words_behind}
pub use Rattle.sst_script.specs.Command.{words_of}
pub use Rattle.sst_script.specs.Lines.{ReadsLine}
pub use Rattle.sst_script.specs.Runs.{ForRuns, OnLent, has_entry, newest_between, repeats, union}
pub use Rattle.sst_script.specs.Script.{ChangesStore, CompactsRuns, Executes, PacksRuns}
pub use Rattle.sst_script.specs.Script.{WritesPending, entry_failure, kept_by, store, target_size}
pub use Rattle.sst_script.specs.Shown.{ShowsText}
pub use Rattle.sst_script.specs.Stop.{stop_line}
pub use Rattle.sst_script.specs.Text.{IsNumber, letter_of, printed}
pub use Rattle.sst_script.specs.declared.command.Command.{Command}
pub use Rattle.sst_script.specs.declared.stop.Stop.TheVariants.{Input, Line, Output}
