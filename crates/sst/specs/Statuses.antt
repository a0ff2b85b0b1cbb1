-- The exit statuses.
use Rattle.std.specs.Prelude.{ℕ, Bool, true, false, if◌then◌else◌}
use Rattle.std.specs.IoError.{error_kind}
use Rattle.std.specs.declared.io.ErrorKind.{ErrorKind}
use Rattle.std.specs.declared.io.ErrorKind.TheVariants.{BrokenPipe}
use Rattle.sst_tool.specs.declared.files.error.ToolError.{ToolError}
use Rattle.sst_tool.specs.declared.files.error.ToolError.TheVariants as error
use Rattle.sst_tool.specs.declared.lines.entry_line.LineError.{LineError}
use Rattle.sst_tool.specs.declared.lines.entry_line.LineError.TheVariants as line

-- A malformed key is an error of the command line.
abbrev pub status_of_key : LineError → ℕ
status_of_key line.OutOfMemory = 1
status_of_key _ = 2

-- The reader of the output closed its pipe.
abbrev pub is_closed : ErrorKind → Bool
is_closed BrokenPipe = true
is_closed kind = false

-- A closed pipe is no failure: its reader needs no more.
abbrev pub status_of_output : ErrorKind → ℕ
status_of_output kind = if is_closed kind then 0 else 1

abbrev pub status_of_failure : ToolError → ℕ
status_of_failure (error.Key name e) = status_of_key e
status_of_failure (error.Output e) = status_of_output (error_kind e)
status_of_failure _ = 1

-- The status of a yes or no: 0 for yes.
abbrev pub status_of_answer : Bool → ℕ
status_of_answer true = 0
status_of_answer false = 1
