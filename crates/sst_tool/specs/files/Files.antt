-- The names and errors of files.
use Rattle.std.specs.Prelude.{◌≡◌, ◌<◌, ◌-◌, ℕ, List, ◌++◌, Option, Some, Bool, false}
use Rattle.std.specs.Prelude.{IfSome, codes, if◌then◌else◌, length, replicate}
use Rattle.std.specs.Fmt.{decimal}
use Rattle.sst_entries.specs.Error.{is_memory}
use Rattle.sst_entries.specs.declared.error.Error.TheVariants.{OutOfMemory}
use Rattle.sst_tool.specs.declared.files.error.ToolError.{ToolError}
use Rattle.sst_tool.specs.declared.files.error.ToolError.TheVariants as error
use Rattle.sst_tool.specs.declared.files.file_error.FileError.{FileError}
use Rattle.sst_tool.specs.declared.files.file_error.FileFault.{FileFault}
use Rattle.sst_tool.specs.declared.files.file_error.FileFault.TheVariants.{CutShort, Folder, Io}
use Rattle.sst_tool.specs.declared.files.file_error.FileFault.TheVariants.{Refused}
use Rattle.sst_tool.specs.declared.files.file_name.FileName.{FileName}
use Rattle.sst_tool.specs.declared.files.file_name.FileName.TheVariants.{Part, Plain, Within}

-- The number in the name of a file: at least six digits.
abbrev pub file_number : ℕ → List ℕ
file_number number = replicate (6 - length (decimal number)) 48 ++ decimal number

-- The path of a file.
abbrev pub path_text : FileName → List ℕ
path_text (Plain path) = path.now
path_text (Part path number) = path.now ++ (codes "." ++ file_number number)
path_text (Within folder number) =
    folder.now ++ (codes "/" ++ (file_number number ++ codes ".sst"))

-- A temporary name: the path with a number and an ending.
abbrev pub beside_name : List ℕ → ℕ → List ℕ
beside_name path number = path ++ (codes "." ++ (decimal number ++ codes ".tmp"))

-- The path is a temporary name of another.
abbrev pub IsBeside : List ℕ → List ℕ → Type 0
IsBeside path text = (number : ℕ) × (text ≡ beside_name path number)

-- A file that is reported as cut short ended before this size.
abbrev pub IsCutShort : FileFault → Option ℕ → Type 0
IsCutShort (CutShort read size) known = (known ≡ Some size) × (read < size)
IsCutShort fault known = Unit {0}

-- The fault is OutOfMemory.
abbrev pub is_memory_fault : FileFault → Bool
is_memory_fault (Refused e) = is_memory e
is_memory_fault fault = false

-- A file that is reported as cut short was read to its end, if its bytes are known.
abbrev pub IsCutBehind : FileFault → Option (List ℕ) → Type 0
IsCutBehind (CutShort read size) known = IfSome known (λ bytes. read ≡ length bytes)
IsCutBehind fault known = Unit {0}

-- The faults of reading: a folder, cut short, an error of the system, and OutOfMemory.
abbrev pub IsReadFault : FileFault → Type 0
IsReadFault Folder = Unit {0}
IsReadFault (CutShort read size) = Unit {0}
IsReadFault (Io e) = Unit {0}
IsReadFault (Refused e) = e ≡ OutOfMemory
IsReadFault fault = ⊥

-- The error of a file, or OutOfMemory without the file.
abbrev pub error_of_file : FileError → ToolError
error_of_file e = if is_memory_fault e.fault then error.Refused OutOfMemory else error.File e
