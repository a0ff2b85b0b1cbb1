-- Numbered files.
use Rattle.std.specs.Prelude.{ℕ, suc, List, [], ◌∷◌}
use Rattle.sst_tool.specs.declared.files.file_name.FileName.{FileName}
use Rattle.sst_tool.specs.declared.files.file_name.FileName.TheVariants.{Part, Plain, Within}
use Rattle.sst_tool.specs.declared.files.write.NewFile.{NewFile}
use Rattle.sst_tool.specs.files.Files.{path_text}

-- The name with this number, if it has one.
abbrev pub with_number : FileName → ℕ → FileName
with_number (Plain path) number = Plain path
with_number (Part path other) number = Part path number
with_number (Within folder other) number = Within folder number

-- The path of the file with this number.
abbrev pub numbered_path : FileName → ℕ → List ℕ
numbered_path name number = path_text (with_number name number)

-- The paths of files, numbered from here, with their bytes.
abbrev pub numbered_files : (ℕ → List ℕ) → ℕ → List (List ℕ) → List (List ℕ × List ℕ)
numbered_files path number [] = []
numbered_files path number (bytes ∷ rest) =
    (path number, bytes) ∷ numbered_files path (suc number) rest

-- The path of a file to write, with its bytes.
abbrev pub named_bytes : NewFile → List ℕ × List ℕ
named_bytes file = (path_text file.name, file.bytes.now)
