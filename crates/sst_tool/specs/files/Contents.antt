-- Opened files.
use Rattle.std.specs.Prelude.{ℕ, List}
use Rattle.sst_tool.specs.declared.files.contents.Contents.{Contents}
use Rattle.sst_tool.specs.declared.files.contents.Contents.TheVariants.{File, Memory}

-- The bytes of an opened file, by those of a regular file.
abbrev pub bytes_in : {F A : Type 0} → (F → List ℕ) → Contents F A → List ℕ
bytes_in bytes (File file) = bytes file
bytes_in bytes (Memory all) = all
