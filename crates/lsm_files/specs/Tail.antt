-- The trailer of a table in its file.
use Rattle.std.specs.Prelude.{◌≡◌, ◌<◌, ℕ, false, List, Option, Some, None, length, map, take}
use Rattle.sst_entries.specs.declared.error.Error.TheVariants.{Truncated}
use Rattle.sst_entries.specs.Error.{is_memory}
use Rattle.sst_blocks.specs.declared.section.Section.{Section}
use Rattle.sst_blocks.specs.Sections.{body_of, section_in, section_names, trailer_fault, trailer_of}
use Rattle.lsm_files.specs.declared.error.FileError.{FileError}
use Rattle.lsm_files.specs.declared.error.FileError.TheVariants.{Io, Table}
use Rattle.lsm_files.specs.declared.tail.Tail.{Tail}
use Rattle.lsm_files.specs.Reads.{MayFail, ByteAccess}

-- The last bytes of a file, and how many are before them.
pub record IsTailOf (bytes : List ℕ) (tail : Tail) : Type 0 where
  pub trailer : trailer_of bytes ≡ take tail.len tail.bytes
  pub body : length (body_of bytes) ≡ tail.body_len

-- The sections that a valid trailer lists, and the number of bytes before it.
pub record IsTocOf (bytes : List ℕ) (toc : List (Option Section)) (body_len : ℕ) : Type 0 where
  pub fine : trailer_fault bytes ≡ None
  pub sections : toc ≡ map (section_in bytes) section_names
  pub body : length (body_of bytes) ≡ body_len

-- A read failed, or the error is the fault of the trailer.
abbrev pub IsTrailerError : ByteAccess → List ℕ → FileError → Type 0
IsTrailerError reads bytes (Io e) = MayFail reads
IsTrailerError reads bytes (Table e) = trailer_fault bytes ≡ Some e

-- A read failed, memory ran out, or the bytes that were wanted end past the body.
abbrev pub IsPartError : ByteAccess → ℕ → ℕ → FileError → Type 0
IsPartError reads len end (Io e) = MayFail reads
IsPartError reads len end (Table e) = is_memory e ≡ false → (e ≡ Truncated) × (len < end)
