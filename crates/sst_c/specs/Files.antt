-- Finished tables as reported to C.
use Rattle.std.specs.Prelude.{◌≡◌, ◌<◌, ◌≤◌, ℕ, ◌^◌, nat_lt, length, List, Option, None, Some, true}
use Rattle.std.specs.Prelude.{drop, if◌then◌else◌, slice_get, take}
use Rattle.std.specs.Global.{Global}
use Rattle.lsm_writers.specs.declared.writer.FinishedTable.{FinishedTable}
use Rattle.sst_c.specs.Copies.{laid_over}
use Rattle.sst_c.specs.declared.files.FileReport.{FileReport}
use Rattle.sst_c.specs.declared.held.What.{What}
use Rattle.sst_c.specs.What.{are_files, files_held}

-- the finished table at an index, if there is one
abbrev pub file_at : What → ℕ → Option (FinishedTable Global)
file_at what index = slice_get (files_held what) index

-- the checksum in 64 bits; no finished table has a longer one
abbrev pub checksum_written : ℕ → ℕ
checksum_written c = if nat_lt c (2 ^ 64) then c else 0

-- the id, checksum and length of a finished table
unfoldable pub file_facts : FinishedTable Global → FileReport
file_facts f = record { id = f.id; checksum = checksum_written f.checksum.0; len = length f.bytes }

-- the report of the finished table at an index, or 105 if there is none
pub record TellsFile (w : What) (index code : ℕ) (returned : FileReport) : Type 0 where
  pub none : are_files w ≡ true → file_at w index ≡ None → code ≡ 105
  pub some : (f : FinishedTable Global) → file_at w index ≡ Some f → code ≡ 0
  pub facts : (f : FinishedTable Global) → file_at w index ≡ Some f → returned ≡ file_facts f

-- the bytes from an offset on are copied, as many as fit. The code is 105 if the offset is past their
-- end
pub record CopiesPart (bytes : List ℕ) (offset : ℕ) (room copied : List ℕ) (count code : ℕ) : Type 0
  where
    pub past : length bytes < offset → code ≡ 105
    pub part : offset ≤ length bytes → (code ≡ 0)
        × (count ≡ length (take (length room) (drop offset bytes)))
        × (copied ≡ laid_over (take (length room) (drop offset bytes)) room)

-- the same for the finished table at an index. The code is 105 if there is none
pub record CopiesFile (w : What) (index offset : ℕ) (room copied : List ℕ) (count code : ℕ) : Type 0
  where
    pub none : are_files w ≡ true → file_at w index ≡ None → code ≡ 105
    pub bytes : (f : FinishedTable Global) → file_at w index ≡ Some f
        → CopiesPart f.bytes offset room copied count code
