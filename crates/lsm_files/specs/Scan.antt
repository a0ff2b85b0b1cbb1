-- A scan of a table in its file.
use Rattle.std.specs.Prelude.{◌≡◌, ◌≤◌, ℕ, List, [], ◌∷◌, Bool, Option, Some, None, Result, Ok, Err}
use Rattle.sst_entries.specs.declared.error.Error.{Error}
use Rattle.lsm_readers.specs.Scan.{Scan, loads, loads_of}
use Rattle.lsm_files.specs.declared.error.FileError.{FileError}
use Rattle.lsm_files.specs.declared.error.FileError.TheVariants.{Table}

-- The first of some results, or none.
abbrev pub next_of : {X : Type 0} → List (Result X Error) → Result (Option X) Error
next_of [] = Ok None
next_of (Ok x ∷ xs) = Ok (Some x)
next_of (Err e ∷ xs) = Err e

-- The results after the first.
abbrev pub rest_of : {X : Type 0} → List X → List X
rest_of [] = []
rest_of (x ∷ xs) = xs

-- An error of the table, as one of its file.
abbrev pub table_error : {X : Type 0} → Result X Error → Result X FileError
table_error (Ok x) = Ok x
table_error (Err e) = Err (Table e)

-- From s to t at most the blocks up to the next entry were loaded.
pub record LoadsUpTo (s t : Scan) : Type 0 where
  pub count : ℕ
  pub counts : t.opened ≡ loads count s.opened
  pub most : count ≤ loads_of s

-- A step of a scan, with its error as one of the file.
abbrev pub in_file : Result Bool Error × Scan → Result Bool FileError × Scan
in_file (returned, s) = (table_error returned, s)
