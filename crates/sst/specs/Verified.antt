-- Verified files.
use denote.Ref.{Bor}
use Rattle.std.specs.Prelude.{◌≡◌, ◌⊎◌, ℕ, Any, Err, IfSome, List, None, Option, false}
use Rattle.std.specs.List.{AllByRecursion}
use Rattle.lsm_readers.specs.point.Parts.{recovered_result}
use Rattle.lsm_readers.specs.point.Table.{OpenTable}
use Rattle.sst_entries.specs.Error.{Gives, is_memory}
use Rattle.sst_entries.specs.declared.error.Error.{Error}
use Rattle.sst_tool.specs.files.Opened.{IsToldByBytes}
use Rattle.sst_tool.specs.show.Files.{IsSoundTable}

-- The file's bytes, if known, are those of a table that store a list.
abbrev pub IsSoundFile : Option (List ℕ) → Type 0
IsSoundFile known = (t : OpenTable) × IfSome known (λ bytes. t.bytes ≡ bytes) × IsSoundTable t

-- Each of the files is valid.
abbrev pub AreSoundFiles : (List ℕ → Option (List ℕ)) → List (Bor (List ℕ)) → Type 0
AreSoundFiles content names = AllByRecursion (λ name. IsSoundFile (content name.now)) names

-- The bytes open as a table and store no list, or fail to open with an error other than
-- OutOfMemory.
abbrev pub StoresNoTable : List ℕ → Type 0
StoresNoTable bytes =
    ((t : OpenTable) × (t.bytes ≡ bytes) × IsToldByBytes false t × (IsSoundTable t → ⊥))
    ⊎ ((e : Error) × (is_memory e ≡ false)
    × Gives (λ (t : OpenTable). t.parts) (Err e) (recovered_result bytes 0 false false))

-- The file's bytes, if known, store no table. A file whose bytes are not known may be unreadable.
abbrev pub IsFaultyFile : Option (List ℕ) → Type 0
IsFaultyFile known =
    ((bytes : List ℕ) × IfSome known (λ has. bytes ≡ has) × StoresNoTable bytes) ⊎ (known ≡ None)

-- One of the files is faulty.
abbrev pub HaveFaulty : (List ℕ → Option (List ℕ)) → List (Bor (List ℕ)) → Type 0
HaveFaulty content names = Any (λ name. IsFaultyFile (content name.now)) names
