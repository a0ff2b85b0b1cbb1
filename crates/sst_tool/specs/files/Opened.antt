-- Opened tables.
use denote.Ref.{Bor}
use Rattle.std.specs.Prelude.{◌≡◌, ◌⊎◌, ℕ, Bool, List, [], ◌∷◌, ◌++◌, Option, None, IfSome, Ok, Err}
use Rattle.std.specs.Prelude.{false, length, true}
use Rattle.lsm_files.specs.declared.error.FileError.{FileError as ReadError}
use Rattle.lsm_files.specs.declared.error.FileError.TheVariants as failed
use Rattle.lsm_files.specs.Reads.{MayFail, ByteAccess}
use Rattle.lsm_readers.specs.point.Parts.{recovered_result}
use Rattle.lsm_readers.specs.point.Table.{OpenTable}
use Rattle.sst_entries.specs.Error.{Gives}
use Rattle.sst_tool.specs.declared.files.file_error.FileError.{FileError}
use Rattle.sst_tool.specs.declared.files.file_error.FileFault.{FileFault}
use Rattle.sst_tool.specs.declared.files.file_error.FileFault.TheVariants.{Io, Refused}
use Rattle.sst_tool.specs.files.Files.{IsReadFault, path_text}

-- The table is what its bytes decode to, with stored sequence numbers, and with index and filter
-- pinned or not.
abbrev pub IsToldByBytes : Bool → OpenTable → Type 0
IsToldByBytes pinned t =
    Gives (λ (u : OpenTable). u.parts) (Ok t) (recovered_result t.bytes 0 pinned pinned)
    × (t.global_seqno ≡ 0)

-- The table has these bytes, if they are known.
abbrev pub HasContent : Option (List ℕ) → OpenTable → Type 0
HasContent known t = IfSome known (λ bytes. t.bytes ≡ bytes)

-- Each table has the bytes of the file at its index.
abbrev pub AreOpenedFrom : Bool → (List ℕ → Option (List ℕ)) → List (Bor (List ℕ)) → List OpenTable
    → Type 0
AreOpenedFrom pinned content [] [] = Unit {0}
AreOpenedFrom pinned content [] (t ∷ ts) = ⊥
AreOpenedFrom pinned content (path ∷ paths) [] = ⊥
AreOpenedFrom pinned content (path ∷ paths) (t ∷ ts) =
    (IsToldByBytes pinned t × HasContent (content path.now) t)
    × AreOpenedFrom pinned content paths ts

-- The files open, in their order, as tables of which this holds.
abbrev pub OpenAs : (List ℕ → Option (List ℕ)) → List (Bor (List ℕ)) → (List OpenTable → Type 0)
    → Type 0
OpenAs content paths P = (opened : List OpenTable) × (length opened ≡ length paths)
    × AreOpenedFrom true content paths opened × P opened

-- The error is the one that the bytes decode to, if these are known, or OutOfMemory. A file whose
-- bytes are known has no error of reading.
abbrev pub TellsRefused : Bool → Option (List ℕ) → FileFault → Type 0
TellsRefused pinned known (Refused e) =
    IfSome known (λ bytes. Gives (λ (u : OpenTable). u.parts) (Err e)
    (recovered_result bytes 0 pinned pinned))
TellsRefused pinned known fault = IsReadFault fault × (known ≡ None)

-- The fault of a file whose table fails with this error.
abbrev pub fault_of_read : ReadError → FileFault
fault_of_read (failed.Io e) = Io e
fault_of_read (failed.Table e) = Refused e

-- The same of a file that is read at an offset: also, a read may have failed.
abbrev pub TellsFailure : ByteAccess → Option (List ℕ) → FileFault → Type 0
TellsFailure reads known (Io e) = MayFail reads ⊎ (known ≡ None)
TellsFailure reads known fault = TellsRefused false known fault

-- Files were opened up to the first that fails, and the error names it.
pub record StopsOpening (pinned : Bool) (content : List ℕ → Option (List ℕ))
    (paths : List (Bor (List ℕ))) (e : FileError) : Type 0 where
  pub before : List (Bor (List ℕ))
  pub path : Bor (List ℕ)
  pub behind : List (Bor (List ℕ))
  pub split : paths ≡ before ++ path ∷ behind
  pub tables : List OpenTable
  pub opened : AreOpenedFrom pinned content before tables
  pub named : path_text e.name ≡ path.now
  pub returned : TellsRefused pinned (content path.now) e.fault
