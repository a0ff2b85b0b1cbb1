-- Results of calls on a table in its file.
use Rattle.std.specs.Prelude.{◌≡◌, ◌+◌, ◌<◌, ◌≤◌, ◌⊎◌, ℕ, Bool, false, true, length, List, Option}
use Rattle.std.specs.Prelude.{Some, None, Result, Ok, Err}
use Rattle.sst_entries.specs.declared.error.Error.{Error}
use Rattle.sst_entries.specs.declared.error.Error.TheVariants.{OutOfMemory, Truncated}
use Rattle.sst_entries.specs.Entry.{Entry}
use Rattle.sst_entries.specs.Error.{Fails, is_memory}
use Rattle.sst_entries.specs.Point.{point}
use Rattle.sst_blocks.specs.Block.{header_len}
use Rattle.sst_blocks.specs.Place.{Place}
use Rattle.sst_blocks.specs.declared.opened.Opened.{Opened}
use Rattle.lsm_readers.specs.point.Answer.{lift}
use Rattle.lsm_readers.specs.point.Table.{OpenTable}
use Rattle.lsm_readers.specs.Stored.{StoresList}
use Rattle.lsm_files.specs.declared.error.FileError.{FileError}
use Rattle.lsm_files.specs.declared.error.FileError.TheVariants.{Io, Table}
use Rattle.lsm_files.specs.Reads.{AreKnown, ByteAccess, MayFail}

-- The error is one of the system.
abbrev pub IsIo : FileError → Type 0
IsIo (Io e) = Unit {0}
IsIo (Table e) = ⊥

-- A read failed, which it may.
abbrev pub IsFailure : ByteAccess → FileError → Type 0
IsFailure reads (Io e) = MayFail reads
IsFailure reads (Table e) = ⊥

-- A read failed, or the error is this one of the table.
abbrev pub IsFailureOr : ByteAccess → Error → FileError → Type 0
IsFailureOr reads e (Io f) = MayFail reads
IsFailureOr reads e (Table f) = f ≡ e

-- Except for `OutOfMemory` and failed reads, a call returns the expected result, its value seen
-- through a view.
abbrev pub FileGives : {X Y : Type 0} → ByteAccess → (X → Y) → Result X FileError → Result Y Error
    → Type 0
FileGives reads view (Ok x) returned = returned ≡ Ok (view x)
FileGives reads view (Err (Io e)) returned = MayFail reads
FileGives reads view (Err (Table e)) returned = Fails e returned

-- Except for `OutOfMemory` and failed reads, a call fails exactly with the expected error, and
-- succeeds without one.
abbrev pub FileFaults : {X : Type 0} → ByteAccess → Result X FileError → Option Error → Type 0
FileFaults reads (Ok x) returned = returned ≡ None
FileFaults reads (Err (Io e)) returned = MayFail reads
FileFaults reads (Err (Table e)) returned = is_memory e ≡ false → returned ≡ Some e

-- The error is `Truncated`: a handle describes less than a header, or bytes that end past the body.
abbrev pub IsHandleFault : ByteAccess → Place → List ℕ → Error → Type 0
IsHandleFault reads place body e =
    (e ≡ Truncated) × (AreKnown reads → header_len ≤ place.size →
    place.offset + place.size ≤ length body → ⊥)

-- This holds of any list that the bytes store, where they are known.
abbrev pub OnStoredList : ByteAccess → List ℕ → (List Entry → Type 0) → Type 0
OnStoredList reads bytes P = AreKnown reads → (es : List Entry) → StoresList bytes es → P es

-- A read failed, or memory ran out, or the bytes end before the last that was wanted.
abbrev pub IsReadError : ByteAccess → ℕ → ℕ → FileError → Type 0
IsReadError reads len end (Io e) = MayFail reads ⊎ (len < end)
IsReadError reads len end (Table e) = e ≡ OutOfMemory

-- The error is one of the table, or of a read, which may fail.
abbrev pub MayBeError : ByteAccess → FileError → Type 0
MayBeError reads (Io e) = MayFail reads
MayBeError reads (Table e) = Unit {0}

-- What a source returns for a read, and the source after it. A source is its bytes, its counts of
-- loads, and whether a read has failed.
abbrev pub kept_failure : {X : Type 0} → Result X FileError → List ℕ × Opened × Bool
    → Result X Error × (List ℕ × Opened × Bool)
kept_failure (Ok x) s = (Ok x, s)
kept_failure (Err (Table e)) s = (Err e, s)
kept_failure (Err (Io e)) s = (Err OutOfMemory, (s.0, s.1, true))

-- A result, with a failed read as `OutOfMemory`.
abbrev pub failure_as_memory : {X : Type 0} → Result X FileError → Result X Error
failure_as_memory (Ok x) = Ok x
failure_as_memory (Err (Io e)) = Err OutOfMemory
failure_as_memory (Err (Table e)) = Err e

-- On bytes that store a list, a read of a table returned the newest visible version in the list,
-- global seqno applied.
abbrev pub FileFindsInList : ByteAccess → OpenTable → List ℕ → ℕ → Result (Option Entry) FileError
    → Type 0
FileFindsInList reads t key bound r =
    (es : List Entry) → StoresList t.bytes es →
    FileGives reads (λ (x : Option Entry). x) r (Ok (point (lift es t.global_seqno) key bound))
