-- Error codes, and how results relate to expected errors.
use Rattle.std.specs.Prelude.{◌≡◌, ℕ, Bool, true, false, Option, Some, None, Result, Ok, Err}
use Rattle.sst_entries.specs.declared.error.Error.{Error}
use Rattle.sst_entries.specs.declared.error.Error.TheVariants.{OutOfMemory, Truncated}
use Rattle.sst_entries.specs.declared.error.Error.TheVariants.{InvalidHeader, InvalidTag}
use Rattle.sst_entries.specs.declared.error.Error.TheVariants.{ChecksumMismatch, InvalidBlock}
use Rattle.sst_entries.specs.declared.error.Error.TheVariants.{KeyTooLong, ValueTooLong}
use Rattle.sst_entries.specs.declared.error.Error.TheVariants.{BlockTooLarge, SectionTooLarge}
use Rattle.sst_entries.specs.declared.error.Error.TheVariants.{InvalidTrailer, MissingSection}
use Rattle.sst_entries.specs.declared.error.Error.TheVariants.{MetaKeyMissing, InvalidMetaValue}
use Rattle.sst_entries.specs.declared.error.Error.TheVariants.{UnsupportedTableVersion}
use Rattle.sst_entries.specs.declared.error.Error.TheVariants.{UnsupportedHashType}
use Rattle.sst_entries.specs.declared.error.Error.TheVariants.{UnsupportedChecksumType}
use Rattle.sst_entries.specs.declared.error.Error.TheVariants.{UnsupportedIndexInterval}
use Rattle.sst_entries.specs.declared.error.Error.TheVariants.{UnsupportedCompression}
use Rattle.sst_entries.specs.declared.error.Error.TheVariants.{GlobalSeqNoTooLarge, SeqNoOverflow}
use Rattle.sst_entries.specs.declared.error.Error.TheVariants.{TableIdsSpent, WriterFailed, Source}

-- The error code of an error.
abbrev pub number_of : Error → ℕ
number_of OutOfMemory = 1
number_of Truncated = 2
number_of InvalidHeader = 3
number_of (InvalidTag name byte) = 4
number_of ChecksumMismatch = 5
number_of InvalidBlock = 6
number_of KeyTooLong = 7
number_of ValueTooLong = 8
number_of BlockTooLarge = 9
number_of SectionTooLarge = 10
number_of InvalidTrailer = 11
number_of MissingSection = 12
number_of MetaKeyMissing = 13
number_of InvalidMetaValue = 14
number_of UnsupportedTableVersion = 15
number_of UnsupportedHashType = 16
number_of UnsupportedChecksumType = 17
number_of UnsupportedIndexInterval = 18
number_of UnsupportedCompression = 19
number_of GlobalSeqNoTooLarge = 20
number_of SeqNoOverflow = 21
number_of TableIdsSpent = 22
number_of WriterFailed = 23
number_of (Source n) = 24

-- The error is `OutOfMemory`.
abbrev pub is_memory : Error → Bool
is_memory OutOfMemory = true
is_memory e = false

-- Except for `OutOfMemory`, the expected result is this error.
abbrev pub Fails : {Y : Type 0} → Error → Result Y Error → Type 0
Fails e returned = is_memory e ≡ false → returned ≡ Err e

-- Except for `OutOfMemory`, a call returns the expected result, its value seen through a view.
abbrev pub Gives : {X Y : Type 0} → (X → Y) → Result X Error → Result Y Error → Type 0
Gives view (Ok x) returned = returned ≡ Ok (view x)
Gives view (Err e) returned = Fails e returned

-- Except for `OutOfMemory`, a call fails exactly with the expected error, and succeeds without one.
abbrev pub Faults : {X : Type 0} → Result X Error → Option Error → Type 0
Faults (Ok x) returned = returned ≡ None
Faults (Err e) returned = is_memory e ≡ false → returned ≡ Some e

-- The expected error if there is one, else the result.
abbrev pub unless : {A : Type 0} → Option Error → Result A Error → Result A Error
unless None returned = returned
unless (Some e) returned = Err e

-- A call fails exactly with the expected error, and succeeds without one.
abbrev pub Refuses : {X : Type 0} → Result X Error → Option Error → Type 0
Refuses (Ok x) returned = returned ≡ None
Refuses (Err e) returned = returned ≡ Some e

-- An expected error that needs no memory to detect is returned before any `OutOfMemory`.
abbrev pub FaultsFirst : {X : Type 0} → Result X Error → Option Error → Type 0
FaultsFirst result returned = (e : Error) → returned ≡ Some e → Refuses result (Some e)
