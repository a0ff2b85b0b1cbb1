-- A refusal that is passed on, and want of memory.
use Rattle.std.proofs.Common.{◌≡◌, refl, sym, ◌∙◌, ap, true, false}
use Rattle.std.specs.Prelude.{Option, Some, Result, Ok, Err, IsErrAnd}
use Rattle.sst_entries.specs.declared.error.Error.{Error}
use Rattle.sst_entries.specs.declared.error.Error.TheVariants.{OutOfMemory, Truncated}
use Rattle.sst_entries.specs.declared.error.Error.TheVariants.{InvalidHeader, InvalidTag}
use Rattle.sst_entries.specs.declared.error.Error.TheVariants.{ChecksumMismatch, InvalidBlock}
use Rattle.sst_entries.specs.declared.error.Error.TheVariants.{KeyTooLong, ValueTooLong}
use Rattle.sst_entries.specs.declared.error.Error.TheVariants.{BlockTooLarge, SectionTooLarge}
use Rattle.sst_entries.specs.declared.error.Error.TheVariants.{InvalidTrailer, MissingSection}
use Rattle.sst_entries.specs.declared.error.Error.TheVariants.{MetaKeyMissing, InvalidMetaValue}
use Rattle.sst_entries.specs.declared.error.Error.TheVariants.{UnsupportedTableVersion}
use Rattle.sst_entries.specs.declared.error.Error.TheVariants.{UnsupportedHashType}
use Rattle.sst_entries.specs.declared.error.Error.TheVariants.{UnsupportedChecksumType}
use Rattle.sst_entries.specs.declared.error.Error.TheVariants.{UnsupportedIndexInterval}
use Rattle.sst_entries.specs.declared.error.Error.TheVariants.{UnsupportedCompression}
use Rattle.sst_entries.specs.declared.error.Error.TheVariants.{GlobalSeqNoTooLarge, SeqNoOverflow}
use Rattle.sst_entries.specs.declared.error.Error.TheVariants.{TableIdsSpent, WriterFailed, Source}
use Rattle.sst_entries.specs.Error.{Faults, is_memory}

-- a call that passes a refusal on refuses with what is told, where the refusal is that
pub faults_refusal : {X : Type 0} (r : Result X Error) (e : Error) (returned : Option Error)
    → IsErrAnd r (λ y. y ≡ e) → (is_memory e ≡ false → returned ≡ Some e) → Faults r returned
faults_refusal (Ok x) e returned is fault = absurd is
faults_refusal (Err y) e returned is fault = rw is fault

-- the one refusal that is want of memory
pub memory_is : (e : Error) → is_memory e ≡ true → e ≡ OutOfMemory
memory_is OutOfMemory h = refl
memory_is Truncated h = absurd cc
memory_is InvalidHeader h = absurd cc
memory_is (InvalidTag name byte) h = absurd cc
memory_is ChecksumMismatch h = absurd cc
memory_is InvalidBlock h = absurd cc
memory_is KeyTooLong h = absurd cc
memory_is ValueTooLong h = absurd cc
memory_is BlockTooLarge h = absurd cc
memory_is SectionTooLarge h = absurd cc
memory_is InvalidTrailer h = absurd cc
memory_is MissingSection h = absurd cc
memory_is MetaKeyMissing h = absurd cc
memory_is InvalidMetaValue h = absurd cc
memory_is UnsupportedTableVersion h = absurd cc
memory_is UnsupportedHashType h = absurd cc
memory_is UnsupportedChecksumType h = absurd cc
memory_is UnsupportedIndexInterval h = absurd cc
memory_is UnsupportedCompression h = absurd cc
memory_is GlobalSeqNoTooLarge h = absurd cc
memory_is SeqNoOverflow h = absurd cc
memory_is TableIdsSpent h = absurd cc
memory_is WriterFailed h = absurd cc
memory_is (Source n) h = absurd cc

-- a want of memory that is passed on is no fault
pub faults_memory : {X : Type 0} (r : Result X Error) (e : Error) (returned : Option Error)
    → IsErrAnd r (λ y. y ≡ e) → e ≡ OutOfMemory → Faults r returned
faults_memory (Ok x) e returned is memory = absurd is
faults_memory (Err y) e returned is memory = λ h.
    let both : true ≡ false = sym (ap is_memory (is ∙ memory)) ∙ h in
    absurd cc
