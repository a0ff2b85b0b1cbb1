-- What a call answers of what a call of the library did. Assumes `Logic`.
use Rattle.std.proofs.Common.{◌≡◌, ℕ, ◌⊎◌, Bool, true, false, [], Option, Some, None, Result, Ok, Err, refl, sym, ap, ◌∙◌, inl, inr, subst}
use Rattle.sst_entries.specs.Entry.{Entry}
use Rattle.sst_entries.specs.declared.error.Error.{Error}
use Rattle.sst_entries.specs.declared.error.Error.TheVariants.{OutOfMemory}
use Rattle.sst_entries.specs.declared.error.Error.TheVariants.{Truncated}
use Rattle.sst_entries.specs.declared.error.Error.TheVariants.{InvalidHeader}
use Rattle.sst_entries.specs.declared.error.Error.TheVariants.{InvalidTag}
use Rattle.sst_entries.specs.declared.error.Error.TheVariants.{ChecksumMismatch}
use Rattle.sst_entries.specs.declared.error.Error.TheVariants.{InvalidBlock}
use Rattle.sst_entries.specs.declared.error.Error.TheVariants.{KeyTooLong}
use Rattle.sst_entries.specs.declared.error.Error.TheVariants.{ValueTooLong}
use Rattle.sst_entries.specs.declared.error.Error.TheVariants.{BlockTooLarge}
use Rattle.sst_entries.specs.declared.error.Error.TheVariants.{SectionTooLarge}
use Rattle.sst_entries.specs.declared.error.Error.TheVariants.{InvalidTrailer}
use Rattle.sst_entries.specs.declared.error.Error.TheVariants.{MissingSection}
use Rattle.sst_entries.specs.declared.error.Error.TheVariants.{MetaKeyMissing}
use Rattle.sst_entries.specs.declared.error.Error.TheVariants.{InvalidMetaValue}
use Rattle.sst_entries.specs.declared.error.Error.TheVariants.{UnsupportedTableVersion}
use Rattle.sst_entries.specs.declared.error.Error.TheVariants.{UnsupportedHashType}
use Rattle.sst_entries.specs.declared.error.Error.TheVariants.{UnsupportedChecksumType}
use Rattle.sst_entries.specs.declared.error.Error.TheVariants.{UnsupportedIndexInterval}
use Rattle.sst_entries.specs.declared.error.Error.TheVariants.{UnsupportedCompression}
use Rattle.sst_entries.specs.declared.error.Error.TheVariants.{GlobalSeqNoTooLarge}
use Rattle.sst_entries.specs.declared.error.Error.TheVariants.{SeqNoOverflow}
use Rattle.sst_entries.specs.declared.error.Error.TheVariants.{TableIdsSpent}
use Rattle.sst_entries.specs.declared.error.Error.TheVariants.{WriterFailed}
use Rattle.sst_entries.specs.declared.error.Error.TheVariants.{Source}
use Rattle.sst_entries.specs.Error.{Fails, Gives, is_memory, number_of}
use Rattle.sst_entries.specs.Error.{FaultsFirst, Refuses}
use Rattle.std.specs.Prelude.{IsOk}
use Rattle.sst_blocks.specs.table.Failed.{failed_fault}
use Rattle.lsm_writers.specs.Writing.{Writing, finish_fault, written}
use Rattle.sst_c.specs.Codes.{ReportsCode, ReportsFirst, result_code, fault_code}
use Rattle.sst_c.specs.Writing.{FaultAnswered, FaultReported, FinishReported}
use Rattle.sst_c.specs.Reported.{AnswersRead, found_of}

-- a refusal wants memory, whose number is 1, or does not
pub is_one_or_not : (e : Error) → (number_of e ≡ 1) ⊎ (is_memory e ≡ false)
is_one_or_not OutOfMemory = inl refl
is_one_or_not Truncated = inr refl
is_one_or_not InvalidHeader = inr refl
is_one_or_not (InvalidTag name byte) = inr refl
is_one_or_not ChecksumMismatch = inr refl
is_one_or_not InvalidBlock = inr refl
is_one_or_not KeyTooLong = inr refl
is_one_or_not ValueTooLong = inr refl
is_one_or_not BlockTooLarge = inr refl
is_one_or_not SectionTooLarge = inr refl
is_one_or_not InvalidTrailer = inr refl
is_one_or_not MissingSection = inr refl
is_one_or_not MetaKeyMissing = inr refl
is_one_or_not InvalidMetaValue = inr refl
is_one_or_not UnsupportedTableVersion = inr refl
is_one_or_not UnsupportedHashType = inr refl
is_one_or_not UnsupportedChecksumType = inr refl
is_one_or_not UnsupportedIndexInterval = inr refl
is_one_or_not UnsupportedCompression = inr refl
is_one_or_not GlobalSeqNoTooLarge = inr refl
is_one_or_not SeqNoOverflow = inr refl
is_one_or_not TableIdsSpent = inr refl
is_one_or_not WriterFailed = inr refl
is_one_or_not (Source n) = inr refl

-- the number of a refusal is the code of what is told
pub states : {X : Type 0} (e : Error) (returned : Result X Error) → Fails e returned → ReportsCode (number_of e) returned
states e returned fails = elim (is_one_or_not e) [ inl one ↦ inl one | inr other ↦ inr (sym (ap result_code (fails other))) ]

-- so it is where what is told is no refusal
pub reports_begun : {X : Type 0} (code : ℕ) (x : X) (returned : Result X Error) → (code ≡ 0) ⊎ (code ≡ 1)
    → returned ≡ Ok x → ReportsCode code returned
reports_begun code x returned codes same = elim codes [
  | inl zero ↦ inr (zero ∙ sym (ap result_code same))
  | inr one ↦ inl one
]

answers_err : (e : Error) (returned : Result (Option Entry) Error) → returned ≡ Err e → AnswersRead (number_of e) None returned
answers_err e returned same = let P : Result (Option Entry) Error → Type 0 = λ t. AnswersRead (number_of e) None t in subst P (sym same) (inl refl, refl)

answers_one : (returned : Result (Option Entry) Error) → AnswersRead 1 None returned
answers_one (Ok x) = inr (refl, refl)
answers_one (Err e) = (inr refl, refl)

-- a read's code and entry answer what is told
pub answers : (r : Result (Option Entry) Error) (returned : Result (Option Entry) Error)
    → Gives (λ (x : Option Entry). x) r returned → AnswersRead (result_code r) (found_of r) returned
answers (Ok x) returned gives = let P : Result (Option Entry) Error → Type 0 = λ t. AnswersRead 0 x t in subst P (sym gives) (inl (refl, refl))
answers (Err e) returned fails = elim (is_one_or_not e) [
  | inl one ↦ (let P : ℕ → Type 0 = λ n. AnswersRead n None returned in subst P (sym one) (answers_one returned))
  | inr other ↦ answers_err e returned (fails other)
]

-- the refusal is the fault that is told
refuses_first : {X : Type 0} (r : Result X Error) (e : Error) → Refuses r (Some e) → result_code r ≡ number_of e
refuses_first (Ok x) e none = absurd (some_is_not_none e none)
  where
    some_is_not_none : (e : Error) → Some e ≡ None → ⊥
    some_is_not_none e same = cc
refuses_first (Err f) e same = ap fault_code (sym same)

-- so a fault that comes first is what a call answers
pub first_reports : {X : Type 0} (r : Result X Error) (f : Option Error) → FaultsFirst r f
    → ReportsFirst (result_code r) f
first_reports r f first e is = refuses_first r e (first e is)

-- what is not refused is answered 0
pub ok_reports : {X : Type 0} (r : Result X Error) → IsOk r → result_code r ≡ 0
ok_reports (Ok x) fine = refl
ok_reports (Err e) fine = absurd (let no : ⊥ = cc in no)

pub ruleset reads = (answers, first_reports, ok_reports)

-- no refusal has the number 0
pub not_zero : (e : Error) → number_of e ≡ 0 → ⊥
not_zero OutOfMemory zero = cc
not_zero Truncated zero = cc
not_zero InvalidHeader zero = cc
not_zero (InvalidTag name byte) zero = cc
not_zero ChecksumMismatch zero = cc
not_zero InvalidBlock zero = cc
not_zero KeyTooLong zero = cc
not_zero ValueTooLong zero = cc
not_zero BlockTooLarge zero = cc
not_zero SectionTooLarge zero = cc
not_zero InvalidTrailer zero = cc
not_zero MissingSection zero = cc
not_zero MetaKeyMissing zero = cc
not_zero InvalidMetaValue zero = cc
not_zero UnsupportedTableVersion zero = cc
not_zero UnsupportedHashType zero = cc
not_zero UnsupportedChecksumType zero = cc
not_zero UnsupportedIndexInterval zero = cc
not_zero UnsupportedCompression zero = cc
not_zero GlobalSeqNoTooLarge zero = cc
not_zero SeqNoOverflow zero = cc
not_zero TableIdsSpent zero = cc
not_zero WriterFailed zero = cc
not_zero (Source n) zero = cc

-- the number of a refusal is the code of the fault that is told
pub fault_reports : (e : Error) (returned : Option Error) → (is_memory e ≡ false → returned ≡ Some e) → FaultReported (number_of e) returned
unfolding FaultReported
fault_reports e returned fails = elim (is_one_or_not e) [ inl one ↦ inl one | inr other ↦ inr (sym (ap fault_code (fails other))) ]

pub no_fault_reports : (returned : Option Error) → returned ≡ None → FaultReported 0 returned
unfolding FaultReported
no_fault_reports returned none = inr (sym (ap fault_code none))

pub memory_reports : (returned : Option Error) → FaultReported 1 returned
unfolding FaultReported
memory_reports returned = inl refl

-- a fault that comes first is what is answered, and where there is none, 0 or want of memory
pub refused_answered : (e : Error) (returned : Option Error) → (is_memory e ≡ false → returned ≡ Some e)
    → ((f : Error) → returned ≡ Some f → Some f ≡ Some e) → FaultAnswered (number_of e) returned
unfolding FaultAnswered
refused_answered e None fails first = elim (is_one_or_not e) [ inl one ↦ inr one | inr other ↦ no_fault e (fails other) ]
  where
    no_fault : (e : Error) → None ≡ Some e → (number_of e ≡ 0) ⊎ (number_of e ≡ 1)
    no_fault e same = absurd (let no : ⊥ = cc in no)
refused_answered e (Some f) fails first = ap fault_code (sym (first f refl))

pub taken_answered : (returned : Option Error) → returned ≡ None → FaultAnswered 0 returned
unfolding FaultAnswered
taken_answered None none = inl refl
taken_answered (Some e) none = absurd (let no : ⊥ = cc in no)

-- no fault comes first where a call did not refuse
passes_first : (code : ℕ) (returned : Option Error) → ((f : Error) → returned ≡ Some f → Some f ≡ None)
    → ReportsFirst code returned
passes_first code returned first f is = absurd (no_fault f (first f is))
  where
    no_fault : (f : Error) → Some f ≡ None → ⊥
    no_fault f same = cc

-- what finishing a writer answers that is refused
pub finish_refused : (e : Error) (w : Writing) → (is_memory e ≡ false → finish_fault w ≡ Some e)
    → ((f : Error) → failed_fault w.failed ≡ Some f → Some f ≡ Some e) → (written w ≡ [] → w.failed ≡ true)
    → FinishReported (number_of e) w
unfolding FinishReported
finish_refused e w fails first idle =
    (fault_reports e (finish_fault w) fails, (λ f is. ap fault_code (sym (first f is))), λ none works. absurd (no_both w.failed (idle none) works))
  where
    no_both : (b : Bool) → b ≡ true → b ≡ false → ⊥
    no_both b is other = cc

-- of one that is not
pub finish_done : (w : Writing) → finish_fault w ≡ None → ((f : Error) → failed_fault w.failed ≡ Some f → Some f ≡ None)
    → FinishReported 0 w
unfolding FinishReported
finish_done w fine first = (no_fault_reports (finish_fault w) fine, passes_first 0 (failed_fault w.failed) first, λ none works. refl)

-- of one whose table has no place
pub finish_unplaced : (w : Writing) → ((f : Error) → failed_fault w.failed ≡ Some f → Some f ≡ None) → (written w ≡ [] → ⊥)
    → FinishReported 1 w
unfolding FinishReported
finish_unplaced w first some = (memory_reports (finish_fault w), passes_first 1 (failed_fault w.failed) first, λ none works. absurd (some none))

-- what is begun where no fault is told answers 0, or 1 for want of memory
pub begun_reports : (code : ℕ) (returned : Option Error) → (code ≡ 0) ⊎ (code ≡ 1) → returned ≡ None
    → FaultReported code returned
unfolding FaultReported
begun_reports code returned codes none = elim codes [
  | inl zero ↦ inr (zero ∙ sym (ap fault_code none))
  | inr one ↦ inl one
]

pub ruleset tell = (fault_reports, no_fault_reports, begun_reports, not_zero, refused_answered, taken_answered, finish_refused, finish_done)
