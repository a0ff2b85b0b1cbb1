-- A verification by steps, as C sees it.
use Rattle.std.specs.Prelude.{◌≡◌, ℕ, ◌+◌, List, length, false, true, IfErr, IfNone, IfOk, IfSome}
use Rattle.std.specs.Prelude.{Option, Some, None, Result, Ok, Err}
use Rattle.sst_entries.specs.Entry.{Entry}
use Rattle.sst_blocks.specs.Sections.{body_of}
use Rattle.lsm_readers.specs.Findings.{IsFirstFinding}
use Rattle.lsm_readers.specs.Stored.{StoresList}
use Rattle.lsm_readers.specs.Verification.{ReadsNext, StepsCalmly, Verifying, bytes_read}
use Rattle.lsm_readers.specs.Verification.{next_found, next_size, step_early, steps_of}
use Rattle.lsm_readers.specs.Verify.{FindsFirst, Misses, is_found, table_found}
use Rattle.lsm_readers.specs.declared.verify.Finding.{Finding}
use Rattle.lsm_readers.specs.declared.verify.Verified.{Verified}
use Rattle.lsm_readers.specs.declared.verify.VerifyError.{VerifyError}
use Rattle.lsm_readers.specs.declared.verify.VerifyError.TheVariants.{Found, OutOfMemory}
use Rattle.sst_c.specs.Verify.{finding_result, no_finding, verified_result}
use Rattle.sst_c.specs.What.{IsVerificationWhere, is_verification}
use Rattle.sst_c.specs.declared.held.What.{What}
use Rattle.sst_c.specs.declared.held.What.TheVariants.{Verification}
use Rattle.sst_c.specs.declared.verifier.ProgressReport.{ProgressReport}
use Rattle.sst_c.specs.declared.verify.VerifyReport.{VerifyReport}

-- the result of a step: a block was read, the counts of a valid table, or an error
abbrev pub StepAnswer : Type 0
StepAnswer = Result (Option Verified) VerifyError

-- a step takes a verification from v to w with this result
pub record IsStepOf (v : Verifying) (answer : StepAnswer) (w : Verifying) : Type 0 where
  pub table : w.table ≡ v.table
  -- while a block is left, it reads the next one and no other
  pub goes : IfOk answer (λ a. IfNone a (steps_of v ≡ 1 + steps_of w))
  pub reads : IfOk answer (λ a. IfNone a
      (ReadsNext (body_of v.table.bytes) v.table.parts v.ahead v.left w.ahead w.left))
  pub sizes : IfOk answer (λ a. IfNone a
      (v.left.counts.size ≡ next_size v.ahead + w.left.counts.size))
  -- if none is left, it returns the result of a whole verification. An error is that of the whole
  -- verification, or `OutOfMemory`
  pub ends : IfOk answer (λ a. IfSome a (λ _. steps_of v ≡ 0))
  pub returned : IfOk answer (λ a. IfSome a (λ u.
      table_found (body_of v.table.bytes) v.table.parts ≡ Ok u))
  pub refused : IfErr answer (λ e. Misses e (table_found (body_of v.table.bytes) v.table.parts))
  -- a fault is in the next block, or at the end
  pub next : IfErr answer (λ e. Misses e
      (next_found (body_of v.table.bytes) v.table.parts v.ahead v.left))
  -- a fault that is found without allocating takes precedence over `OutOfMemory`
  pub early : FindsFirst answer (step_early (body_of v.table.bytes) v.table.parts v.ahead v.left)
  pub calm : StepsCalmly (body_of v.table.bytes) v.ahead v.left →
      IfErr answer (λ e. is_found e ≡ true)
  -- at the end and after an error the verification is unchanged
  pub answered : IfOk answer (λ a. IfSome a (λ _. w ≡ v))
  pub unchanged : IfErr answer (λ _. w ≡ v)
  -- the block has this fault, and all blocks read before it are valid
  pub first : IfErr answer (λ e. (f : Finding) → e ≡ Found f →
      IsFirstFinding (body_of v.table.bytes) v.table.parts f)
  -- a verified table stores a list, with these numbers of entries and data blocks
  pub sound : IfOk answer (λ a. IfSome a (λ u. (es : List Entry) × (t : StoresList v.table.bytes es)
      × (u.item_count ≡ length es) × (u.data_block_count ≡ length t.handles)))
  -- on a table that stores a list, a step fails only with `OutOfMemory`
  pub complete : (es : List Entry) → StoresList v.table.bytes es →
      IfErr answer (λ e. e ≡ OutOfMemory)

-- the code of the result of a step
abbrev pub step_code : StepAnswer → ℕ
step_code (Ok a) = 0
step_code (Err OutOfMemory) = 1
step_code (Err (Found f)) = 107

-- 1 at the end, else 0
abbrev pub step_end : StepAnswer → ℕ
step_end (Ok None) = 0
step_end (Ok (Some u)) = 1
step_end (Err e) = 0

-- the report of the result of a step
abbrev pub step_result : StepAnswer → VerifyReport
step_result (Ok None) = no_finding
step_result (Ok (Some u)) = verified_result u
step_result (Err OutOfMemory) = no_finding
step_result (Err (Found f)) = finding_result f

-- a report of zero progress
abbrev pub no_progress : ProgressReport
no_progress = record { bytes_read = 0; data_size = 0; at_end = 0 }

-- the progress of a verification
abbrev pub progress_result : Verifying → ℕ → ProgressReport
progress_result v end = record {
  bytes_read = bytes_read v;
  data_size = v.table.parts.facts.file_size;
  at_end = end;
}

-- a step takes a verification from v to w, and its result and progress are reported
abbrev pub ReportsStep : Verifying → ℕ → ProgressReport → VerifyReport → Verifying → Type 0
ReportsStep v code progress returned w = (answer : StepAnswer) × IsStepOf v answer w
    × (code ≡ step_code answer) × (returned ≡ step_result answer)
    × (progress ≡ progress_result w (step_end answer))

-- a step leads from the object w to v, with a code and reports. If w is no verification, they are zero
pub record StepsVerification (w : What) (code : ℕ) (progress : ProgressReport)
    (returned : VerifyReport) (v : What) : Type 0 where
  pub other : is_verification w ≡ false → (code ≡ 102) × (progress ≡ no_progress)
      × (returned ≡ no_finding) × (v ≡ w)
  -- it is one step of the library's verification
  pub steps : (x : Verifying) → w ≡ Verification x
      → IsVerificationWhere (ReportsStep x code progress returned) v
