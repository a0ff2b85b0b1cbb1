-- Verification results as reported to C.
use Rattle.std.specs.Prelude.{◌≡◌, ◌≢◌, ℕ, ◌+◌, ◌⊎◌, List, length, Option, Some, Result, Ok, Err}
use Rattle.sst_entries.specs.Error.{number_of}
use Rattle.sst_blocks.specs.Fnv.{fnv1a}
use Rattle.sst_blocks.specs.Sections.{body_of, slot_index}
use Rattle.lsm_readers.specs.Findings.{IsFirstFinding}
use Rattle.lsm_readers.specs.Verify.{other_checksum, table_early, table_found}
use Rattle.lsm_readers.specs.point.Table.{OpenTable}
use Rattle.lsm_readers.specs.Words.{Entry, StoresList}
use Rattle.lsm_readers.specs.declared.verify.Fault.{Fault}
use Rattle.lsm_readers.specs.declared.verify.Fault.TheVariants.{Unloaded, Hollow, Misplaced}
use Rattle.lsm_readers.specs.declared.verify.Fault.TheVariants.{TooHigh, Unordered, Denied}
use Rattle.lsm_readers.specs.declared.verify.Fault.TheVariants.{Unfiltered, OtherKey, OtherNumber}
use Rattle.lsm_readers.specs.declared.verify.Fault.TheVariants.{Unborne, Unnamed, OtherChecksum}
use Rattle.lsm_readers.specs.declared.verify.Finding.{Finding}
use Rattle.lsm_readers.specs.declared.verify.Verified.{Verified}
use Rattle.lsm_readers.specs.declared.verify.VerifyError.{VerifyError}
use Rattle.lsm_readers.specs.declared.verify.VerifyError.TheVariants.{Found, OutOfMemory}
use Rattle.sst_c.specs.declared.verify.VerifyReport.{VerifyReport}

-- a report of zeros
abbrev pub no_finding : VerifyReport
no_finding = record {
  item_count = 0;
  data_block_count = 0;
  offset = 0;
  section = 0;
  fault = 0;
  detail = 0;
  unused = 0;
}

-- the number of a fault
abbrev pub fault_number : Fault → ℕ
fault_number (Unloaded e) = 1
fault_number Hollow = 2
fault_number Misplaced = 3
fault_number TooHigh = 4
fault_number Unordered = 5
fault_number Denied = 6
fault_number (Unfiltered e) = 7
fault_number OtherKey = 8
fault_number OtherNumber = 9
fault_number (Unborne item) = 10
fault_number Unnamed = 11
fault_number OtherChecksum = 12

-- the error code of a block that cannot be loaded, else 0
abbrev pub detail_of : Fault → ℕ
detail_of (Unloaded e) = number_of e
detail_of (Unfiltered e) = number_of e
detail_of _ = 0

-- the report of a fault
abbrev pub finding_result : Finding → VerifyReport
finding_result f = record {
  item_count = 0;
  data_block_count = 0;
  offset = f.offset;
  section = 1 + slot_index f.section;
  fault = fault_number f.fault;
  detail = detail_of f.fault;
  unused = 0;
}

-- the report of a valid table
abbrev pub verified_result : Verified → VerifyReport
verified_result v = record {
  item_count = v.item_count;
  data_block_count = v.data_block_count;
  offset = 0;
  section = 0;
  fault = 0;
  detail = 0;
  unused = 0;
}

-- the code of a verification's result
abbrev pub verify_code : Result Verified VerifyError → ℕ
verify_code (Ok v) = 0
verify_code (Err OutOfMemory) = 1
verify_code (Err (Found f)) = 107

-- the report of a verification's result; zeros if out of memory
abbrev pub verify_result : Result Verified VerifyError → VerifyReport
verify_result (Ok v) = verified_result v
verify_result (Err OutOfMemory) = no_finding
verify_result (Err (Found f)) = finding_result f

-- the call returns 107 and reports the fault, or returns 0 and reports the counts. If out of
-- memory, it returns 1 and reports zeros
unfoldable pub VerifyAnswers : ℕ → VerifyReport → Result Verified Finding → Type 0
VerifyAnswers code returned (Ok v) =
    ((code ≡ 0) × (returned ≡ verified_result v)) ⊎ ((code ≡ 1) × (returned ≡ no_finding))
VerifyAnswers code returned (Err f) =
    ((code ≡ 107) × (returned ≡ finding_result f)) ⊎ ((code ≡ 1) × (returned ≡ no_finding))

-- a fault that is found without allocating is reported, also when out of memory
abbrev pub ReportsFinding : ℕ → VerifyReport → Option Finding → Type 0
ReportsFinding code returned early =
    (f : Finding) → early ≡ Some f → (code ≡ 107) × (returned ≡ finding_result f)

-- the reported fault is the first one of the table
abbrev pub ReportsWrong : (Finding → Type 0) → ℕ → VerifyReport → Type 0
ReportsWrong is_first code returned =
    code ≡ 107 → (f : Finding) × (returned ≡ finding_result f) × is_first f

-- a verified table stores a list, and the report has its numbers of entries and data blocks
abbrev pub ReportsCounts : List ℕ → VerifyReport → Type 0
ReportsCounts bytes returned = (es : List Entry) × (t : StoresList bytes es)
    × (returned.item_count ≡ length es) × (returned.data_block_count ≡ length t.handles)

-- a verification of a table returns a code and a report
pub record VerifiesTable (t : OpenTable) (code : ℕ) (returned : VerifyReport) : Type 0 where
  -- except for `OutOfMemory`, it reports the first fault
  pub answers : VerifyAnswers code returned (table_found (body_of t.bytes) t.parts)
  -- a fault of the first loaded block that is found without allocating takes precedence over
  -- `OutOfMemory`
  pub early : ReportsFinding code returned (table_early (body_of t.bytes) t.parts)
  -- the reported block has this fault, and all blocks read before it are valid
  pub first : ReportsWrong (IsFirstFinding (body_of t.bytes) t.parts) code returned
  -- a verified table stores a list, and the report has its number of entries and data blocks
  pub sound : code ≡ 0 → ReportsCounts t.bytes returned
  -- it finds no fault in a table that stores a list
  pub complete : (es : List Entry) → StoresList t.bytes es → code ≢ 107

-- a verification that first compares the checksum of the file returns a code and a report
pub record VerifiesTableWith (t : OpenTable) (checksum : ℕ) (code : ℕ) (returned : VerifyReport)
    : Type 0 where
  -- another checksum is reported, whatever memory there is
  pub other : fnv1a t.bytes ≢ checksum → (code ≡ 107) × (returned ≡ finding_result other_checksum)
  -- a verified table has this checksum
  pub same : code ≡ 0 → fnv1a t.bytes ≡ checksum
  -- if the checksum matches, it returns and reports what `sst_table_verify` does
  pub verifies : fnv1a t.bytes ≡ checksum → VerifiesTable t code returned
