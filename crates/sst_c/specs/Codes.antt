-- Codes that calls return: 0 or an error code.
use Rattle.std.specs.Prelude.{◌≡◌, ℕ, ◌⊎◌, Option, Some, None, Result, Ok, Err}
use Rattle.sst_entries.specs.declared.error.Error.{Error}
use Rattle.sst_entries.specs.Error.{number_of}

-- 0, or the code of the error
abbrev pub result_code : {X : Type 0} → Result X Error → ℕ
result_code (Ok x) = 0
result_code (Err e) = number_of e

-- 0, or the code of the fault
abbrev pub fault_code : Option Error → ℕ
fault_code None = 0
fault_code (Some e) = number_of e

-- the code of the result, or 1 if out of memory
abbrev pub ReportsCode : {X : Type 0} → ℕ → Result X Error → Type 0
ReportsCode code returned = (code ≡ 1) ⊎ (code ≡ result_code returned)

-- a fault that is found without allocating takes precedence over `OutOfMemory`
abbrev pub ReportsFirst : ℕ → Option Error → Type 0
ReportsFirst code fault = (e : Error) → fault ≡ Some e → code ≡ number_of e
