-- What is found, and what is not.
use Rattle.std.proofs.Common.{◌≡◌}
use Rattle.std.specs.Prelude.{Result, Ok, Err, IfErr}
use Rattle.lsm_readers.specs.declared.verify.Finding.{Finding}
use Rattle.lsm_readers.specs.declared.verify.VerifyError.{VerifyError}
use Rattle.lsm_readers.specs.declared.verify.VerifyError.TheVariants.{Found, OutOfMemory}

-- a finding is no want of memory
pub not_memory : {V : Type 0} (r : Result V VerifyError) (x : VerifyError) (f : Finding) → r ≡ Err x
    → x ≡ Found f → IfErr r (λ e. e ≡ OutOfMemory) → ⊥
not_memory (Ok v) x f is found memory = absurd cc
not_memory (Err e) x f is found memory = absurd cc
