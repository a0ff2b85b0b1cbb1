-- What a verification tells first. Assumes `Logic`.
use Rattle.std.proofs.Common.{◌≡◌, ap}
use Rattle.lsm_readers.specs.declared.verify.Finding.{Finding}
use Rattle.lsm_readers.specs.declared.verify.VerifyError.{VerifyError}
use Rattle.lsm_readers.specs.declared.verify.VerifyError.TheVariants.{Found, OutOfMemory}
use Rattle.sst_c.specs.Verify.{finding_result}

abbrev finding_or : Finding → VerifyError → Finding
finding_or f (Found g) = g
finding_or f OutOfMemory = f

-- one thing is found
pub same_result : (f g : Finding) → Found f ≡ Found g → finding_result f ≡ finding_result g
same_result f g same = ap (λ e. finding_result (finding_or f e)) same
