-- What is known of bytes that are read at an offset.
use Rattle.std.proofs.Common.{ℕ, ◌<◌, ◌≤◌, ◌⊎◌, inl, inr, arith}
use Rattle.lsm_files.specs.Reads.{AreKnown, MayFail, NeverFails, ByteAccess, may_fail, unknown, whole}

-- bytes whose reads never fail are known
pub never_known : (r : ByteAccess) → NeverFails r → AreKnown r
never_known whole never = tt
never_known may_fail never = tt
never_known unknown never = never

-- reads that do not always succeed may fail
pub fails_may : (r : ByteAccess) → (NeverFails r → ⊥) → MayFail r
fails_may whole some = some tt
fails_may may_fail some = tt
fails_may unknown some = tt

-- a read within bytes whose reads never fail does not fail
pub read_never : (r : ByteAccess) (len end : ℕ) → NeverFails r → MayFail r ⊎ (len < end) → end ≤ len → ⊥
read_never whole len end never (inl may) within = may
read_never whole len end never (inr past) within = omega (arith, past, within)
read_never may_fail len end never fails within = never
read_never unknown len end never fails within = never
