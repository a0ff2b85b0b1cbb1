-- What is known of bytes that are read at an offset.
use Rattle.std.specs.Prelude.{◌≡◌, ◌+◌, ◌≤◌, ℕ, List, length, slice_range}
use Rattle.sst_blocks.specs.Access.{Access, read_on_load, unknown as unknown_access}

-- The bytes are known, and each read within them succeeds; they are known, and reads may fail; or
-- nothing is known of them, as of a file that anyone may change.
pub data ByteAccess : Type 0 where
  whole : ByteAccess
  may_fail : ByteAccess
  unknown : ByteAccess

-- The bytes are known.
abbrev pub AreKnown : ByteAccess → Type 0
AreKnown whole = Unit {0}
AreKnown may_fail = Unit {0}
AreKnown unknown = ⊥

-- Each read within the bytes succeeds.
abbrev pub NeverFails : ByteAccess → Type 0
NeverFails whole = Unit {0}
NeverFails may_fail = ⊥
NeverFails unknown = ⊥

-- A read may fail.
abbrev pub MayFail : ByteAccess → Type 0
MayFail whole = ⊥
MayFail may_fail = Unit {0}
MayFail unknown = Unit {0}

-- How a source that reads the bytes on each load has them.
abbrev pub access_of : ByteAccess → Access
access_of whole = read_on_load
access_of may_fail = read_on_load
access_of unknown = unknown_access

-- The bytes from an offset on, as many as the part has.
pub record IsPartAt (bytes : List ℕ) (offset : ℕ) (part : List ℕ) : Type 0 where
  pub within : offset + length part ≤ length bytes
  pub is : part ≡ slice_range bytes offset (offset + length part)
