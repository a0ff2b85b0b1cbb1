-- The offset of a block, and its size with the header.
use Rattle.std.specs.Prelude.{ℕ}
use Rattle.sst_blocks.specs.Handle.{Handle}

pub record Place : Type 0 where
  pub offset : ℕ
  pub size : ℕ

-- the offset and size in a handle
abbrev pub place_of : Handle → Place
place_of h = record { offset = h.offset; size = h.size }
