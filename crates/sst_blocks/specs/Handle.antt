-- A block's handle, with the key and the sequence number of the block's last entry.
use Rattle.std.specs.Prelude.{ℕ, List}

pub record Handle : Type 0 where
  pub end_key : List ℕ
  pub seqno : ℕ
  pub offset : ℕ
  pub size : ℕ
