-- The handles left of an index block.
use Rattle.std.specs.Prelude.{ℕ, List, [], drop, Option, Some, None}
use Rattle.sst_blocks.specs.Handle.{Handle}

-- The handles of a block from an index on, if there is a block.
abbrev pub handles_ahead : ℕ → Option (List Handle) → List Handle
handles_ahead index None = []
handles_ahead index (Some handles) = drop index handles
