-- The state of an index writer.
use Rattle.std.specs.Prelude.{Bool, List}
use Rattle.sst_blocks.specs.Handle.{Handle}
use Rattle.sst_blocks.specs.declared.table.options.IndexKind.{IndexKind}

-- the registered handles, the kind of the index, and whether a call failed
pub record Registered : Type 0 where
  pub handles : List Handle
  pub kind : IndexKind
  pub failed : Bool
