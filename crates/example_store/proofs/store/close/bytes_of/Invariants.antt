use Rattle.std.proofs.Common.{◌≡◌, take}
use Rattle.std.specs.Prelude.{map}
use Rattle.example_store.proofs.Own.{bytes_of}
use Rattle.example_store.proofs.store.close.bytes_of.Given as goal

abbrev pub invariant-loop-table : goal.invariant-loop-table
invariant-loop-table g l = l.files.items ≡ map bytes_of (take l.table-index l.tables)
