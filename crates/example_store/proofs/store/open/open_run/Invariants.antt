use Rattle.std.proofs.Common.{◌≡◌, take}
use Rattle.std.specs.Prelude.{map}
use Rattle.std.specs.List.{AllByRecursion}
use Rattle.example_store.specs.Story.{IsOwnTable}
use Rattle.example_store.proofs.Own.{bytes_of}
use Rattle.example_store.proofs.store.open.open_run.Given as goal

abbrev pub invariant-loop-bytes : goal.invariant-loop-bytes
invariant-loop-bytes g l = record {
  own : AllByRecursion (IsOwnTable l.next) l.tables.items;
  made : map bytes_of l.tables.items ≡ take l.bytes-index l.files;
}
