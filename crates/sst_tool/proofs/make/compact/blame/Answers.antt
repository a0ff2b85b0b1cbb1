use Rattle.std.proofs.Common.{ap, refl}
use Rattle.std.specs.Prelude.{Some, length}
use Rattle.std.proofs.lemmas.Option.{slice_get_read}
use Rattle.sst_tool.proofs.Scanning.{unread_early}
use Rattle.sst_tool.proofs.make.compact.blame.Goals as goal

pub returns-in-Some-OutOfMemory-clause-misses : goal.returns-in-Some-OutOfMemory-clause-misses
returns-in-Some-OutOfMemory-clause-misses g c = (
  c.loop-place.place,
  c.index-tables-place.result,
  slice_get_read c.args.tables.now (length c.args.tables.now) c.loop-place.place c.index-tables-place.result refl c.loop-place-test.true c.index-tables-place.is,
  unread_early c.index-tables-place.result (Some c.in-Some-OutOfMemory.field-0) c.in-Some-OutOfMemory.ensures.early (ap Some c.in-Some-OutOfMemory.field-0-is),
  c.loop-place.invariant,
)
