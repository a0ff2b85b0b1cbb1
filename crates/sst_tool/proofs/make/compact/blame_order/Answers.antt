use Rattle.std.proofs.Common.{◌∙◌, refl, sym}
use Rattle.std.specs.Prelude.{Err, length}
use Rattle.std.proofs.lemmas.Option.{slice_get_read}
use Rattle.sst_tool.proofs.Scanning.{stores_none, unordered_early}
use Rattle.sst_tool.proofs.make.compact.blame_order.Goals as goal

pub returns-in-Ok-false-clause-names : goal.returns-in-Ok-false-clause-names
returns-in-Ok-false-clause-names g c = (
  c.loop-place.place,
  c.index-tables-place.result,
  slice_get_read c.args.tables.now (length c.args.tables.now) c.loop-place.place c.index-tables-place.result refl c.loop-place-test.true c.index-tables-place.is,
  c.path_at.ensures,
  stores_none c.index-tables-place.result c.in-Ok-false.field-0 c.in-Ok-false.ensures.list c.in-Ok-false.field-0-test,
  sym c.in-Ok-false.ensures.order ∙ c.in-Ok-false.field-0-test,
  c.loop-place.invariant,
)

pub returns-in-Err-clause-names : goal.returns-in-Err-clause-names
returns-in-Err-clause-names g c = (
  c.loop-place.place,
  c.index-tables-place.result,
  slice_get_read c.args.tables.now (length c.args.tables.now) c.loop-place.place c.index-tables-place.result refl c.loop-place-test.true c.index-tables-place.is,
  unordered_early c.index-tables-place.result (Err c.in-Err.field-0) c.in-Err.field-0 c.in-Err.ensures.early refl,
  c.loop-place.invariant,
)
