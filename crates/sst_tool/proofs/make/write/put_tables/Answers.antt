use Rattle.std.specs.Prelude.{length}
use Rattle.sst_tool.proofs.TableFiles.{blamed_earlier, blamed_table, tables_placed, tables_stop}
use Rattle.sst_tool.proofs.TableFiles.{tells_next}
use Rattle.sst_tool.proofs.make.write.put_tables.Goals as goal

pub returns-clause-placed : goal.returns-clause-placed
returns-clause-placed g c =
    let returned = c.in_ok-place_tables.ensures in
    tables_placed c.args.path.now c.args.target c.args.tables.now c.in_ok-wanted.wanted.items c.deref.result.now (g.P.Place.there c.args.place.now) (g.P.Place.done c.args.place.now) (g.P.Place.done c.place_tables.new.place) c.in_ok-wanted.ensures.files c.deref.ensures.value returned.placed returned.free

pub returns-in_err-place_tables-clause-refused :
    goal.returns-in_err-place_tables-clause-refused
returns-in_err-place_tables-clause-refused g c =
    tables_stop c.from_residual-in_err-place_tables.result c.args.path.now c.args.target c.args.tables.now c.in_ok-wanted.wanted.items c.deref.result.now (g.P.Place.there c.args.place.now) (g.P.Place.done c.args.place.now) (g.P.Place.done c.place_tables.new.place) c.in_err-place_tables.field-0.0 c.in_ok-wanted.ensures.files c.deref.ensures.value c.in_err-place_tables.ensures.stops c.from_residual-in_err-place_tables.ensures.1

pub returns-in_err-place_tables-clause-named : goal.returns-in_err-place_tables-clause-named
returns-in_err-place_tables-clause-named g c =
    let e = c.in_err-place_tables.field-0.0 in
    let tables = c.args.tables.now in
    blamed_table c.from_residual-in_err-place_tables.result c.args.path.now c.args.target (length tables) e
    (tells_next c.args.path.now c.args.target tables c.in_ok-wanted.wanted.items c.deref.result.now e c.in_ok-wanted.ensures.files c.deref.ensures.value c.in_err-place_tables.ensures.named) c.from_residual-in_err-place_tables.ensures.1

pub returns-in_err-place_tables-clause-left : goal.returns-in_err-place_tables-clause-left
returns-in_err-place_tables-clause-left g c =
    blamed_earlier c.from_residual-in_err-place_tables.result c.args.path.now c.args.target c.args.tables.now c.in_ok-wanted.wanted.items c.deref.result.now c.in_err-place_tables.field-0.0 c.in_ok-wanted.ensures.files c.deref.ensures.value c.in_err-place_tables.ensures.left c.from_residual-in_err-place_tables.ensures.1
