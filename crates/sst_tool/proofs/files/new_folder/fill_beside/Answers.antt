use Rattle.std.specs.Prelude.{map, string_bytes}
use Rattle.sst_tool.proofs.NewFolders.{emptied}
use Rattle.sst_tool.proofs.files.new_folder.fill_beside.Goals as goal

pub returns-clause-refused : goal.returns-clause-refused
returns-clause-refused g c =
    emptied string_bytes c.args.folder.now c.args.beside.now (map (λ t. t.bytes) c.args.tables.now) (g.P.Place.done c.args.place.now) (g.P.Place.done c.fill_and_name.new.place) (g.P.Place.done c.remove_each.new.place) (g.P.Place.done c.remove_folder.new.self) c.in-Err.error c.fill_and_name.new.written.items c.deref.result.now c.in-Err.ensures.refused c.deref.ensures.value c.remove_each.ensures c.remove_folder.ensures
