use Rattle.std.specs.Prelude.{map, string_bytes}
use Rattle.sst_tool.proofs.NewFolders.{free_before, name_made, placed_folder, refused_folder, taken_before}
use Rattle.sst_tool.proofs.files.new_folder.place_folder.Goals as goal

pub returns-in-Ok-clause-placed : goal.returns-in-Ok-clause-placed
returns-in-Ok-clause-placed g c =
    placed_folder c.fill_all.result c.args.folder.now c.as_str.result.now (string_bytes c.in-Ok.beside) (map (λ t. t.bytes) c.args.tables.now) (g.P.Place.done c.args.place.now) (g.P.Place.done c.make_beside.new.place) (g.P.Place.done c.fill_all.new.place) c.as_str.ensures.value c.in-Ok.ensures.beside c.in-Ok.ensures.made c.fill_all.ensures.filled

pub returns-in-Ok-clause-refused : goal.returns-in-Ok-clause-refused
returns-in-Ok-clause-refused g c =
    refused_folder c.fill_all.result c.args.folder.now c.as_str.result.now (string_bytes c.in-Ok.beside) (map (λ t. t.bytes) c.args.tables.now) (g.P.Place.done c.args.place.now) (g.P.Place.done c.make_beside.new.place) (g.P.Place.done c.fill_all.new.place) c.as_str.ensures.value c.in-Ok.ensures.beside c.in-Ok.ensures.made c.fill_all.ensures.refused

pub returns-in-Ok-clause-free : goal.returns-in-Ok-clause-free
returns-in-Ok-clause-free g c =
    let folder = c.args.folder.now in
    let old = g.P.Place.there c.args.place.now in
    let new = g.P.Place.there c.make_beside.new.place in
    free_before c.fill_all.result (old folder) (new folder)
    (name_made folder (string_bytes c.in-Ok.beside) old new c.in-Ok.ensures.beside c.in-Ok.ensures.elsewhere) c.fill_all.ensures.free

pub returns-in-Ok-clause-taken : goal.returns-in-Ok-clause-taken
returns-in-Ok-clause-taken g c =
    let folder = c.args.folder.now in
    let old = g.P.Place.there c.args.place.now in
    let new = g.P.Place.there c.make_beside.new.place in
    taken_before c.fill_all.result folder old new
    (name_made folder (string_bytes c.in-Ok.beside) old new c.in-Ok.ensures.beside c.in-Ok.ensures.elsewhere) c.fill_all.ensures.taken
