use Rattle.std.proofs.Common.{◌≡◌, false, refl, subst}
use Rattle.std.specs.Prelude.{Bool, IfSome, Option, map}
use Rattle.sst_tool.proofs.NewFolders.{name_filled, stops_naming}
use Rattle.sst_tool.specs.files.NewFolders.{TellsTaken}
use Rattle.sst_tool.proofs.files.new_folder.fill_and_name.Goals as goal

pub returns-in-Err-clause-refused : goal.returns-in-Err-clause-refused
returns-in-Err-clause-refused g c =
    let ended = c.in-Err.ensures.refused in
    stops_naming c.args.folder.now c.args.beside.now (map (λ t. t.bytes) c.args.tables.now) _ (g.P.Place.done c.args.place.now) (g.P.Place.done c.write_within.new.place) (g.P.Place.done c.give_name.new.place) _ ended.0 c.in_ok-write_within.ensures.all refl c.in-Err.ensures.fault ended.1 ended.2

pub returns-in-Ok-clause-free : goal.returns-in-Ok-clause-free
returns-in-Ok-clause-free g c =
    let kept = name_filled c.args.folder.now c.args.beside.now (g.P.Place.there c.args.place.now) (g.P.Place.there c.write_within.new.place) c.requires.beside c.in_ok-write_within.ensures.elsewhere in
    subst (λ (k : Option Bool). IfSome k (λ b. b ≡ false)) kept c.in-Ok.ensures.free

pub returns-in-Err-clause-taken : goal.returns-in-Err-clause-taken
returns-in-Err-clause-taken g c = λ _.
    let kept = name_filled c.args.folder.now c.args.beside.now (g.P.Place.there c.args.place.now) (g.P.Place.there c.write_within.new.place) c.requires.beside c.in_ok-write_within.ensures.elsewhere in
    subst (TellsTaken c.in-Err.fault) kept c.in-Err.ensures.taken
