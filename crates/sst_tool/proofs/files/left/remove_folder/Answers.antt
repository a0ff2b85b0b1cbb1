use Rattle.std.proofs.Common.{◌≡◌, refl}
use Rattle.sst_tool.specs.files.NewFolders.{Clears}
use Rattle.sst_tool.specs.files.Steps.Step.{RemovedFolder}
use Rattle.sst_tool.proofs.Left.{does_more, does_one}
use Rattle.sst_tool.proofs.files.left.remove_folder.Goals as goal

pub returns : goal.returns
returns g c =
    let Is = Clears (λ p. p ≡ c.args.folder.now) in
    let mid = g.P.Place.done c.remove_tables.new.place in
    let new = g.P.Place.done c.remove_folder.new.self in
    does_more Is Is (g.P.Place.done c.args.place.now) mid new (λ step is. is) c.remove_tables.ensures
    (does_one Is mid new (RemovedFolder c.args.folder.now) refl c.remove_folder.ensures)
