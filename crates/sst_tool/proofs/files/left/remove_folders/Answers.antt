use Rattle.std.proofs.Common.{◌≡◌, refl, rules}
use Rattle.sst_tool.specs.files.Files.{IsBeside, beside_name}
use Rattle.sst_tool.specs.files.NewFolders.{Clears}
use Rattle.sst_tool.proofs.Left.{clears_named, does_more}
use Rattle.sst_tool.proofs.files.left.remove_folders.Goals as goal

pub loop-number-preserved : goal.loop-number-preserved
loop-number-preserved g c =
    let Is = IsBeside c.args.stem.now in
    let path = c.as_str-in-loop-number.result.now in
    let number = c.loop-number.number-counter in
    does_more (Clears Is) (Clears (λ p. p ≡ path)) (g.P.Place.done c.args.place.now) (g.P.Place.done c.loop-number.place) (g.P.Place.done c.remove_folder.new.place)
    (clears_named Is path (beside_name c.args.stem.now number) (number, refl) (search rules)) c.loop-number.invariant c.remove_folder.ensures
