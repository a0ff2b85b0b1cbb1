use Rattle.std.proofs.Common.{◌≡◌, refl, rules}
use Rattle.sst_tool.specs.files.Files.{IsBeside, beside_name}
use Rattle.sst_tool.specs.files.Steps.{Removes}
use Rattle.sst_tool.proofs.Left.{does_more, removes_named}
use Rattle.sst_tool.proofs.files.left.remove_files.Goals as goal

pub loop-number-preserved : goal.loop-number-preserved
loop-number-preserved g c =
    let Is = IsBeside c.args.path.now in
    let path = c.as_str-in-loop-number.result.now in
    let number = c.loop-number.number-counter in
    does_more (Removes Is) (Removes (λ p. p ≡ path)) (g.P.Place.done c.args.place.now) (g.P.Place.done c.loop-number.place) (g.P.Place.done c.remove_file.new.place)
    (removes_named Is path (beside_name c.args.path.now number) (number, refl) (search rules)) c.loop-number.invariant c.remove_file.ensures
