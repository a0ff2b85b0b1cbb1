use Rattle.sst_tool.specs.files.Files.{IsBeside}
use Rattle.sst_tool.specs.files.Placed.{IsBesideOne}
use Rattle.sst_tool.specs.files.Standing.{standing_in}
use Rattle.sst_tool.specs.files.Steps.{Removes}
use Rattle.sst_tool.proofs.Left.{beside_one, does_more, removes_within}
use Rattle.sst_tool.proofs.files.write.remove_left.Goals as goal

pub loop-beside-preserved : goal.loop-beside-preserved
loop-beside-preserved g c =
    let Is = IsBesideOne (standing_in c.args.written.now) in
    let text = c.as_str.result.now in
    does_more (Removes Is) (Removes (IsBeside text)) (g.P.Place.done c.args.place.now) (g.P.Place.done c.loop-beside.place) (g.P.Place.done c.remove_files.new.place)
    (removes_within (IsBeside text) Is (λ path. beside_one c.args.written.now c.loop-beside.beside-index c.beside-item.result text path c.loop-beside-test.true c.beside-item.is c.as_str.ensures.value)) c.loop-beside.invariant c.remove_files.ensures
