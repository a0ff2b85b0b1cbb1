use Rattle.std.proofs.Common.{◌<◌, length, drop, ap, ◌∙◌, arith}
use Rattle.lsm_readers.specs.Handles.{handles_ahead}
use Rattle.lsm_readers.proofs.HandlesLeft.{passed}
use Rattle.lsm_readers.proofs.verify.steps.HandlesLeft.pass.Goals as goal

pub returns-then-self-count_in : goal.returns-then-self-count_in
returns-then-self-count_in g c =
    let block = c.self.inside.block in
    let index = c.self.inside.index in
    let within : index < length (handles_ahead 0 block) =
    omega (arith, c.count_in.ensures, c.if-self-count_in.true) in
    passed block index within ∙ ap (drop 1) c.self.view_is
