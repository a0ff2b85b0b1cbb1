use Rattle.lsm_iters.proofs.Taken.{no_place}
use Rattle.lsm_iters.proofs.block_index.part.Part.take_place.Goals as goal
use Rattle.lsm_iters.proofs.block_index.part.Part.take_place.Goals.{in-Some, in-None}

pub returns : goal.returns
returns g c = elim c.match-self.branch [
  | in-Some w ↦ rw (w.result-is, w.self-inside-is, ← c.self.view_is, w.in-Some.is) w.step_place.ensures.step
  | in-None w ↦ rw (w.result-is, w.self-inside-is, ← c.self.view_is, w.in-None.is) (no_place c.args.at)
]
