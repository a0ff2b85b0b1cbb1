use Rattle.std.proofs.Common.{refl, arith}
use Rattle.lsm_iters.proofs.Places.{place_back, no_place_back}
use Rattle.lsm_iters.proofs.block_index.iter.OwnedIndexBlockIter.next_place_back.Goals as goal

pub returns-then-self : goal.returns-then-self
returns-then-self g c =
    rw (← c.self.view_is) (no_place_back (record { list = c.self.inside.block; from = c.self.inside.from; to = c.self.inside.to }) (omega arith))

pub returns : goal.returns
returns g c =
    rw (← c.self.view_is) (place_back (record { list = c.self.inside.block; from = c.self.inside.from; to = c.self.inside.to }) _ c.place_at-place.result refl c.place_at-place.ensures (omega arith))
