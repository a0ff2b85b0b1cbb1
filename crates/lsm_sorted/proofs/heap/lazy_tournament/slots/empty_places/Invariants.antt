use Rattle.std.proofs.Common.{◌≡◌, None, replicate}
use Rattle.std.specs.Vec.{vec_capacity}
use Rattle.lsm_sorted.proofs.heap.lazy_tournament.slots.empty_places.Given as goal

abbrev pub invariant-loop : goal.invariant-loop
invariant-loop g l = record {
  room : vec_capacity l.places ≡ l.count;
  empty : l.places.items ≡ replicate l.counter None;
}
