use Rattle.std.proofs.Common.{◌≡◌, ℕ, ◌+◌, ◌<◌, length, get_or}
use Rattle.std.specs.Vec.{vec_capacity}
use Rattle.lsm_sorted.proofs.heap.lazy_tournament.slots.first_slots.Given as goal

abbrev pub invariant-loop-slot : goal.invariant-loop-slot
invariant-loop-slot g l = record {
  room : vec_capacity l.free ≡ l.count;
  count : length l.free.items + l.slot ≡ l.count;
  each : (i : ℕ) → i < length l.free.items → get_or l.free.items i 0 + i + 1 ≡ l.count;
}
