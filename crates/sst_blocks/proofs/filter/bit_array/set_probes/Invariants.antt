use Rattle.std.proofs.Common.{◌≡◌, ◌*◌, ◌^◌, ◌||◌, ◌<◌, length, ℕ, ◌+◌, ◌%◌}
use Rattle.sst_blocks.specs.filter.Filter.{is_in, is_set, probes, stride}
use Rattle.sst_blocks.proofs.filter.bit_array.set_probes.Given as goal

abbrev pub invariant-loop : goal.invariant-loop
invariant-loop l =
    (l.probe ≡ (l.fn.hash + l.counter * stride l.fn.hash) % 2 ^ 64)
    × (l.place ≡ l.probe % (length l.fn.bits * 8))
    × ((p : ℕ) → p < 8 * length l.fn.bits →
    is_set l.bits p ≡ (is_set l.fn.bits p || is_in p
    (probes (8 * length l.fn.bits) l.fn.hash l.counter)))
