use Rattle.std.proofs.Common.{◌≡◌, ◌*◌, ◌^◌, length, ◌+◌, ◌%◌, true}
use Rattle.std.specs.List.{list_all}
use Rattle.sst_blocks.specs.filter.Filter.{is_set, probes, stride}
use Rattle.sst_blocks.proofs.filter.bit_array.has_probes.Given as goal

abbrev pub invariant-loop : goal.invariant-loop
invariant-loop l =
    (l.probe ≡ (l.fn.hash + l.counter * stride l.fn.hash) % 2 ^ 64)
    × (l.place ≡ l.probe % (length l.fn.bits * 8))
    × (list_all (is_set l.fn.bits) (probes (8 * length l.fn.bits) l.fn.hash l.counter) ≡ true)
