use Rattle.std.proofs.Common.{◌≡◌, ◌+◌}
use Rattle.std.specs.Prelude.{drop, map}
use Rattle.std.specs.List.{sum}
use Rattle.sst_c.specs.Adds.{reported_size}
use Rattle.sst_c.proofs.adds.have_bytes.Given as goal

abbrev pub invariant-loop-returned : goal.invariant-loop-returned
invariant-loop-returned l =
    l.left + sum (map reported_size l.entries) ≡ l.fn.count + sum (map reported_size (drop l.returned-index l.entries))
