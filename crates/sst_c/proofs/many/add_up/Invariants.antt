use Rattle.std.proofs.Common.{◌≡◌, ◌+◌}
use Rattle.std.specs.Prelude.{drop}
use Rattle.std.specs.List.{sum}
use Rattle.sst_c.proofs.many.add_up.Given as goal

abbrev pub invariant-loop-len : goal.invariant-loop-len
invariant-loop-len l = l.left + sum l.lens ≡ l.fn.count + sum (drop l.len-index l.lens)
