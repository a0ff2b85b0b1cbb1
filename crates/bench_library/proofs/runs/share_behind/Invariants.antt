use Rattle.std.specs.Prelude.{◌≡◌, ◌++◌, take}
use Rattle.bench_library.proofs.runs.share_behind.Given as goal

abbrev pub invariant-loop-item : goal.invariant-loop-item
invariant-loop-item l = l.all.items ≡ l.initial.all.items ++ take l.item-index l.items
