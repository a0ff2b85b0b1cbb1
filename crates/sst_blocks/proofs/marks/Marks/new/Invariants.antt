use Rattle.std.proofs.Common.{◌≡◌}
use Rattle.std.specs.List.{All}
use Rattle.sst_blocks.proofs.marks.Marks.new.Given as goal

abbrev pub invariant-loop-at : goal.invariant-loop-at
invariant-loop-at g l = record {
  marked : All (λ w. w.shared.key ≡ l.bytes) l.words.items;
}
