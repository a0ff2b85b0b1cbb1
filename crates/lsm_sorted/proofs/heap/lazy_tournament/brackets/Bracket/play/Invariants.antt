use Rattle.std.proofs.Common.{◌≡◌, ℕ, ◌+◌, ◌<◌, ◌≤◌, length}
use Rattle.lsm_sorted.specs.merge.Order.{toward}
use Rattle.lsm_sorted.specs.merge.Brackets.{IsBracket, IsDecided}
use Rattle.lsm_sorted.proofs.heap.lazy_tournament.brackets.Bracket.play.Given as goal

abbrev pub invariant-loop-node : goal.invariant-loop-node
invariant-loop-node g l = record {
  inside : 0 < l.node;
  bracket : IsBracket (length l.slots) l.self.nodes.items;
  decided : (n : ℕ) → l.node ≤ n → n < length l.slots
      → IsDecided (toward l.self.end g.T.Ord.cmp) l.slots l.self.nodes.items n;
  end : l.self.end ≡ l.fn.self.end;
  rises : l.fn.steps ≤ l.steps;
  bound : l.steps + l.node ≤ l.fn.steps + length l.slots;
}
