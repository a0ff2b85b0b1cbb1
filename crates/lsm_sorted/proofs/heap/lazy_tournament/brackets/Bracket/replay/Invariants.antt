use Rattle.std.proofs.Common.{◌≡◌, ℕ, ◌+◌, ◌^◌, ◌<◌, ◌≤◌, length, get_or}
use Rattle.lsm_sorted.specs.merge.Order.{toward}
use Rattle.lsm_sorted.specs.merge.Brackets.{IsBracket}
use Rattle.lsm_sorted.proofs.BracketLemmas.{DecidedButAbove, IsOnPath, LeavesRounds}
use Rattle.lsm_sorted.proofs.heap.lazy_tournament.brackets.Bracket.replay.Given as goal

abbrev pub invariant-loop-node : goal.invariant-loop-node
invariant-loop-node g l = record {
  bracket : IsBracket (length l.slots) l.self.nodes.items;
  others : DecidedButAbove (toward l.self.end g.T.Ord.cmp) l.slots l.self.nodes.items l.node;
  untouched : (k : ℕ) → k < l.node
      → get_or l.self.nodes.items k 0 ≡ get_or l.fn.self.nodes.items k 0;
  on_path : IsOnPath (length l.slots + l.slot) l.node;
  end : l.self.end ≡ l.fn.self.end;
  played : l.self.is_played ≡ l.fn.self.is_played;
  inside : 0 < l.node;
  below : l.node < length l.self.nodes.items;
  rises : l.fn.steps ≤ l.steps;
  bound : (h : ℕ) → length l.slots ≡ 2 ^ h → LeavesRounds l.node l.steps (l.fn.steps + h);
}

abbrev pub decreases-loop-node : goal.decreases-loop-node
decreases-loop-node g l = l.node
