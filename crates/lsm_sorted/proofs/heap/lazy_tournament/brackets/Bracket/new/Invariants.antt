use Rattle.std.proofs.Common.{◌≡◌, ℕ, ◌+◌, ◌*◌, ◌<◌, ◌≤◌, length, get_or}
use Rattle.lsm_sorted.proofs.heap.lazy_tournament.brackets.Bracket.new.Given as goal

abbrev pub invariant-loop-node : goal.invariant-loop-node
invariant-loop-node g l = record {
  size : length l.nodes.items ≡ 2 * l.leaves;
  within : (n : ℕ) → n < length l.nodes.items → get_or l.nodes.items n 0 < l.leaves;
  leaf : (k : ℕ) → l.node ≤ l.leaves + k → k < l.leaves → get_or l.nodes.items (l.leaves + k) 0 ≡ k;
  first : (n : ℕ) → l.node ≤ n → n < l.leaves
      → get_or l.nodes.items n 0 ≡ get_or l.nodes.items (2 * n) 0;
}
