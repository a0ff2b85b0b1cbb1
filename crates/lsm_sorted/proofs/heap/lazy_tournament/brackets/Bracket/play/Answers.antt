use Rattle.std.proofs.Common.{◌≡◌, ◌⊎◌, ℕ, ◌+◌, ◌-◌, ◌*◌, ◌<◌, ◌≤◌, List, length, get_or, ⊎_elim, arith}
use Rattle.std.proofs.lemmas.List.{get_or_read}
use Rattle.lsm_sorted.specs.merge.Order.{toward}
use Rattle.lsm_sorted.specs.merge.Brackets.{IsBracket}
use Rattle.lsm_sorted.proofs.BracketLemmas.{IsBracket-set, played_more}
use Rattle.lsm_sorted.proofs.heap.lazy_tournament.brackets.Bracket.play.Goals as goal

-- what is read of the nodes is a slot
slot_low : (leaves : ℕ) (nodes : List ℕ) (k w : ℕ) → IsBracket leaves nodes → k < length nodes → w ≡ get_or nodes k 0 → w < leaves
slot_low leaves nodes k w b low is = rw is (b.within k low)

one_low : (leaves first second w : ℕ) → (w ≡ first) ⊎ (w ≡ second) → first < leaves → second < leaves → w < leaves
one_low leaves first second w from low low' = ⊎_elim (λ (e : w ≡ first). rw e low) (λ (e : w ≡ second). rw e low') from

-- the children of an inner node
left_low : (n leaves size : ℕ) → size ≡ 2 * leaves → n < leaves → 2 * n < size
left_low n leaves size e low = omega arith

right_low : (n leaves size : ℕ) → size ≡ 2 * leaves → n < leaves → 2 * n + 1 < size
right_low n leaves size e low = omega arith

node_low : (node leaves before now : ℕ) → 1 < node → before ≤ now → now + node ≤ before + leaves → node - 1 < leaves
node_low node leaves before now some rises bound = omega arith

node_inside : (node : ℕ) → 1 < node → 0 < node - 1
node_inside node some = omega arith

one_more : (node leaves before now next : ℕ) → 1 < node → now + node ≤ before + leaves → next ≤ now + 1 → next + (node - 1) ≤ before + leaves
one_more node leaves before now next some bound one = omega arith

further : (node m : ℕ) → 1 < node → node - 1 < m → node ≤ m
further node m some above = omega arith

pub loop-node-preserved : goal.loop-node-preserved
loop-node-preserved g c =
    let items = c.loop-node.self.nodes.items in
    let slots = c.args.slots.now in
    let node = c.loop-node.invariant in
    let n : ℕ = c.loop-node.node - 1 in
    let w = c.winner_of.result in
    let inside : 0 < n = node_inside c.loop-node.node c.loop-node-test.true in
    let low : n < length slots = node_low c.loop-node.node (length slots) c.args.steps.now c.loop-node.steps c.loop-node-test.true node.rises node.bound in
    let left_in = left_low n (length slots) (length items) node.bracket.size low in
    let right_in = right_low n (length slots) (length items) node.bracket.size low in
    let left : c.index.result.now ≡ get_or items (2 * n) 0 = get_or_read items (2 * n) c.index.result.now left_in c.index.ensures 0 in
    let right : c.index-in-loop-node.result.now ≡ get_or items (2 * n + 1) 0 = get_or_read items (2 * n + 1) c.index-in-loop-node.result.now right_in c.index-in-loop-node.ensures 0 in
    let win = one_low (length slots) c.index.result.now c.index-in-loop-node.result.now w c.winner_of.ensures.from
    (slot_low (length slots) items (2 * n) c.index.result.now node.bracket left_in left)
    (slot_low (length slots) items (2 * n + 1) c.index-in-loop-node.result.now node.bracket right_in right) in
    record {
      inside = inside;
      bracket = IsBracket-set (length slots) items n w low win node.bracket;
      decided = λ m from below. played_more (toward c.loop-node.self.end g.T.Ord.cmp) slots items n w inside low node.bracket.size
          (rw (← left, ← right) c.winner_of.ensures.from)
          (rw (← left) c.winner_of.ensures.first)
          (rw (← right) c.winner_of.ensures.second)
          m from (λ above. node.decided m (further c.loop-node.node m c.loop-node-test.true above) below);
      end = node.end;
      rises = omega (arith, node.rises, c.winner_of.ensures.rises);
      bound = one_more c.loop-node.node (length slots) c.args.steps.now c.loop-node.steps c.winner_of.new.steps c.loop-node-test.true node.bound c.winner_of.ensures.bound;
    }
