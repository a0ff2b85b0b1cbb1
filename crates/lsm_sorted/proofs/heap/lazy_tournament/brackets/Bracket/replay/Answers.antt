use Rattle.std.proofs.Common.{◌≡◌, ℕ, ◌+◌, ◌*◌, ◌/◌, ◌^◌, ◌<◌, List, Option, Ordering, length, get_or, set, refl, sym, ◌∙◌, subst, inl, ⊎_elim, le_refl, arith}
use Rattle.std.specs.Vec.{vec_len}
use Rattle.std.specs.declared.vec.Vec.{Vec}
use Rattle.std.proofs.lemmas.List.{get_or_read, length-set, get_or-set_other}
use Rattle.sst_entries.specs.declared.stream.Direction.{Direction}
use Rattle.lsm_sorted.specs.merge.Order.{toward}
use Rattle.lsm_sorted.specs.declared.heap.lazy_tournament.brackets.Bracket.{Bracket}
use Rattle.lsm_sorted.specs.merge.Brackets.{IsBracket, AllDecided, WasWon}
use Rattle.lsm_sorted.proofs.BracketLemmas.{DecidedButAbove, IsBracket-set, path_parent}
use Rattle.lsm_sorted.proofs.BracketLemmas.{decided_more, all_decided, bracket_before}
use Rattle.lsm_sorted.proofs.BracketLemmas.{decided_before, all_stays, LeavesRounds}
use Rattle.lsm_sorted.proofs.BracketLemmas.{LeavesRounds-more, LeavesRounds-end}
use Rattle.lsm_sorted.proofs.heap.lazy_tournament.brackets.Bracket.replay.Goals as goal
use Rattle.lsm_sorted.proofs.heap.lazy_tournament.brackets.Bracket.replay.Goals.{After-winner_of-winner}

count_is : {Z : Type 0} (v : Vec ℕ Z) → vec_len v ≡ length v.items
count_is v = v.ok.0

-- the leaf of a slot, counted from half of the nodes
leaf_is : (leaves size slot : ℕ) → size ≡ 2 * leaves → size / 2 + slot ≡ leaves + slot
leaf_is leaves size slot e = omega arith

leaf_low : (leaves size slot : ℕ) → size ≡ 2 * leaves → slot < leaves → leaves + slot < size
leaf_low leaves size slot e h = omega arith

LeavesRounds-leaf : (leaves slot steps h : ℕ) → slot < leaves → leaves ≡ 2 ^ h → LeavesRounds (leaves + slot) steps (steps + h)
LeavesRounds-leaf leaves slot steps h low e = record { rounds = h; near = omega arith; left = omega arith }

positive : (leaves slot : ℕ) → slot < leaves → 0 < leaves + slot
positive leaves slot h = omega arith

-- the children of the node above n
left_low : (n size : ℕ) → n < size → 2 * (n / 2) < size
left_low n size h = omega arith

right_low : (n size leaves : ℕ) → size ≡ 2 * leaves → n < size → 2 * (n / 2) + 1 < size
right_low n size leaves e h = omega arith

half_less : (n : ℕ) → 1 < n → n / 2 < n
half_less n h = omega arith

half_low : (n size : ℕ) → n < size → n / 2 < size
half_low n size h = omega arith

-- what is read of the nodes is a slot
slot_low : (leaves : ℕ) (nodes : List ℕ) (k w : ℕ) → IsBracket leaves nodes → k < length nodes → w ≡ get_or nodes k w → w < leaves
slot_low leaves nodes k w b low read = rw (get_or_read nodes k w low read 0) (b.within k low)

-- one more match is played
more : (g : _) (c : After-winner_of-winner g) → DecidedButAbove (toward c.loop-node.self.end g.T.Ord.cmp) c.args.slots.now (set c.loop-node.self.nodes.items (c.loop-node.node / 2) c.winner_of-winner.result) (c.loop-node.node / 2)
more g c =
    let items = c.loop-node.self.nodes.items in
    let slots = c.args.slots.now in
    let n : ℕ = c.loop-node.node / 2 in
    let inside : 0 < n = omega arith in
    let size : length items ≡ 2 * length slots = c.loop-node.invariant.bracket.size in
    let low : n < length slots = omega arith in
    let left : c.index.result.now ≡ get_or items (2 * n) 0 = get_or_read items (2 * n) c.index.result.now (omega arith) c.index.ensures 0 in
    let right : c.index-in-loop-node.result.now ≡ get_or items (2 * n + 1) 0 = get_or_read items (2 * n + 1) c.index-in-loop-node.result.now (omega arith) c.index-in-loop-node.ensures 0 in
    decided_more (toward c.loop-node.self.end g.T.Ord.cmp) slots items n c.winner_of-winner.result inside low size
    (rw (← left, ← right) c.winner_of-winner.ensures.from)
    (rw (← left) c.winner_of-winner.ensures.first)
    (rw (← right) c.winner_of-winner.ensures.second)
    c.loop-node.node refl c.loop-node.invariant.others

-- the winner is a slot
winner_low : (g : _) (c : After-winner_of-winner g) → c.winner_of-winner.result < length c.args.slots.now
winner_low g c =
    let items = c.loop-node.self.nodes.items in
    let n : ℕ = c.loop-node.node / 2 in
    let size : length items ≡ 2 * length c.args.slots.now = c.loop-node.invariant.bracket.size in
    let first = slot_low (length c.args.slots.now) items (2 * n) c.index.result.now c.loop-node.invariant.bracket (omega arith) c.index.ensures in
    let second = slot_low (length c.args.slots.now) items (2 * n + 1) c.index-in-loop-node.result.now c.loop-node.invariant.bracket (omega arith) c.index-in-loop-node.ensures in
    ⊎_elim (λ (e : c.winner_of-winner.result ≡ c.index.result.now). rw e first) (λ (e : c.winner_of-winner.result ≡ c.index-in-loop-node.result.now). rw e second) c.winner_of-winner.ensures.from

pub loop-node-preserved : goal.loop-node-preserved
loop-node-preserved g c =
    let items = c.loop-node.self.nodes.items in
    let slots = c.args.slots.now in
    let n : ℕ = c.loop-node.node / 2 in
    let inside : 0 < n = omega arith in
    let size : length items ≡ 2 * length slots = c.loop-node.invariant.bracket.size in
    let low : n < length slots = omega arith in
    let here = (goal.at.loop-node-preserved g c).After-winner_of-winner in
    let w = c.winner_of-winner.result in
    record {
      bracket = IsBracket-set (length slots) items n w low (winner_low g here) c.loop-node.invariant.bracket;
      others = more g here;
      untouched = λ k h. get_or-set_other items n k w 0 (λ (e : k ≡ n). omega arith) ∙ c.loop-node.invariant.untouched k (omega arith);
      on_path = path_parent (length slots + c.args.slot) c.loop-node.node n refl c.loop-node.invariant.on_path;
      end = c.loop-node.invariant.end;
      played = c.loop-node.invariant.played;
      inside = inside;
      below = omega (arith, length-set items n w);
      rises = omega (arith, c.loop-node.invariant.rises, c.winner_of-winner.ensures.rises);
      bound = λ h e. LeavesRounds-more c.loop-node.node c.loop-node.steps c.winner_of-winner.new.steps (c.args.steps.now + h) c.loop-node-test.true c.winner_of-winner.ensures.bound (c.loop-node.invariant.bound h e);
    }

pub returns-then-winner-slot-clause-won : goal.returns-then-winner-slot-clause-won
returns-then-winner-slot-clause-won g c =
    let nodes = c.loop-node.self.nodes.items in
    let slots = c.args.slots.now in
    let n : ℕ = c.loop-node.node / 2 in
    let node = c.loop-node.invariant in
    let w = c.winner_of-winner.result in
    let size : c.loop-node.node < 2 * length slots = omega (arith, node.bracket.size, node.below) in
    let low : n < length nodes = omega (arith, node.below) in
    let is : w ≡ get_or nodes n 0 = c.if-winner-index.true ∙ get_or_read nodes n c.index-in-loop-node-2.result.now low c.index-in-loop-node-2.ensures 0 in
    let on = path_parent (length slots + c.args.slot) c.loop-node.node n refl node.on_path in
    let but = more g (goal.at.returns-then-winner-slot-clause-won g c).After-winner_of-winner in
    let won = subst (λ (e : Direction). AllDecided (toward e g.T.Ord.cmp) (set slots c.args.slot c.requires.was) c.args.self.now.nodes.items) (sym node.end) c.requires.won.decided in
    record {
      nodes = node.bracket;
      decided = all_stays (toward c.loop-node.self.end g.T.Ord.cmp) slots c.args.self.now.nodes.items c.args.slot c.requires.was c.requires.within c.requires.won.nodes won
          nodes c.loop-node.node n w on refl c.loop-node-test.true size node.untouched is c.if-winner-slot.true but;
    }

-- the bracket before the slot changed
bracket : {T : Type 0} (cmp : T → T → Ordering) (slots : List (Option T)) (s : ℕ) {Z : Type 0} (b : Bracket Z) → WasWon cmp slots s b → IsBracket (length slots) b.nodes.items
bracket cmp slots s b w = bracket_before (toward b.end cmp) slots b.nodes.items s w.was w.within w.won.nodes w.won.decided

pub returns-clause-won : goal.returns-clause-won
returns-clause-won g c = record {
  nodes = c.loop-node.invariant.bracket;
  decided = all_decided (toward c.loop-node.self.end g.T.Ord.cmp) c.args.slots.now c.loop-node.self.nodes.items c.loop-node.node c.loop-node-test.false c.loop-node.invariant.others;
}

pub overflow_add-node : goal.overflow_add-node
overflow_add-node g c =
    let b : IsBracket (length c.args.slots.now) c.args.self.now.nodes.items = bracket g.T.Ord.cmp c.args.slots.now c.args.slot c.args.self.now c.requires in
    let size = c.len.ensures ∙ count_is c.args.self.now.nodes ∙ b.size in
    omega (arith, leaf_low (length c.args.slots.now) c.len.result c.args.slot size c.requires.within, leaf_is (length c.args.slots.now) c.len.result c.args.slot size)

pub loop-node-init : goal.loop-node-init
loop-node-init g c =
    let b = bracket g.T.Ord.cmp c.args.slots.now c.args.slot c.args.self.now c.requires in
    let leaf = leaf_is (length c.args.slots.now) c.len.result c.args.slot (c.len.ensures ∙ count_is c.args.self.now.nodes ∙ b.size) in
    let low = leaf_low (length c.args.slots.now) (length c.args.self.now.nodes.items) c.args.slot b.size c.requires.within in
    rw leaf (record {
      bracket = b;
      others = decided_before (toward c.args.self.now.end g.T.Ord.cmp) c.args.slots.now c.args.self.now.nodes.items c.args.slot c.requires.was c.requires.within c.requires.won.nodes c.requires.won.decided;
      untouched = λ k h. refl;
      on_path = inl refl;
      end = refl;
      played = refl;
      inside = positive (length c.args.slots.now) c.args.slot c.requires.within;
      below = low;
      rises = le_refl c.args.steps.now;
      bound = λ h e. LeavesRounds-leaf (length c.args.slots.now) c.args.slot c.args.steps.now h c.requires.within e;
    })

pub index-requires : goal.index-requires
index-requires g c = rw (count_is c.loop-node.self.nodes) (left_low c.loop-node.node (length c.loop-node.self.nodes.items) c.loop-node.invariant.below)

pub index-requires-in-loop-node : goal.index-requires-in-loop-node
index-requires-in-loop-node g c = rw (count_is c.loop-node.self.nodes) (right_low c.loop-node.node (length c.loop-node.self.nodes.items) (length c.args.slots.now) c.loop-node.invariant.bracket.size c.loop-node.invariant.below)

pub winner_of-winner-requires-clause-first : goal.winner_of-winner-requires-clause-first
winner_of-winner-requires-clause-first g c =
    slot_low (length c.args.slots.now) c.loop-node.self.nodes.items (2 * (c.loop-node.node / 2)) c.index.result.now c.loop-node.invariant.bracket
    (left_low c.loop-node.node (length c.loop-node.self.nodes.items) c.loop-node.invariant.below) c.index.ensures

pub winner_of-winner-requires-clause-second : goal.winner_of-winner-requires-clause-second
winner_of-winner-requires-clause-second g c =
    slot_low (length c.args.slots.now) c.loop-node.self.nodes.items (2 * (c.loop-node.node / 2) + 1) c.index-in-loop-node.result.now c.loop-node.invariant.bracket
    (right_low c.loop-node.node (length c.loop-node.self.nodes.items) (length c.args.slots.now) c.loop-node.invariant.bracket.size c.loop-node.invariant.below) c.index-in-loop-node.ensures

pub index_mut-requires : goal.index_mut-requires
index_mut-requires g c = rw (count_is c.loop-node.self.nodes) (half_low c.loop-node.node (length c.loop-node.self.nodes.items) c.loop-node.invariant.below)

pub loop-node-smaller : goal.loop-node-smaller
loop-node-smaller g c = half_less c.loop-node.node c.loop-node-test.true

pub returns-clause-end : goal.returns-clause-end
returns-clause-end g c = c.loop-node.invariant.end

pub returns-clause-played : goal.returns-clause-played
returns-clause-played g c = c.loop-node.invariant.played

pub returns-clause-rises : goal.returns-clause-rises
returns-clause-rises g c = c.loop-node.invariant.rises

pub returns-clause-bound : goal.returns-clause-bound
returns-clause-bound g c h e = LeavesRounds-end c.loop-node.node c.loop-node.steps (c.args.steps.now + h) (c.loop-node.invariant.bound h e)
