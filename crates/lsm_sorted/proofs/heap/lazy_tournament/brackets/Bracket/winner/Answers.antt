use Rattle.std.proofs.Common.{◌≡◌, ℕ, ◌*◌, ◌<◌, length, get_or, arith}
use Rattle.std.proofs.lemmas.List.{get_or_read}
use Rattle.lsm_sorted.specs.merge.Order.{toward}
use Rattle.lsm_sorted.proofs.OrderLemmas.{toward_total}
use Rattle.lsm_sorted.proofs.BracketLemmas.{unbeaten}
use Rattle.lsm_sorted.proofs.TournamentLemmas.{kept_won}
use Rattle.lsm_sorted.proofs.heap.lazy_tournament.brackets.Bracket.winner.Goals as goal

-- there is a root
root_low : (leaves size : ℕ) → 0 < leaves → size ≡ 2 * leaves → 1 < size
root_low leaves size some e = omega arith

pub index-requires : goal.index-requires
index-requires g c =
    let nodes = c.keep.new.self.nodes in
    rw nodes.ok.0 (root_low (length c.args.slots.now) (length nodes.items) c.requires.some c.keep.ensures.won.nodes.size)

pub returns-clause-within : goal.returns-clause-within
returns-clause-within g c =
    let nodes = c.keep.new.self.nodes.items in
    let won = c.keep.ensures.won in
    let inside = root_low (length c.args.slots.now) (length nodes) c.requires.some won.nodes.size in
    let root : c.index.result.now ≡ get_or nodes 1 0 = get_or_read nodes 1 c.index.result.now inside c.index.ensures 0 in
    rw root (won.nodes.within 1 inside)

pub returns-clause-wins : goal.returns-clause-wins
returns-clause-wins g c k low =
    let nodes = c.keep.new.self.nodes.items in
    let won = c.keep.ensures.won in
    let inside = root_low (length c.args.slots.now) (length nodes) c.requires.some won.nodes.size in
    let root : c.index.result.now ≡ get_or nodes 1 0 = get_or_read nodes 1 c.index.result.now inside c.index.ensures 0 in
    let end = c.keep.new.self.end in
    rw (root, ← c.keep.ensures.end) (unbeaten (toward end g.T.Ord.cmp) c.args.slots.now nodes won.nodes won.decided (toward_total end g.met.T.Ord.total) k low)

pub returns-clause-kept : goal.returns-clause-kept
returns-clause-kept g c = kept_won g.T.Ord.cmp c.args.slots.now c.keep.new.self c.keep.ensures.won

pub returns-clause-bound : goal.returns-clause-bound
returns-clause-bound g c = c.keep.ensures.bound
