-- The walk goes down runs of links to all tables.
use Rattle.std.proofs.Common.{sym, subst}
use Rattle.lsm_sorted.specs.version.Packing.{IsChain}
use Rattle.lsm_sorted.specs.version.Links.{runs_with_places}
use Rattle.lsm_sorted.specs.version.LinkedRuns.{ArePackedLinks}
use Rattle.lsm_sorted.proofs.ChainLemmas.{places_of, no_chain, chain_least, chain_some}
use Rattle.lsm_sorted.proofs.version.optimize.overlap_chain.Goals as goal

pub returns-clause-chain : goal.returns-clause-chain
returns-clause-chain g c =
    let packed : ArePackedLinks g.T.Ranged.range (runs_with_places 0 c.args.runs.now) c.deref.result.now = subst (λ ls. ArePackedLinks g.T.Ranged.range (runs_with_places 0 c.args.runs.now) ls) (sym c.deref.ensures.value) c.in_ok-pack_links.ensures.ok in
    subst (λ ps. IsChain g.T.Ranged.range c.args.runs.now ps) (sym c.reverse.ensures.items)
    (c.in_ok-walk_down.ensures.chain c.args.runs.now (places_of g.T.Ranged.range c.args.runs.now c.deref.result.now packed))

pub returns-clause-least : goal.returns-clause-least
returns-clause-least g c are_disjoint =
    let packed : ArePackedLinks g.T.Ranged.range (runs_with_places 0 c.args.runs.now) c.deref.result.now = subst (λ ls. ArePackedLinks g.T.Ranged.range (runs_with_places 0 c.args.runs.now) ls) (sym c.deref.ensures.value) c.in_ok-pack_links.ensures.ok in
    chain_least g.T.Ranged.range c.args.runs.now c.deref.result.now packed are_disjoint c.reverse.new.self.items c.walk_down.new.chain.items c.reverse.ensures.items c.in_ok-walk_down.ensures.whole

pub returns-clause-some : goal.returns-clause-some
returns-clause-some g c none =
    let packed : ArePackedLinks g.T.Ranged.range (runs_with_places 0 c.args.runs.now) c.deref.result.now = subst (λ ls. ArePackedLinks g.T.Ranged.range (runs_with_places 0 c.args.runs.now) ls) (sym c.deref.ensures.value) c.in_ok-pack_links.ensures.ok in
    no_chain g.T.Ranged.range c.args.runs.now c.deref.result.now packed
    (c.in_ok-walk_down.ensures.some packed.some (chain_some c.reverse.new.self.items c.walk_down.new.chain.items c.reverse.ensures.items none))
