use Rattle.std.proofs.Common.{◌∙◌, List, ap, subst, sym}
use Rattle.lsm_sorted.specs.version.Packing.{IsChain, SameTables, tables_in}
use Rattle.lsm_sorted.specs.declared.version.packed.Placed.{Placed}
use Rattle.lsm_sorted.proofs.Alone.{alone_none, packed_of}
use Rattle.lsm_sorted.proofs.version.packed.pack_each.Goals as goal

pub returns-clause-same : goal.returns-clause-same
returns-clause-same g c =
    subst (λ (r : List (List (Placed g.row.T.Denot))). SameTables r c.in_ok-runs-2.runs.items) c.in_ok-runs.ensures.ok
    c.in_ok-runs-2.ensures.tables

pub returns-clause-chain : goal.returns-clause-chain
returns-clause-chain g c =
    subst (λ (r : List (List (Placed g.row.T.Denot))). IsChain (λ t. g.T.Ranged.range t.table) r c.in_ok-chain.chain.items)
    (c.deref.ensures.value ∙ c.in_ok-runs.ensures.ok) c.in_ok-chain.ensures.chain

pub returns-clause-some : goal.returns-clause-some
returns-clause-some g c = λ none.
    alone_none 0 c.args.tables.items
    (sym (ap tables_in (c.deref.ensures.value ∙ c.in_ok-runs.ensures.ok)) ∙ c.in_ok-chain.ensures.some none)

pub returns-clause-packed : goal.returns-clause-packed
returns-clause-packed g c formed =
    let given = c.in_ok-runs.ensures.ok in
    packed_of g.T.Ranged.range c.args.tables.items _ c.in_ok-runs.runs.items c.deref.result.now given (c.deref.ensures.value ∙ given) formed c.in_ok-runs-2.ensures.tables c.in_ok-runs-2.ensures.holders c.in_ok-runs-2.ensures.least c.in_ok-runs-2.ensures.ordered c.in_ok-runs-2.ensures.placed c.in_ok-chain.ensures.chain c.in_ok-chain.ensures.least
