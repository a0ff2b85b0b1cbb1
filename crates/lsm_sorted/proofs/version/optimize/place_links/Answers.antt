-- One more table is packed with its place.
use Rattle.std.proofs.Common.{arith, refl}
use Rattle.lsm_sorted.proofs.LinkLemmas.{links_at_start, links_more, links_at_end}
use Rattle.lsm_sorted.proofs.version.optimize.place_links.Goals as goal

pub loop-index-init : goal.loop-index-init
loop-index-init g c ts h = links_at_start g.T.Ranged.range ts c.args.run c.args.tables.now c.args.packed.now.items h

pub loop-index-preserved : goal.loop-index-preserved
loop-index-preserved g c ts h =
    links_more g.T.Ranged.range ts c.args.run c.loop-index.index c.args.tables.now c.loop-index.packed.items c.place.new.packed.items _
    c.in_ok-place.ensures.permutation c.in_ok-place.ensures.ok c.in_ok-place.ensures.some
    c.loop-index-test.true c.index-tables-index.is refl refl (c.loop-index.invariant ts h)

pub returns-clause-ok : goal.returns-clause-ok
returns-clause-ok g c ts h = links_at_end g.T.Ranged.range ts c.args.run c.loop-index.index c.args.tables.now c.loop-index.packed.items (omega arith) (c.loop-index.invariant ts h)
