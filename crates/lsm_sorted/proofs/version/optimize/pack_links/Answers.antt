-- One more run is packed.
use Rattle.std.proofs.Common.{arith, take}
use Rattle.lsm_sorted.specs.version.Links.{runs_with_places}
use Rattle.lsm_sorted.proofs.LinkLemmas.{links_none, links_run, links_of_all}
use Rattle.lsm_sorted.proofs.version.optimize.pack_links.Goals as goal

pub loop-run-init : goal.loop-run-init
loop-run-init g c = links_none g.T.Ranged.range c.args.packed.now.items c.requires

pub loop-run-preserved : goal.loop-run-preserved
loop-run-preserved g c =
    links_run g.T.Ranged.range c.loop-run.run c.args.runs.now c.index-runs-run.result c.as_slice.result.now c.place_links.new.packed.items
    c.loop-run-test.true c.index-runs-run.is c.as_slice.ensures (c.in_ok-place_links.ensures.ok (runs_with_places 0 (take c.loop-run.run c.args.runs.now)) c.loop-run.invariant)

pub returns-clause-ok : goal.returns-clause-ok
returns-clause-ok g c = links_of_all g.T.Ranged.range c.loop-run.run c.args.runs.now c.loop-run.packed.items (omega arith) c.loop-run.invariant
