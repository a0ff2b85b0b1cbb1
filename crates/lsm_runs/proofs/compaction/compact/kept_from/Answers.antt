use Rattle.sst_entries.specs.Stream.{nowhere}
use Rattle.lsm_sorted.specs.merge.InPlace.{merge_of}
use Rattle.lsm_runs.specs.SeveralRuns.{union_in}
use Rattle.lsm_runs.proofs.AnyScans.{each_stops}
use Rattle.lsm_runs.proofs.Scanners.{kept_lent, merged_together, results_lent}
use Rattle.lsm_runs.proofs.compaction.compact.kept_from.Goals as goal

pub returns-clause-list : goal.returns-clause-list
returns-clause-list g c lists together =
    let m = c.in_ok-merger.merger in
    kept_lent _ _ m c.args.rules (union_in lists) c.new-2.result c.new-2.ensures.kept
    (merged_together g.L.Lending.advances nowhere _ nowhere lists c.args.sources.items m together c.in_ok-merger.ensures.yields)

pub returns-clause-any : goal.returns-clause-any
returns-clause-any g c lists yield_each ascend =
    let m = c.in_ok-merger.merger in
    results_lent _ _ m c.args.rules (merge_of lists) c.new-2.result c.new-2.ensures.places
    (λ stops memory. c.in_ok-merger.ensures.places.yields stops lists (record {
      yield_each = each_stops g.L.Lending.advances stops memory c.args.sources.items lists yield_each;
      ascend = ascend;
    }))
