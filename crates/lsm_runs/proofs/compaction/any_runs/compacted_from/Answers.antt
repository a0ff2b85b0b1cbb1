use Rattle.std.proofs.Common.{refl}
use Rattle.sst_entries.specs.Error.{is_memory}
use Rattle.sst_entries.specs.Stream.{nowhere, ok_results}
use Rattle.lsm_sorted.specs.lending.LentCompaction.{lender, lent_callback, lent_filter}
use Rattle.lsm_sorted.specs.merge.InPlace.{merge_of}
use Rattle.lsm_runs.specs.SeveralRuns.{union_in}
use Rattle.lsm_runs.proofs.AnyScans.{compacts_as, each_stops}
use Rattle.lsm_runs.proofs.Scanners.{merged_together}
use Rattle.lsm_runs.proofs.compaction.any_runs.compacted_from.Goals as goal

pub returns-clause-list : goal.returns-clause-list
returns-clause-list g c lists together =
    let m = c.in_ok-merger.merger in
    compacts_as _ _ m c.args.rules g.F.LentFilter.gives g.C.LentCallback.gets c.args.filter c.args.callback lender lent_filter lent_callback c.with.result (ok_results (union_in lists)) c.with.ensures.places
    (merged_together g.L.Lending.advances nowhere _ nowhere lists c.args.sources.items m together c.in_ok-merger.ensures.yields is_memory refl)

pub returns-clause-any : goal.returns-clause-any
returns-clause-any g c lists yield_each ascend =
    let m = c.in_ok-merger.merger in
    compacts_as _ _ m c.args.rules g.F.LentFilter.gives g.C.LentCallback.gets c.args.filter c.args.callback lender lent_filter lent_callback c.with.result (merge_of lists) c.with.ensures.places
    (c.in_ok-merger.ensures.places.yields is_memory lists (record {
      yield_each = each_stops g.L.Lending.advances is_memory refl c.args.sources.items lists yield_each;
      ascend = ascend;
    }))
