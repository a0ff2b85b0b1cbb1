use Rattle.std.proofs.Common.{◌∙◌, ap, inl, refl, sym, subst, List, []}
use Rattle.std.specs.Prelude.{◌⊎◌, map}
use Rattle.std.specs.Arc.{arc_value}
use Rattle.sst_entries.specs.Entry.{Entry}
use Rattle.sst_entries.proofs.Refusals.{faults_refusal}
use Rattle.sst_entries.specs.Stream.{ok_results}
use Rattle.sst_entries.specs.declared.error.Error.{Error}
use Rattle.lsm_sorted.specs.merge.InPlace.{merge_of}
use Rattle.lsm_sorted.specs.lending.LentCompaction.{lent_callback, lent_filter}
use Rattle.lsm_writers.specs.Tables.{TablesWriting}
use Rattle.lsm_runs.specs.compaction.AnyRuns.{BeginsWith, first_blocks_fault, scans_of}
use Rattle.lsm_runs.specs.compaction.Compacted.{RunsOn, merged_as}
use Rattle.lsm_runs.specs.compaction.Filtered.{CameTo, CameUntil, FitsThroughout}
use Rattle.lsm_runs.specs.SeveralRuns.{union_in}
use Rattle.lsm_runs.proofs.OneList.{one_way}
use Rattle.lsm_runs.proofs.FilteredCame.{came_none, came_or_begun, came_to, came_until, came_up}
use Rattle.lsm_runs.proofs.FilteredCame.{err_any, err_passed, match_err, refuses_by}
use Rattle.lsm_runs.proofs.FilteredFits.{fits_all, fits_any}
use Rattle.lsm_runs.proofs.Observing.{reported_nothing}
use Rattle.lsm_runs.proofs.RunWriting.{wants}
use Rattle.lsm_runs.proofs.TookList.{err_at, ok_at}
use Rattle.lsm_runs.proofs.UnfilteredResult.{plain_err, plain_ok}
use Rattle.lsm_runs.proofs.compaction.any_runs.compact_any_runs.Goals as goal

pub write_observed-written-requires : goal.write_observed-written-requires
write_observed-written-requires g c =
    let next : RunsOn c.args.writer = subst RunsOn c.writer.view_is (c.writer.invariant.1 (ap (λ (w : TablesWriting). w.failed) c.writer.view_is ∙ c.requires.fresh.2)).next in
    record { fresh = c.requires.fresh; next = next; can = c.in_ok-source.ensures.can }

pub returns-in_err-source-clause-heard : goal.returns-in_err-source-clause-heard
returns-in_err-source-clause-heard g c =
    err_any c.from_residual.result ([], reported_nothing g.O.CompactionObserver.says c.args.writer c.args.observer.now)

pub returns-in_err-source-clause-until : goal.returns-in_err-source-clause-until
returns-in_err-source-clause-until g c lists held some =
    let a = c.args in
    came_none g.F.LentFilter.gives g.C.LentCallback.gets a.rules a.filter a.callback (ok_results (union_in lists)) a.writer g.O.CompactionObserver.says a.observer.now c.from_residual.result
    (wants c.from_residual.result c.in_err-source.field-0.0 c.from_residual.ensures.1 (c.in_err-source.ensures.err (record { lists = lists; hold = held; some = some })))

pub returns-in_err-source-clause-any : goal.returns-in_err-source-clause-any
returns-in_err-source-clause-any g c ascend =
    let a = c.args in
    came_or_begun g.F.LentFilter.gives g.C.LentCallback.gets a.rules a.filter a.callback (merge_of (scans_of (map arc_value a.runs.now))) a.writer g.O.CompactionObserver.says a.observer.now (map arc_value a.runs.now) _ c.from_residual.result c.in_err-source.field-0.0 c.from_residual.ensures.1 c.in_err-source.ensures.returned

pub returns-in_err-source-clause-refused : goal.returns-in_err-source-clause-refused
returns-in_err-source-clause-refused g c lists held some =
    let a = c.args in
    refuses_by g.F.LentFilter.gives g.C.LentCallback.gets a.rules a.filter a.callback (ok_results (union_in lists)) a.writer g.O.CompactionObserver.says a.observer.now a.observer.now c.from_residual.result (returns-in_err-source-clause-until g c lists held some)

pub returns-in_err-source-clause-opens : goal.returns-in_err-source-clause-opens
returns-in_err-source-clause-opens g c some =
    (faults_refusal c.from_residual.result c.in_err-source.field-0.0 (first_blocks_fault (map arc_value c.args.runs.now)) c.from_residual.ensures.1 c.in_err-source.ensures.opens, refl)

pub returns-in_err-source-clause-taken : goal.returns-in_err-source-clause-taken
returns-in_err-source-clause-taken g c able lists held calm fits =
    let r = c.from_residual in
    wants r.result c.in_err-source.field-0.0 r.ensures.1 (c.in_err-source.ensures.err (merged_as able))

pub returns-in_err-source-clause-fits : goal.returns-in_err-source-clause-fits
returns-in_err-source-clause-fits g c able lists held calm fits =
    let r = c.from_residual in
    wants r.result c.in_err-source.field-0.0 r.ensures.1 (c.in_err-source.ensures.err (merged_as able))

pub returns-in_err-outcome-clause-heard : goal.returns-in_err-outcome-clause-heard
returns-in_err-outcome-clause-heard g c =
    let u = (err_at _ c.write_observed-written.result _ c.in_err-outcome.was c.write_observed-written.ensures.refused) in
    err_any c.from_residual-in_err-outcome.result (u.list, u.returned)

pub returns-in_err-outcome-clause-until : goal.returns-in_err-outcome-clause-until
returns-in_err-outcome-clause-until g c lists held some =
    let a = c.args in
    let r = c.from_residual-in_err-outcome in
    let f = c.in_err-outcome.field-0.0 in
    let q = c.write_observed-written.new.observer in
    let xs = ok_results (union_in lists) in
    err_passed (λ (e : Error). CameUntil g.F.LentFilter.gives g.C.LentCallback.gets a.rules a.filter a.callback xs a.writer g.O.CompactionObserver.says a.observer.now e q) r.result f r.ensures.1
    (came_until _ g.F.LentFilter.gives g.C.LentCallback.gets a.rules a.filter a.callback lent_filter lent_callback c.in_ok-source.source a.writer xs (c.in_ok-source.ensures.list (record { lists = lists; hold = held; some = some })) g.O.CompactionObserver.says a.observer.now q f (err_at _ c.write_observed-written.result _ c.in_err-outcome.was c.write_observed-written.ensures.refused))

pub returns-in_err-outcome-clause-any : goal.returns-in_err-outcome-clause-any
returns-in_err-outcome-clause-any g c ascend =
    let a = c.args in
    let r = c.from_residual-in_err-outcome in
    let f = c.in_err-outcome.field-0.0 in
    let q = c.write_observed-written.new.observer in
    let runs = map arc_value a.runs.now in
    let xs = merge_of (scans_of runs) in
    match_err _ (λ (e : Error). CameUntil g.F.LentFilter.gives g.C.LentCallback.gets a.rules a.filter a.callback xs a.writer g.O.CompactionObserver.says a.observer.now e q ⊎ BeginsWith runs e) r.result f r.ensures.1
    (inl (came_until _ g.F.LentFilter.gives g.C.LentCallback.gets a.rules a.filter a.callback lent_filter lent_callback c.in_ok-source.source a.writer xs (c.in_ok-source.ensures.any ascend) g.O.CompactionObserver.says a.observer.now q f (err_at _ c.write_observed-written.result _ c.in_err-outcome.was c.write_observed-written.ensures.refused)))

pub returns-in_err-outcome-clause-refused : goal.returns-in_err-outcome-clause-refused
returns-in_err-outcome-clause-refused g c lists held some =
    let a = c.args in
    refuses_by g.F.LentFilter.gives g.C.LentCallback.gets a.rules a.filter a.callback (ok_results (union_in lists)) a.writer g.O.CompactionObserver.says a.observer.now c.write_observed-written.new.observer c.from_residual-in_err-outcome.result (returns-in_err-outcome-clause-until g c lists held some)

pub returns-in_err-outcome-clause-opens : goal.returns-in_err-outcome-clause-opens
returns-in_err-outcome-clause-opens g c some = absurd (some c.in_ok-source.ensures.opens)

pub returns-in_err-outcome-clause-fits : goal.returns-in_err-outcome-clause-fits
returns-in_err-outcome-clause-fits g c able lists held calm fits =
    let a = c.args in
    let next : RunsOn c.args.writer = subst RunsOn c.writer.view_is (c.writer.invariant.1 (ap (λ (w : TablesWriting). w.failed) c.writer.view_is ∙ c.requires.fresh.2)).next in
    let same = one_way (map arc_value a.runs.now) able.lists lists able.hold held in
    let kept = subst (λ (ls : List (List (List Entry))). FitsThroughout g.F.LentFilter.gives g.C.LentCallback.gets a.rules a.filter a.callback (union_in ls) a.writer) (sym same) fits in
    fits_all g.F.LentFilter.gives g.C.LentCallback.gets a.rules a.filter a.callback a.writer (union_in able.lists) able.writable c.tables_law.ensures.takes c.requires.fresh next calm kept g.O.CompactionObserver.says a.observer.now c.write_observed-written.new.observer c.from_residual-in_err-outcome.result (returns-in_err-outcome-clause-until g c able.lists able.hold able.some)

pub returns-in_err-outcome-clause-taken : goal.returns-in_err-outcome-clause-taken
returns-in_err-outcome-clause-taken g c able lists held calm fits =
    let a = c.args in
    returns-in_err-outcome-clause-fits g c able lists held calm (fits_any g.F.LentFilter.gives g.C.LentCallback.gets a.rules a.filter a.callback (union_in lists) a.writer fits)

pub returns-clause-merged : goal.returns-clause-merged
returns-clause-merged g c lists held some =
    let a = c.args in
    came_up _ g.F.LentFilter.gives g.C.LentCallback.gets a.rules a.filter a.callback lent_filter lent_callback c.in_ok-source.source a.writer (ok_results (union_in lists)) (c.in_ok-source.ensures.list (record { lists = lists; hold = held; some = some })) g.O.CompactionObserver.says a.observer.now c.in_ok-outcome.outcome c.write_observed-written.new.source c.write_observed-written.new.observer c.into_callback-callback.result c.into_callback-callback.ensures (ok_at _ c.write_observed-written.result _ c.in_ok-outcome.was c.write_observed-written.ensures.written)

pub returns-clause-kept : goal.returns-clause-kept
returns-clause-kept g c able lists held =
    let a = c.args in
    subst (λ (ls : List (List (List Entry))). CameTo g.F.LentFilter.gives g.C.LentCallback.gets a.rules a.filter a.callback (union_in ls) a.writer c.in_ok-outcome.outcome c.into_callback-callback.result) (one_way (map arc_value a.runs.now) able.lists lists able.hold held)
    (came_to g.F.LentFilter.gives g.C.LentCallback.gets a.rules a.filter a.callback (union_in able.lists) a.writer g.O.CompactionObserver.says a.observer.now c.write_observed-written.new.observer able.writable c.in_ok-outcome.outcome c.into_callback-callback.result (returns-clause-merged g c able.lists able.hold able.some))

pub returns-clause-any : goal.returns-clause-any
returns-clause-any g c ascend =
    let a = c.args in
    came_up _ g.F.LentFilter.gives g.C.LentCallback.gets a.rules a.filter a.callback lent_filter lent_callback c.in_ok-source.source a.writer (merge_of (scans_of (map arc_value a.runs.now))) (c.in_ok-source.ensures.any ascend) g.O.CompactionObserver.says a.observer.now c.in_ok-outcome.outcome c.write_observed-written.new.source c.write_observed-written.new.observer c.into_callback-callback.result c.into_callback-callback.ensures (ok_at _ c.write_observed-written.result _ c.in_ok-outcome.was c.write_observed-written.ensures.written)

pub returns-clause-opens : goal.returns-clause-opens
returns-clause-opens g c some = absurd (some c.in_ok-source.ensures.opens)

pub returns-clause-made : goal.returns-clause-made
returns-clause-made g c = ok_at _ c.write_observed-written.result _ c.in_ok-outcome.was c.write_observed-written.ensures.made

pub returns-clause-returned : goal.returns-clause-returned
returns-clause-returned g c = ok_at _ c.write_observed-written.result _ c.in_ok-outcome.was c.write_observed-written.ensures.returned

pub returns-in_err-source-clause-plain : goal.returns-in_err-source-clause-plain
returns-in_err-source-clause-plain g c keeps never =
    let a = c.args in
    plain_err g.F.LentFilter.gives g.C.LentCallback.gets g.O.CompactionObserver.says keeps never a.rules a.filter a.callback a.writer (map arc_value a.runs.now) a.observer.now a.observer.now c.from_residual.result c.in_err-source.field-0.0 c.from_residual.ensures.1 (returns-in_err-source-clause-until g c) (returns-in_err-source-clause-fits g c) (returns-in_err-source-clause-any g c) (returns-in_err-source-clause-opens g c)

pub returns-in_err-outcome-clause-plain : goal.returns-in_err-outcome-clause-plain
returns-in_err-outcome-clause-plain g c keeps never =
    let a = c.args in
    let r = c.from_residual-in_err-outcome in
    plain_err g.F.LentFilter.gives g.C.LentCallback.gets g.O.CompactionObserver.says keeps never a.rules a.filter a.callback a.writer (map arc_value a.runs.now) a.observer.now c.write_observed-written.new.observer r.result c.in_err-outcome.field-0.0 r.ensures.1 (returns-in_err-outcome-clause-until g c) (returns-in_err-outcome-clause-fits g c) (returns-in_err-outcome-clause-any g c) (returns-in_err-outcome-clause-opens g c)

pub returns-clause-plain : goal.returns-clause-plain
returns-clause-plain g c keeps never =
    let a = c.args in
    plain_ok g.F.LentFilter.gives g.C.LentCallback.gets g.O.CompactionObserver.says keeps never a.rules a.filter a.callback a.writer (map arc_value a.runs.now) a.observer.now c.write_observed-written.new.observer c.in_ok-outcome.outcome c.into_callback-callback.result (returns-clause-merged g c) (returns-clause-any g c) c.in_ok-source.ensures.opens (returns-clause-made g c) (returns-clause-returned g c)
