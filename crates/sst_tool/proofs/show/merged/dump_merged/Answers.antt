use Rattle.std.proofs.Common.{◌≡◌, ◌∙◌, List, ap, false, map, subst, sym}
use Rattle.std.specs.Arc.{arc_value}
use Rattle.std.specs.List.{AllByRecursion}
use Rattle.lsm_sorted.specs.merge.Union.{Ascends, entries_among}
use Rattle.lsm_sorted.specs.version.Run.{IsInOrder}
use Rattle.lsm_readers.specs.point.Table.{OpenTable}
use Rattle.lsm_runs.specs.RunLists.{RunsHoldLists}
use Rattle.lsm_run_parts.specs.RunParts.{range_of}
use Rattle.sst_tool.specs.show.Files.{runs_in}
use Rattle.sst_tool.specs.show.Merged.{PrintsMerged, newest_found, ranges_in}
use Rattle.sst_tool.proofs.show.merged.dump_merged.Goals as goal

pub returns-in-Ok-clause-list : goal.returns-in-Ok-clause-list
returns-in-Ok-clause-list g c = λ lists hold.
    let same : map arc_value c.deref.result.now ≡ runs_in c.args.files.now
    = ap (map arc_value) c.deref.ensures.value ∙ c.in_ok-runs.ensures.ok in
    c.in-Ok.ensures.list lists
    (subst (λ (ts : List (List OpenTable)). RunsHoldLists ts lists) (sym same) hold)

pub returns-in-Ok-clause-returned : goal.returns-in-Ok-clause-returned
returns-in-Ok-clause-returned g c =
    let o = c.args.options.now in
    let same : map arc_value c.deref.result.now ≡ runs_in c.args.files.now
    = ap (map arc_value) c.deref.ensures.value ∙ c.in_ok-runs.ensures.ok in
    subst (λ (ts : List (List OpenTable)). o.reverse ≡ false
    → AllByRecursion (IsInOrder range_of) ts
    → AllByRecursion (λ rs. Ascends (entries_among rs)) (ranges_in o ts)
    → PrintsMerged c.args.most (newest_found o c.args.seqno ts) c.in-Ok.count) same
    c.in-Ok.ensures.returned
