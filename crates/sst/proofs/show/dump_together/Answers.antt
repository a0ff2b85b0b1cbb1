use Rattle.std.proofs.Common.{◌≡◌, List, false, length, subst}
use Rattle.std.specs.Global.{Global}
use Rattle.std.specs.List.{AllByRecursion}
use Rattle.sst_entries.specs.Entry.{Entry}
use Rattle.lsm_sorted.specs.merge.Union.{Ascends, entries_among}
use Rattle.lsm_sorted.specs.version.Run.{IsInOrder}
use Rattle.lsm_run_parts.specs.RunParts.{range_of}
use Rattle.lsm_runs.specs.RunLists.{RunsHoldLists}
use Rattle.sst_tool.specs.declared.show.named.NamedTable.{NamedTable}
use Rattle.sst_tool.specs.show.Files.{runs_in}
use Rattle.sst_tool.specs.show.Merged.{PrintsMerged, merged_entries, newest_found, newest_in}
use Rattle.sst_tool.specs.show.Merged.{ranges_in}
use Rattle.sst.proofs.show.dump_together.Goals as goal

pub returns : goal.returns
returns g c =
    let o = c.args.options.now in
    let count = c.in_ok-dump_merged.field-0 in
    record {
      files = c.in_ok-files.files.items;
      named = c.in_ok-files.ensures;
      count = count;
      list = subst (λ (fs : List (NamedTable Global)). (lists : List (List (List Entry)))
          → RunsHoldLists (runs_in fs) lists
          → count ≡ length (merged_entries o.reverse c.args.most (newest_in o c.args.seqno lists)))
          c.as_slice.ensures.value c.in_ok-dump_merged.ensures.list;
      returned = subst (λ (fs : List (NamedTable Global)). o.reverse ≡ false
          → AllByRecursion (IsInOrder range_of) (runs_in fs)
          → AllByRecursion (λ rs. Ascends (entries_among rs)) (ranges_in o (runs_in fs))
          → PrintsMerged c.args.most (newest_found o c.args.seqno (runs_in fs)) count)
          c.as_slice.ensures.value c.in_ok-dump_merged.ensures.returned;
    }
