use Rattle.sst_entries.specs.Stream.{ok_results}
use Rattle.lsm_sorted.specs.merge.Union.{union_of}
use Rattle.test_layers.proofs.sorted.laws.compaction_of.Goals as goal

pub returns-clause-kept : goal.returns-clause-kept
returns-clause-kept g c stops lists sorted none =
    c.unfiltered_run.ensures.kept stops (union_of lists)
    (c.new-stream.ensures.compacts stops (ok_results (union_of lists)) (c.in_ok-merger.ensures.yields.yields stops lists sorted none))

pub returns-clause-past : goal.returns-clause-past
returns-clause-past g c = record {
  gives = λ stops lists sorted gave u v runs last.
      let merger = c.in_ok-merger.ensures in
      let heard = c.unfiltered_run.ensures.heard _ gave u v c.new-stream.ensures.starts runs last in
      let gap = ((c.up_to_gap.ensures _ merger.before merger.until merger.ends).yields stops lists sorted).answers heard.ends heard.answers heard.led heard.runs heard.once in
      (gap.0, gap.1, heard.holds gap.0 gap.2);
}
