use Rattle.sst_entries.specs.Stream.{ok_results}
use Rattle.lsm_sorted.specs.merge.Union.{union_of}
use Rattle.lsm_sorted.specs.merge.MergeLaws.{every_error}
use Rattle.test_layers.proofs.sorted.laws.merged_from_the_front.Goals as goal

pub returns-clause-yields : goal.returns-clause-yields
returns-clause-yields g c = record {
  yields = λ stops lists sorted.
      c.from_the_front.ensures.yields every_error (ok_results (union_of lists))
      ((c.from_both_ends.ensures.before c.args.iterators.items c.in_ok-merger.ensures.fresh).yields stops lists sorted);
}
