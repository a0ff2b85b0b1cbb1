use Rattle.sst_entries.specs.Stream.{nowhere}
use Rattle.lsm_sorted.specs.merge.MergeLaws.{every_error}
use Rattle.lsm_sorted.specs.merge.Union.{union_of}
use Rattle.lsm_sorted.proofs.GapLemmas.{merges_up_to_gap}
use Rattle.lsm_sorted.proofs.NewestPast.{answers_newest, never_called}
use Rattle.lsm_sorted.proofs.newest.newest_of.Goals as goal

pub returns-clause-starts : goal.returns-clause-starts
returns-clause-starts g c = record { source = c.in_ok-merger.merger; starts = c.new-2.ensures.starts; of = c.in_ok-merger.ensures.fresh }

pub returns-clause-yields : goal.returns-clause-yields
returns-clause-yields g c = record {
  yields = λ stops lists sorted none.
      c.new-2.ensures.newest.yields stops (union_of lists) (c.in_ok-merger.ensures.union lists).ascends
      (c.in_ok-merger.ensures.yields.yields stops lists sorted none);
}

pub returns-clause-until : goal.returns-clause-until
returns-clause-until g c = record {
  yields = λ stops lists sorted.
      c.new-2.ensures.newest.yields every_error (union_of lists) (c.in_ok-merger.ensures.union lists).ascends
      (c.in_ok-merger.ensures.before.yields stops lists sorted);
}

pub returns-clause-past : goal.returns-clause-past
returns-clause-past g c =
    answers_newest g.I.Iterator.next_gives nowhere c.args.iterators.items _ _ c.in_ok-merger.merger _ nowhere _
    (merges_up_to_gap g.I.Iterator.next_gives nowhere c.args.iterators.items _ nowhere c.in_ok-merger.merger c.in_ok-merger.ensures.before c.in_ok-merger.ensures.until c.in_ok-merger.ensures.ends)
    c.new-2.ensures.heard

pub returns-clause-over : goal.returns-clause-over
returns-clause-over g c = record {
  of = record { source = c.in_ok-merger.merger; starts = c.new-2.ensures.starts; of = c.in_ok-merger.ensures.fresh };
  until = c.in_ok-merger.ensures.until;
  late = c.in_ok-merger.ensures.late;
  late_back = never_called g.I.Iterator.next_gives nowhere c.args.iterators.items c.in_ok-merger.merger;
  ends = c.in_ok-merger.ensures.ends;
}

pub returns-clause-can : goal.returns-clause-can
returns-clause-can g c = record { asks = λ can ends. c.new-2.ensures.can.asks (c.in_ok-merger.ensures.can.asks can ends) tt }

pub returns-clause-next : goal.returns-clause-next
returns-clause-next g c can ends = c.new-2.ensures.may (c.in_ok-merger.ensures.can.asks can ends) tt
