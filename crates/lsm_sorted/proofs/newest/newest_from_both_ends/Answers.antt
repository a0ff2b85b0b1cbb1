use Rattle.sst_entries.proofs.StreamLemmas.{can_now, can_now_back}
use Rattle.lsm_sorted.specs.merge.MergeLaws.{every_error}
use Rattle.lsm_sorted.specs.merge.Union.{union_of}
use Rattle.lsm_sorted.proofs.UnionLemmas.{merged_union}
use Rattle.lsm_sorted.proofs.GapLemmas.{merges_up_to_gap}
use Rattle.lsm_sorted.proofs.NewestPast.{answers_newest, merger_read, starts_read}
use Rattle.lsm_sorted.proofs.newest.newest_from_both_ends.Goals as goal

pub returns-clause-yields : goal.returns-clause-yields
returns-clause-yields g c its h =
    let m = c.source.result.now in
    let of = merger_read its c.args.stream.now m c.source.ensures h in
    let starts = starts_read its c.args.stream.now m c.source.ensures h in
    record {
      yields = λ stops lists sorted none.
          (c.from_both_ends-2.ensures.newest m starts).yields stops (union_of lists) (merged_union lists).ascends ((c.from_both_ends.ensures.yields its of).yields stops lists sorted none);
    }

pub returns-clause-until : goal.returns-clause-until
returns-clause-until g c its h =
    let m = c.source.result.now in
    let of = merger_read its c.args.stream.now m c.source.ensures h in
    let starts = starts_read its c.args.stream.now m c.source.ensures h in
    record {
      yields = λ stops lists sorted.
          (c.from_both_ends-2.ensures.newest m starts).yields every_error (union_of lists) (merged_union lists).ascends ((c.from_both_ends.ensures.before its of).yields stops lists sorted);
    }

pub returns-clause-past : goal.returns-clause-past
returns-clause-past g c its h =
    let m = c.source.result.now in
    let of = merger_read its c.args.stream.now m c.source.ensures h in
    let starts = starts_read its c.args.stream.now m c.source.ensures h in
    answers_newest g.I.Iterator.next_gives g.I.DoubleEndedIterator.next_back_gives its _ _ m _ _ c.args.stream.now
    (merges_up_to_gap g.I.Iterator.next_gives g.I.DoubleEndedIterator.next_back_gives its _ _ m (c.from_both_ends.ensures.before its of) (c.from_both_ends.ensures.until its of) c.from_both_ends.ensures.ends)
    (c.from_both_ends-2.ensures.heard m starts)

pub returns-clause-over : goal.returns-clause-over
returns-clause-over g c its h =
    let m = c.source.result.now in
    let of = merger_read its c.args.stream.now m c.source.ensures h in
    record {
      of = record { source = m; starts = starts_read its c.args.stream.now m c.source.ensures h; of = of };
      until = c.from_both_ends.ensures.until its of;
      late = c.from_both_ends.ensures.late its of;
      late_back = c.from_both_ends.ensures.late_back its of;
      ends = c.from_both_ends.ensures.ends;
    }

pub returns-clause-can : goal.returns-clause-can
returns-clause-can g c its h =
    let m = c.source.result.now in
    let of = merger_read its c.args.stream.now m c.source.ensures h in
    let starts = starts_read its c.args.stream.now m c.source.ensures h in
    record { asks = λ can ends. (c.from_both_ends-2.ensures.can m starts).asks ((c.from_both_ends.ensures.can its of).asks can ends) tt }

pub returns-clause-next : goal.returns-clause-next
returns-clause-next g c its h can ends = can_now _ _ _ _ c.args.stream.now ((returns-clause-can g c its h).asks can ends)

pub returns-clause-next_back : goal.returns-clause-next_back
returns-clause-next_back g c its h can ends = can_now_back _ _ _ _ c.args.stream.now ((returns-clause-can g c its h).asks can ends)
