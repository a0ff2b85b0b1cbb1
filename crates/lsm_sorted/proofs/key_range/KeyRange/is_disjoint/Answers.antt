-- A range that overlaps no later one may be left out.
use Rattle.std.proofs.Common.{◌∙◌, sym, arith}
use Rattle.lsm_sorted.proofs.SpanLemmas.{disjoint_rest, disjoint_stops}
use Rattle.lsm_sorted.proofs.key_range.KeyRange.is_disjoint.Goals as goal

pub loop-place-preserved : goal.loop-place-preserved
loop-place-preserved g c =
    c.loop-place.invariant
    ∙ disjoint_rest c.args.ranges.now c.loop-place.place c.index-ranges-place.result c.split_at.result.1.now c.overlaps_any.result (omega arith) c.index-ranges-place.is c.split_at.ensures.back c.overlaps_any.ensures c.if-overlaps_any.false

pub returns-then-overlaps_any : goal.returns-then-overlaps_any
returns-then-overlaps_any g c =
    sym (c.loop-place.invariant
    ∙ disjoint_stops c.args.ranges.now c.loop-place.place c.index-ranges-place.result c.split_at.result.1.now c.overlaps_any.result (omega arith) c.index-ranges-place.is c.split_at.ensures.back c.overlaps_any.ensures c.if-overlaps_any.true)
