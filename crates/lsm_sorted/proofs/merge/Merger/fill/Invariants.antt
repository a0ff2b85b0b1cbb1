use Rattle.std.proofs.Common.{◌≤◌}
use Rattle.sst_entries.specs.Stream.{Steps}
use Rattle.lsm_sorted.specs.merge.Merge.{SameRoom, merge_total}
use Rattle.lsm_sorted.specs.merge.Asks.{AsksEach}
use Rattle.lsm_sorted.proofs.RoomLemmas.{FilledTo}
use Rattle.lsm_sorted.proofs.merge.Merger.fill.Given as goal

abbrev pub invariant-loop-i : goal.invariant-loop-i
invariant-loop-i g l =
    let left = g.I.Iterator.remaining in
    record {
      filled : FilledTo g.I.Iterator.next_gives g.E.End.back_gives g.I.Iterator.can_next
          g.E.End.can_back left g.E.End.end l.initial.self l.i l.self;
      same : SameRoom l.initial.self l.self;
      lowers : merge_total left l.self ≤ merge_total left l.initial.self;
      each : AsksEach (Steps g.I.Iterator.next_gives g.E.End.back_gives g.E.End.end) g.E.End.end l.i
          l.initial.self l.self;
    }
