use Rattle.std.proofs.Common.{take, length, ◌-◌}
use Rattle.sst_entries.specs.Stream.{CanYield, Runs}
use Rattle.sst_entries.proofs.stream.answers_at.Given as goal

abbrev pub invariant-loop-end : goal.invariant-loop-end
invariant-loop-end g l = record {
  can : CanYield g.I.Iterator.next_gives g.I.DoubleEndedIterator.next_back_gives
      g.I.Iterator.can_next g.I.DoubleEndedIterator.can_next_back l.source;
  ran : Runs g.I.Iterator.next_gives g.I.DoubleEndedIterator.next_back_gives l.fn.source
      (take l.end-index l.ends) l.answers.items l.source;
}

abbrev pub decreases-loop-end : goal.decreases-loop-end
decreases-loop-end g l = length l.ends - l.end-index
