use Rattle.sst_entries.specs.Stream.{CanYield}
use Rattle.test_layers.proofs.sorted.words.answers_so.Given as goal

abbrev pub invariant-loop-letter : goal.invariant-loop-letter
invariant-loop-letter g l =
    CanYield g.I.Iterator.next_gives g.I.DoubleEndedIterator.next_back_gives g.I.Iterator.can_next
    g.I.DoubleEndedIterator.can_next_back l.stream
