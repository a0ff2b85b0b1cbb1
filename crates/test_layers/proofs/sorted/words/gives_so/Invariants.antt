use Rattle.sst_entries.specs.Stream.{CanYield, nowhere}
use Rattle.test_layers.proofs.sorted.words.gives_so.Given as goal

abbrev pub invariant-loop-word : goal.invariant-loop-word
invariant-loop-word g l =
    CanYield g.I.Iterator.next_gives nowhere g.I.Iterator.can_next g.I.Iterator.can_next l.stream
