-- What was shown and what is left to show are together what is to be shown.
use Rattle.std.proofs.Common.{Bool, List}
use Rattle.sst_entries.specs.Stream.{CanYield, YieldsExactly, answer_stops}
use Rattle.sst_entries.specs.declared.error.Error.{Error}
use Rattle.lsm_iters.specs.block_index.Yielded.{YieldsEnding}
use Rattle.sst_tool.proofs.DumpLemmas.{Shows}
use Rattle.sst_tool.proofs.EndingLemmas.{Comes}
use Rattle.sst_tool.specs.show.Read.{Outcome, dumped}
use Rattle.sst_tool.proofs.show.dumps.dump_items.Given as goal

abbrev pub invariant-loop-left : goal.invariant-loop-left
invariant-loop-left g l =
    CanYield g.I.Lending.advances g.I.DoubleEndedIterator.next_back_gives g.I.Lending.can_advance
    g.I.DoubleEndedIterator.can_next_back l.items
    × ((stops : Error → Bool) (rs : List Outcome)
    → YieldsExactly (answer_stops stops) g.I.Lending.advances g.I.DoubleEndedIterator.next_back_gives
    l.fn.items rs
    → Shows g.I.Lending.advances g.I.DoubleEndedIterator.next_back_gives stops l.items l.options.reverse
    l.left l.fn.most (dumped l.options.reverse l.fn.most rs))
    × ((rs : List Outcome)
    → YieldsEnding g.I.Lending.advances g.I.DoubleEndedIterator.next_back_gives (λ _. Unit {0})
    (λ _. Unit {0}) l.fn.items rs
    → Comes g.I.Lending.advances g.I.DoubleEndedIterator.next_back_gives l.items
    l.options.reverse l.left (dumped l.options.reverse l.fn.most rs))

abbrev pub decreases-loop-left : goal.decreases-loop-left
decreases-loop-left g l = l.left
