use Rattle.lsm_sorted.proofs.YieldsMerged.{new_may}
use Rattle.lsm_sorted.proofs.CallsMerged.{front_merges, back_merges, merger_yields, merger_until}
use Rattle.lsm_sorted.proofs.CallsMerged.{ends_at, can_both, holds_two}
use Rattle.lsm_sorted.proofs.LateErrors.{merger_late, merger_late_back}
use Rattle.lsm_sorted.specs.merge.Union.{union_of, all_errors}
use Rattle.lsm_sorted.proofs.UntilLemmas.{yields_until_error}
use Rattle.lsm_sorted.proofs.merge.from_both_ends.Goals as goal

pub returns-clause-yields : goal.returns-clause-yields
returns-clause-yields g c its of =
    let front = g.I.Iterator.next_gives in
    let back = g.I.DoubleEndedIterator.next_back_gives in
    merger_yields front back _ _ (front_merges front back _) (back_merges front back _) its c.args.merger.now of

pub returns-clause-until : goal.returns-clause-until
returns-clause-until g c its of =
    let front = g.I.Iterator.next_gives in
    let back = g.I.DoubleEndedIterator.next_back_gives in
    merger_until front back _ _ (front_merges front back _) (back_merges front back _) its c.args.merger.now of

pub returns-clause-ends : goal.returns-clause-ends
returns-clause-ends g c =
    let front = g.I.Iterator.next_gives in
    let back = g.I.DoubleEndedIterator.next_back_gives in
    ends_at front back _ _ (front_merges front back _) (back_merges front back _) c.args.merger.now

pub returns-clause-can : goal.returns-clause-can
returns-clause-can g c its of =
    let front = g.I.Iterator.next_gives in
    let back = g.I.DoubleEndedIterator.next_back_gives in
    let can = g.I.Iterator.can_next in
    let can_back = g.I.DoubleEndedIterator.can_next_back in
    let left = g.I.Iterator.remaining in
    record {
      asks = λ may ends. can_both front back can can_back left c.args.merger.now (new_may front back c.args.merger.now its of.sources of.empty of.no_front of.no_back of.fine can can_back left of.space may ends);
    }

pub returns-clause-few : goal.returns-clause-few
returns-clause-few g c its of = holds_two g.I.Iterator.next_gives g.I.DoubleEndedIterator.next_back_gives _ _ its c.args.merger.now of

pub returns-clause-late : goal.returns-clause-late
returns-clause-late g c its of = merger_late g.I.Iterator.next_gives g.I.DoubleEndedIterator.next_back_gives _ its c.args.merger.now of

pub returns-clause-late_back : goal.returns-clause-late_back
returns-clause-late_back g c its of = merger_late_back g.I.Iterator.next_gives g.I.DoubleEndedIterator.next_back_gives _ its c.args.merger.now of

pub returns-clause-before : goal.returns-clause-before
returns-clause-before g c its of = record {
  yields = λ stops lists sorted. yields_until_error stops _ _ _ (union_of lists) (all_errors lists) ((returns-clause-until g c its of).yields stops lists sorted);
}
