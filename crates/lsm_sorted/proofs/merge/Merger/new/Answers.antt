use Rattle.std.proofs.Common.{refl, arith}
use Rattle.sst_entries.specs.Stream.{nowhere}
use Rattle.lsm_sorted.proofs.UnionLemmas.{merged_union, only_union}
use Rattle.lsm_sorted.proofs.YieldsMerged.{new_may}
use Rattle.lsm_sorted.proofs.CallsMerged.{front_merges, merger_yields, merger_until, ends_at}
use Rattle.lsm_sorted.proofs.CallsMerged.{can_in_front, holds_one}
use Rattle.lsm_sorted.proofs.LateErrors.{merger_late}
use Rattle.lsm_sorted.specs.merge.Union.{union_of, all_errors}
use Rattle.lsm_sorted.proofs.UntilLemmas.{yields_until_error}
use Rattle.lsm_sorted.proofs.merge.Merger.new.Goals as goal

pub returns-clause-union : goal.returns-clause-union
returns-clause-union g c = merged_union

pub returns-clause-only : goal.returns-clause-only
returns-clause-only g c = only_union

pub returns-clause-fresh : goal.returns-clause-fresh
returns-clause-fresh g c = record {
  sources = c.in_ok-sources.ensures.ok;
  empty = c.in_ok-heap.ensures.empty;
  space = omega (arith, c.in_ok-heap.ensures.room, c.in-Some.ensures, c.len.ensures);
  no_front = refl;
  no_back = refl;
  fine = refl;
}

pub returns-clause-yields : goal.returns-clause-yields
returns-clause-yields g c =
    let front = g.I.Iterator.next_gives in
    merger_yields front nowhere _ nowhere (front_merges front nowhere _) (λ s r t no. absurd no) _ _ (returns-clause-fresh g c)

pub returns-clause-until : goal.returns-clause-until
returns-clause-until g c =
    let front = g.I.Iterator.next_gives in
    merger_until front nowhere _ nowhere (front_merges front nowhere _) (λ s r t no. absurd no) _ _ (returns-clause-fresh g c)

pub returns-clause-ends : goal.returns-clause-ends
returns-clause-ends g c =
    let front = g.I.Iterator.next_gives in
    ends_at front nowhere _ nowhere (front_merges front nowhere _) (λ s r t no. absurd no) _

pub returns-clause-can : goal.returns-clause-can
returns-clause-can g c =
    let front = g.I.Iterator.next_gives in
    let can = g.I.Iterator.can_next in
    let left = g.I.Iterator.remaining in
    let of = returns-clause-fresh g c in
    record {
      asks = λ may ends. can_in_front front nowhere can can left _ (new_may front nowhere _ _ of.sources of.empty of.no_front of.no_back of.fine can can left of.space may ends);
    }

pub returns-clause-few : goal.returns-clause-few
returns-clause-few g c = holds_one g.I.Iterator.next_gives _ _ _ (returns-clause-fresh g c)

pub returns-clause-late : goal.returns-clause-late
returns-clause-late g c = merger_late g.I.Iterator.next_gives nowhere _ _ _ (returns-clause-fresh g c)

pub returns-clause-before : goal.returns-clause-before
returns-clause-before g c = record {
  yields = λ stops lists sorted. yields_until_error stops _ _ _ (union_of lists) (all_errors lists) ((returns-clause-until g c).yields stops lists sorted);
}
