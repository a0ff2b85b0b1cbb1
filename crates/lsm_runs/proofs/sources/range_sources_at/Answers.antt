use Rattle.std.specs.Iterator.{at_most}
use Rattle.std.specs.Prelude.{map, ℕ}
use Rattle.std.proofs.Common.{◌++◌, ◌∙◌, ap}
use Rattle.sst_entries.specs.Stream.{back_of, front_of}
use Rattle.sst_entries.proofs.StreamLemmas.{can_now, can_now_back}
use Rattle.lsm_sorted.proofs.PackLemmas.{if_ok}
use Rattle.lsm_sorted.specs.Below.{below_of}
use Rattle.lsm_runs.specs.RunLists.{single}
use Rattle.lsm_runs.specs.RunRange.{RunGives, back_tables, front_tables, run_size}
use Rattle.lsm_runs.proofs.Numbered.{can_as, yielded_as, newest_numbered_of, none_cut, past_as, starts_as}
use Rattle.lsm_runs.proofs.RunLaws.{if_ok_both, run_yields}
use Rattle.lsm_runs.proofs.AllSources.{Behind, InFront, each_asked, each_ends, together_all}
use Rattle.lsm_runs.proofs.Together.{all_of, union_cut}
use Rattle.lsm_runs.proofs.sources.range_sources_at.Goals as goal

pub returns-clause-list : goal.returns-clause-list
returns-clause-list g c lists held further yield_each =
    let low = c.args.range.0 in
    let high = c.args.range.1 in
    let all = map single further ++ lists in
    if_ok c.newest_stream.result
    (λ s yields. newest_numbered_of c.args.seqno (InFront (RunGives front_of front_tables) (RunGives back_of back_tables) g.S.Iterator.next_gives g.S.DoubleEndedIterator.next_back_gives) (Behind (RunGives front_of front_tables) (RunGives back_of back_tables) g.S.Iterator.next_gives g.S.DoubleEndedIterator.next_back_gives) _ _ _ _ _ s c.in_ok-below.below.items _ _ _
    (c.in_ok-below.ensures.of ∙ ap (map (below_of c.args.seqno)) c.in_ok-all.ensures.of)
    (union_cut {S = ℕ} (λ _ _ _. ℕ) (λ _ _ _. ℕ) low high all)
    (together_all (RunGives front_of front_tables) (RunGives back_of back_tables) g.S.Iterator.next_gives g.S.DoubleEndedIterator.next_back_gives low high c.in_ok-readers.readers.items c.args.sources.items lists further (c.in_ok-readers.ensures.list lists held) yield_each) yields)
    c.newest_stream.ensures.yields

pub returns-clause-whole : goal.returns-clause-whole
returns-clause-whole g c lists held further yield_each below =
    if_ok c.newest_stream.result
    (λ s yields. yielded_as _ _ s _ _ (none_cut c.args.seqno c.args.range.0 c.args.range.1 (map single further ++ lists) below) yields)
    (returns-clause-list g c lists held further yield_each)

pub returns-clause-steps : goal.returns-clause-steps
returns-clause-steps g c order =
    let readers = c.in_ok-readers.readers.items in
    let are = c.in_ok-below.ensures.of ∙ ap (map (below_of c.args.seqno)) c.in_ok-all.ensures.of in
    if_ok_both c.newest_stream.result
    (λ s starts past. record {
      readers = readers;
      spans = c.in_ok-readers.ensures.spans order;
      yield_each = all_of _ (λ r. run_yields r) readers;
      of = starts_as s _ _ are starts;
      answers = past_as _ _ _ _ s _ _ are past;
    })
    c.newest_stream.ensures.starts c.newest_stream.ensures.past

pub returns-clause-can : goal.returns-clause-can
returns-clause-can g c may ends =
    let readers = c.in_ok-readers.readers.items in
    let sources = c.args.sources.items in
    if_ok c.newest_stream.result
    (λ s can. (can_as _ _ _ _ s _ _ (c.in_ok-below.ensures.of ∙ ap (map (below_of c.args.seqno)) c.in_ok-all.ensures.of) _ _ _ _ _ can).asks
    (each_asked (RunGives front_of front_tables) (RunGives back_of back_tables) g.S.Iterator.next_gives g.S.DoubleEndedIterator.next_back_gives (λ _. Unit {0}) (λ _. Unit {0}) g.S.Iterator.can_next g.S.DoubleEndedIterator.can_next_back (λ u. at_most (run_size u)) g.S.Iterator.remaining c.args.seqno readers sources (all_of _ (λ r. (run_yields r).can) readers) (all_of _ (λ r. tt) readers) may ends)
    (each_ends (RunGives front_of front_tables) (RunGives back_of back_tables) g.S.Iterator.next_gives g.S.DoubleEndedIterator.next_back_gives (λ _. Unit {0}) (λ _. Unit {0}) g.S.Iterator.can_next g.S.DoubleEndedIterator.can_next_back (λ u. at_most (run_size u)) g.S.Iterator.remaining c.args.seqno readers sources (all_of _ (λ r. tt) readers) ends))
    c.newest_stream.ensures.can

pub returns-clause-next : goal.returns-clause-next
returns-clause-next g c may ends = if_ok c.newest_stream.result (λ s can. can_now _ _ _ _ s can) (returns-clause-can g c may ends)

pub returns-clause-next_back : goal.returns-clause-next_back
returns-clause-next_back g c may ends = if_ok c.newest_stream.result (λ s can. can_now_back _ _ _ _ s can) (returns-clause-can g c may ends)
