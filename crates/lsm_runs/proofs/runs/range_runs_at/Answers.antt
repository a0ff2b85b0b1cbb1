use Rattle.std.specs.Prelude.{ℕ}
use Rattle.std.specs.Iterator.{at_most}
use Rattle.sst_entries.specs.Stream.{back_of, front_of}
use Rattle.sst_entries.proofs.StreamLemmas.{can_now, can_now_back}
use Rattle.lsm_sorted.proofs.PackLemmas.{if_ok}
use Rattle.lsm_sorted.proofs.BelowLemmas.{can_below}
use Rattle.lsm_runs.specs.RunRange.{RunGives, back_tables, front_tables, run_size}
use Rattle.lsm_runs.proofs.Numbered.{yielded_as, newest_numbered_of, none_cut, past_as, starts_as}
use Rattle.lsm_runs.proofs.RunLaws.{if_ok_both, run_yields}
use Rattle.lsm_runs.proofs.Together.{all_of, union_cut}
use Rattle.lsm_runs.proofs.runs.range_runs_at.Goals as goal

pub returns-clause-list : goal.returns-clause-list
returns-clause-list g c lists held =
    let low = c.args.range.0 in
    let high = c.args.range.1 in
    if_ok c.newest_stream.result
    (λ s yields. newest_numbered_of c.args.seqno (RunGives front_of front_tables) (RunGives back_of back_tables) (λ _. Unit {0}) (λ _. Unit {0}) (λ u. at_most (run_size u)) _ _ s c.in_ok-sources.sources.items c.in_ok-within.within.items _ _
    c.in_ok-sources.ensures.of (union_cut {S = ℕ} (λ _ _ _. ℕ) (λ _ _ _. ℕ) low high lists) (c.in_ok-within.ensures.list lists held) yields)
    c.newest_stream.ensures.yields

pub returns-clause-whole : goal.returns-clause-whole
returns-clause-whole g c lists held all =
    if_ok c.newest_stream.result
    (λ s yields. yielded_as _ _ s _ _ (none_cut c.args.seqno c.args.range.0 c.args.range.1 lists all) yields)
    (returns-clause-list g c lists held)

pub returns-clause-can : goal.returns-clause-can
returns-clause-can g c =
    let sources = c.in_ok-sources.sources.items in
    if_ok c.newest_stream.result
    (λ s can. can.asks (all_of _ (λ b. can_below (RunGives front_of front_tables) (RunGives back_of back_tables) (λ _. Unit {0}) (λ _. Unit {0}) (λ u. at_most (run_size u)) b (record { asks = (run_yields b.iter).can; ends = tt })) sources) (all_of _ (λ b. tt) sources))
    c.newest_stream.ensures.can

pub returns-clause-next : goal.returns-clause-next
returns-clause-next g c = if_ok c.newest_stream.result (λ s can. can_now _ _ _ _ s can) (returns-clause-can g c)

pub returns-clause-next_back : goal.returns-clause-next_back
returns-clause-next_back g c = if_ok c.newest_stream.result (λ s can. can_now_back _ _ _ _ s can) (returns-clause-can g c)

pub returns-clause-steps : goal.returns-clause-steps
returns-clause-steps g c order =
    let readers = c.in_ok-within.within.items in
    let are = c.in_ok-sources.ensures.of in
    if_ok_both c.newest_stream.result
    (λ s starts past. record {
      readers = readers;
      spans = c.in_ok-within.ensures.spans order;
      yield_each = all_of _ (λ r. run_yields r) readers;
      of = starts_as s _ _ are starts;
      answers = past_as _ _ _ _ s _ _ are past;
    })
    c.newest_stream.ensures.starts c.newest_stream.ensures.past
