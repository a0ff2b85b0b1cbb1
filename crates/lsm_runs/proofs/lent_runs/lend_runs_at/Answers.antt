use Rattle.std.specs.Prelude.{ℕ, map}
use Rattle.std.specs.Arc.{arc_value}
use Rattle.sst_entries.proofs.StreamLemmas.{can_now}
use Rattle.lsm_sorted.proofs.PackLemmas.{if_ok}
use Rattle.lsm_runs.specs.LentRun.{RunLends}
use Rattle.sst_entries.specs.Stream.{back_of}
use Rattle.lsm_runs.specs.RunRange.{RunGives, back_tables, run_size}
use Rattle.lsm_sorted.proofs.LentBelows.{can_lend_below}
use Rattle.lsm_runs.proofs.LentPlaces.{newest_places}
use Rattle.lsm_runs.proofs.LentRunLaws.{lending_front}
use Rattle.lsm_runs.proofs.LentTogether.{newest_below, together_front}
use Rattle.lsm_runs.proofs.Numbered.{yielded_as, none_cut}
use Rattle.lsm_runs.proofs.Together.{all_of, union_cut}
use Rattle.lsm_runs.proofs.lent_runs.lend_runs_at.Goals as goal

pub returns-clause-list : goal.returns-clause-list
returns-clause-list g c lists held =
    let low = c.args.range.0 in
    let high = c.args.range.1 in
    if_ok c.lent_stream.result
    (λ s law. newest_below c.args.seqno RunLends (λ _. Unit {0}) run_size _ s c.in_ok-readers.readers.items _ _ c.in_ok-below.below.items
    c.in_ok-below.ensures.of (union_cut {S = ℕ} (λ _ _ _. ℕ) (λ _ _ _. ℕ) low high lists) (together_front RunLends (RunGives back_of back_tables) _ _ (c.in_ok-readers.ensures.lends lists held)) law)
    c.lent_stream.ensures.yields

pub returns-clause-whole : goal.returns-clause-whole
returns-clause-whole g c lists held all =
    if_ok c.lent_stream.result
    (λ s yields. yielded_as _ _ s _ _ (none_cut c.args.seqno c.args.range.0 c.args.range.1 lists all) yields)
    (returns-clause-list g c lists held)

pub returns-clause-can : goal.returns-clause-can
returns-clause-can g c =
    c.lent_stream.ensures.can (all_of _ (λ b. can_lend_below RunLends (λ _. Unit {0}) run_size b (lending_front b.iter).can) c.in_ok-below.below.items)

pub returns-clause-advance : goal.returns-clause-advance
returns-clause-advance g c = if_ok c.lent_stream.result (λ s can. can_now _ _ _ _ s can) (returns-clause-can g c)

pub returns-clause-places : goal.returns-clause-places
returns-clause-places g c order up =
    if_ok c.lent_stream.result
    (λ s law. newest_places c.args.seqno _ s c.args.range.0 c.args.range.1 (map arc_value c.args.runs.now) c.in_ok-readers.readers.items c.in_ok-below.below.items c.in_ok-below.ensures.of (c.in_ok-readers.ensures.spans order) up law)
    c.lent_stream.ensures.yields
