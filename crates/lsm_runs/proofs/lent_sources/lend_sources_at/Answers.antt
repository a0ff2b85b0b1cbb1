use Rattle.std.specs.Prelude.{All, ℕ, map}
use Rattle.std.specs.Arc.{arc_value}
use Rattle.std.proofs.Common.{◌++◌, ◌∙◌, ap, subst, sym}
use Rattle.sst_entries.proofs.StreamLemmas.{can_now}
use Rattle.sst_entries.specs.Stream.{back_of, nowhere}
use Rattle.lsm_sorted.proofs.PackLemmas.{if_ok}
use Rattle.lsm_sorted.specs.Below.{below_of}
use Rattle.lsm_runs.specs.LentRun.{RunLends}
use Rattle.lsm_runs.specs.RunLists.{CanLend, single}
use Rattle.lsm_runs.specs.RunRange.{RunGives, back_tables}
use Rattle.lsm_runs.proofs.AllSources.{Behind, InFront, together_all}
use Rattle.lsm_runs.proofs.LentSources.{Can, CanLow, Lends, Low, all_can, all_left, newest_of_all}
use Rattle.lsm_runs.proofs.LentTogether.{newest_below, together_front}
use Rattle.lsm_runs.proofs.Together.{union_cut}
use Rattle.lsm_runs.proofs.lent_sources.lend_sources_at.Goals as goal

pub returns-clause-list : goal.returns-clause-list
returns-clause-list g c lists held further within =
    let low = c.args.range.0 in
    let high = c.args.range.1 in
    let next = g.L.Lending.advances in
    if_ok c.lent_stream.result
    (λ s law. newest_below c.args.seqno (Lends next g.L.Lending.can_advance g.L.Lending.left c.args.seqno) (Can next g.L.Lending.can_advance g.L.Lending.left c.args.seqno) (all_left next g.L.Lending.can_advance g.L.Lending.left c.args.seqno) _ s _ _ _ c.in_ok-below.below.items
    (c.in_ok-below.ensures.of ∙ ap (map (below_of c.args.seqno)) c.in_ok-all.ensures.of) (union_cut {S = ℕ} (λ _ _ _. ℕ) (λ _ _ _. ℕ) low high (map single further ++ lists))
    (together_front (InFront RunLends nowhere next nowhere) (Behind RunLends nowhere next nowhere) _ _
    (together_all RunLends nowhere next nowhere low high c.in_ok-readers.readers.items c.args.sources.items lists further
    (together_front RunLends (RunGives back_of back_tables) _ _ (c.in_ok-readers.ensures.lends lists held)) within)) law)
    c.lent_stream.ensures.yields

pub returns-clause-places : goal.returns-clause-places
returns-clause-places g c given each order up =
    if_ok c.lent_stream.result
    (λ s law. newest_of_all g.L.Lending.advances g.L.Lending.can_advance g.L.Lending.left c.args.seqno _ s c.args.range.0 c.args.range.1 (map arc_value c.args.runs.now) c.in_ok-readers.readers.items c.args.sources.items given c.in_ok-below.below.items (c.in_ok-below.ensures.of ∙ ap (map (below_of c.args.seqno)) c.in_ok-all.ensures.of) (c.in_ok-readers.ensures.spans order) each up law)
    c.lent_stream.ensures.yields

pub returns-clause-can : goal.returns-clause-can
returns-clause-can g c may =
    c.lent_stream.ensures.can (subst (All (CanLend (Low g.L.Lending.advances g.L.Lending.can_advance g.L.Lending.left c.args.seqno) (CanLow g.L.Lending.advances g.L.Lending.can_advance g.L.Lending.left c.args.seqno))) (sym (c.in_ok-below.ensures.of ∙ ap (map (below_of c.args.seqno)) c.in_ok-all.ensures.of)) (all_can g.L.Lending.advances g.L.Lending.can_advance g.L.Lending.left c.args.seqno c.in_ok-readers.readers.items c.args.sources.items may))

pub returns-clause-advance : goal.returns-clause-advance
returns-clause-advance g c may = if_ok c.lent_stream.result (λ s can. can_now _ _ _ _ s can) (returns-clause-can g c may)
