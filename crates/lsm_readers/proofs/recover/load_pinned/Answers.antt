use Rattle.std.proofs.Common.{List, ap, subst, sym, ◌∙◌}
use Rattle.std.specs.Prelude.{Option, Result, Ok}
use Rattle.sst_entries.specs.declared.error.Error.{Error}
use Rattle.sst_entries.specs.Error.{Gives}
use Rattle.sst_blocks.specs.filter.Filter.{BloomFilter}
use Rattle.sst_blocks.specs.Handle.{Handle}
use Rattle.sst_blocks.specs.Place.{Place}
use Rattle.lsm_readers.specs.declared.pinned.PinnedBlockIndex.{PinnedBlockIndex}
use Rattle.lsm_readers.specs.point.IndexKinds.{pinned_index_of}
use Rattle.lsm_readers.specs.point.Parts.{Pinned, filter_result, pinned_result}
use Rattle.lsm_readers.specs.point.Table.{pinned_of}
use Rattle.lsm_readers.proofs.Steps.{goes_on, fails_here, fails_later, passes_fault, beside_fails}
use Rattle.lsm_readers.proofs.Steps.{beside_first, beside_gives}
use Rattle.lsm_readers.proofs.recover.load_pinned.Goals as goal

-- what is told, by what stays loaded
abbrev returned : {A : Type 0} → PinnedBlockIndex A → Option (List Handle) → Option BloomFilter → Result Pinned Error
returned index tops filter = Ok (record { index = pinned_index_of index; filter_tops = tops; filter = filter })

pub returns-in_err-index-clause-returned : goal.returns-in_err-index-clause-returned
unfolding pinned_result
returns-in_err-index-clause-returned g c known =
    passes_fault (pinned_of {A = g.row.S-Alloc.Denot}) c.from_residual.result _ c.in_err-index.field-0.0 c.from_residual.ensures.1
    (fails_here _ _ _ (c.in_err-index.ensures.returned known))

pub returns-in_err-index-2-clause-returned : goal.returns-in_err-index-2-clause-returned
unfolding pinned_result
returns-in_err-index-2-clause-returned g c known =
    passes_fault (pinned_of {A = g.row.S-Alloc.Denot}) c.from_residual-in_err-index-2.result _ c.in_err-index-2.field-0.0 c.from_residual-in_err-index-2.ensures.1
    (fails_later _ _ _ _ (c.in_ok-index.ensures.returned known)
    (fails_here _ _ _ (beside_fails (λ (tops : Option (List Handle)). tops) c.in_ok-index.index c.load_filter_index.result _ _ (rw c.in_ok-index.ensures.body at (c.load_filter_index.ensures.returned known)) c.in_err-index-2.ensures.both)))

pub returns-in_err-tops-clause-returned : goal.returns-in_err-tops-clause-returned
unfolding pinned_result
returns-in_err-tops-clause-returned g c known =
    let second = c.in_ok-index-2 in
    let filter = subst (λ (place : Option Place). Gives (λ (f : Option BloomFilter). f) c.load_filter.result (filter_result (g.S.LoadBlocks.body c.args.source.now) place)) c.filter_to_pin-pinned.ensures (rw (c.load_filter_index.ensures.body, c.in_ok-index.ensures.body) at (c.load_filter.ensures.returned known)) in
    passes_fault (pinned_of {A = g.row.S-Alloc.Denot}) c.from_residual-in_err-tops.result _ c.in_err-tops.field-0.0 c.from_residual-in_err-tops.ensures.1
    (fails_later _ _ _ _ (c.in_ok-index.ensures.returned known)
    (fails_later _ _ _ _ (beside_gives (λ (tops : Option (List Handle)). tops) c.in_ok-index.index c.load_filter_index.result _ second.index second.filter_index (rw c.in_ok-index.ensures.body at (c.load_filter_index.ensures.returned known)) second.ensures.both)
    (fails_here _ _ _ (beside_fails (λ (f : Option BloomFilter). f) (second.index, second.filter_index) c.load_filter.result _ _ filter c.in_err-tops.ensures.both))))

pub returns-clause-returned : goal.returns-clause-returned
unfolding pinned_result
returns-clause-returned g c known =
    let first = c.in_ok-index.index in
    let second = c.in_ok-index-2 in
    let third = c.in_ok-tops in
    let filter = subst (λ (place : Option Place). Gives (λ (f : Option BloomFilter). f) c.load_filter.result (filter_result (g.S.LoadBlocks.body c.args.source.now) place)) c.filter_to_pin-pinned.ensures (rw (c.load_filter_index.ensures.body, c.in_ok-index.ensures.body) at (c.load_filter.ensures.returned known)) in
    goes_on _ _ _ _ (c.in_ok-index.ensures.returned known)
    (goes_on _ _ _ _ (beside_gives (λ (tops : Option (List Handle)). tops) first c.load_filter_index.result _ second.index second.filter_index (rw c.in_ok-index.ensures.body at (c.load_filter_index.ensures.returned known)) second.ensures.both)
    (goes_on _ _ _ _ (beside_gives (λ (f : Option BloomFilter). f) (second.index, second.filter_index) c.load_filter.result _ third.tops third.filter_block filter third.ensures.both)
    (ap (λ (index : PinnedBlockIndex g.row.S-Alloc.Denot). returned index second.filter_index third.filter_block) (sym (beside_first first c.load_filter_index.result second.index second.filter_index second.ensures.both))
    ∙ ap (λ (p : PinnedBlockIndex g.row.S-Alloc.Denot × Option (List Handle)). returned p.0 p.1 third.filter_block) (sym (beside_first (second.index, second.filter_index) c.load_filter.result third.tops third.filter_block third.ensures.both)))))
