use Rattle.std.proofs.Common.{◌≡◌, sym, ◌∙◌, ap, subst, List, [], ◌∷◌, ◌++◌}
use Rattle.std.specs.Prelude.{map}
use Rattle.std.specs.Arc.{arc_value}
use Rattle.lsm_tables.specs.Words.{Entry, IsStrict, OpenTable, RunsHoldLists, all_shown, newest}
use Rattle.lsm_tables.specs.Words.{numbered_below, single, sort_entries, union_in, within}
use Rattle.example_store.specs.Story.{Holding, IsStore}
use Rattle.example_store.proofs.Ranges.{yielded_as, yielded_result, range_results}
use Rattle.example_store.proofs.store.Store.range.Goals as goal

pub returns-clause-read : goal.returns-clause-read
returns-clause-read g c lists held =
    let is = c.self.view_is in
    let s = c.args.self.now in
    let low = c.args.bounds.0 in
    let high = c.args.bounds.1 in
    let es = c.self.inside.memtable in
    let recent : es ≡ s.recent = ap (λ (h : Holding). h.recent) is in
    let same : map arc_value c.deref.result.now ≡ s.runs = ap (map arc_value) c.deref.ensures.value ∙ ap (λ (h : Holding). h.runs) is in
    let hold = subst (λ (rs : List (List OpenTable)). RunsHoldLists rs lists) (sym same) held in
    yielded_as _ _ c.lend_beside.result (λ (xs : List Entry). newest (numbered_below c.args.snapshot (within low high (union_in (single xs ∷ lists))))) es s.recent recent
    (c.lend_beside.ensures.list lists hold es c.lend-recent.ensures.strict c.lend-recent.ensures.list)

pub returns-clause-returned : goal.returns-clause-returned
returns-clause-returned g c ws returned kept =
    let is = c.self.view_is in
    let s = c.args.self.now in
    let low = c.args.bounds.0 in
    let high = c.args.bounds.1 in
    let below = c.args.snapshot in
    let es = c.self.inside.memtable in
    let strict = c.lend-recent.ensures.strict in
    let recent = ap (λ (h : Holding). h.recent) is in
    let same : map arc_value c.deref.result.now ≡ s.runs = ap (map arc_value) c.deref.ensures.value ∙ ap (λ (h : Holding). h.runs) is in
    let hold = subst (λ (rs : List (List OpenTable)). RunsHoldLists rs returned.lists) (sym same) returned.hold in
    let found = newest (numbered_below below (within low high (union_in (map single (es ∷ []) ++ returned.lists)))) in
    let says = all_shown (newest (numbered_below below (within low high (sort_entries ws)))) in
    yielded_result _ _ (λ (xs : List Entry). all_shown xs ≡ says) c.lend_beside.result found
    (c.lend_beside.ensures.list returned.lists hold es strict c.lend-recent.ensures.list)
    (subst (λ (xs : List Entry). all_shown (newest (numbered_below below (within low high (union_in (map single (xs ∷ []) ++ returned.lists))))) ≡ says) (sym recent)
    (range_results s ws low high below (subst IsStore is c.self.invariant) (subst IsStrict recent strict) returned kept))
