-- Whole compactions, by what their source gave.
use Rattle.std.proofs.Common.{◌≡◌, refl, sym, ◌∙◌, ap, subst, List, [], ◌∷◌}
use Rattle.std.specs.Prelude.{Option, Some, None, Result}
use Rattle.std.specs.Iterator.{Count, Yields}
use Rattle.sst_entries.specs.Entry.{Entry}
use Rattle.sst_entries.specs.declared.error.Error.{Error}
use Rattle.sst_entries.specs.declared.stream.Direction.TheVariants.{Front}
use Rattle.sst_entries.specs.Stream.{nowhere}
use Rattle.lsm_sorted.specs.merge.Ends.{R}
use Rattle.lsm_sorted.specs.declared.compaction.stream.CompactionStream.{CompactionStream}
use Rattle.lsm_sorted.specs.declared.compaction.Rules.{Rules}
use Rattle.lsm_sorted.specs.Compaction.{Verdict, outs, as_they_are}
use Rattle.lsm_sorted.specs.Compacting.{Calls, Compacted}
use Rattle.lsm_sorted.specs.CompactionState.{rules_of, filter_of, callback_of, compaction_outlook}
use Rattle.lsm_sorted.specs.CompactionState.{CallsIn, CompactsNext, CompactsHeard, GivesOuts}
use Rattle.lsm_sorted.proofs.CallLemmas.{call_more, call_none}
use Rattle.lsm_sorted.proofs.HeardLemmas.{HeardFrom, heard_none, heard_call, heard_all}
use Rattle.lsm_sorted.proofs.WholeLemmas.{KeepsAll, call_last, call_keeps}

-- what was given, and then `None`
abbrev to_the_end : List R → List (Option R)
to_the_end [] = None ∷ []
to_the_end (r ∷ rs) = Some r ∷ to_the_end rs

module _ {S F C : Type 0} (front : S → Option R → S → Type 0) (can : S → Type 0) (left : S → Count)
    (gives : F → Entry → Result Verdict Error → F → Type 0) (gets : C → Entry → C → Type 0) where
  abbrev Next : CompactionStream S F C R → Option R → CompactionStream S F C R → Type 0
  Next s r t = CompactsNext front can left gives gets s r t

  -- a call, and then a run of calls
  called : (s v : CompactionStream S F C R) (r : Option R) (rs : List (Option R))
      (P K : List R → Type 0) → Next s r v → HeardFrom front nowhere (compaction_outlook v) rs P
      → ((xs ys : List R) → Calls gives gets (rules_of s) (filter_of s) (callback_of s) xs r
      (filter_of v) (callback_of v) ys → P ys → K xs)
      → HeardFrom front nowhere (compaction_outlook s) (r ∷ rs) K
  called s v r rs P K one rest both =
      heard_call front nowhere Front (compaction_outlook s) (compaction_outlook v) r rs
      (CallsIn gives gets (rules_of s) (filter_of s) (callback_of s) r (filter_of v)
      (callback_of v)) P K one.hears rest both

  -- calls up to the one that answers none
  along : (gave : List R) (s t u : CompactionStream S F C R)
      → Yields (CompactsNext front can left gives gets) s gave t → Next t None u
      → HeardFrom front nowhere (compaction_outlook s) (to_the_end gave)
      (λ xs. Compacted gives gets (rules_of s) (filter_of s) (callback_of s) xs gave
      (filter_of u) (callback_of u))
  along [] s t u runs last =
      called s u None [] (λ ys. Unit {0}) (λ xs. Compacted gives gets (rules_of s) (filter_of s)
      (callback_of s) xs [] (filter_of u) (callback_of u))
      (subst (λ (v : CompactionStream S F C R). Next v None u) (sym runs) last)
      (heard_none front nowhere (compaction_outlook u) (λ ys. Unit {0}) (λ ys. tt))
      (λ xs ys call more. call_last gives gets (rules_of s) (filter_of s) (filter_of u)
      (callback_of s) (callback_of u) xs ys call)
  along (r ∷ gave) s t u runs last =
      let v = runs.0 in
      called s v (Some r) (to_the_end gave) (λ ys. Compacted gives gets (rules_of v) (filter_of v)
      (callback_of v) ys gave (filter_of u) (callback_of u))
      (λ xs. Compacted gives gets (rules_of s) (filter_of s) (callback_of s) xs (r ∷ gave)
      (filter_of u) (callback_of u))
      runs.1 (along gave v t u runs.2 last)
      (λ xs ys call more. call_more gives gets (rules_of s) (filter_of u) (callback_of u) gave
      (filter_of s) (filter_of v) (callback_of s) (callback_of v) xs ys (Some r) call
      (subst (λ (o : Rules). Compacted gives gets o (filter_of v) (callback_of v) ys gave
      (filter_of u) (callback_of u)) runs.1.rules more))

  pub compacts_heard : (s : CompactionStream S F C R)
      → CompactsHeard front (CompactsNext front can left gives gets) s gives gets
  compacts_heard s source gave t u starts runs last =
      heard_all front nowhere source (compaction_outlook s) starts (to_the_end gave)
      (λ xs. Compacted gives gets (rules_of s) (filter_of s) (callback_of s) xs gave
      (filter_of u) (callback_of u)) (along gave s t u runs last)

-- where a filter keeps all
module _ {S F C : Type 0} (front : S → Option R → S → Type 0) (can : S → Type 0) (left : S → Count)
    (gets : C → Entry → C → Type 0) where
  along_kept : (gave : List R) (s t u : CompactionStream S F C R)
      → Yields (CompactsNext front can left KeepsAll gets) s gave t
      → CompactsNext front can left KeepsAll gets t None u
      → HeardFrom front nowhere (compaction_outlook s) (to_the_end gave)
      (λ xs. gave ≡ outs (rules_of s) (as_they_are xs))
  along_kept [] s t u runs last =
      called front can left KeepsAll gets s u None [] (λ ys. Unit {0})
      (λ xs. [] ≡ outs (rules_of s) (as_they_are xs))
      (subst (λ (v : CompactionStream S F C R). CompactsNext front can left KeepsAll gets v None u)
      (sym runs) last) (heard_none front nowhere (compaction_outlook u) (λ ys. Unit {0})
      (λ ys. tt))
      (λ xs ys call more. let none : ys ≡ [] = call_none KeepsAll gets (rules_of s) (filter_of s)
      (filter_of u) (callback_of s) (callback_of u) xs ys None call refl in
      sym (call_keeps gets (rules_of s) (filter_of s) (filter_of u) (callback_of s)
      (callback_of u) xs ys None call ∙ ap (λ (zs : List R). outs (rules_of s) (as_they_are zs))
      none))
  along_kept (r ∷ gave) s t u runs last =
      let v = runs.0 in
      called front can left KeepsAll gets s v (Some r) (to_the_end gave)
      (λ ys. gave ≡ outs (rules_of v) (as_they_are ys))
      (λ xs. r ∷ gave ≡ outs (rules_of s) (as_they_are xs))
      runs.1 (along_kept gave v t u runs.2 last)
      (λ xs ys call more. ap (λ (zs : List R). r ∷ zs)
      (more ∙ ap (λ (o : Rules). outs o (as_they_are ys)) runs.1.rules)
      ∙ sym (call_keeps gets (rules_of s) (filter_of s) (filter_of v) (callback_of s)
      (callback_of v) xs ys (Some r) call))

  pub gives_outs : (s : CompactionStream S F C R)
      → GivesOuts front (CompactsNext front can left KeepsAll gets) s
  gives_outs s source gave t u starts runs last =
      heard_all front nowhere source (compaction_outlook s) starts (to_the_end gave)
      (λ xs. gave ≡ outs (rules_of s) (as_they_are xs)) (along_kept gave s t u runs last)
