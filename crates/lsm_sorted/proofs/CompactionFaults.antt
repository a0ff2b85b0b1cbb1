-- A compaction that lends, with a filter and a callback: the errors of its source, and its end.
use Rattle.std.proofs.Common.{◌≡◌, inl, inr, refl, sym, ◌∙◌, ap, subst, true, false, List, [], ◌∷◌}
use Rattle.std.specs.Prelude.{◌⊎◌, Option, Some, None, Result, Ok, Err}
use Rattle.sst_entries.specs.Entry.{Entry}
use Rattle.sst_entries.specs.declared.error.Error.{Error}
use Rattle.sst_entries.specs.declared.error.Error.TheVariants.{OutOfMemory}
use Rattle.lsm_sorted.specs.merge.Ends.{R}
use Rattle.lsm_sorted.specs.Compaction.{Verdict}
use Rattle.lsm_sorted.specs.Hears.{GaveEach}
use Rattle.lsm_sorted.specs.lending.LentFaults.{AllOver, AlwaysReports, EndsIn, GaveInCalls}
use Rattle.lsm_sorted.specs.lending.LentFaults.{NextIdles}
use Rattle.lsm_sorted.specs.lending.LentFaults.{WantsItself}
use Rattle.lsm_sorted.specs.lending.LentFaults.{FilterSays, PassesAllOr, PassesOr, PassingOr}
use Rattle.lsm_sorted.specs.lending.LentFaults.{StaysOverOr}
use Rattle.lsm_sorted.specs.lending.LentCompaction.{AdvancesCompacted, is_entry, lender}
use Rattle.lsm_sorted.specs.declared.compaction.lending.LendingCompaction.{LendingCompaction}
use Rattle.lsm_sorted.proofs.LentFaultsLemmas.{passes_or_wants}

one_error : (e : Error) (r : Option R) → r ≡ Some (Err e) → r ≡ Some (Err OutOfMemory)
    → e ≡ OutOfMemory
one_error e r is wants = cc

module _ {F : Type 0} (gives : F → Entry → Result Verdict Error → F → Type 0) where
  -- what is passed on in a call, from what is on the way to its answer
  passes_of : (r : Option R) (answers : List (Option R)) → (r ≡ None → EndsIn None answers)
      → PassingOr (FilterSays gives) r answers → PassesOr (FilterSays gives) r answers
  passes_of None answers ended passing = inl (ended refl)
  passes_of (Some (Ok x)) answers ended passing = passing
  passes_of (Some (Err e)) answers ended passing = passing

  -- want of memory that is passed on is said
  says_want : (r : Option R) (answers : List (Option R)) (rs : List (Option R))
      (calls : List (List (Option R))) → PassesOr (FilterSays gives) r answers → WantsItself r answers
      → FilterSays gives OutOfMemory ⊎ AllOver rs calls
  says_want r answers rs calls passes wants = elim passes [
    | inl faults ↦ absurd (passes_or_wants r answers faults wants)
    | inr says ↦ inl (subst (FilterSays gives) (one_error says.error r says.is wants.0) says.says)
  ]

  next_idles : (rs : List (Option R)) (calls : List (List (Option R))) → StaysOverOr (FilterSays gives) rs calls
      → AllOver rs calls → NextIdles rs calls
  next_idles [] calls stays over = tt
  next_idles (r ∷ rs) [] stays over = stays
  next_idles (r ∷ rs) (answers ∷ calls) stays over = λ none. over.0.0

  over_wants : (r : Option R) (answers rs : List (Option R)) (calls : List (List (Option R)))
      → r ≡ None → WantsItself r answers → FilterSays gives OutOfMemory ⊎ AllOver rs calls
  over_wants r answers rs calls none wants =
      let no : None ≡ Some (Err OutOfMemory) = sym none ∙ wants.0 in absurd cc

module _ {F C : Type 0} (gives : F → Entry → Result Verdict Error → F → Type 0)
    (gets : C → Entry → C → Type 0) {S A : Type 0} (advances : S → Option R → S → Type 0)
    (lent : S → Option Entry) (can : S → Type 0) where
  abbrev Next : LendingCompaction S F C A → Option R → LendingCompaction S F C A → Type 0
  Next = AdvancesCompacted advances lent can gives gets

  abbrev Meanwhile : LendingCompaction S F C A → LendingCompaction S F C A → List (List (Option R)) → Type 0
  Meanwhile s u calls = GaveInCalls advances (lender s) calls (lender u)

  all_over : (rs : List (Option R)) (s u : LendingCompaction S F C A) → s.is_over ≡ true → GaveEach Next s rs u
      → (calls : List (List (Option R))) × Meanwhile s u calls × AllOver rs calls
      × StaysOverOr (FilterSays gives) rs calls
  all_over [] s u o each = ([], ap lender each, (tt, tt), tt)
  all_over (r ∷ rs) s u o each =
      let call = each.1.ended o in
      let more = all_over rs each.0 u call.1 each.2 in (
        [] ∷ more.0,
        (lender each.0, sym call.2, more.1),
        ((call.0, more.2.0), (refl, more.2.1)),
        (
          over_wants gives r [] rs more.0 call.0,
          λ none. next_idles gives rs more.0 more.3 more.2,
          more.3,
        ),
      )

  all_result : (rs : List (Option R)) (s u : LendingCompaction S F C A) → s.is_over ≡ false → GaveEach Next s rs u
      → (calls : List (List (Option R))) × Meanwhile s u calls × PassesAllOr (FilterSays gives) rs calls
      × StaysOverOr (FilterSays gives) rs calls × (s.is_pending ≡ false → NextIdles rs calls)
  all_result [] s u o each = ([], ap lender each, tt, tt, λ h. tt)
  all_result (r ∷ rs) s u o each =
      let call = each.1.live o in elim call.step.returned [
        | inl passing ↦
            let passes = passes_of gives r call.step.answers call.ended passing.0 in
            let more = all_result rs each.0 u passing.1 each.2 in (
              call.step.answers ∷ more.0,
              (lender each.0, call.step.gave, more.1),
              inl (passes, more.2),
              (
                says_want gives r call.step.answers rs more.0 passes,
                λ none. more.4 (call.rests (ap is_entry none)),
                more.3,
              ),
              call.idle,
            )
        | inr wants ↦
            let more = all_over rs each.0 u wants.1 each.2 in (
              call.step.answers ∷ more.0,
              (lender each.0, call.step.gave, more.1),
              inr (wants.0, more.2),
              (
                λ w. inr more.2,
                λ none. next_idles gives rs more.0 more.3 more.2,
                more.3,
              ),
              call.idle,
            )
      ]

  module _ (s : LendingCompaction S F C A) (live : s.is_over ≡ false) where
    pub compaction_passes : AlwaysReports (PassesAllOr (FilterSays gives)) advances s.source lender Next s
    compaction_passes = record {
      of = λ rs u each. let all = all_result rs s u live each in (all.0, all.1, all.2);
    }

    pub compaction_stays : AlwaysReports (StaysOverOr (FilterSays gives)) advances s.source lender Next s
    compaction_stays = record {
      of = λ rs u each. let all = all_result rs s u live each in (all.0, all.1, all.3);
    }
