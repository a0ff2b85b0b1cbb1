-- The newest versions of a merger whose sources have errors.
use Rattle.std.proofs.Common.{◌≡◌, sym, ◌∙◌, ap, subst, List, [], ◌∷◌}
use Rattle.std.specs.Prelude.{Option}
use Rattle.sst_entries.specs.Stream.{nowhere}
use Rattle.sst_entries.specs.declared.stream.Direction.{Direction}
use Rattle.sst_entries.specs.declared.stream.Direction.TheVariants.{Front, Back}
use Rattle.lsm_sorted.specs.merge.Ends.{R}
use Rattle.lsm_sorted.specs.declared.merge.Merger.{Merger}
use Rattle.lsm_sorted.specs.merge.Asks.{IsMergerOf}
use Rattle.lsm_sorted.specs.merge.MergeLaws.{ErrorsComeLate, RunsAt, MeetsErrorsLate}
use Rattle.lsm_sorted.specs.declared.mvcc_stream.MvccStream.{MvccStream}
use Rattle.lsm_sorted.specs.Gap.{MergesUpToGap}
use Rattle.lsm_sorted.specs.Outlook.{Outlook, before_any}
use Rattle.lsm_sorted.specs.Mvcc.{AnswersSteps, mvcc_outlook, read_from}
use Rattle.lsm_sorted.specs.NewestLaws.{IsNewestOf, AnswersNewest}

-- what a merger deals up to a gap, and the steps on it
pub answers_newest : {S M T : Type 0} (front back : S → Option R → S → Type 0) (its : List S)
    (ask ask_back : M → Option R → M → Type 0) (m : M) (next next_back : T → Option R → T → Type 0)
    (t : T)
    → MergesUpToGap front back its ask ask_back m → AnswersSteps ask ask_back m next next_back t
    → AnswersNewest front back its next next_back t
answers_newest front back its ask ask_back m next next_back t merges steps = record {
  answers = λ stops lists sorted ends rs u runs.
      let h = steps.heard ends rs u runs in
      let gap = (merges.yields stops lists sorted).answers h.ends h.answers h.led h.runs h.once in
      (gap.0, gap.1, h.holds gap.0 gap.2);
}

-- where there is no call at the back, none meets an error
none_asked : {T : Type 0} (lists : List (List R)) (ends : List Direction) (rs : List (Option R))
    (s t : T) → RunsAt Back nowhere s ends rs t → ErrorsComeLate Back lists [] rs
none_asked lists [] [] s t runs = tt
none_asked lists [] (r ∷ rs) s t runs = absurd runs
none_asked lists (e ∷ ends) [] s t runs = absurd runs
none_asked lists (Front ∷ ends) (r ∷ rs) s t runs = absurd runs.1
none_asked lists (Back ∷ ends) (r ∷ rs) s t runs = absurd runs.1

pub never_called : {S T : Type 0} (front back : S → Option R → S → Type 0) (its : List S) (m : T)
    → MeetsErrorsLate front back its Back nowhere m
never_called front back its m = record {
  meets =
      λ stops lists sorted ends rs t runs fine. none_asked lists ends rs m t runs;
}

-- the merger that a stream reads from is the one that it was made of
module _ {S A : Type 0} (its : List S) (s : MvccStream (Merger S A) R) (m : Merger S A)
    (is : m ≡ read_from s) (h : IsNewestOf its s) where
  same_source : h.source ≡ m
  same_source = sym (ap (λ (o : Outlook (Merger S A)). o.source.iter) h.starts) ∙ sym is

  pub merger_read : IsMergerOf its m
  merger_read = subst (IsMergerOf its) same_source h.of

  pub starts_read : mvcc_outlook s ≡ before_any m
  starts_read = h.starts ∙ ap (λ (n : Merger S A). before_any n) same_source
