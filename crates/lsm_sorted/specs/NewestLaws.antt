-- Guarantees for the newest versions of several sources.
use Rattle.std.specs.Prelude.{◌≡◌, Bool, List, [], All, Option}
use Rattle.std.specs.Iterator.{Count, IsFinite}
use Rattle.sst_entries.specs.Stream.{Runs, YieldsExactly, CanYield, answer_stops, ok_results, EndsAtError}
use Rattle.sst_entries.specs.Stream.{nowhere}
use Rattle.sst_entries.specs.declared.error.Error.{Error}
use Rattle.sst_entries.specs.declared.stream.Direction.{Direction}
use Rattle.sst_entries.specs.declared.stream.Direction.TheVariants.{Front, Back}
use Rattle.lsm_sorted.specs.declared.merge.Merger.{Merger}
use Rattle.lsm_sorted.specs.declared.mvcc_stream.MvccStream.{MvccStream}
use Rattle.lsm_sorted.specs.merge.Ends.{R}
use Rattle.lsm_sorted.specs.merge.Union.{all_errors, union_of, newest}
use Rattle.lsm_sorted.specs.merge.Asks.{IsMergerOf}
use Rattle.lsm_sorted.specs.merge.MergeLaws.{YieldSorted, YieldsUntilError, MeetsErrorsLate}
use Rattle.lsm_sorted.specs.merge.MergeLaws.{every_error}
use Rattle.lsm_sorted.specs.Gap.{IsUpToGap}
use Rattle.lsm_sorted.specs.Mvcc.{mvcc_outlook}
use Rattle.lsm_sorted.specs.Newest.{newest_answers}
use Rattle.lsm_sorted.specs.Outlook.{before_any}

-- a stream of the newest versions, before any call, over a merger of exactly these sources
pub record IsNewestOf {S A : Type 0} (its : List S) (s : MvccStream (Merger S A) R) : Type 0 where
  pub source : Merger S A
  pub starts : mvcc_outlook s ≡ before_any source
  pub of : IsMergerOf its source

-- if the sources may be called and are finite, the stream may be called
pub record CanAskNewest {S T : Type 0} (front back : S → Option R → S → Type 0)
    (can can_back : S → Type 0) (left : S → Count) (its : List S)
    (next next_back : T → Option R → T → Type 0) (can_next can_next_back : T → Type 0)
    (t : T) : Type 0 where
  pub asks : All (CanYield front back can can_back) its → All (λ s. IsFinite (left s)) its
      → CanYield next next_back can_next can_next_back t

-- the same for calls at the front only
abbrev pub CanAskForward : {S T : Type 0} → (S → Option R → S → Type 0) → (S → Type 0)
    → (S → Count) → List S → (T → Option R → T → Type 0) → (T → Type 0) → T → Type 0
CanAskForward front can left its next can_next =
    CanAskNewest front nowhere can can left its next nowhere can_next can_next

-- before any call: a call is allowed if the sources may be called and are finite
abbrev pub MayStartNewest : {S A : Type 0} (front back : S → Option R → S → Type 0)
    (can can_back : S → Type 0) → (S → Count) → (MvccStream (Merger S A) R → Type 0)
    → MvccStream (Merger S A) R → Type 0
MayStartNewest {S} front back can can_back left can_next s = (its : List S) → IsNewestOf its s →
    All (CanYield front back can can_back) its → All (λ i. IsFinite (left i)) its → can_next s

module _ {S : Type 0} (front back : S → Option R → S → Type 0) (its : List S) where
  module _ {T : Type 0} (next next_back : T → Option R → T → Type 0) (t : T) where
    -- if no source has an error, the stream yields the newest version of each key in the union of
    -- sorted sources
    pub record YieldsNewest : Type 0 where
      pub yields : (stops : Error → Bool) (lists : List (List R))
          → YieldSorted front back stops its lists → all_errors lists ≡ []
          → YieldsExactly (answer_stops stops) next next_back t (ok_results (newest (union_of lists)))

    -- if the sources have errors, the same holds as long as no error is returned
    pub record YieldsNewestUntilError : Type 0 where
      pub yields : (stops : Error → Bool) (lists : List (List R))
          → YieldSorted front back stops its lists
          → YieldsExactly (answer_stops every_error) next next_back t (ok_results (newest (union_of lists)))

    -- with any errors, and after them: the results are those of steps on the union, or on the union
    -- with a gap. The gap is at the first error met.
    pub record AnswersNewest : Type 0 where
      pub answers : (stops : Error → Bool) (lists : List (List R))
          → YieldSorted front back stops its lists
          → (ends : List Direction) (rs : List (Option R)) (u : T) → Runs next next_back t ends rs u
          → (xs : List R) × IsUpToGap stops (union_of lists) (all_errors lists) xs
          × (rs ≡ newest_answers xs ends)

  -- its merger yields the union of the sources up to an error, and is then exhausted. From one end
  -- alone, an error comes only after the entries before it.
  pub record IsOverMerged {A : Type 0} (next next_back : Merger S A → Option R → Merger S A
      → Type 0) (s : MvccStream (Merger S A) R) : Type 0 where
    pub of : IsNewestOf its s
    pub until : YieldsUntilError front back its next next_back of.source
    pub late : MeetsErrorsLate front back its Front next of.source
    pub late_back : MeetsErrorsLate front back its Back next_back of.source
    pub ends : EndsAtError next next_back of.source
