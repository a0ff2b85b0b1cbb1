-- Guarantees for sequences of calls of a merger.
use Rattle.std.specs.Prelude.{◌≡◌, ℕ, ◌<◌, ◌≤◌, Bool, true, List, [], ◌∷◌, ◌++◌, length, All}
use Rattle.std.specs.Prelude.{count_by, slice_index_or, Option, Some, None, Ok, Err}
use Rattle.std.specs.List.{AllZip, AllByRecursion}
use Rattle.std.specs.Iterator.{Count, IsFinite}
use Rattle.sst_entries.specs.Stream.{YieldsExactly, CanYield, answer_stops, ok_results, but_first, but_last}
use Rattle.sst_entries.specs.Stream.{Runs, NoneStops, nowhere}
use Rattle.sst_entries.specs.Entry.{Entry}
use Rattle.sst_entries.specs.declared.stream.Direction.{Direction}
use Rattle.sst_entries.specs.declared.stream.Direction.TheVariants.{Front, Back}
use Rattle.sst_entries.specs.declared.error.Error.{Error}
use Rattle.lsm_sorted.specs.merge.Ends.{R}
use Rattle.lsm_sorted.specs.merge.Union.{Ascends, entries_among, all_errors, union_of}
use Rattle.lsm_sorted.specs.merge.InPlace.{merge_of}
use Rattle.lsm_sorted.specs.merge.Merge.{YieldsUntil}
use Rattle.lsm_sorted.specs.merge.Asks.{IsMergerOf}
use Rattle.lsm_sorted.specs.declared.merge.Merger.{Merger}

-- each item is at most as often in xs as in ys
pub record IsWithinBag {A : Type 0} (xs ys : List A) : Type 0 where
  pub count : (p : A → Bool) → count_by p xs ≤ count_by p ys

-- two parts of a list, the first being nearer to this end
abbrev pub join_at : {A : Type 0} → Direction → List A → List A → List A
join_at Front near far = near ++ far
join_at Back near far = far ++ near

-- all but the item farthest from this end
abbrev pub but_farthest : {A : Type 0} → Direction → List A → List A
but_farthest Front = but_last
but_farthest Back = but_first

-- in some source's list, from this end, the error follows entries that were yielded, except
-- possibly for the farthest of them
pub record ComesLate (end : Direction) (lists : List (List R)) (given : List Entry)
    (e : Error) : Type 0 where
  pub place : ℕ
  pub within : place < length lists
  pub passed : List Entry
  pub beyond : List R
  pub stands : slice_index_or lists place [] ≡ join_at end (ok_results passed)
      (join_at end (Err e ∷ []) beyond)
  pub gave : IsWithinBag (but_farthest end passed) given

-- the same holds for each error among the results, given the entries yielded before
abbrev pub ErrorsComeLate : Direction → List (List R) → List Entry → List (Option R) → Type 0
ErrorsComeLate end lists given [] = Unit {0}
ErrorsComeLate end lists given (None ∷ rs) = ErrorsComeLate end lists given rs
ErrorsComeLate end lists given (Some (Ok x) ∷ rs) = ErrorsComeLate end lists (x ∷ given) rs
ErrorsComeLate end lists given (Some (Err e) ∷ rs) = ComesLate end lists given e

-- calls at one end only
abbrev pub RunsAt : {T A : Type 0} → Direction → (T → Option A → T → Type 0) → T → List Direction
    → List (Option A) → T → Type 0
RunsAt Front call = Runs call nowhere
RunsAt Back call = Runs nowhere call

-- as `stops`: any error ends the guarantee
abbrev pub every_error : Error → Bool
every_error e = true

module _ {S : Type 0} (front back : S → Option R → S → Type 0) where
  -- each source yields one of these lists, which are sorted
  pub record YieldSorted (stops : Error → Bool) (its : List S) (lists : List (List R)) : Type 0 where
    pub yield_each : AllZip (YieldsExactly (answer_stops stops) front back) its lists
    pub ascend : AllByRecursion (λ rs. Ascends (entries_among rs)) lists

  -- if no source has an error, the union of sorted sources is yielded in order
  pub record YieldsMerged {T : Type 0} (its : List S) (next next_back : T → Option R → T → Type 0)
      (m : T) : Type 0 where
    pub yields : (stops : Error → Bool) (lists : List (List R)) → YieldSorted stops its lists
        → all_errors lists ≡ []
        → YieldsExactly (answer_stops stops) next next_back m (ok_results (union_of lists))

  -- if the sources have errors, the same holds as long as no error is returned
  pub record YieldsBeforeErrors {T : Type 0} (its : List S)
      (next next_back : T → Option R → T → Type 0) (m : T) : Type 0 where
    pub yields : (stops : Error → Bool) (lists : List (List R)) → YieldSorted stops its lists
        → YieldsExactly (answer_stops every_error) next next_back m (ok_results (union_of lists))

  -- if the sources have errors, the union is yielded up to one of them
  pub record YieldsUntilError {T : Type 0} (its : List S)
      (next next_back : T → Option R → T → Type 0) (m : T) : Type 0 where
    pub yields : (stops : Error → Bool) (lists : List (List R)) → YieldSorted stops its lists
        → YieldsUntil stops next next_back m (union_of lists) (all_errors lists)

  -- calls at one end only return an error after all entries before it, from that end, except
  -- possibly for the farthest
  pub record MeetsErrorsLate {T : Type 0} (its : List S) (end : Direction)
      (call : T → Option R → T → Type 0) (m : T) : Type 0 where
    pub meets : (stops : Error → Bool) (lists : List (List R)) → YieldSorted stops its lists
        → (ends : List Direction) (rs : List (Option R)) (t : T) → RunsAt end call m ends rs t
        → NoneStops (answer_stops stops) rs → ErrorsComeLate end lists [] rs

  -- the merge of sorted sources is yielded in order up to and including the first error, which
  -- directly follows the preceding entry of its source
  pub record YieldsInPlace {T : Type 0} (its : List S) (next next_back : T → Option R → T → Type 0)
      (m : T) : Type 0 where
    pub yields : (stops : Error → Bool) (lists : List (List R)) → YieldSorted stops its lists
        → YieldsExactly (answer_stops stops) next next_back m (merge_of lists)

  -- if the sources may be called and are finite, the merger may be called
  pub record CanMerge {T : Type 0} (can can_back : S → Type 0) (left : S → Count) (its : List S)
      (next next_back : T → Option R → T → Type 0) (can_next can_next_back : T → Type 0)
      (m : T) : Type 0 where
    pub asks : All (CanYield front back can can_back) its → All (λ s. IsFinite (left s)) its
        → CanYield next next_back can_next can_next_back m

-- the same for calls at the front only
abbrev pub CanMergeForward : {S T : Type 0} → (S → Option R → S → Type 0) → (S → Type 0)
    → (S → Count) → List S → (T → Option R → T → Type 0) → (T → Type 0) → T → Type 0
CanMergeForward front can left its next can_next m =
    CanMerge front nowhere can can left its next nowhere can_next can_next m

-- before any call of a merger, this law holds of its sources
abbrev pub OfItsSources : {S A : Type 0}
    → (List S → (Merger S A → Option R → Merger S A → Type 0)
    → (Merger S A → Option R → Merger S A → Type 0) → Merger S A → Type 0)
    → (next next_back : Merger S A → Option R → Merger S A → Type 0) → Merger S A → Type 0
OfItsSources {S} law next next_back m =
    (its : List S) → IsMergerOf its m → law its next next_back m
