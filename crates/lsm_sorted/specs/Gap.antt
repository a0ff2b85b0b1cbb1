-- Entries with one error in place of a sublist: the results of a source that is exhausted after its
-- first error.
use Rattle.std.specs.Prelude.{◌≡◌, ◌⊎◌, Bool, true, false, List, ◌∷◌, ◌++◌, Contains, Option, None}
use Rattle.std.specs.Prelude.{Err}
use Rattle.std.specs.Iterator.{Yields}
use Rattle.sst_entries.specs.declared.error.Error.{Error}
use Rattle.sst_entries.specs.declared.stream.Direction.{Direction}
use Rattle.sst_entries.specs.Entry.{Entry}
use Rattle.sst_entries.specs.Stream.{EndsAtError, Runs, nowhere, ok_results, yield_each}
use Rattle.lsm_sorted.specs.merge.Ends.{R}
use Rattle.lsm_sorted.specs.merge.Union.{all_errors, union_of}
use Rattle.lsm_sorted.specs.merge.MergeLaws.{YieldSorted, YieldsBeforeErrors, YieldsUntilError}
use Rattle.lsm_sorted.specs.declared.compaction.Rules.{Rules}
use Rattle.lsm_sorted.specs.Compaction.{outs, as_they_are}
use Rattle.lsm_sorted.specs.Outlook.{StopsAtNone}

-- the entries before a gap and those after it, with an error between them
pub record HasGap (es : List Entry) (e : Error) (xs : List R) : Type 0 where
  pub before : List Entry
  pub gap : List Entry
  pub behind : List Entry
  pub parts : es ≡ before ++ (gap ++ behind)
  pub is : xs ≡ ok_results before ++ Err e ∷ ok_results behind

-- all the entries, or the entries with a gap, at one of these errors or at an error in `stops`
abbrev pub IsUpToGap : (Error → Bool) → List Entry → List Error → List R → Type 0
IsUpToGap stops es errors xs =
    (xs ≡ ok_results es) ⊎ ((e : Error) × HasGap es e xs × ((stops e ≡ true) ⊎ Contains errors e))

-- for every list of ends, the results up to the first `None` are those of all the entries, or of
-- the entries with a gap
pub record YieldsUpToGap {T : Type 0} (stops : Error → Bool)
    (next next_back : T → Option R → T → Type 0) (t : T) (es : List Entry) (errors : List Error) :
    Type 0 where
  pub answers : (ends : List Direction) (rs : List (Option R)) (u : T)
      → Runs next next_back t ends rs u → StopsAtNone false rs
      → (xs : List R) × IsUpToGap stops es errors xs × (rs ≡ yield_each xs ends)

-- the union of sorted sources is yielded, or the union with a gap
pub record MergesUpToGap {S T : Type 0} (front back : S → Option R → S → Type 0) (its : List S)
    (next next_back : T → Option R → T → Type 0) (t : T) : Type 0 where
  pub yields : (stops : Error → Bool) (lists : List (List R)) → YieldSorted front back stops its lists
      → YieldsUpToGap stops next next_back t (union_of lists) (all_errors lists)

-- a merger that yields the union up to an error, and then nothing, leaves at most one gap in it
abbrev pub ErrorsLeaveGap : {S T : Type 0} → (S → Option R → S → Type 0) → List S
    → (T → Option R → T → Type 0) → T → Type 0
ErrorsLeaveGap front its next t = YieldsBeforeErrors front nowhere its next nowhere t →
    YieldsUntilError front nowhere its next nowhere t → EndsAtError next nowhere t →
    MergesUpToGap front nowhere its next nowhere t

-- an unfiltered compaction, called until `None`, yields the output for the union of sorted sources,
-- or for the union with a gap
pub record GivesUpToGap {S T : Type 0} (front back : S → Option R → S → Type 0) (its : List S)
    (rules : Rules) (next : T → Option R → T → Type 0) (t : T) : Type 0 where
  pub gives : (stops : Error → Bool) (lists : List (List R)) → YieldSorted front back stops its lists
      → (gave : List R) (u v : T) → Yields next t gave u → next u None v
      → (xs : List R) × IsUpToGap stops (union_of lists) (all_errors lists) xs
      × (gave ≡ outs rules (as_they_are xs))
