-- A stream of the newest versions: single calls and sequences of calls.
use Rattle.std.specs.Prelude.{◌≡◌, ℕ, Bool, List, Option}
use Rattle.std.specs.Iterator.{Count}
use Rattle.sst_entries.specs.declared.error.Error.{Error}
use Rattle.sst_entries.specs.declared.stream.Direction.{Direction}
use Rattle.sst_entries.specs.Entry.{Entry}
use Rattle.sst_entries.specs.Stream.{Runs, NoneStops, YieldsExactly, CanYield, answer_stops, ok_results}
use Rattle.sst_entries.specs.Stream.{nowhere}
use Rattle.std.specs.Iterator.{IsFinite}
use Rattle.lsm_sorted.specs.merge.Ends.{R, Goes}
use Rattle.lsm_sorted.specs.merge.Union.{Ascends, newest}
use Rattle.lsm_sorted.specs.declared.mvcc_stream.MvccStream.{MvccStream}
use Rattle.lsm_sorted.specs.Newest.{newest_answers}
use Rattle.lsm_sorted.specs.Outlook.{Outlook, IsStep, before_any}
use Rattle.lsm_sorted.specs.Hears.{Hears, Heard}
use Rattle.lsm_sorted.specs.Peeked.{peeked_size, peeked_outlook}

-- the source of the stream, with the entries read ahead
abbrev pub mvcc_outlook : {S : Type 0} → MvccStream S R → Outlook S
mvcc_outlook s = peeked_outlook s.inner

-- the source of the stream alone
abbrev pub read_from : {S : Type 0} → MvccStream S R → S
read_from s = s.inner.source.iter

abbrev pub mvcc_size : {S : Type 0} → (S → Count) → MvccStream S R → ℕ
mvcc_size left s = peeked_size left s.inner

-- the source may be called
abbrev pub MayStep : {S : Type 0} → (S → Option R → S → Type 0) → (S → Option R → S → Type 0)
    → (S → Type 0) → (S → Type 0) → (S → Count) → MvccStream S R → Type 0
MayStep front back can can_back left s = Goes front back can can_back left s.inner.source

-- one call: it may be called again, and its result is that of a step on the entries read ahead and
-- the source's results
pub record StepsAt {S : Type 0} (May : MvccStream S R → Type 0) (ask : S → Option R → S → Type 0)
    (end : Direction) (stepped : List R → Option R × List R) (s : MvccStream S R) (r : Option R)
    (t : MvccStream S R) : Type 0 where
  pub may : May t
  pub hears : Hears ask end r (IsStep stepped r) (mvcc_outlook s) (mvcc_outlook t)

module _ {S T : Type 0} (front back : S → Option R → S → Type 0) (source : S)
    (next next_back : T → Option R → T → Type 0) (t : T) where
  -- whatever the source returns, the results at a list of ends are those of steps on it
  pub record AnswersSteps : Type 0 where
    pub heard : (ends : List Direction) (rs : List (Option R)) (u : T)
        → Runs next next_back t ends rs u
        → Heard front back source (λ xs. rs ≡ newest_answers xs ends)

  -- for a list that the source yields, the results are those of steps on it, up to an error in
  -- `stops`
  pub record YieldsSteps : Type 0 where
    pub answers : (stops : Error → Bool) (xs : List R)
        → YieldsExactly (answer_stops stops) front back source xs
        → (ends : List Direction) (rs : List (Option R)) (u : T) → Runs next next_back t ends rs u
        → NoneStops (answer_stops stops) rs → rs ≡ newest_answers xs ends

  -- for sorted entries that the source yields, the newest version of each key is yielded
  pub record YieldsNewestOf : Type 0 where
    pub yields : (stops : Error → Bool) (xs : List Entry) → Ascends xs
        → YieldsExactly (answer_stops stops) front back source (ok_results xs)
        → YieldsExactly (answer_stops stops) next next_back t (ok_results (newest xs))

  -- if the source may be called and is finite, the stream may be called
  pub record CanStep (can can_back : S → Type 0) (left : S → Count)
      (can_next can_next_back : T → Type 0) : Type 0 where
    pub asks : CanYield front back can can_back source → IsFinite (left source)
        → CanYield next next_back can_next can_next_back t

-- the same for calls at the front only
abbrev pub CanStepForward : {S T : Type 0} → (S → Option R → S → Type 0) → (S → Type 0)
    → (S → Count) → S → (T → Option R → T → Type 0) → (T → Type 0) → T → Type 0
CanStepForward front can left source next can_next t =
    CanStep front nowhere source next nowhere t can can left can_next can_next

-- before any call of a stream, this law holds of its source
abbrev pub OnItsSource : {S : Type 0}
    → (S → (MvccStream S R → Option R → MvccStream S R → Type 0)
    → (MvccStream S R → Option R → MvccStream S R → Type 0) → MvccStream S R → Type 0)
    → (next next_back : MvccStream S R → Option R → MvccStream S R → Type 0)
    → MvccStream S R → Type 0
OnItsSource {S} law next next_back s =
    (source : S) → mvcc_outlook s ≡ before_any source → law source next next_back s
