-- Calls described by the results that their source returned in them, errors included.
use Rattle.std.specs.Prelude.{◌≡◌, Bool, false, List, [], ◌∷◌, Option}
use Rattle.sst_entries.specs.declared.stream.Direction.{Direction}
use Rattle.sst_entries.specs.declared.error.Error.{Error}
use Rattle.sst_entries.specs.Stream.{Runs, NoneStops, answer_stops, yield_each}
use Rattle.lsm_sorted.specs.declared.heap.ends.Ends.{Ends}
use Rattle.lsm_sorted.specs.merge.Ends.{R}
use Rattle.lsm_sorted.specs.Outlook.{Outlook, list_of, MayGive, results_in, with_rest, is_over}
use Rattle.lsm_sorted.specs.Outlook.{StopsAtNone}

module _ {S : Type 0} (ask : S → Option R → S → Type 0) where
  -- successive calls of an iterator returned these results
  abbrev pub GaveEach : S → List (Option R) → S → Type 0
  GaveEach s [] t = s ≡ t
  GaveEach s (r ∷ rs) t = (j : S) × ask s r j × GaveEach j rs t

  -- the same for a source that is not called again after `None`
  pub record Gave (s : Ends S) (answers : List (Option R)) (t : Ends S) : Type 0 where
    pub each : GaveEach s.iter answers t.iter
    pub over : t.done ≡ is_over s.done answers
    pub once : StopsAtNone s.done answers

  -- a call that polled its source at this end, returned r and led from s to t. P relates the list
  -- before and after, for any remaining results; no error of the source is dropped.
  pub record Hears (end : Direction) (r : Option R) (P : List R → List R → Type 0) (s t : Outlook S)
      : Type 0 where
    pub answers : List (Option R)
    pub gave : Gave s.source answers t.source
    pub returned : (stops : Error → Bool) → answer_stops stops r ≡ false
        → NoneStops (answer_stops stops) answers
    pub holds : (rest : List R) → MayGive t.source.done rest
        → P (list_of s (with_rest end (results_in answers) rest)) (list_of t rest)

-- a source was called, and not again after `None`; P holds of every list that yields its results
pub record Heard {S : Type 0} (front back : S → Option R → S → Type 0) (source : S)
    (P : List R → Type 0) : Type 0 where
  pub ends : List Direction
  pub answers : List (Option R)
  pub led : S
  pub runs : Runs front back source ends answers led
  pub once : StopsAtNone false answers
  pub holds : (xs : List R) → answers ≡ yield_each xs ends → P xs
