-- The guarantee of a lending stream for the errors of its source, and for its end.
use Rattle.std.specs.Prelude.{◌≡◌, ◌⊎◌, Bool, true, false, List, [], ◌∷◌, ◌++◌, Option, Some, None}
use Rattle.std.specs.Prelude.{Result, Ok, Err}
use Rattle.std.specs.List.{AllByRecursion}
use Rattle.sst_entries.specs.Entry.{Entry}
use Rattle.sst_entries.specs.Stream.{NoneStops, answer_stops}
use Rattle.sst_entries.specs.declared.error.Error.{Error}
use Rattle.sst_entries.specs.declared.error.Error.TheVariants.{OutOfMemory}
use Rattle.lsm_sorted.specs.merge.Ends.{R}
use Rattle.lsm_sorted.specs.merge.MergeLaws.{every_error}
use Rattle.lsm_sorted.specs.Compaction.{Verdict}
use Rattle.lsm_sorted.specs.Hears.{GaveEach}

-- no result is an error
abbrev pub NoFaults : List (Option R) → Type 0
NoFaults answers = NoneStops (answer_stops every_error) answers

-- every result is `None`
abbrev pub NothingCame : List (Option R) → Type 0
NothingCame answers = AllByRecursion (λ a. a ≡ None) answers

-- this is the last result, and none before it is an error
abbrev pub EndsIn : Option R → List (Option R) → Type 0
EndsIn r answers = (before : List (Option R)) × NoFaults before × (answers ≡ before ++ r ∷ [])

-- a call passes on its source's results: an error or `None` if it is the last one, an entry if none
-- is an error
abbrev pub Passes : Option R → List (Option R) → Type 0
Passes None answers = EndsIn None answers
Passes (Some (Ok x)) answers = NoFaults answers
Passes (Some (Err e)) answers = EndsIn (Some (Err e)) answers

-- before the call returns: no error of the source so far, or an error that is its last result
abbrev pub Passing : Option R → List (Option R) → Type 0
Passing None answers = NoFaults answers
Passing (Some r) answers = Passes (Some r) answers

-- the stream itself runs out of memory, and its source returned no error
abbrev pub WantsItself : Option R → List (Option R) → Type 0
WantsItself r answers = (r ≡ Some (Err OutOfMemory)) × NoFaults answers

-- calls that return `None` without calling the source
abbrev pub AllOver : List (Option R) → List (List (Option R)) → Type 0
AllOver rs calls = NothingCame rs × AllByRecursion (λ answers. answers ≡ []) calls

-- results of calls, with the source's results in each: passed on until the stream itself runs out
-- of memory
abbrev pub PassesAll : List (Option R) → List (List (Option R)) → Type 0
PassesAll [] [] = Unit {0}
PassesAll (r ∷ rs) (answers ∷ calls) = (Passes r answers × PassesAll rs calls)
    ⊎ (WantsItself r answers × AllOver rs calls)
PassesAll [] (answers ∷ calls) = ⊥
PassesAll (r ∷ rs) [] = ⊥

-- the next call returns `None` if its source does
abbrev pub NextIdles : List (Option R) → List (List (Option R)) → Type 0
NextIdles (r ∷ rs) (answers ∷ calls) = NothingCame answers → r ≡ None
NextIdles [] calls = Unit {0}
NextIdles (r ∷ rs) [] = ⊥

-- after its own `OutOfMemory` the stream is exhausted; after `None` it returns `None` while its
-- source does
abbrev pub StaysOver : List (Option R) → List (List (Option R)) → Type 0
StaysOver [] [] = Unit {0}
StaysOver (r ∷ rs) (answers ∷ calls) = (WantsItself r answers → AllOver rs calls)
    × (r ≡ None → NextIdles rs calls) × StaysOver rs calls
StaysOver [] (answers ∷ calls) = ⊥
StaysOver (r ∷ rs) [] = ⊥

-- a source returned these results in each call of a stream
abbrev pub GaveInCalls : {S : Type 0} → (S → Option R → S → Type 0) → S → List (List (Option R))
    → S → Type 0
GaveInCalls ask s [] t = s ≡ t
GaveInCalls {S} ask s (answers ∷ calls) t =
    (j : S) × GaveEach ask s answers j × GaveInCalls ask j calls t

-- for any number of calls, whatever the source returns: a law of the results and the source's
-- results in each call
pub record AlwaysReports {S T : Type 0} (Law : List (Option R) → List (List (Option R)) → Type 0)
    (advances : S → Option R → S → Type 0) (source : S) (source_of : T → S)
    (next : T → Option R → T → Type 0) (t : T) : Type 0 where
  pub of : (rs : List (Option R)) (u : T) → GaveEach next t rs u
      → (calls : List (List (Option R))) × GaveInCalls advances source calls (source_of u)
      × Law rs calls

module _ {S T : Type 0} (advances : S → Option R → S → Type 0) (source_of : T → S) (over : T → Bool)
    (quiet : T → Bool) where
  -- a call of a stream that has not ended: it passes on its source's results, or ends with
  -- `OutOfMemory`. A quiet stream returns `None` while its source does.
  pub record Listens (s : T) (r : Option R) (t : T) : Type 0 where
    pub answers : List (Option R)
    pub gave : GaveEach advances (source_of s) answers (source_of t)
    pub returned : (Passes r answers × (over t ≡ false)) ⊎ (WantsItself r answers × (over t ≡ true))
    pub idle : quiet s ≡ true → NothingCame answers → r ≡ None
    pub rests : r ≡ None → quiet t ≡ true

  -- a call: once ended, it returns `None` and does not call its source
  pub record CallReports (s : T) (r : Option R) (t : T) : Type 0 where
    pub live : over s ≡ false → Listens s r t
    pub ended : over s ≡ true
        → (r ≡ None) × (over t ≡ true) × (source_of t ≡ source_of s)

-- ---- with a filter, whose errors are passed on too

-- an error that a filter returns for an entry
pub record FilterSays {F : Type 0} (gives : F → Entry → Result Verdict Error → F → Type 0)
    (e : Error) : Type 0 where
  pub filter : F
  pub entry : Entry
  pub then : F
  pub says : gives filter entry (Err e) then

module _ (Says : Error → Type 0) where
  -- one of the `Says` errors is returned, and the source returned none
  pub record SaysItself (r : Option R) (answers : List (Option R)) : Type 0 where
    pub error : Error
    pub is : r ≡ Some (Err error)
    pub says : Says error
    pub none : NoFaults answers

  -- a call passes on its source's results, or returns a `Says` error
  abbrev pub PassesOr : Option R → List (Option R) → Type 0
  PassesOr r answers = Passes r answers ⊎ SaysItself r answers

  -- the same before the call returns
  abbrev pub PassingOr : Option R → List (Option R) → Type 0
  PassingOr r answers = Passing r answers ⊎ SaysItself r answers

  -- results of calls, with the source's results in each: passed on, or `Says` errors, until the
  -- stream itself runs out of memory
  abbrev pub PassesAllOr : List (Option R) → List (List (Option R)) → Type 0
  PassesAllOr [] [] = Unit {0}
  PassesAllOr (r ∷ rs) (answers ∷ calls) = (PassesOr r answers × PassesAllOr rs calls)
      ⊎ (WantsItself r answers × AllOver rs calls)
  PassesAllOr [] (answers ∷ calls) = ⊥
  PassesAllOr (r ∷ rs) [] = ⊥

  -- after its own `OutOfMemory`, unless that is a `Says` error, it is exhausted; after `None` it
  -- returns `None` while its source does
  abbrev pub StaysOverOr : List (Option R) → List (List (Option R)) → Type 0
  StaysOverOr [] [] = Unit {0}
  StaysOverOr (r ∷ rs) (answers ∷ calls) =
      (WantsItself r answers → Says OutOfMemory ⊎ AllOver rs calls)
      × (r ≡ None → NextIdles rs calls) × StaysOverOr rs calls
  StaysOverOr [] (answers ∷ calls) = ⊥
  StaysOverOr (r ∷ rs) [] = ⊥
