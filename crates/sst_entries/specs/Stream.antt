-- A source denotes the list that it still yields, from the front by `next` and from the back by
-- `next_back`.
use Rattle.std.specs.Prelude.{◌≡◌, ℕ, ◌<◌, Bool, false, List, [], ◌∷◌, map, reverse, take, Option}
use Rattle.std.specs.Prelude.{Some, None, MatchOption, Result, Ok, Err}
use Rattle.std.specs.List.{AllByRecursion}
use Rattle.sst_entries.specs.declared.stream.Direction.{Direction}
use Rattle.sst_entries.specs.declared.stream.Direction.TheVariants.{Front, Back}
use Rattle.sst_entries.specs.declared.error.Error.{Error}

-- The first item of a list.
abbrev pub first : {A : Type 0} → List A → Option A
first [] = None
first (x ∷ xs) = Some x

-- The list without its first item.
abbrev pub but_first : {A : Type 0} → List A → List A
but_first [] = []
but_first (x ∷ xs) = xs

-- The last item of a list.
abbrev pub last : {A : Type 0} → List A → Option A
last xs = first (reverse xs)

-- The list without its last item.
abbrev pub but_last : {A : Type 0} → List A → List A
but_last xs = reverse (but_first (reverse xs))

-- The results up to and including the first error.
abbrev pub up_to_error : {X : Type 0} → List (Result X Error) → List (Result X Error)
up_to_error [] = []
up_to_error (Ok x ∷ rs) = Ok x ∷ up_to_error rs
up_to_error (Err e ∷ rs) = Err e ∷ []

-- The items of calls at a list of ends: the first or the last that remains, `None` once none
-- remains.
abbrev pub yield_each : {A : Type 0} → List A → List Direction → List (Option A)
yield_each xs [] = []
yield_each xs (Front ∷ ends) = first xs ∷ yield_each (but_first xs) ends
yield_each xs (Back ∷ ends) = last xs ∷ yield_each (but_last xs) ends

-- No item of the list stops the source.
abbrev pub NoneStops : {A : Type 0} → (Option A → Bool) → List (Option A) → Type 0
NoneStops stops [] = Unit {0}
NoneStops stops (r ∷ rs) = (stops r ≡ false) × NoneStops stops rs

-- Nothing stops the source.
abbrev pub never : {A : Type 0} → Option A → Bool
never r = false

-- A result stops a source if it is an error that stops it.
abbrev pub result_stops : {X : Type 0} → (Error → Bool) → Result X Error → Bool
result_stops stops (Ok x) = false
result_stops stops (Err e) = stops e

-- An item of a source stops it if its result does.
abbrev pub answer_stops : {X : Type 0} → (Error → Bool) → Option (Result X Error) → Bool
answer_stops stops None = false
answer_stops stops (Some r) = result_stops stops r

-- The items as results without errors.
abbrev pub ok_results : {X : Type 0} → List X → List (Result X Error)
ok_results xs = map (λ x. Ok x) xs

module _ {S A : Type 0} (front back : S → Option A → S → Type 0) where
  -- One call at an end.
  abbrev pub Steps : Direction → S → Option A → S → Type 0
  Steps Front = front
  Steps Back = back

  -- Calls at these ends yield these items, and take the state from s to t.
  abbrev pub Runs : S → List Direction → List (Option A) → S → Type 0
  Runs s [] [] t = s ≡ t
  Runs s [] (r ∷ rs) t = ⊥
  Runs s (e ∷ ends) [] t = ⊥
  Runs s (e ∷ ends) (r ∷ rs) t = (j : S) × Steps e s r j × Runs j ends rs t

-- Calls at a prefix of these ends take the state from s to t.
pub record LedBy {S A : Type 0} (front back : S → Option A → S → Type 0) (s : S)
    (ends : List Direction) (t : S) : Type 0 where
  pub asked : ℕ
  pub answers : List (Option A)
  pub ran : Runs front back s (take asked ends) answers t

-- For every list of ends, the calls yield the items of `deal`, up to one that stops the source.
pub record YieldsExactly {S A : Type 0} (stops : Option A → Bool) (front back : S → Option A → S → Type 0)
    (s : S) (xs : List A) : Type 0 where
  pub answers : (ends : List Direction) (rs : List (Option A)) (t : S) → Runs front back s ends rs t
      → NoneStops stops rs → rs ≡ yield_each xs ends

-- After any calls, both ends may be called.
pub record CanYield {S A : Type 0} (front back : S → Option A → S → Type 0)
    (can can_back : S → Type 0) (s : S) : Type 0 where
  pub at : (ends : List Direction) (rs : List (Option A)) (t : S) → Runs front back s ends rs t
      → can t × can_back t

-- No call at the back, for a source that is read only from the front.
abbrev pub nowhere : {S A : Type 0} → S → Option A → S → Type 0
nowhere s r t = ⊥

-- A call yields the first of the remaining items.
abbrev pub YieldsFirst : (Error → Bool) → {T X : Type 0} → (T → List (Result X Error) → Type 0) → T
    → Option (Result X Error) → T → Type 0
YieldsFirst stops {X = X} Has s r t =
    (xs : List (Result X Error)) → Has s xs → answer_stops stops r ≡ false
    → (r ≡ first xs) × Has t (but_first xs)

-- A call yields the last of the remaining items.
abbrev pub YieldsLast : (Error → Bool) → {T X : Type 0} → (T → List (Result X Error) → Type 0) → T
    → Option (Result X Error) → T → Type 0
YieldsLast stops {X = X} Has s r t =
    (xs : List (Result X Error)) → Has s xs → answer_stops stops r ≡ false
    → (r ≡ last xs) × Has t (but_last xs)

-- An item lowers the bound on the items that remain; `None` makes it zero.
abbrev pub Lowers : {A : Type 0} → Option A → ℕ → ℕ → Type 0
Lowers r old new = MatchOption r (new ≡ 0) (λ _. new < old)

-- The first item of a list, and the list without it.
abbrev pub front_of : {A : Type 0} → List A → Option A × List A
front_of xs = (first xs, but_first xs)

-- The last item of a list, and the list without it.
abbrev pub back_of : {A : Type 0} → List A → Option A × List A
back_of xs = (last xs, but_last xs)

-- After one call the stream may be called again. If s denotes xs, the item is that of a step on xs,
-- up to an error that stops it.
pub record Answers {T X : Type 0} (May : T → Type 0)
    (Has : (Error → Bool) → T → List (Result X Error) → Type 0)
    (stepped : List (Result X Error) → Option (Result X Error) × List (Result X Error)) (s : T)
    (r : Option (Result X Error)) (t : T) : Type 0 where
  pub may : May t
  pub gives : (stops : Error → Bool) (xs : List (Result X Error)) → Has stops s xs
      → answer_stops stops r ≡ false → (r ≡ (stepped xs).0) × Has stops t (stepped xs).1

-- Calls at these ends yield the items of the source's list, up to an error that stops it.
abbrev pub AnswersOf : {S X : Type 0} (front back : S → Option (Result X Error) → S → Type 0) → S
    → List Direction → List (Option (Result X Error)) → Type 0
AnswersOf {X = X} front back s ends rs =
    (stops : Error → Bool) (xs : List (Result X Error)) → YieldsExactly (answer_stops stops) front back s xs
    → NoneStops (answer_stops stops) rs → rs ≡ yield_each xs ends

-- A source that yields a list from both ends yields it from the front alone.
abbrev pub YieldsInFront : {S X : Type 0} (front back : S → Option (Result X Error) → S → Type 0) → S
    → Type 0
YieldsInFront {X = X} front back s =
    (stops : Error → Bool) (xs : List (Result X Error)) → YieldsExactly (answer_stops stops) front back s xs
    → YieldsExactly (answer_stops stops) front nowhere s xs

-- After the first error there is only `None`.
abbrev pub EndAtError : {X : Type 0} → List (Option (Result X Error)) → Type 0
EndAtError [] = Unit {0}
EndAtError (None ∷ rs) = EndAtError rs
EndAtError (Some (Ok x) ∷ rs) = EndAtError rs
EndAtError (Some (Err e) ∷ rs) = AllByRecursion (λ r. r ≡ None) rs

-- At any ends, a stream yields only `None` after an error.
pub record EndsAtError {S X : Type 0} (front back : S → Option (Result X Error) → S → Type 0)
    (s : S) : Type 0 where
  pub answers : (ends : List Direction) (rs : List (Option (Result X Error))) (t : S)
      → Runs front back s ends rs t → EndAtError rs
