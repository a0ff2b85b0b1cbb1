-- What `YieldsExactly` and `CanYield` give for one call, and how they are proved from an invariant.
use Rattle.std.proofs.Common.{◌≡◌, refl, sym, ◌∙◌, ap, subst, Bool, false, List, [], ◌∷◌, ◌++◌}
use Rattle.std.proofs.Common.{reverse}
use Rattle.std.proofs.lemmas.List.{reverse-append}
use Rattle.std.specs.Prelude.{Option, Result, Ok, Err, OnErr}
use Rattle.sst_entries.specs.declared.stream.Direction.{Direction}
use Rattle.sst_entries.specs.declared.stream.Direction.TheVariants.{Front, Back}
use Rattle.sst_entries.specs.declared.error.Error.{Error}
use Rattle.sst_entries.specs.Entry.{Entry}
use Rattle.sst_entries.specs.Stream.{ok_results, first, but_first, last, but_last, yield_each, NoneStops}
use Rattle.sst_entries.specs.Stream.{Steps, Runs, YieldsExactly, CanYield}

-- the head and the tail of an equation of lists
pub head_eq : {A : Type 0} {x y : A} {xs ys : List A} → x ∷ xs ≡ y ∷ ys → x ≡ y
head_eq e = cc

pub tail_eq : {A : Type 0} {x y : A} {xs ys : List A} → x ∷ xs ≡ y ∷ ys → xs ≡ ys
tail_eq e = cc

module _ {S A : Type 0} (stops : Option A → Bool) (front back : S → Option A → S → Type 0) where
  -- a call at the front gives the first, and leaves the others
  pub yields_front : (s : S) (xs : List A) (r : Option A) (t : S) → YieldsExactly stops front back s xs
      → front s r t → stops r ≡ false → (r ≡ first xs) × YieldsExactly stops front back t (but_first xs)
  yields_front s xs r t d step goes = (
    head_eq (d.answers (Front ∷ []) (r ∷ []) t (t, step, refl) (goes, tt)),
    record {
      answers = λ ends rs u runs fine. tail_eq
          (d.answers (Front ∷ ends) (r ∷ rs) u (t, step, runs) (goes, fine));
    },
  )

  -- a call at the back gives the last
  pub yields_back : (s : S) (xs : List A) (r : Option A) (t : S) → YieldsExactly stops front back s xs
      → back s r t → stops r ≡ false → (r ≡ last xs) × YieldsExactly stops front back t (but_last xs)
  yields_back s xs r t d step goes = (
    head_eq (d.answers (Back ∷ []) (r ∷ []) t (t, step, refl) (goes, tt)),
    record {
      answers = λ ends rs u runs fine. tail_eq
          (d.answers (Back ∷ ends) (r ∷ rs) u (t, step, runs) (goes, fine));
    },
  )

  -- what every call keeps is enough
  pub yields_by : (Has : S → List A → Type 0)
      → ((s : S) (xs : List A) (r : Option A) (t : S) → Has s xs → front s r t → stops r ≡ false
      → (r ≡ first xs) × Has t (but_first xs))
      → ((s : S) (xs : List A) (r : Option A) (t : S) → Has s xs → back s r t → stops r ≡ false
      → (r ≡ last xs) × Has t (but_last xs))
      → (s : S) (xs : List A) → Has s xs → YieldsExactly stops front back s xs
  yields_by Has at_front at_back s xs has = record
      { answers = λ ends rs t. along ends rs s xs t has }
    where
      along : (ends : List Direction) (rs : List (Option A)) (s : S) (xs : List A) (t : S)
          → Has s xs → Runs front back s ends rs t → NoneStops stops rs → rs ≡ yield_each xs ends
      along [] [] s xs t has runs fine = refl
      along [] (r ∷ rs) s xs t has runs fine = absurd runs
      along (e ∷ ends) [] s xs t has runs fine = absurd runs
      along (Front ∷ ends) (r ∷ rs) s xs t has runs fine =
          let one = at_front s xs r runs.0 has runs.1 fine.0 in
          let more = along ends rs runs.0 (but_first xs) t one.1 runs.2 fine.1 in
          cc (one.0, more)
      along (Back ∷ ends) (r ∷ rs) s xs t has runs fine =
          let one = at_back s xs r runs.0 has runs.1 fine.0 in
          let more = along ends rs runs.0 (but_last xs) t one.1 runs.2 fine.1 in
          cc (one.0, more)

module _ {S A : Type 0} (front back : S → Option A → S → Type 0) (can can_back : S → Type 0) where
  pub can_front : (s : S) (r : Option A) (t : S) → CanYield front back can can_back s → front s r t
      → CanYield front back can can_back t
  can_front s r t d step = record {
    at = λ ends rs u runs. d.at (Front ∷ ends) (r ∷ rs) u
        (t, step, runs);
  }

  pub can_after_back : (s : S) (r : Option A) (t : S) → CanYield front back can can_back s
      → back s r t → CanYield front back can can_back t
  can_after_back s r t d step = record {
    at = λ ends rs u runs. d.at (Back ∷ ends) (r ∷ rs) u
        (t, step, runs);
  }

  pub can_now : (s : S) → CanYield front back can can_back s → can s
  can_now s d = (d.at [] [] s refl).0

  pub can_now_back : (s : S) → CanYield front back can can_back s → can_back s
  can_now_back s d = (d.at [] [] s refl).1

  pub can_by : (May : S → Type 0)
      → ((s : S) → May s → can s × can_back s)
      → ((s : S) (r : Option A) (t : S) → May s → front s r t → May t)
      → ((s : S) (r : Option A) (t : S) → May s → back s r t → May t)
      → (s : S) → May s → CanYield front back can can_back s
  can_by May ready at_front at_back s may = record { at = λ ends rs t. along ends rs s t may }
    where
      along : (ends : List Direction) (rs : List (Option A)) (s t : S) → May s
          → Runs front back s ends rs t → can t × can_back t
      along [] [] s t may runs = subst (λ (u : S). can u × can_back u) runs (ready s may)
      along [] (r ∷ rs) s t may runs = absurd runs
      along (e ∷ ends) [] s t may runs = absurd runs
      along (Front ∷ ends) (r ∷ rs) s t may runs =
          along ends rs runs.0 t (at_front s r runs.0 may runs.1) runs.2
      along (Back ∷ ends) (r ∷ rs) s t may runs =
          along ends rs runs.0 t (at_back s r runs.0 may runs.1) runs.2

-- what holds in any case holds on a refusal
pub on_err : {X E P : Type 0} (r : Result X E) → P → OnErr r P
on_err (Ok x) p = tt
on_err (Err e) p = p

-- one call more
pub runs_more : {S A : Type 0} (front back : S → Option A → S → Type 0) (e : Direction)
    (r : Option A) (t u : S) → Steps front back e t r u
    → (ends : List Direction) (rs : List (Option A)) (s : S) → Runs front back s ends rs t
    → Runs front back s (ends ++ e ∷ []) (rs ++ r ∷ []) u
runs_more front back e r t u step [] [] s runs =
    (u, subst (λ s. Steps front back e s r u) (sym runs) step, refl)
runs_more front back e r t u step [] (q ∷ rs) s runs = absurd runs
runs_more front back e r t u step (d ∷ ends) [] s runs = absurd runs
runs_more front back e r t u step (d ∷ ends) (q ∷ rs) s runs =
    (runs.0, runs.1, runs_more front back e r t u step ends rs runs.0 runs.2)

-- entries of a list that holds no error
pub map_append : (xs ys : List Entry) → ok_results (xs ++ ys) ≡ ok_results xs ++ ok_results ys
map_append [] ys = refl
map_append (x ∷ xs) ys = ap (λ (zs : List (Result Entry Error)). Ok x ∷ zs) (map_append xs ys)

pub map_reverse : (xs : List Entry) → reverse (ok_results xs) ≡ ok_results (reverse xs)
map_reverse [] = refl
map_reverse (x ∷ xs) = reverse-append (Ok x ∷ []) (ok_results xs)
    ∙ ap (λ (zs : List (Result Entry Error)). zs ++ Ok x ∷ []) (map_reverse xs)
    ∙ sym (ap ok_results (reverse-append (x ∷ []) xs) ∙ map_append (reverse xs) (x ∷ []))
