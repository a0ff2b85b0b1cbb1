-- Lists at an end, whichever it is.
use Rattle.std.proofs.Common.{◌≡◌, ℕ, suc, true, false, List, [], ◌∷◌, ◌++◌, length, map, reverse}
use Rattle.std.proofs.Common.{refl, sym, ap, ◌∙◌, arith}
use Rattle.std.proofs.lemmas.List.{append_assoc, append-nil, length-append, map-append}
use Rattle.std.proofs.lemmas.List.{reverse-append, reverse-reverse}
use Rattle.std.proofs.lemmas.List.Concat.{flat_map-append}
use Rattle.std.specs.Prelude.{Option, Some, None, Result, Ok, Err}
use Rattle.sst_entries.specs.declared.error.Error.{Error}
use Rattle.sst_entries.specs.declared.stream.Direction.{Direction}
use Rattle.sst_entries.specs.declared.stream.Direction.TheVariants.{Front, Back}
use Rattle.sst_entries.specs.declared.error.Error.TheVariants.{OutOfMemory}
use Rattle.sst_entries.specs.Error.{is_memory}
use Rattle.sst_entries.specs.Span.{Span, SpanGives, rest_in}
use Rattle.sst_entries.specs.Stream.{first, but_first, last, but_last, back_of, ok_results}
use Rattle.lsm_iters.specs.walk.Ends.{StepAnswers, StepGives, laid_from, seen_from, span_remains}
use Rattle.lsm_iters.specs.walk.Ends.{taken_at}
use Rattle.lsm_iters.specs.walk.Parts.{Loading, all_results, early_behind, none_behind, results_of}

pub pair : {A B : Type 0} {a c : A} {b d : B} → a ≡ c → b ≡ d → ◌≡◌ {A = A × B} (a, b) (c, d)
pair e f = cc

module _ {X : Type 0} where
  pub no_items : (xs : List X) → length xs ≡ 0 → xs ≡ []
  no_items [] e = refl
  no_items (x ∷ xs) e = absurd (omega (arith, e))

  pub nil_left : (xs ys : List X) → xs ++ ys ≡ [] → xs ≡ []
  nil_left [] ys e = refl
  nil_left (x ∷ xs) ys e = absurd cc

  pub nil_right : (xs ys : List X) → xs ++ ys ≡ [] → ys ≡ []
  nil_right [] ys e = e
  nil_right (x ∷ xs) ys e = absurd cc

  -- ---- a list by its first, and by its last

  pub first_split : (xs : List X) (x : X) → first xs ≡ Some x → xs ≡ x ∷ but_first xs
  first_split [] x e = absurd cc
  first_split (y ∷ ys) x e = let same : y ≡ x = cc in ap (λ (z : X). z ∷ ys) same

  pub last_split : (xs : List X) (x : X) → last xs ≡ Some x → xs ≡ but_last xs ++ x ∷ []
  last_split xs x e =
      sym (reverse-reverse xs)
      ∙ ap reverse (first_split (reverse xs) x e)
      ∙ reverse-append (x ∷ []) (but_first (reverse xs))

  pub back_push : (xs : List X) (x : X) → back_of (xs ++ x ∷ []) ≡ (Some x, xs)
  back_push xs x =
      let turned : reverse (xs ++ x ∷ []) ≡ x ∷ reverse xs = reverse-append xs (x ∷ []) in
      pair (ap first turned) (ap (λ (ys : List X). reverse (but_first ys)) turned
      ∙ reverse-reverse xs)

  -- ---- the same at an end

  pub split : (at : Direction) (xs ys : List X) (x : X) → taken_at at xs ≡ (Some x, ys)
      → xs ≡ laid_from at (x ∷ []) ys
  split Front xs ys x e =
      first_split xs x (ap (λ (p : Option X × List X). p.0) e)
      ∙ ap (λ (zs : List X). x ∷ zs) (ap (λ (p : Option X × List X). p.1) e)
  split Back xs ys x e =
      last_split xs x (ap (λ (p : Option X × List X). p.0) e)
      ∙ ap (λ (zs : List X). zs ++ x ∷ []) (ap (λ (p : Option X × List X). p.1) e)

  pub at_end : (at : Direction) (x : X) (ys : List X)
      → taken_at at (laid_from at (x ∷ []) ys) ≡ (Some x, ys)
  at_end Front x ys = refl
  at_end Back x ys = back_push ys x

  pub joined_assoc : (at : Direction) (xs ys zs : List X)
      → laid_from at (laid_from at xs ys) zs ≡ laid_from at xs (laid_from at ys zs)
  joined_assoc Front xs ys zs = append_assoc xs ys zs
  joined_assoc Back xs ys zs = sym (append_assoc zs ys xs)

  pub nil_joined : (at : Direction) (xs : List X) → laid_from at [] xs ≡ xs
  nil_joined Front xs = refl
  nil_joined Back xs = append-nil xs

  -- what stands at the end of what is nearer
  pub takes_joined : (at : Direction) (xs ys zs : List X) (x : X) → taken_at at xs ≡ (Some x, ys)
      → taken_at at (laid_from at xs zs) ≡ (Some x, laid_from at ys zs)
  takes_joined at xs ys zs x e =
      ap (λ (ws : List X). taken_at at (laid_from at ws zs)) (split at xs ys x e)
      ∙ ap (taken_at at) (joined_assoc at (x ∷ []) ys zs)
      ∙ at_end at x (laid_from at ys zs)

  pub whole_end : (at : Direction) (xs : List X) (x : X) → (taken_at at xs).0 ≡ Some x
      → taken_at at xs ≡ (Some x, (taken_at at xs).1)
  whole_end at xs x e = ap (λ (o : Option X). (o, (taken_at at xs).1)) e

  pub first_joined : (at : Direction) (xs zs : List X) (x : X) → (taken_at at xs).0 ≡ Some x
      → (taken_at at (laid_from at xs zs)).0 ≡ Some x
  first_joined at xs zs x e =
      ap (λ (p : Option X × List X). p.0) (takes_joined at xs (taken_at at xs).1 zs x
      (whole_end at xs x e))

  pub first_alone : (at : Direction) (x : X) → (taken_at at (x ∷ [])).0 ≡ Some x
  first_alone Front x = refl
  first_alone Back x = refl

  pub none_at : (at : Direction) (xs : List X) (x : X) → xs ≡ [] → (taken_at at xs).0 ≡ Some x → ⊥
  none_at Front xs x none e =
      let wrong : None ≡ Some x = sym (ap first none) ∙ e in absurd cc
  none_at Back xs x none e =
      let wrong : None ≡ Some x = sym (ap last none) ∙ e in absurd cc

  none_first : (xs : List X) → first xs ≡ None → xs ≡ []
  none_first [] e = refl
  none_first (x ∷ xs) e = absurd cc

  pub none_taken : (at : Direction) (xs : List X) → (taken_at at xs).0 ≡ None → xs ≡ []
  none_taken Front xs e = none_first xs e
  none_taken Back xs e = sym (reverse-reverse xs) ∙ ap reverse (none_first (reverse xs) e)

  pub nothing_behind : (at : Direction) → (taken_at {X = X} at []).1 ≡ []
  nothing_behind Front = refl
  nothing_behind Back = refl

  -- as the end sees them
  pub seen_split : (at : Direction) (xs ys : List X) (x : X) → taken_at at xs ≡ (Some x, ys)
      → seen_from at xs ≡ x ∷ seen_from at ys
  seen_split Front xs ys x e = split Front xs ys x e
  seen_split Back xs ys x e = ap reverse (split Back xs ys x e) ∙ reverse-append ys (x ∷ [])

  pub seen_none : (at : Direction) (xs : List X) → xs ≡ [] → seen_from at xs ≡ []
  seen_none Front xs none = none
  seen_none Back xs none = ap reverse none

  pub shortens : (at : Direction) (xs ys : List X) (x : X) → taken_at at xs ≡ (Some x, ys)
      → length xs ≡ suc (length ys)
  shortens Front xs ys x e = ap length (split Front xs ys x e)
  shortens Back xs ys x e = omega (
    arith,
    ap length (split Back xs ys x e),
    length-append ys
        (x ∷ []),
  )

-- the results of parts, by the part at the end
pub rows_split : {X : Type 0} (at : Direction) (xs ys : List (Result (Loading X) Error))
    (x : Result (Loading X) Error) → taken_at at xs ≡ (Some x, ys)
    → all_results xs ≡ laid_from at (results_of x) (all_results ys)
rows_split Front xs ys x e = ap all_results (split Front xs ys x e)
rows_split Back xs ys x e =
    ap all_results (split Back xs ys x e)
    ∙ flat_map-append results_of ys (x ∷ [])
    ∙ ap (λ (rs : List _). all_results ys ++ rs) (append-nil (results_of x))

-- ---- lists of what is made of each item

module _ {X Y : Type 0} (f : X → Y) where
  map_laid : (at : Direction) (xs ys : List X) → map f (laid_from at xs ys)
      ≡ laid_from at (map f xs) (map f ys)
  map_laid Front xs ys = map-append f xs ys
  map_laid Back xs ys = map-append f ys xs

  pub map_taken : (at : Direction) (xs ys : List X) (x : X) → taken_at at xs ≡ (Some x, ys)
      → taken_at at (map f xs) ≡ (Some (f x), map f ys)
  map_taken at xs ys x e =
      ap (λ (zs : List X). taken_at at (map f zs)) (split at xs ys x e)
      ∙ ap (taken_at at) (map_laid at (x ∷ []) ys)
      ∙ at_end at (f x) (map f ys)

  pub map_first : (at : Direction) (xs : List X) (x : X) → (taken_at at xs).0 ≡ Some x
      → (taken_at at (map f xs)).0 ≡ Some (f x)
  map_first at xs x e =
      ap (λ (p : Option Y × List Y). p.0) (map_taken at xs (taken_at at xs).1 x
      (whole_end at xs x e))

  pub map_none : (xs : List X) → map f xs ≡ [] → xs ≡ []
  map_none [] e = refl
  map_none (x ∷ xs) e = absurd cc

  map_reverse : (xs : List X) → map f (reverse xs) ≡ reverse (map f xs)
  map_reverse [] = refl
  map_reverse (x ∷ xs) =
      ap (map f) (reverse-append (x ∷ []) xs)
      ∙ map-append f (reverse xs) (x ∷ [])
      ∙ ap (λ (ys : List Y). ys ++ f x ∷ []) (map_reverse xs)
      ∙ sym (reverse-append (f x ∷ []) (map f xs))

  pub map_seen : (at : Direction) (xs : List X) → seen_from at (map f xs) ≡ map f (seen_from at xs)
  map_seen Front xs = refl
  map_seen Back xs = sym (map_reverse xs)

  pub behind_map : (xs : List X) (n : ℕ) → none_behind (map f xs) n ≡ none_behind xs n
  behind_map [] n = refl
  behind_map (x ∷ xs) n = refl

  pub early_map : (xs : List X) (o : Option Error) → early_behind (map f xs) o ≡ early_behind xs o
  early_map [] o = refl
  early_map (x ∷ xs) o = refl

-- ---- a step of a window in a list

pub not_memory : (e : Error) → e ≡ OutOfMemory → is_memory e ≡ false → ⊥
not_memory e is fine = let wrong : true ≡ false = sym (ap is_memory is) ∙ fine in absurd cc

span_answer : {X : Type 0} (at : Direction) (s t : Span X) (r : Option (Result X Error))
    → SpanGives (taken_at at) s r t → StepAnswers at (span_remains s) r (span_remains t)
span_answer at s t None gives =
    (ap ok_results gives.answer.0, record { results = ap ok_results gives.answer.1; loads = refl })
span_answer {X = X} at s t (Some (Ok x)) gives =
    map_taken (λ (y : X). Ok y) at (rest_in s) (taken_at at (rest_in s)).1 x
    (whole_end at (rest_in s) x gives.answer.0)
    ∙ ap (λ (ys : List X). (Some (Ok x), ok_results ys)) (sym gives.answer.1)
span_answer {X = X} at s t (Some (Err e)) gives = (
  λ fine. absurd (not_memory e gives.answer.0 fine),
  λ over. gives.answer.1
      (map_none (λ (y : X). Ok y) (rest_in s) over.results),
)

pub span_step : {X : Type 0} (at : Direction) (s t : Span X) (r : Option (Result X Error))
    → SpanGives (taken_at at) s r t → StepGives at (span_remains s) r (span_remains t)
span_step at s t r gives = record { answer = span_answer at s t r gives; loads = omega arith }
