-- Many reads, one after another: what is told of the first of them, and of one more.
use Rattle.std.proofs.Common.{◌≡◌, ℕ, zero, suc, ◌+◌, ◌<◌, List, [], ◌∷◌, ◌++◌, get_or, length}
use Rattle.std.proofs.Common.{take, refl, sym, ap, subst, ◌∙◌, arith}
use Rattle.std.specs.Prelude.{Result, Ok, Err, map}
use Rattle.sst_entries.specs.declared.error.Error.{Error}
use Rattle.lsm_readers.specs.point.Many.{answers_to}
use Rattle.lsm_readers.specs.point.Read.{◌>>=◌}
use Rattle.lsm_readers.proofs.Recovered.{bind_ok}

module _ {X Y : Type 0} (f : X → Result Y Error) where
  -- behind the answer to one come those to others
  abbrev behind : List X → Y → Result (List Y) Error
  behind xs y = answers_to f xs >>= λ ys. Ok (y ∷ ys)

  behind_ok : (xs : List X) (y : Y) (ys : List Y) → answers_to f xs ≡ Ok ys
      → behind xs y ≡ Ok (y ∷ ys)
  behind_ok xs y ys is = ap (λ (r : Result (List Y) Error). r >>= λ zs. Ok (y ∷ zs)) is

  first_ok : (x : X) (xs : List X) (y : Y) → f x ≡ Ok y → answers_to f (x ∷ xs) ≡ behind xs y
  first_ok x xs y is = ap (λ (r : Result Y Error). r >>= behind xs) is

  first_err : (x : X) (xs : List X) (e : Error) → f x ≡ Err e → answers_to f (x ∷ xs) ≡ Err e
  first_err x xs e is = ap (λ (r : Result Y Error). r >>= behind xs) is

  more_of : (xs : List X) (i : ℕ) (x : X) (ys : List Y) (y : Y) → i < length xs → x ≡ get_or xs i x
      → answers_to f (take i xs) ≡ Ok ys → f x ≡ Ok y
      → answers_to f (take (suc i) xs) ≡ Ok (ys ++ y ∷ [])
  more_of [] i x ys y less is before here = absurd (omega (arith, less))
  more_of (z ∷ zs) zero x ys y less is before here =
      let none : [] ≡ ys = cc in
      subst (λ (us : List Y). answers_to f (z ∷ []) ≡ Ok (us ++ y ∷ [])) none
      (first_ok z [] y (ap f (sym is) ∙ here))
  more_of (z ∷ zs) (suc i) x ys y less is before here =
      let first = bind_ok (f z) (behind (take i zs)) ys before in
      let rest = bind_ok (answers_to f (take i zs)) (λ us. Ok (first.0 ∷ us)) ys first.2 in
      let same : first.0 ∷ rest.0 ≡ ys = let returned = rest.2 in cc in
      let more = more_of zs i x rest.0 y (omega (arith, less)) is rest.1 here in
      subst (λ (us : List Y). answers_to f (z ∷ take (suc i) zs) ≡ Ok (us ++ y ∷ [])) same
      (first_ok z (take (suc i) zs) first.0 first.1
      ∙ behind_ok (take (suc i) zs) first.0 (rest.0 ++ y ∷ []) more)

  -- the answers to one more
  pub one_more : (xs : List X) (i : ℕ) (x : X) (ys : List Y) (y : Y) → i < length xs
      → x ≡ get_or xs i x → answers_to f (take i xs) ≡ Ok ys → f x ≡ Ok y
      → answers_to f (take (i + 1) xs) ≡ Ok (ys ++ y ∷ [])
  one_more xs i x ys y less is before here =
      ap (λ (n : ℕ). answers_to f (take n xs)) (let e : i + 1 ≡ suc i = omega arith in e)
      ∙ more_of xs i x ys y less is before here

  -- the earliest refusal
  pub refused_at : (xs : List X) (i : ℕ) (x : X) (ys : List Y) (e : Error) → i < length xs
      → x ≡ get_or xs i x → answers_to f (take i xs) ≡ Ok ys → f x ≡ Err e → answers_to f xs ≡ Err e
  refused_at [] i x ys e less is before here = absurd (omega (arith, less))
  refused_at (z ∷ zs) zero x ys e less is before here = first_err z zs e (ap f (sym is) ∙ here)
  refused_at (z ∷ zs) (suc i) x ys e less is before here =
      let first = bind_ok (f z) (behind (take i zs)) ys before in
      let rest = bind_ok (answers_to f (take i zs)) (λ us. Ok (first.0 ∷ us)) ys first.2 in
      first_ok z zs first.0 first.1
      ∙ ap (λ (r : Result (List Y) Error). r >>= λ us. Ok (first.0 ∷ us))
      (refused_at zs i x rest.0 e (omega (arith, less)) is rest.1 here)

  -- where each has an answer
  pub all_answered : (p : X → Y) → ((x : X) → f x ≡ Ok (p x)) → (xs : List X)
      → answers_to f xs ≡ Ok (map p xs)
  all_answered p each [] = refl
  all_answered p each (x ∷ xs) = first_ok x xs (p x) (each x)
      ∙ behind_ok xs (p x) (map p xs) (all_answered p each xs)
