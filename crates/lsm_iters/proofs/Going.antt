-- A call that answers lowers what may still come.
use Rattle.std.proofs.Common.{◌≡◌, ◌+◌, ◌<◌, ℕ, zero, suc, List, [], ◌∷◌, ◌++◌, length, refl, ap}
use Rattle.std.proofs.Common.{◌∙◌, arith}
use Rattle.std.proofs.lemmas.List.{length-append}
use Rattle.std.specs.Prelude.{Option, Some, None, Ok, Err}
use Rattle.std.specs.Iterator.{MakesProgress, at_most}
use Rattle.sst_entries.specs.Stream.{but_first, but_last, first, last, front_of, back_of}
use Rattle.lsm_iters.proofs.AtEnds.{first_split, last_split}
use Rattle.lsm_iters.specs.block_index.Left.{Left, LeftGives, left_size}
use Rattle.lsm_iters.proofs.IndexAtEnds.{R, End}

-- an end takes its answer away
abbrev pub Shortens : End → Type 0
Shortens of = (xs ys : List R) (x : R) → of xs ≡ (Some x, ys) → length ys < length xs

pub front_shortens : Shortens front_of
front_shortens xs ys x e =
    let at : first xs ≡ Some x = ap (λ (p : Option R × List R). p.0) e in
    let rest : but_first xs ≡ ys = ap (λ (p : Option R × List R). p.1) e in
    let split : length xs ≡ suc (length ys) = ap length
    (first_split xs x at ∙ ap (λ (zs : List R). x ∷ zs) rest) in
    omega arith

pub back_shortens : Shortens back_of
back_shortens xs ys x e =
    let at : last xs ≡ Some x = ap (λ (p : Option R × List R). p.0) e in
    let rest : but_last xs ≡ ys = ap (λ (p : Option R × List R). p.1) e in
    let split : length xs ≡ length (ys ++ x ∷ []) =
    ap length (last_split xs x at ∙ ap (λ (zs : List R). zs ++ x ∷ []) rest) in
    omega (arith, length-append ys (x ∷ []))

something_left : (xs : List R) (n : ℕ) → (xs ≡ [] → n ≡ 0 → ⊥) → 0 < length xs + n
something_left [] zero not = absurd (not refl refl)
something_left [] (suc n) not = omega arith
something_left (x ∷ xs) n not = omega arith

nothing_left : (xs : List R) (n : ℕ) → xs ≡ [] → n ≡ 0 → length xs + n ≡ 0
nothing_left xs n none zero_now = let short : length xs ≡ 0 = ap length none in omega arith

pub progress : {S : Type 0} (view : S → Left) (of : End) → Shortens of
    → (s : S) (r : Option R) (t : S) → LeftGives of (view s) r (view t)
    → MakesProgress (λ _. Unit {0}) (λ u. at_most (left_size (view u))) s r t
progress view of shortens s None t step = record { on = λ _. tt; keeps = tt; rests = λ _. tt }
progress view of shortens s (Some (Ok h)) t step =
    let fewer : length (view t).results < length (view s).results =
    shortens (view s).results (view t).results (Ok h) step.answer in
    record { on = λ _. (tt, tt, omega (arith, step.loads.within)); keeps = tt; rests = λ _. tt }
progress view of shortens s (Some (Err e)) t step =
    let some : 0 < length (view s).results + (view s).loads =
    something_left (view s).results (view s).loads
    (λ none zero_now. step.answer.1 (record { results = none; loads = zero_now })) in
    let none : length (view t).results + (view t).loads ≡ 0 =
    nothing_left (view t).results (view t).loads step.ends.results step.ends.loads in
    record { on = λ _. (tt, tt, omega arith); keeps = tt; rests = λ _. tt }
