-- A list whose values are shared one by one.
use Rattle.std.proofs.Common.{◌≡◌, sym, ◌∙◌, ap, List, [], ◌∷◌, ◌++◌, append-nil, append_assoc}
use Rattle.std.specs.Prelude.{map}
use Rattle.std.proofs.lemmas.List.{map-append}

pub shared_more : {X Y : Type 0} (f : X → Y) (shared : List X) (x : X) (y : Y)
    (before rest all : List Y) → f x ≡ y → before ≡ y ∷ rest → map f shared ++ before ≡ all
    → map f (shared ++ x ∷ []) ++ rest ≡ all
shared_more {X} {Y} f shared x y before rest all is next so_far =
    ap (λ (ys : List Y). ys ++ rest) (map-append f shared (x ∷ []))
    ∙ append_assoc (map f shared) (f x ∷ []) rest
    ∙ ap (λ (z : Y). map f shared ++ z ∷ rest) is
    ∙ ap (λ (ys : List Y). map f shared ++ ys) (sym next)
    ∙ so_far

pub shared_all : {X Y : Type 0} (f : X → Y) (shared : List X) (rest all : List Y) → rest ≡ []
    → map f shared ++ rest ≡ all → map f shared ≡ all
shared_all {X} {Y} f shared rest all none so_far = sym (append-nil (map f shared))
    ∙ ap (λ (ys : List Y). map f shared ++ ys) (sym none) ∙ so_far
