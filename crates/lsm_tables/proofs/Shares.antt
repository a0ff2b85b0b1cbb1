-- Values that are shared one after another behind others: what is shared is as they are.
use Rattle.std.proofs.Common.{◌≡◌, sym, ◌∙◌, ap, ℕ, ◌+◌, ◌<◌, ◌≤◌, List, [], ◌∷◌, ◌++◌}
use Rattle.std.proofs.Common.{get_or, length, take, append_assoc, append-nil}
use Rattle.std.specs.Prelude.{map}
use Rattle.std.proofs.lemmas.List.{map-append, take_all, take_more}

module _ {X Y : Type 0} (f : X → Y) (xs : List X) where
  pub share_none : (old : List X) → map f old ≡ map f old ++ map f (take 0 xs)
  share_none old = sym (append-nil (map f old))

  pub share_next : (i : ℕ) (x y : X) → i < length xs → x ≡ get_or xs i x → (old shared : List X)
      → map f shared ≡ map f old ++ map f (take i xs) → f y ≡ f x
      → map f (shared ++ y ∷ []) ≡ map f old ++ map f (take (i + 1) xs)
  share_next i x y less is old shared so_far same =
      map-append f shared (y ∷ []) ∙ ap (λ (ys : List Y). ys ++ f y ∷ []) so_far
      ∙ append_assoc (map f old) (map f (take i xs)) (f y ∷ [])
      ∙ ap (λ (z : Y). map f old ++ (map f (take i xs) ++ z ∷ [])) (same ∙ ap f is)
      ∙ ap (λ (ys : List Y). map f old ++ ys) (sym
      (ap (map f) (take_more xs i x less) ∙ map-append f (take i xs) (get_or xs i x ∷ [])))

  pub share_all : (i : ℕ) (old shared : List X) → map f shared ≡ map f old ++ map f (take i xs)
      → length xs ≤ i → map f shared ≡ map f old ++ map f xs
  share_all i old shared so_far past = so_far ∙ ap (λ (ys : List X). map f old ++ map f ys)
      (take_all i xs past)
