-- Copying what was found of some keys, one after another. Assumes `Logic`.
use Rattle.std.proofs.Common.{◌≡◌, ℕ, ◌+◌, ◌<◌, Bool, true, false, List, [], ◌∷◌, ◌++◌, length, get_or, refl, sym, ap, ◌∙◌, arith, append-nil, inr}
use Rattle.std.specs.Prelude.{Option, take, drop, nat_lt, not}
use Rattle.std.specs.List.{flat_map}
use Rattle.std.proofs.lemmas.Bool.{ltb-true}
use Rattle.std.proofs.lemmas.Grind.{flat_map-append}
use Rattle.std.proofs.lemmas.List.{drop_more, length-append, take_more}
use Rattle.sst_entries.specs.Entry.{Entry}
use Rattle.sst_c.specs.Copies.{laid_over}
use Rattle.sst_c.specs.Takes.{CopiesMany, bytes_found}
use Rattle.sst_c.proofs.Taking.{laid_on}

is_true : (b : Bool) → false ≡ not b → b ≡ true
is_true true is = refl
is_true false is = absurd cc

module _ (xs : List (Option Entry)) (room : List ℕ) (n : ℕ) (x : Option Entry) (less : n < length xs)
    (is : get_or xs n x ≡ x) (at : ℕ) (copied : List ℕ)
    (copies : copied ≡ laid_over (flat_map bytes_found (take n xs)) room)
    (filled : at ≡ length (flat_map bytes_found (take n xs))) where
  abbrev so_far : List ℕ
  so_far = flat_map bytes_found (take n xs)

  more : flat_map bytes_found (take (n + 1) xs) ≡ so_far ++ bytes_found x
  more =
      ap (flat_map bytes_found) (take_more xs n x less)
      ∙ flat_map-append bytes_found (take n xs) (get_or xs n x ∷ [])
      ∙ ap (λ (y : Option Entry). so_far ++ flat_map bytes_found (y ∷ [])) is
      ∙ ap (λ (l : List ℕ). so_far ++ l) (append-nil (bytes_found x))

  -- one more is copied
  pub laid_more : (laid : List ℕ) (end : ℕ)
      → laid ≡ take at copied ++ laid_over (bytes_found x) (drop at copied)
      → end ≡ at + length (bytes_found x)
      → (laid ≡ laid_over (flat_map bytes_found (take (n + 1) xs)) room)
      × (end ≡ length (flat_map bytes_found (take (n + 1) xs)))
  laid_more laid end same on = (
    same
        ∙ ap (λ (l : List ℕ). take at l ++ laid_over (bytes_found x) (drop at l)) copies
        ∙ laid_on so_far (bytes_found x) room at filled
        ∙ ap (λ (l : List ℕ). laid_over l room) (sym more),
    on
        ∙ ap (λ (m : ℕ). m + length (bytes_found x)) filled
        ∙ sym (length-append so_far (bytes_found x))
        ∙ ap length (sym more),
  )

  -- one more does not fit
  pub laid_short : length copied ≡ length room
      → false ≡ not (nat_lt (length copied) (at + length (bytes_found x)))
      → CopiesMany xs room copied n
  laid_short same short =
      let full = ltb-true (length copied) (at + length (bytes_found x)) (is_true _ short) in
      record {
        copies = copies;
        ends = inr (
          x,
          drop (n + 1) xs,
          drop_more xs n x less ∙ ap (λ (y : Option Entry). y ∷ drop (n + 1) xs) is,
          omega (arith, full, same, filled),
        );
      }
