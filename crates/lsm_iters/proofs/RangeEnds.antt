-- Choices by a test; and ends of lists, by what they leave.
use Rattle.std.proofs.Common.{◌≡◌, Bool, true, false, suc, List, [], ◌∷◌, ◌++◌, length, refl, ap}
use Rattle.std.proofs.Common.{◌∙◌, arith, if◌then◌else◌}
use Rattle.std.proofs.lemmas.List.{length-append}
use Rattle.std.specs.Prelude.{Option, Some}
use Rattle.sst_entries.specs.declared.stream.Direction.{Direction}
use Rattle.sst_entries.specs.declared.stream.Direction.TheVariants.{Front, Back}
use Rattle.sst_entries.specs.Stream.{front_of, back_of}
use Rattle.lsm_iters.specs.walk.Ends.{taken_at}
use Rattle.lsm_iters.proofs.AtEnds.{first_split, last_split}

module _ {X : Type 0} where
  pub if_true : (b : Bool) (x y : X) → b ≡ true → (if b then x else y) ≡ x
  if_true true x y e = refl
  if_true false x y e = let wrong : false ≡ true = e in absurd cc

  pub if_false : (b : Bool) (x y : X) → b ≡ false → (if b then x else y) ≡ y
  if_false true x y e = let wrong : true ≡ false = e in absurd cc
  if_false false x y e = refl

  -- an end gives an item, and leaves the others
  abbrev pub Takes : (List X → Option X × List X) → List X → X → List X → Type 0
  Takes end xs x ys = end xs ≡ (Some x, ys)

  pub front_split : (xs ys : List X) (x : X) → Takes front_of xs x ys → xs ≡ x ∷ ys
  front_split xs ys x e =
      first_split xs x (ap (λ (p : Option X × List X). p.0) e)
      ∙ ap (λ (zs : List X). x ∷ zs) (ap (λ (p : Option X × List X). p.1) e)

  pub back_split : (xs ys : List X) (x : X) → Takes back_of xs x ys → xs ≡ ys ++ x ∷ []
  back_split xs ys x e =
      last_split xs x (ap (λ (p : Option X × List X). p.0) e)
      ∙ ap (λ (zs : List X). zs ++ x ∷ []) (ap (λ (p : Option X × List X). p.1) e)

  -- the others are fewer
  abbrev pub Shortens : (List X → Option X × List X) → Type 0
  Shortens end = (xs ys : List X) (x : X) → Takes end xs x ys → length xs ≡ suc (length ys)

  pub front_shortens : Shortens front_of
  front_shortens xs ys x e = ap length (front_split xs ys x e)

  pub back_shortens : Shortens back_of
  back_shortens xs ys x e = omega (
    arith,
    ap length (back_split xs ys x e),
    length-append ys
        (x ∷ []),
  )

  pub shortens_at : (at : Direction) → Shortens (taken_at at)
  shortens_at Front = front_shortens
  shortens_at Back = back_shortens
