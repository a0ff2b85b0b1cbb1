-- Windows of lists: what is left out at either end, and windows of parts through a top level.
use Rattle.std.proofs.Common.{◌≡◌, Bool, true, false, List, [], ◌∷◌, ◌++◌, map, refl, sym, ap}
use Rattle.std.proofs.Common.{subst, ◌∙◌, append-nil}
use Rattle.std.specs.List.{AllByRecursion, flat_map}
use Rattle.std.proofs.lemmas.List.{map-append}
use Rattle.sst_entries.proofs.Lists.{all_behind}
use Rattle.sst_blocks.specs.Handles.{from_first, up_to_first}
use Rattle.sst_blocks.specs.table.Parts.{joined_parts}

-- ---- one step of each cut

module _ {A : Type 0} where
  pub from_here : (p : A → Bool) (x : A) (xs : List A) → p x ≡ true → from_first p (x ∷ xs) ≡ x ∷ xs
  from_here p x xs h = rw h refl

  pub from_later : (p : A → Bool) (x : A) (xs : List A) → p x ≡ false
      → from_first p (x ∷ xs) ≡ from_first p xs
  from_later p x xs h = rw h refl

  pub to_here : (q : A → Bool) (x : A) (xs : List A) → q x ≡ true → up_to_first q (x ∷ xs) ≡ x ∷ []
  to_here q x xs h = rw h refl

  pub to_later : (q : A → Bool) (x : A) (xs : List A) → q x ≡ false
      → up_to_first q (x ∷ xs) ≡ x ∷ up_to_first q xs
  to_later q x xs h = rw h refl

  -- what holds of all holds of a front
  pub all_to : (P : A → Type 0) (q : A → Bool) (xs : List A) → AllByRecursion P xs
      → AllByRecursion P (up_to_first q xs)
  all_to P q [] h = tt
  all_to P q (x ∷ xs) h =
      elim (q x) as (λ b. q x ≡ b → AllByRecursion P (up_to_first q (x ∷ xs))) [
        | true ↦ λ t. subst (λ (ys : List A). AllByRecursion P ys) (sym (to_here q x xs t))
            (h.0, tt)
        | false ↦ λ f. subst (λ (ys : List A). AllByRecursion P ys) (sym (to_later q x xs f))
            (h.0, all_to P q xs h.1)
      ] refl

-- ---- what is left out gives nothing

module _ {A B : Type 0} (R : A → List B) where
  pub skip_front : (p : A → Bool) (xs : List A) → AllByRecursion (λ x. p x ≡ false → R x ≡ []) xs
      → flat_map R (from_first p xs) ≡ flat_map R xs
  skip_front p [] none = refl
  skip_front p (x ∷ xs) none =
      elim (p x) as (λ b. p x ≡ b → flat_map R (from_first p (x ∷ xs)) ≡ flat_map R (x ∷ xs)) [
        | true ↦ λ t. ap (flat_map R) (from_here p x xs t)
        | false ↦ λ f. ap (flat_map R) (from_later p x xs f) ∙ skip_front p xs none.1
            ∙ sym (ap (λ (ys : List B). ys ++ flat_map R xs) (none.0 f))
      ] refl

  -- behind one that passes nothing is given
  abbrev pub StopsAt : (A → Bool) → List A → Type 0
  StopsAt q [] = Unit {0}
  StopsAt q (x ∷ xs) = (q x ≡ true → flat_map R xs ≡ []) × StopsAt q xs

  pub skip_back : (q : A → Bool) (xs : List A) → StopsAt q xs
      → flat_map R (up_to_first q xs) ≡ flat_map R xs
  skip_back q [] none = refl
  skip_back q (x ∷ xs) none =
      elim (q x) as (λ b. q x ≡ b → flat_map R (up_to_first q (x ∷ xs)) ≡ flat_map R (x ∷ xs)) [
        | true ↦ λ t. ap (flat_map R) (to_here q x xs t)
            ∙ ap (λ (ys : List B). R x ++ ys) (sym (none.0 t))
        | false ↦ λ f. ap (flat_map R) (to_later q x xs f)
            ∙ ap (λ (ys : List B). R x ++ ys) (skip_back q xs none.1)
      ] refl

-- ---- cuts of two lists one behind another

module _ {A : Type 0} (p : A → Bool) where
  -- behind one that passes all do
  abbrev pub Rises : List A → Type 0
  Rises [] = Unit {0}
  Rises (x ∷ xs) = (p x ≡ true → AllByRecursion (λ y. p y ≡ true) xs) × Rises xs

  rises_behind : (xs ys : List A) → Rises (xs ++ ys) → Rises ys
  rises_behind [] ys h = h
  rises_behind (x ∷ xs) ys h = rises_behind xs ys h.1

  rises_to : (q : A → Bool) (xs : List A) → Rises xs → Rises (up_to_first q xs)
  rises_to q [] h = tt
  rises_to q (x ∷ xs) h =
      elim (q x) as (λ b. q x ≡ b → Rises (up_to_first q (x ∷ xs))) [
        | true ↦ λ t. subst (λ (ys : List A). Rises ys) (sym (to_here q x xs t)) ((λ _. tt), tt)
        | false ↦ λ f. subst (λ (ys : List A). Rises ys) (sym (to_later q x xs f))
            ((λ t. all_to (λ (y : A). p y ≡ true) q xs (h.0 t)), rises_to q xs h.1)
      ] refl

  from_all : (xs : List A) → AllByRecursion (λ y. p y ≡ true) xs → from_first p xs ≡ xs
  from_all [] h = refl
  from_all (x ∷ xs) h = from_here p x xs h.0

  from_none : (xs : List A) → AllByRecursion (λ y. p y ≡ false) xs → from_first p xs ≡ []
  from_none [] h = refl
  from_none (x ∷ xs) h = from_later p x xs h.0 ∙ from_none xs h.1

  from_split : (xs ys : List A) → Rises (xs ++ ys)
      → from_first p (xs ++ ys) ≡ from_first p xs ++ from_first p ys
  from_split [] ys h = refl
  from_split (x ∷ xs) ys h =
      elim (p x) as (λ b. p x ≡ b → from_first p ((x ∷ xs) ++ ys) ≡ from_first p (x ∷ xs)
      ++ from_first p ys) [
        | true ↦ λ t.
            let others = from_all ys (all_behind (λ (y : A). p y ≡ true) xs ys (h.0 t)) in
            from_here p x (xs ++ ys) t ∙ ap (λ (zs : List A). x ∷ xs ++ zs) (sym others)
            ∙ ap (λ (zs : List A). zs ++ from_first p ys) (sym (from_here p x xs t))
        | false ↦ λ f. from_later p x (xs ++ ys) f ∙ from_split xs ys h.1
            ∙ ap (λ (zs : List A). zs ++ from_first p ys) (sym (from_later p x xs f))
      ] refl

  to_none : (xs ys : List A) → AllByRecursion (λ y. p y ≡ false) xs
      → up_to_first p (xs ++ ys) ≡ xs ++ up_to_first p ys
  to_none [] ys h = refl
  to_none (x ∷ xs) ys h = to_later p x (xs ++ ys) h.0
      ∙ ap (λ (zs : List A). x ∷ zs) (to_none xs ys h.1)

  to_whole : (xs : List A) → AllByRecursion (λ y. p y ≡ false) xs → up_to_first p xs ≡ xs
  to_whole [] h = refl
  to_whole (x ∷ xs) h = to_later p x xs h.0 ∙ ap (λ (zs : List A). x ∷ zs) (to_whole xs h.1)

  -- ---- a top level over parts

  -- where a top fails no item of its part passes, and where it passes one does
  pub record ReportsOf (top : A) (part : List A) : Type 0 where
    pub none : p top ≡ false → AllByRecursion (λ x. p x ≡ false) part
    pub some : p top ≡ true → (rest : List A) → up_to_first p (part ++ rest) ≡ up_to_first p part

  abbrev pub AllReport : List A → List (List A) → Type 0
  AllReport [] [] = Unit {0}
  AllReport (top ∷ tops) (part ∷ parts) = ReportsOf top part × AllReport tops parts
  AllReport [] (part ∷ parts) = ⊥
  AllReport (top ∷ tops) [] = ⊥

module _ {A B : Type 0} (p q : A → Bool) (f : A → B) (R : A → List B) where
  abbrev cut : List A → List A
  cut xs = from_first p (up_to_first q xs)

  -- each top stands for what its part has in the window
  abbrev pub AllCut : List A → List (List A) → Type 0
  AllCut [] [] = Unit {0}
  AllCut (top ∷ tops) (part ∷ parts) = (R top ≡ map f (from_first p (up_to_first q part)))
      × AllCut tops parts
  AllCut [] (part ∷ parts) = ⊥
  AllCut (top ∷ tops) [] = ⊥

  passed : (tops : List A) (parts : List (List A)) → AllReport p tops parts → AllCut tops parts
      → AllByRecursion (λ t. p t ≡ false → R t ≡ []) tops
  passed [] [] returned cuts = tt
  passed (t ∷ ts) (xs ∷ ps) returned cuts =
      let none : p t ≡ false → R t ≡ [] = λ early. cuts.0
      ∙ ap (map f) (from_none p (up_to_first q xs)
      (all_to (λ (x : A). p x ≡ false) q xs ((returned.0).none early))) in
      (none, passed ts ps returned.1 cuts.1)
  passed [] (xs ∷ ps) returned cuts = absurd returned
  passed (t ∷ ts) [] returned cuts = absurd returned

  up_to : (tops : List A) (parts : List (List A)) → AllReport q tops parts → AllCut tops parts
      → Rises p (joined_parts parts) → flat_map R (up_to_first q tops)
      ≡ map f (cut (joined_parts parts))
  up_to [] [] returned cuts rises = refl
  up_to (t ∷ ts) (xs ∷ ps) returned cuts rises =
      let others = flat_map R (up_to_first q ts) in
      elim (q t) as (λ b. q t ≡ b → flat_map R (up_to_first q (t ∷ ts))
      ≡ map f (cut (joined_parts (xs ∷ ps)))) [
        | true ↦ λ last.
            ap (flat_map R) (to_here q t ts last) ∙ append-nil (R t) ∙ cuts.0
            ∙ ap (λ (ys : List A). map f (from_first p ys))
            (sym ((returned.0).some last (joined_parts ps)))
        | false ↦ λ more.
            let none = (returned.0).none more in
            let whole = to_none q xs (joined_parts ps) none in
            let line : Rises p (xs ++ up_to_first q (joined_parts ps)) =
            subst (λ (ys : List A). Rises p ys) whole
            (rises_to p q (xs ++ joined_parts ps) rises) in
            ap (flat_map R) (to_later q t ts more)
            ∙ ap (λ (ys : List B). ys ++ others) cuts.0
            ∙ ap (λ (ys : List A). map f (from_first p ys) ++ others) (to_whole q xs none)
            ∙ ap (λ (ys : List B). map f (from_first p xs) ++ ys)
            (up_to ts ps returned.1 cuts.1 (rises_behind p xs (joined_parts ps) rises))
            ∙ sym (map-append f (from_first p xs) (cut (joined_parts ps)))
            ∙ ap (map f) (sym (from_split p xs (up_to_first q (joined_parts ps)) line))
            ∙ ap (λ (ys : List A). map f (from_first p ys)) (sym whole)
      ] refl
  up_to [] (xs ∷ ps) returned cuts rises = absurd returned
  up_to (t ∷ ts) [] returned cuts rises = absurd returned

  -- the windows of the parts that a window of the tops names are the window of all
  pub parts_cut : (tops : List A) (parts : List (List A)) → AllReport p tops parts
      → AllReport q tops parts → AllCut tops parts → Rises p (joined_parts parts)
      → flat_map R (from_first p (up_to_first q tops))
      ≡ map f (from_first p (up_to_first q (joined_parts parts)))
  parts_cut tops parts low high cuts rises =
      skip_front R p (up_to_first q tops) (all_to (λ (t : A). p t ≡ false → R t ≡ []) q tops
      (passed tops parts low cuts)) ∙ up_to tops parts high cuts rises
