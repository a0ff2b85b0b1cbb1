-- A list that is cut item by item: what one item more does.
use Rattle.std.proofs.Common.{◌≡◌, refl, ◌∙◌, ap, sym, Bool, true, false, ◌⊎◌, inl, inr, List, []}
use Rattle.std.proofs.Common.{◌∷◌, ◌++◌}
use Rattle.std.specs.Prelude.{if◌then◌else◌}
use Rattle.std.proofs.lemmas.Bool.{cases_Bool}
use Rattle.sst_blocks.specs.table.Parts.{parts_after, rest_part}
use Rattle.lsm_writers.specs.section.Cutting.{closed_after, waiting_after}

pub closed_none : {A : Type 0} (full : List A → Bool) (w : List A) → closed_after full w [] ≡ []
unfolding closed_after
closed_none full w = refl

pub waiting_none : {A : Type 0} (full : List A → Bool) (w : List A) → waiting_after full w [] ≡ w
unfolding waiting_after
waiting_none full w = refl

parts_none : {A : Type 0} (full : List A → Bool) (w : List A) → parts_after full w [] ≡ rest_part w
unfolding parts_after
parts_none full w = refl

-- an item fills a part, or waits
pub closed_full : {A : Type 0} (full : List A → Bool) (w : List A) (x : A) (xs : List A)
    → full (w ++ x ∷ []) ≡ true → closed_after full w (x ∷ xs) ≡ (w ++ x ∷ [])
    ∷ closed_after full [] xs
unfolding closed_after
closed_full full w x xs e = ap (λ (b : Bool). if b then (w ++ x ∷ []) ∷ closed_after full [] xs
    else closed_after full (w ++ x ∷ []) xs) e

pub closed_wait : {A : Type 0} (full : List A → Bool) (w : List A) (x : A) (xs : List A)
    → full (w ++ x ∷ []) ≡ false → closed_after full w (x ∷ xs) ≡ closed_after full (w ++ x ∷ []) xs
unfolding closed_after
closed_wait full w x xs e = ap (λ (b : Bool). if b then (w ++ x ∷ []) ∷ closed_after full [] xs
    else closed_after full (w ++ x ∷ []) xs) e

pub waiting_full : {A : Type 0} (full : List A → Bool) (w : List A) (x : A) (xs : List A)
    → full (w ++ x ∷ []) ≡ true → waiting_after full w (x ∷ xs) ≡ waiting_after full [] xs
unfolding waiting_after
waiting_full full w x xs e = ap (λ (b : Bool). if b then waiting_after full [] xs
    else waiting_after full (w ++ x ∷ []) xs) e

pub waiting_wait : {A : Type 0} (full : List A → Bool) (w : List A) (x : A) (xs : List A)
    → full (w ++ x ∷ []) ≡ false → waiting_after full w (x ∷ xs)
    ≡ waiting_after full (w ++ x ∷ []) xs
unfolding waiting_after
waiting_wait full w x xs e = ap (λ (b : Bool). if b then waiting_after full [] xs
    else waiting_after full (w ++ x ∷ []) xs) e

parts_full : {A : Type 0} (full : List A → Bool) (w : List A) (x : A) (xs : List A)
    → full (w ++ x ∷ []) ≡ true → parts_after full w (x ∷ xs) ≡ (w ++ x ∷ [])
    ∷ parts_after full [] xs
unfolding parts_after
parts_full full w x xs e = ap (λ (b : Bool). if b then (w ++ x ∷ []) ∷ parts_after full [] xs
    else parts_after full (w ++ x ∷ []) xs) e

parts_wait : {A : Type 0} (full : List A → Bool) (w : List A) (x : A) (xs : List A)
    → full (w ++ x ∷ []) ≡ false → parts_after full w (x ∷ xs) ≡ parts_after full (w ++ x ∷ []) xs
unfolding parts_after
parts_wait full w x xs e = ap (λ (b : Bool). if b then (w ++ x ∷ []) ∷ parts_after full [] xs
    else parts_after full (w ++ x ∷ []) xs) e

-- the parts are those that are cut, and the rest
pub parts_split : {A : Type 0} (full : List A → Bool) (w xs : List A)
    → parts_after full w xs ≡ closed_after full w xs ++ rest_part (waiting_after full w xs)
parts_split full w [] = rw (parts_none full w, closed_none full w, waiting_none full w) refl
parts_split full w (x ∷ xs) = elim (cases_Bool (full (w ++ x ∷ []))) [
  | inl t ↦ parts_full full w x xs t ∙ ap (λ ps. (w ++ x ∷ []) ∷ ps) (parts_split full [] xs)
      ∙ rw (closed_full full w x xs t, waiting_full full w x xs t) refl
  | inr f ↦ parts_wait full w x xs f ∙ parts_split full (w ++ x ∷ []) xs
      ∙ rw (closed_wait full w x xs f, waiting_wait full w x xs f) refl
]

-- an item more that fills the part that waits
pub closed_cut : {A : Type 0} (full : List A → Bool) (w xs : List A) (x : A)
    → full (waiting_after full w xs ++ x ∷ []) ≡ true →
    closed_after full w (xs ++ x ∷ []) ≡ closed_after full w xs
    ++ (waiting_after full w xs ++ x ∷ []) ∷ []
closed_cut full w [] x e =
    let here : full (w ++ x ∷ []) ≡ true = ap (λ v. full (v ++ x ∷ [])) (sym (waiting_none full w))
    ∙ e in
    closed_full full w x [] here ∙ rw (closed_none full [], closed_none full w, waiting_none full w)
    refl
closed_cut full w (y ∷ xs) x e = elim (cases_Bool (full (w ++ y ∷ []))) [
  | inl t ↦
      let later : full (waiting_after full [] xs ++ x ∷ []) ≡ true =
      ap (λ v. full (v ++ x ∷ [])) (sym (waiting_full full w y xs t)) ∙ e in
      closed_full full w y (xs ++ x ∷ []) t ∙ ap (λ ps. (w ++ y ∷ []) ∷ ps)
      (closed_cut full [] xs x later) ∙ rw (
        closed_full full w y xs t,
        waiting_full full w y xs
            t,
      ) refl
  | inr f ↦
      let later : full (waiting_after full (w ++ y ∷ []) xs ++ x ∷ []) ≡ true =
      ap (λ v. full (v ++ x ∷ [])) (sym (waiting_wait full w y xs f)) ∙ e in
      closed_wait full w y (xs ++ x ∷ []) f ∙ closed_cut full (w ++ y ∷ []) xs x later
      ∙ rw (closed_wait full w y xs f, waiting_wait full w y xs f) refl
]

pub waiting_cut : {A : Type 0} (full : List A → Bool) (w xs : List A) (x : A)
    → full (waiting_after full w xs ++ x ∷ []) ≡ true → waiting_after full w (xs ++ x ∷ []) ≡ []
waiting_cut full w [] x e =
    let here : full (w ++ x ∷ []) ≡ true = ap (λ v. full (v ++ x ∷ [])) (sym (waiting_none full w))
    ∙ e in
    waiting_full full w x [] here ∙ waiting_none full []
waiting_cut full w (y ∷ xs) x e = elim (cases_Bool (full (w ++ y ∷ []))) [
  | inl t ↦
      let later : full (waiting_after full [] xs ++ x ∷ []) ≡ true =
      ap (λ v. full (v ++ x ∷ [])) (sym (waiting_full full w y xs t)) ∙ e in
      waiting_full full w y (xs ++ x ∷ []) t ∙ waiting_cut full [] xs x later
  | inr f ↦
      let later : full (waiting_after full (w ++ y ∷ []) xs ++ x ∷ []) ≡ true =
      ap (λ v. full (v ++ x ∷ [])) (sym (waiting_wait full w y xs f)) ∙ e in
      waiting_wait full w y (xs ++ x ∷ []) f ∙ waiting_cut full (w ++ y ∷ []) xs x later
]

-- one that does not waits too
pub closed_same : {A : Type 0} (full : List A → Bool) (w xs : List A) (x : A)
    → full (waiting_after full w xs ++ x ∷ []) ≡ false
    → closed_after full w (xs ++ x ∷ []) ≡ closed_after full w xs
closed_same full w [] x e =
    let here : full (w ++ x ∷ []) ≡ false = ap (λ v. full (v ++ x ∷ [])) (sym (waiting_none full w))
    ∙ e in
    closed_wait full w x [] here ∙ closed_none full (w ++ x ∷ []) ∙ sym (closed_none full w)
closed_same full w (y ∷ xs) x e = elim (cases_Bool (full (w ++ y ∷ []))) [
  | inl t ↦
      let later : full (waiting_after full [] xs ++ x ∷ []) ≡ false =
      ap (λ v. full (v ++ x ∷ [])) (sym (waiting_full full w y xs t)) ∙ e in
      closed_full full w y (xs ++ x ∷ []) t ∙ ap (λ ps. (w ++ y ∷ []) ∷ ps)
      (closed_same full [] xs x later) ∙ sym (closed_full full w y xs t)
  | inr f ↦
      let later : full (waiting_after full (w ++ y ∷ []) xs ++ x ∷ []) ≡ false =
      ap (λ v. full (v ++ x ∷ [])) (sym (waiting_wait full w y xs f)) ∙ e in
      closed_wait full w y (xs ++ x ∷ []) f ∙ closed_same full (w ++ y ∷ []) xs x later
      ∙ sym (closed_wait full w y xs f)
]

pub waiting_more : {A : Type 0} (full : List A → Bool) (w xs : List A) (x : A)
    → full (waiting_after full w xs ++ x ∷ []) ≡ false →
    waiting_after full w (xs ++ x ∷ []) ≡ waiting_after full w xs ++ x ∷ []
waiting_more full w [] x e =
    let here : full (w ++ x ∷ []) ≡ false = ap (λ v. full (v ++ x ∷ [])) (sym (waiting_none full w))
    ∙ e in
    waiting_wait full w x [] here ∙ waiting_none full (w ++ x ∷ [])
    ∙ ap (λ v. v ++ x ∷ []) (sym (waiting_none full w))
waiting_more full w (y ∷ xs) x e = elim (cases_Bool (full (w ++ y ∷ []))) [
  | inl t ↦
      let later : full (waiting_after full [] xs ++ x ∷ []) ≡ false =
      ap (λ v. full (v ++ x ∷ [])) (sym (waiting_full full w y xs t)) ∙ e in
      waiting_full full w y (xs ++ x ∷ []) t ∙ waiting_more full [] xs x later
      ∙ ap (λ v. v ++ x ∷ []) (sym (waiting_full full w y xs t))
  | inr f ↦
      let later : full (waiting_after full (w ++ y ∷ []) xs ++ x ∷ []) ≡ false =
      ap (λ v. full (v ++ x ∷ [])) (sym (waiting_wait full w y xs f)) ∙ e in
      waiting_wait full w y (xs ++ x ∷ []) f ∙ waiting_more full (w ++ y ∷ []) xs x later
      ∙ ap (λ v. v ++ x ∷ []) (sym (waiting_wait full w y xs f))
]

-- what waits is nothing, or not full
abbrev pub Waits : {A : Type 0} → (List A → Bool) → List A → Type 0
Waits full w = (w ≡ []) ⊎ (full w ≡ false)

pub waits_after : {A : Type 0} (full : List A → Bool) (w xs : List A) → Waits full w
    → Waits full (waiting_after full w xs)
waits_after full w [] h = rw (waiting_none full w) h
waits_after full w (x ∷ xs) h = elim (cases_Bool (full (w ++ x ∷ []))) [
  | inl t ↦ rw (waiting_full full w x xs t) (waits_after full [] xs (inl refl))
  | inr f ↦ rw (waiting_wait full w x xs f) (waits_after full (w ++ x ∷ []) xs (inr f))
]
