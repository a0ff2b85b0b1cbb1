-- A vector's own iterator as a forward source.
use Rattle.std.proofs.Common.{◌≡◌, refl, sym, ◌∙◌, ap, Bool, List, [], ◌∷◌, reverse, length, arith}
use Rattle.std.specs.Prelude.{Option, Some, None}
use Rattle.std.specs.Vec.Iter.{into_iter_items, into_iter_len, into_iter_steps}
use Rattle.std.specs.Vec.Iter.{into_iter_steps_back}
use Rattle.std.specs.declared.vec.IntoIter.{IntoIter}
use Rattle.std.proofs.lemmas.List.{reverse-append, reverse-reverse}
use Rattle.sst_entries.specs.Stream.{YieldsExactly, first, but_first, last, but_last}
use Rattle.sst_entries.proofs.StreamLemmas.{yields_by}

empty : {X : Type 0} (xs : List X) → length xs ≡ 0 → xs ≡ []
empty [] e = refl
empty (x ∷ xs) e = absurd (omega arith)

-- where none is counted, none is there: each value of the type carries this
no_items : {X Z : Type 0} (s : IntoIter X Z) → into_iter_len s ≡ 0 → into_iter_items s ≡ []
no_items s e = empty (into_iter_items s) (sym s.rest.ok.0 ∙ e)

vec_front : {X Z : Type 0} (s : IntoIter X Z) (xs : List X) (r : Option X) (t : IntoIter X Z)
    → into_iter_items s ≡ xs → into_iter_steps s r t
    → (r ≡ first xs) × (into_iter_items t ≡ but_first xs)
vec_front s xs None t h k = let none = sym h ∙ no_items s k.0 in
    (sym (ap first none), no_items t k.1 ∙ sym (ap but_first none))
vec_front s xs (Some x) t h k = let whole = sym h ∙ k.0 in
    (sym (ap first whole), sym (ap but_first whole))

vec_back : {X Z : Type 0} (s : IntoIter X Z) (xs : List X) (r : Option X) (t : IntoIter X Z)
    → into_iter_items s ≡ xs → into_iter_steps_back s r t
    → (r ≡ last xs) × (into_iter_items t ≡ but_last xs)
vec_back s xs None t h k = let none = sym h ∙ no_items s k.0 in
    (sym (ap last none), no_items t k.1 ∙ sym (ap but_last none))
vec_back {X} s xs (Some x) t h k =
    let turned : reverse xs ≡ x ∷ reverse (into_iter_items t) = ap reverse (sym h ∙ k)
    ∙ reverse-append (into_iter_items t) (x ∷ []) in (
      sym (ap first turned),
      sym (ap (λ (ys : List X). reverse (but_first ys)) turned
          ∙ reverse-reverse (into_iter_items t)),
    )

-- whatever stops a source, a vector's iterator deals its items
pub vec_yields : {X Z : Type 0} (stops : Option X → Bool) (s : IntoIter X Z)
    → YieldsExactly stops into_iter_steps into_iter_steps_back s (into_iter_items s)
vec_yields {X} {Z} stops s = yields_by stops into_iter_steps into_iter_steps_back
    (λ (s : IntoIter X Z) (xs : List X). into_iter_items s ≡ xs)
    (λ s xs r t h k fine. vec_front s xs r t h k) (λ s xs r t h k fine. vec_back s xs r t h k) s
    (into_iter_items s) refl
