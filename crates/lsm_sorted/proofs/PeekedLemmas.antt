-- What a call of an iterator with a place at both ends answers and leaves, by what the source gave.
use Rattle.std.proofs.Common.{◌≡◌, List, [], ◌∷◌, ◌++◌, reverse, Option, Some, None, refl, sym, ◌∙◌}
use Rattle.std.proofs.Common.{ap, subst, append_assoc}
use Rattle.std.proofs.lemmas.List.{append-nil, reverse-append, reverse-reverse}
use Rattle.sst_entries.specs.declared.stream.Direction.TheVariants.{Front, Back}
use Rattle.sst_entries.specs.Stream.{first, but_first, last, but_last, front_of, back_of}
use Rattle.lsm_sorted.specs.declared.heap.ends.Ends.{Ends}
use Rattle.lsm_sorted.specs.declared.peeked.Peeked.{Peeked}
use Rattle.lsm_sorted.specs.merge.Ends.{R, Asked}
use Rattle.lsm_sorted.specs.Outlook.{IsStep}
use Rattle.lsm_sorted.specs.Hears.{Hears}
use Rattle.lsm_sorted.specs.Peeked.{content, peeked_outlook}
use Rattle.lsm_sorted.proofs.HearsLemmas.{hears_still, hears_result, hears_end}

-- the last of a list, and the others
pub last_of : {A : Type 0} (xs zs : List A) (x : A) → xs ≡ zs ++ x ∷ [] → Some x ≡ last xs
last_of xs zs x is = sym (ap last is ∙ ap first (reverse-append zs (x ∷ [])))

pub others_of : {A : Type 0} (xs zs : List A) (x : A) → xs ≡ zs ++ x ∷ [] → but_last xs ≡ zs
others_of {A} xs zs x is = ap but_last is ∙ ap (λ (ys : List A). reverse (but_first ys))
    (reverse-append zs (x ∷ [])) ∙ reverse-reverse zs

pub ends_with : (xs ys before : List R) (x : R) → xs ≡ before ++ x ∷ [] → ys ≡ before
    → IsStep back_of (Some x) xs ys
ends_with xs ys before x is same = (last_of xs before x is, same ∙ sym (others_of xs before x is))

-- nothing stands behind
none_behind : (before rest : List R) (back : Option R) → back ≡ None
    → before ++ rest ≡ before ++ (rest ++ content back)
none_behind before rest back none = ap (λ (ys : List R). before ++ ys) (sym (append-nil rest))
    ∙ ap (λ (o : Option R). before ++ (rest ++ content o)) (sym none)

-- the one in a place is the first of all, and the last
only_first : (o : Option R) → IsStep front_of o (content o) []
only_first None = (refl, refl)
only_first (Some x) = (refl, refl)

only_last : (o : Option R) → IsStep back_of o (content o ++ []) []
only_last None = (refl, refl)
only_last (Some x) = (refl, refl)

module _ {S : Type 0} (ask : S → Option R → S → Type 0) (s : Peeked S R) (free : Option R)
    (empty : free ≡ None) where
  pub hears_front : (x : R) → Some x ≡ s.front → Hears ask Front (Some x) (IsStep front_of (Some x))
      (peeked_outlook s) (peeked_outlook (record {
        source = s.source;
        front = free;
        back =
            s.back;
      }))
  hears_front x is = hears_still ask Front _ _ _ _ refl (λ rest may.
      subst (λ (o : Option R). IsStep front_of (Some x) (content o ++ (rest ++ content s.back))
      (content free ++ (rest ++ content s.back))) is
      (subst (λ (o : Option R). IsStep front_of (Some x) (x ∷ (rest ++ content s.back))
      (content o ++ (rest ++ content s.back))) (sym empty) (refl, refl)))

  pub hears_back : (x : R) → Some x ≡ s.back → Hears ask Back (Some x) (IsStep back_of (Some x))
      (peeked_outlook s) (peeked_outlook (record {
        source = s.source;
        front = s.front;
        back =
            free;
      }))
  hears_back x is = hears_still ask Back _ _ _ _ refl (λ rest may.
      ends_with _ _ (content s.front ++ rest) x
      (ap (λ (o : Option R). content s.front ++ (rest ++ content o)) (sym is)
      ∙ sym (append_assoc (content s.front) rest (x ∷ [])))
      (sym (none_behind (content s.front) rest free empty)))

  module _ (t : Ends S) where
    pub hears_source : (x : R) → s.front ≡ None → Asked ask s.source (Some x) t
        → Hears ask Front (Some x) (IsStep front_of (Some x)) (peeked_outlook s)
        (peeked_outlook (record { source = t; front = free; back = s.back }))
    hears_source x none a = hears_result ask Front _ _ _ x a (λ rest.
        subst (λ (o : Option R). IsStep front_of (Some x)
        (content o ++ ((x ∷ rest) ++ content s.back))
        (content free ++ (rest ++ content s.back))) (sym none)
        (subst (λ (o : Option R). IsStep front_of (Some x) ((x ∷ rest) ++ content s.back)
        (content o ++ (rest ++ content s.back))) (sym empty) (refl, refl)))

    pub hears_source_back : (x : R) → s.back ≡ None → Asked ask s.source (Some x) t
        → Hears ask Back (Some x) (IsStep back_of (Some x)) (peeked_outlook s)
        (peeked_outlook (record { source = t; front = s.front; back = free }))
    hears_source_back x none a = hears_result ask Back _ _ _ x a (λ rest.
        ends_with _ _ (content s.front ++ rest) x
        (sym (none_behind (content s.front) (rest ++ x ∷ []) s.back none)
        ∙ sym (append_assoc (content s.front) rest (x ∷ [])))
        (sym (none_behind (content s.front) rest free empty)))

    module _ (other : Option R) (gone : other ≡ None) where
      pub hears_end_front : s.front ≡ None → Asked ask s.source None t
          → Hears ask Front s.back (IsStep front_of s.back) (peeked_outlook s)
          (peeked_outlook (record { source = t; front = free; back = other }))
      hears_end_front none a = hears_end ask Front _ _ _ _ a
          (subst (λ (o : Option R). IsStep front_of s.back (content o ++ content s.back)
          (content free ++ content other)) (sym none)
          (subst (λ (o : Option R). IsStep front_of s.back (content s.back)
          (content o ++ content other)) (sym empty)
          (subst (λ (o : Option R). IsStep front_of s.back (content s.back) (content o)) (sym gone)
          (only_first s.back))))

      pub hears_end_back : s.back ≡ None → Asked ask s.source None t
          → Hears ask Back s.front (IsStep back_of s.front) (peeked_outlook s)
          (peeked_outlook (record { source = t; front = other; back = free }))
      hears_end_back none a = hears_end ask Back _ _ _ _ a
          (subst (λ (o : Option R). IsStep back_of s.front (content s.front ++ content o)
          (content other ++ content free)) (sym none)
          (subst (λ (o : Option R). IsStep back_of s.front (content s.front ++ [])
          (content o ++ content free)) (sym gone)
          (subst (λ (o : Option R). IsStep back_of s.front (content s.front ++ []) (content o))
          (sym empty) (only_last s.front))))

-- an entry is given back
module _ {S : Type 0} (ask : S → Option R → S → Type 0) (s : Peeked S R) (x : R) where
  pub hears_put : s.front ≡ None → Hears ask Front None (λ xs ys. ys ≡ x ∷ xs) (peeked_outlook s)
      (peeked_outlook (record { source = s.source; front = Some x; back = s.back }))
  hears_put none = hears_still ask Front _ _ _ _ refl
      (λ rest may. ap (λ (o : Option R). x ∷ (content o ++ (rest ++ content s.back))) (sym none))

  pub hears_put_back : s.back ≡ None → Hears ask Back None (λ xs ys. ys ≡ xs ++ x ∷ [])
      (peeked_outlook s) (peeked_outlook (record {
        source = s.source;
        front = s.front;
        back =
            Some x;
      }))
  hears_put_back none = hears_still ask Back _ _ _ _ refl (λ rest may.
      sym (append_assoc (content s.front) rest (x ∷ []))
      ∙ ap (λ (ys : List R). ys ++ x ∷ []) (none_behind (content s.front) rest s.back none))
