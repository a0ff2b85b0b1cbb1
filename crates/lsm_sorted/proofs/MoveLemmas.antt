-- What holds of an order among places after two of them have exchanged what they hold.
use Rattle.std.proofs.Common.{◌≡◌, ◌≢◌, ℕ, true, false, Ordering, sym, ⊎_elim}
use Rattle.std.specs.Ordering.{is_gt}
use Rattle.std.specs.Cmp.{IsTotalOrder}
use Rattle.std.proofs.lemmas.Cmp.{upto}
use Rattle.std.proofs.lemmas.Bool.{cases_eq}
use Rattle.std.proofs.lemmas.List.Edits.{Swapped}
use Rattle.lsm_sorted.proofs.OrderLemmas.{not_both}

-- what f holds at a does not come after what it holds at b
abbrev pub Upto : {T : Type 0} → (T → T → Ordering) → (ℕ → T) → ℕ → ℕ → Type 0
Upto cmp f a b = is_gt (cmp (f a) (f b)) ≡ false

module _ {T : Type 0} (cmp : T → T → Ordering) (o : IsTotalOrder cmp) (f g : ℕ → T) (u v : ℕ)
    (s : Swapped f g u v) (strict : is_gt (cmp (f u) (f v)) ≡ true) where
  at_u : (P : T → Type 0) → P (f v) → P (g u)
  at_u P p = rw s.0 p

  at_v : (P : T → Type 0) → P (f u) → P (g v)
  at_v P p = rw s.1 p

  at_rest : (P : T → Type 0) (m : ℕ) → m ≢ u → m ≢ v → P (f m) → P (g m)
  at_rest P m x y p = let e = s.2 m x y in rw e p

  turned_back : Upto cmp f v u
  turned_back = not_both cmp o (f u) (f v) strict

  pub ordered_now : Upto cmp g u v
  ordered_now = at_u (λ x. is_gt (cmp x (g v)) ≡ false)
      (at_v (λ y. is_gt (cmp (f v) y) ≡ false) turned_back)

  -- a that is neither, before b that is neither
  pub rest_rest : (a b : ℕ) → a ≢ u → a ≢ v → b ≢ u → b ≢ v → Upto cmp f a b → Upto cmp g a b
  rest_rest a b p q r t h = at_rest (λ x. is_gt (cmp x (g b)) ≡ false) a p q
      (at_rest (λ y. is_gt (cmp (f a) y) ≡ false) b r t h)

  pub u_rest : (b : ℕ) → b ≢ u → b ≢ v → Upto cmp f v b → Upto cmp g u b
  u_rest b r t h = at_u (λ x. is_gt (cmp x (g b)) ≡ false)
      (at_rest (λ y. is_gt (cmp (f v) y) ≡ false) b r t h)

  pub v_rest : (b : ℕ) → b ≢ u → b ≢ v → Upto cmp f u b → Upto cmp g v b
  v_rest b r t h = at_v (λ x. is_gt (cmp x (g b)) ≡ false)
      (at_rest (λ y. is_gt (cmp (f u) y) ≡ false) b r t h)

  pub rest_u : (a : ℕ) → a ≢ u → a ≢ v → Upto cmp f a v → Upto cmp g a u
  rest_u a p q h = at_rest (λ x. is_gt (cmp x (g u)) ≡ false) a p q
      (at_u (λ y. is_gt (cmp (f a) y) ≡ false) h)

  pub rest_v : (a : ℕ) → a ≢ u → a ≢ v → Upto cmp f a u → Upto cmp g a v
  rest_v a p q h = at_rest (λ x. is_gt (cmp x (g v)) ≡ false) a p q
      (at_v (λ y. is_gt (cmp (f a) y) ≡ false) h)

  module _ (E : ℕ → ℕ → Type 0) (apart : (a b : ℕ) → E a b → a ≢ b)
      (one_way : (a b : ℕ) → E a b → E b a → ⊥) (uv : E u v) where
    -- an item has risen from v to u
    module _ (only : (a : ℕ) → E a v → a ≡ u) (others : (a b : ℕ) → E a b → b ≢ v → Upto cmp f a b)
        (around : (a b : ℕ) → E a v → E v b → Upto cmp f a b) where
      pub rise_others : (a b : ℕ) → E a b → b ≢ u → Upto cmp g a b
      rise_others a b e b_u = ⊎_elim
          (λ (bv : b ≡ v). let au : a ≡ u = only a (rw (← bv) e) in rw (au, bv) ordered_now)
          (λ (b_v : b ≢ v). ⊎_elim
          (λ (au : a ≡ u). let ub : E u b = rw (← au) e in
          rw au (u_rest b b_u b_v (upto o _ _ _ turned_back (others u b ub b_v))))
          (λ (a_u : a ≢ u). ⊎_elim
          (λ (av : a ≡ v). let vb : E v b = rw (← av) e in
          rw av (v_rest b b_u b_v (around u b uv vb)))
          (λ (a_v : a ≢ v). rest_rest a b a_u a_v b_u b_v (others a b e b_v))
          (cases_eq a v))
          (cases_eq a u))
          (cases_eq b v)

      pub rise_around : (a b : ℕ) → E a u → E u b → Upto cmp g a b
      rise_around a b au ub =
          let a_u = apart a u au in
          let a_v : a ≢ v = λ e. one_way u v uv (rw (← e) au) in
          let u_v = apart u v uv in
          let b_u : b ≢ u = λ e. apart u b ub (sym e) in
          ⊎_elim
          (λ (bv : b ≡ v). rw bv (rest_v a a_u a_v (others a u au u_v)))
          (λ (b_v : b ≢ v). rest_rest a b a_u a_v b_u b_v
          (upto o _ _ _ (others a u au u_v) (others u b ub b_v)))
          (cases_eq b v)

    module _ (others : (a b : ℕ) → E a b → a ≢ u → Upto cmp f a b)
        (around : (a b : ℕ) → E a u → E u b → Upto cmp f a b) where
      -- an item has sunk from u to v, the first of those below it
      module _ (only : (a : ℕ) → E a v → a ≡ u)
          (first : (b : ℕ) → E u b → b ≢ v → Upto cmp f v b) where
        pub sink_others : (a b : ℕ) → E a b → a ≢ v → Upto cmp g a b
        sink_others a b e a_v = ⊎_elim
            (λ (au : a ≡ u). let ub : E u b = rw (← au) e in
            ⊎_elim (λ (bv : b ≡ v). rw (au, bv) ordered_now)
            (λ (b_v : b ≢ v). rw au (u_rest b (λ x. apart u b ub (sym x)) b_v (first b ub b_v)))
            (cases_eq b v))
            (λ (a_u : a ≢ u). ⊎_elim
            (λ (bu : b ≡ u). let eu : E a u = rw (← bu) e in
            rw bu (rest_u a a_u a_v (around a v eu uv)))
            (λ (b_u : b ≢ u). ⊎_elim
            (λ (bv : b ≡ v). absurd (a_u (only a (rw (← bv) e))))
            (λ (b_v : b ≢ v). rest_rest a b a_u a_v b_u b_v (others a b e a_u))
            (cases_eq b v))
            (cases_eq b u))
            (cases_eq a u)

        pub sink_around : (a b : ℕ) → E a v → E v b → Upto cmp g a b
        sink_around a b av vb =
            let au = only a av in
            let v_u : v ≢ u = λ x. apart u v uv (sym x) in
            let b_u : b ≢ u = λ x. one_way u v uv (rw (← x) vb) in
            rw au (u_rest b b_u (λ x. apart v b vb (sym x)) (others v b vb v_u))

      -- the two ends of a node have been put in order
      module _ (below : (b : ℕ) → E v b → Upto cmp f u b) where
        pub node_others : (a b : ℕ) → E a b → a ≢ u → Upto cmp g a b
        node_others a b e a_u = ⊎_elim
            (λ (av : a ≡ v). let vb : E v b = rw (← av) e in
            let b_u : b ≢ u = λ x. one_way u v uv (rw (← x) vb) in
            rw av (v_rest b b_u (λ x. apart v b vb (sym x)) (below b vb)))
            (λ (a_v : a ≢ v). ⊎_elim
            (λ (bv : b ≡ v). rw bv (rest_v a a_u a_v
            (upto o _ _ _ (others a v (rw (← bv) e) a_u) turned_back)))
            (λ (b_v : b ≢ v). ⊎_elim
            (λ (bu : b ≡ u). let eu : E a u = rw (← bu) e in
            rw bu (rest_u a a_u a_v (around a v eu uv)))
            (λ (b_u : b ≢ u). rest_rest a b a_u a_v b_u b_v (others a b e a_u))
            (cases_eq b u))
            (cases_eq b v))
            (cases_eq a v)

        pub node_around : (a b : ℕ) → E a u → E u b → Upto cmp g a b
        node_around a b au ub =
            let a_u = apart a u au in
            let a_v : a ≢ v = λ x. one_way u v uv (rw (← x) au) in
            let b_u : b ≢ u = λ x. apart u b ub (sym x) in
            ⊎_elim
            (λ (bv : b ≡ v). rw bv (rest_v a a_u a_v (others a u au a_u)))
            (λ (b_v : b ≢ v). rest_rest a b a_u a_v b_u b_v (around a b au ub))
            (cases_eq b v)
