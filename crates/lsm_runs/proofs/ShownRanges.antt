-- What a range sees of sorted entries is told by what point reads see of them.
use Rattle.std.proofs.Common.{◌≡◌, refl, sym, ◌∙◌, ap, subst, ℕ, ◌+◌, ◌≤◌, inl, inr, Bool, true}
use Rattle.std.proofs.Common.{false, cond, not, ◌&&◌, List, [], ◌∷◌, filter, arith}
use Rattle.std.specs.Prelude.{Option, Some, None, find, map}
use Rattle.std.specs.List.{AllByRecursion}
use Rattle.std.specs.declared.ops.Bound.{Bound}
use Rattle.std.proofs.lemmas.Bool.{cases_Bool, lt-ltb}
use Rattle.std.proofs.Math.Bool.{and-true}
use Rattle.sst_entries.specs.declared.value_type.ValueType.{ValueType}
use Rattle.sst_entries.specs.Entry.{Entry}
use Rattle.sst_entries.specs.Key.{key_lt, same_key}
use Rattle.sst_entries.specs.Kind.{is_tombstone_kind}
use Rattle.sst_entries.specs.Point.{is_from, is_hit, is_to, point, within}
use Rattle.sst_entries.proofs.Booleans.{apart, is_false}
use Rattle.sst_entries.proofs.KeyLemmas.{KeyLe, le_other, le_same, lt_other, same_is, same_itself}
use Rattle.sst_entries.proofs.Lists.{all_more}
use Rattle.sst_entries.proofs.OrderLemmas.{lt_trans}
use Rattle.lsm_sorted.specs.merge.Union.{Ascends, newest}
use Rattle.lsm_sorted.specs.Point.{seen, shown}
use Rattle.lsm_sorted.proofs.NewestLemmas.{KeysUp, keys_up, filter_keeps, newest_keeps}
use Rattle.lsm_runs.specs.compaction.ReadsCompacted.{all_shown, shown_of}

-- the first entry of a key
abbrev seek : List ℕ → List Entry → Option Entry
seek key es = find (λ (e : Entry). same_key e.user_key key) es

-- ---- above all numbers

abbrev pub top : List Entry → ℕ
top [] = 0
top (e ∷ es) = e.seqno + 1 + top es

hit_seek : (key : List ℕ) (bound : ℕ) (es : List Entry) → top es ≤ bound
    → find (is_hit key bound) es ≡ seek key es
hit_seek key bound [] above = refl
hit_seek key bound (e ∷ es) above =
    let one : is_hit key bound e ≡ same_key e.user_key key =
    ap (λ (b : Bool). same_key e.user_key key && b) (lt-ltb e.seqno bound (omega (arith, above)))
    ∙ and-true (same_key e.user_key key) in
    ap (λ (b : Bool). cond b (Some e) (find (is_hit key bound) es)) one
    ∙ ap (λ (o : Option Entry). cond (same_key e.user_key key) (Some e) o)
    (hit_seek key bound es (omega (arith, above)))

pub seen_seek : (key : List ℕ) (bound : ℕ) (es : List Entry) → top es ≤ bound
    → seen es key bound ≡ shown (seek key es)
unfolding point
seen_seek key bound es above = ap shown (hit_seek key bound es above)

-- ---- within bounds

module _ (low high : Bound (List ℕ)) (key : List ℕ) where
  abbrev lies : List ℕ → Bool
  lies k = is_from low k && is_to high k

  within_seek : lies key ≡ true → (es : List Entry) → seek key (within low high es) ≡ seek key es
  within_seek lying [] = refl
  within_seek lying (e ∷ es) =
      let rest = within_seek lying es in
      elim (cases_Bool (lies e.user_key)) [
        | inl f ↦ rw f (ap (λ (o : Option Entry). cond (same_key e.user_key key) (Some e) o) rest)
        | inr f ↦
            let other : same_key e.user_key key ≡ false =
            is_false (same_key e.user_key key) (λ same. apart (lies key) lying
            (subst (λ (k : List ℕ). lies k ≡ false) (same_is e.user_key key same) f)) in
            rw f (rest ∙ sym (ap (λ (b : Bool). cond b (Some e) (seek key es)) other))
      ]

  outside_seek : lies key ≡ false → (es : List Entry) → seek key (within low high es) ≡ None
  outside_seek outside [] = refl
  outside_seek outside (e ∷ es) =
      let rest = outside_seek outside es in
      elim (cases_Bool (lies e.user_key)) [
        | inl f ↦
            let other : same_key e.user_key key ≡ false =
            is_false (same_key e.user_key key) (λ same. apart (lies key)
            (subst (λ (k : List ℕ). lies k ≡ true) (same_is e.user_key key same) f) outside) in
            rw f (ap (λ (b : Bool). cond b (Some e) (seek key (within low high es))) other ∙ rest)
        | inr f ↦ rw f rest
      ]

-- ---- the newest versions

module _ (key : List ℕ) where
  other_seek : (k : List ℕ) → same_key k key ≡ false → (es : List Entry)
      → seek key (filter (λ (y : Entry). not (same_key y.user_key k)) es) ≡ seek key es
  other_seek k apart' [] = refl
  other_seek k apart' (e ∷ es) =
      let rest = other_seek k apart' es in
      elim (cases_Bool (same_key e.user_key k)) [
        | inl f ↦
            let other : same_key e.user_key key ≡ false =
            subst (λ (j : List ℕ). same_key j key ≡ false)
            (sym (same_is e.user_key k f)) apart' in
            rw f (rest ∙ sym (ap (λ (b : Bool). cond b (Some e) (seek key es)) other))
        | inr f ↦ rw f (ap (λ (o : Option Entry). cond (same_key e.user_key key) (Some e) o) rest)
      ]

  newest_seek : (es : List Entry) → seek key (newest es) ≡ seek key es
  newest_seek [] = refl
  newest_seek (x ∷ xs) = elim (cases_Bool (same_key x.user_key key)) [
    | inl f ↦ rw f refl
    | inr f ↦
        ap (λ (b : Bool). cond b (Some x) (seek key
        (filter (λ (y : Entry). not (same_key y.user_key x.user_key)) (newest xs)))) f
        ∙ other_seek x.user_key f (newest xs) ∙ newest_seek xs
        ∙ sym (ap (λ (b : Bool). cond b (Some x) (seek key xs)) f)
  ]

-- ---- keys that rise

abbrev pub Above : List ℕ → List Entry → Type 0
Above key es = AllByRecursion (λ (e : Entry). key_lt key e.user_key ≡ true) es

abbrev pub Rises : List Entry → Type 0
Rises [] = Unit {0}
Rises (x ∷ xs) = Above x.user_key xs × Rises xs

passing_rises : (p : Entry → Bool) (es : List Entry) → Rises es → Rises (filter p es)
passing_rises p [] h = tt
passing_rises p (e ∷ es) h = elim (cases_Bool (p e)) [
  | inl f ↦ rw f (
    filter_keeps (λ (y : Entry). key_lt e.user_key y.user_key ≡ true) p es h.0,
    passing_rises p es h.1,
  )
  | inr f ↦ rw f (passing_rises p es h.1)
]

passing_up : (p : Entry → Bool) (es : List Entry) → KeysUp es → KeysUp (filter p es)
passing_up p [] h = tt
passing_up p (e ∷ es) h = elim (cases_Bool (p e)) [
  | inl f ↦ rw f (
    filter_keeps (λ (y : Entry). KeyLe e.user_key y.user_key) p es h.0,
    passing_up p
        es h.1,
  )
  | inr f ↦ rw f (passing_up p es h.1)
]

others_above : (key : List ℕ) (es : List Entry)
    → AllByRecursion (λ (y : Entry). KeyLe key y.user_key) es
    → Above key (filter (λ (y : Entry). not (same_key y.user_key key)) es)
others_above key [] h = tt
others_above key (e ∷ es) h = elim (cases_Bool (same_key e.user_key key)) [
  | inl f ↦ rw f (others_above key es h.1)
  | inr f ↦ rw f (le_other key e.user_key h.0 f, others_above key es h.1)
]

newest_rises : (es : List Entry) → KeysUp es → Rises (newest es)
newest_rises [] h = tt
newest_rises (x ∷ xs) h = (
  others_above x.user_key (newest xs) (newest_keeps
      (λ (y : Entry). KeyLe x.user_key y.user_key) xs h.0),
  passing_rises (λ (y : Entry). not (same_key y.user_key x.user_key)) (newest xs)
      (newest_rises xs h.1),
)

above_seek : (key : List ℕ) (es : List Entry) → Above key es → seek key es ≡ None
above_seek key [] h = refl
above_seek key (e ∷ es) h = ap (λ (b : Bool). cond b (Some e) (seek key es))
    (lt_other key e.user_key h.0) ∙ above_seek key es h.1

-- ---- what is shown

abbrev live : Entry → Bool
live e = not (is_tombstone_kind e.kind)

abbrev AreLive : List Entry → Type 0
AreLive es = AllByRecursion (λ (e : Entry). is_tombstone_kind e.kind ≡ false) es

live_only : (es : List Entry) → AreLive (filter live es)
live_only [] = tt
live_only (e ∷ es) = elim (cases_Bool (is_tombstone_kind e.kind)) [
  | inl f ↦ rw f (live_only es)
  | inr f ↦ rw f (f, live_only es)
]

live_seek : (key : List ℕ) (es : List Entry) → Rises es
    → shown (seek key (filter live es)) ≡ shown (seek key es)
live_seek key [] h = refl
live_seek key (e ∷ es) h =
    let rest = live_seek key es h.1 in
    elim (cases_Bool (is_tombstone_kind e.kind)) [
      | inl f ↦ elim (cases_Bool (same_key e.user_key key)) [
        | inl g ↦
            let behind : Above key (filter live es) =
            subst (λ (k : List ℕ). Above k (filter live es)) (same_is e.user_key key g)
            (filter_keeps (λ (y : Entry). key_lt e.user_key y.user_key ≡ true) live es h.0) in
            ap (λ (b : Bool). shown (seek key (cond (not b) (e ∷ filter live es) (filter live es))))
            f
            ∙ ap shown (above_seek key (filter live es) behind)
            ∙ sym (ap (λ (b : Bool). shown (cond b (Some e) (seek key es))) g
            ∙ ap (λ (b : Bool). cond b None (Some (e.kind, e.value))) f)
        | inr g ↦
            ap (λ (b : Bool). shown (seek key (cond (not b) (e ∷ filter live es) (filter live es))))
            f
            ∙ rest
            ∙ sym (ap (λ (b : Bool). shown (cond b (Some e) (seek key es))) g)
      ]
      | inr f ↦
          ap (λ (b : Bool). shown (seek key (cond (not b) (e ∷ filter live es) (filter live es)))) f
          ∙ elim (cases_Bool (same_key e.user_key key)) [
            | inl g ↦ ap (λ (b : Bool). shown (cond b (Some e) (seek key (filter live es)))) g
                ∙ sym (ap (λ (b : Bool). shown (cond b (Some e) (seek key es))) g)
            | inr g ↦ ap (λ (b : Bool). shown (cond b (Some e) (seek key (filter live es)))) g
                ∙ rest ∙ sym (ap (λ (b : Bool). shown (cond b (Some e) (seek key es))) g)
          ]
    ]

here : (x : Entry) (xs : List Entry) → is_tombstone_kind x.kind ≡ false
    → shown (seek x.user_key (x ∷ xs)) ≡ Some (x.kind, x.value)
here x xs f = ap (λ (b : Bool). shown (cond b (Some x) (seek x.user_key xs)))
    (same_itself x.user_key) ∙ ap (λ (b : Bool). cond b None (Some (x.kind, x.value))) f

not_none : (p : ValueType × List ℕ) → None ≡ Some p → ⊥
not_none p h = cc

some_is : (p q : ValueType × List ℕ) → Some p ≡ Some q → p ≡ q
some_is p q h = cc

above_all : (key : List ℕ) (x : Entry) (xs : List Entry) → key_lt key x.user_key ≡ true
    → Above x.user_key xs → Above key (x ∷ xs)
above_all key x xs lower h = (
  lower,
  all_more (λ (y : Entry). key_lt x.user_key y.user_key ≡ true)
      (λ (y : Entry). key_lt key y.user_key ≡ true)
      (λ y k. lt_trans key x.user_key y.user_key lower k) xs h,
)

-- live entries whose keys rise are told by what is seen of each key
same_shown : (xs ys : List Entry) → Rises xs → Rises ys → AreLive xs → AreLive ys
    → ((key : List ℕ) → shown (seek key xs) ≡ shown (seek key ys))
    → map shown_of xs ≡ map shown_of ys
same_shown [] [] rx ry lx ly same = refl
same_shown [] (y ∷ ys) rx ry lx ly same = absurd
    (not_none (y.kind, y.value) (same y.user_key ∙ here y ys ly.0))
same_shown (x ∷ xs) [] rx ry lx ly same = absurd
    (not_none (x.kind, x.value) (sym (same x.user_key) ∙ here x xs lx.0))
same_shown (x ∷ xs) (y ∷ ys) rx ry lx ly same = elim (cases_Bool (key_lt x.user_key y.user_key)) [
  | inl lower ↦
      let none = above_seek x.user_key (y ∷ ys) (above_all x.user_key y ys lower ry.0) in
      absurd (not_none (x.kind, x.value) (sym (same x.user_key ∙ ap shown none) ∙ here x xs lx.0))
  | inr up ↦ elim (cases_Bool (key_lt y.user_key x.user_key)) [
    | inl lower ↦
        let none = above_seek y.user_key (x ∷ xs) (above_all y.user_key x xs lower rx.0) in
        absurd (not_none (y.kind, y.value) (sym (sym (same y.user_key) ∙ ap shown none)
        ∙ here y ys ly.0))
    | inr down ↦
        let key : y.user_key ≡ x.user_key = same_is y.user_key x.user_key
        (le_same x.user_key y.user_key down up) in
        let first : (x.kind, x.value) ≡ (y.kind, y.value) =
        some_is (x.kind, x.value) (y.kind, y.value)
        (sym (here x xs lx.0) ∙ same x.user_key ∙ ap (λ (k : List ℕ). shown (seek k (y ∷ ys)))
        (sym key) ∙ here y ys ly.0) in
        let others : (k : List ℕ) → shown (seek k xs) ≡ shown (seek k ys) =
        λ k. elim (cases_Bool (same_key x.user_key k)) [
          | inl f ↦
              let is = same_is x.user_key k f in
              ap shown (above_seek k xs (subst (λ (j : List ℕ). Above j xs) is rx.0))
              ∙ sym (ap shown (above_seek k ys (subst (λ (j : List ℕ). Above j ys)
              (key ∙ is) ry.0)))
          | inr f ↦
              sym (ap (λ (b : Bool). shown (cond b (Some x) (seek k xs))) f)
              ∙ same k
              ∙ ap (λ (b : Bool). shown (cond b (Some y) (seek k ys)))
              (subst (λ (j : List ℕ). same_key j k ≡ false) (sym key) f)
        ] in
        ap (λ (k : List ℕ). (k, x.kind, x.value) ∷ map shown_of xs) (sym key)
        ∙ ap (λ (p : ValueType × List ℕ). (y.user_key, p.0, p.1) ∷ map shown_of xs) first
        ∙ ap (λ (us : List (List ℕ × ValueType × List ℕ)). shown_of y ∷ us)
        (same_shown xs ys rx.1 ry.1 lx.1 ly.1 others)
  ]
]

-- ---- ranges

module _ (low high : Bound (List ℕ)) where
  range_seek : (key : List ℕ) (es : List Entry) → Ascends es
      → shown (seek key (filter live (newest (within low high es))))
      ≡ cond (is_from low key && is_to high key) (shown (seek key es)) None
  range_seek key es up =
      live_seek key (newest (within low high es))
      (newest_rises (within low high es) (passing_up
      (λ (e : Entry). is_from low e.user_key && is_to high e.user_key) es (keys_up es up)))
      ∙ ap shown (newest_seek key (within low high es))
      ∙ elim (cases_Bool (is_from low key && is_to high key)) [
        | inl f ↦ ap shown (within_seek low high key f es)
            ∙ sym (ap (λ (b : Bool). cond b (shown (seek key es)) None) f)
        | inr f ↦ ap shown (outside_seek low high key f es)
            ∙ sym (ap (λ (b : Bool). cond b (shown (seek key es)) None) f)
      ]

  rises_within : (es : List Entry) → Ascends es → Rises (filter live (newest (within low high es)))
  rises_within es up = passing_rises live (newest (within low high es))
      (newest_rises (within low high es) (passing_up
      (λ (e : Entry). is_from low e.user_key && is_to high e.user_key) es (keys_up es up)))

  pub ranges_by_points : (xs ys : List Entry) → Ascends xs → Ascends ys → (least : ℕ)
      → ((key : List ℕ) (bound : ℕ) → least ≤ bound → seen xs key bound ≡ seen ys key bound)
      → all_shown (newest (within low high xs)) ≡ all_shown (newest (within low high ys))
  ranges_by_points xs ys ux uy least same =
      let bound = least + (top xs + top ys) in
      same_shown (filter live (newest (within low high xs)))
      (filter live (newest (within low high ys))) (rises_within xs ux) (rises_within ys uy)
      (live_only (newest (within low high xs))) (live_only (newest (within low high ys)))
      (λ key.
      let one : shown (seek key xs) ≡ shown (seek key ys) =
      sym (seen_seek key bound xs (omega arith)) ∙ same key bound (omega arith)
      ∙ seen_seek key bound ys (omega arith) in
      range_seek key xs ux ∙ ap (λ (o : Option (ValueType × List ℕ)). cond
      (is_from low key && is_to high key) o None) one ∙ sym (range_seek key ys uy))
