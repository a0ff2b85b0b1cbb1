-- What seeks leave of what was left: the entries within a bound, and the handles of a window.
use Rattle.std.proofs.Common.{◌≡◌, ℕ, zero, suc, ◌+◌, ◌-◌, ◌<◌, ◌≤◌, Bool, true, false, cond, List}
use Rattle.std.proofs.Common.{[], ◌∷◌, length, get_or, take, drop, max, min, refl, sym, ap}
use Rattle.std.proofs.Common.{◌∙◌, arith, inl, inr}
use Rattle.std.specs.Prelude.{Option, Some, None, not, filter, ◌&&◌}
use Rattle.std.specs.List.Sorted.{IsPartitionedBy}
use Rattle.std.specs.declared.ops.Bound.{Bound}
use Rattle.std.specs.declared.ops.Bound.TheVariants.{Unbounded}
use Rattle.std.proofs.lemmas.Bool.{cases_lt}
use Rattle.std.proofs.lemmas.List.{drop-drop, drop-take, drop_all, take-take, take_all, length-take}
use Rattle.std.proofs.lemmas.List.{length-drop, get_or-take, get_or-drop}
use Rattle.sst_entries.specs.Entry.{Entry}
use Rattle.sst_entries.specs.Point.{is_from, is_to, within, lower_place, upper_place}
use Rattle.sst_entries.specs.Span.{Span, rest_in, front_length}
use Rattle.sst_entries.specs.Strict.{IsStrict, IsStrictAfter}
use Rattle.sst_entries.proofs.Booleans.{apart}
use Rattle.sst_entries.proofs.Strictness.{strict_alone}
use Rattle.sst_blocks.specs.Handle.{Handle}
use Rattle.sst_blocks.specs.Handles.{reaches, is_above, AreStrictHandles, from_first, window}
use Rattle.sst_blocks.specs.Seeking.{span_from, span_to, reaching_place, above_place, KeepsLower}
use Rattle.sst_blocks.specs.Seeking.{KeepsUpper, KeepsLowerEdge, KeepsUpperEdge}
use Rattle.sst_blocks.proofs.Fronts.{front_passes, front_stops}
use Rattle.sst_blocks.proofs.Reaching.{from_first_drop, up_to_first_take}
use Rattle.sst_blocks.proofs.Reaching.{front_length-take, cut, reach_parted}
use Rattle.sst_blocks.proofs.Within.{before, lower_parted, lower_is, upper_parted, upper_is}
use Rattle.sst_blocks.proofs.Within.{range_within, parted_tail, fail_behind}

-- ---- parts of a list that a test cuts in two

module _ {X : Type 0} (p : X → Bool) where
  none_pass : (xs : List X) → ((i : ℕ) (d : X) → i < length xs → p (get_or xs i d) ≡ false)
      → front_length p xs ≡ 0
  none_pass [] h = refl
  none_pass (x ∷ xs) h = rw (h 0 x (omega arith)) refl

  drop_step : (b : Bool) (n m : ℕ) (m' : ℕ) → m' ≡ n - m → (b ≡ false → n ≡ 0)
      → m' ≡ cond b (1 + n) 0 - suc m
  drop_step true n m m' e none = omega (arith, e)
  drop_step false n m m' e none = omega (arith, e, none refl)

  pub front_length-drop : (xs : List X) (m : ℕ) → IsPartitionedBy p xs
      → front_length p (drop m xs) ≡ front_length p xs - m
  front_length-drop xs zero parted = omega arith
  front_length-drop [] (suc m) parted = omega arith
  front_length-drop (x ∷ xs) (suc m) parted =
      drop_step (p x) (front_length p xs) m (front_length p (drop m xs))
      (front_length-drop xs m (parted_tail p x xs parted))
      (λ fails. none_pass xs (fail_behind p x xs parted fails))

  pub front_length-left : (s : Span X) → IsPartitionedBy p s.list
      → front_length p (rest_in s) ≡ min (s.to - s.from) (front_length p s.list - s.from)
  front_length-left s parted =
      front_length-take p (s.to - s.from) (drop s.from s.list)
      ∙ ap (min (s.to - s.from)) (front_length-drop s.list s.from parted)

module _ {X : Type 0} where
  pub narrow_from : (s : Span X) (f : ℕ) → rest_in (span_from f s)
      ≡ drop (min (s.to - s.from) (f - s.from)) (rest_in s)
  narrow_from s f =
      let n = s.to - s.from in
      let k = f - s.from in
      let place : s.from + k ≡ max s.from f = omega arith in
      let rest : n - k ≡ s.to - max s.from f = omega arith in
      sym (cut n k (drop s.from s.list)
      ∙ ap (take (n - k)) (drop-drop k s.from s.list)
      ∙ ap (λ (m : ℕ). take (n - k) (drop m s.list)) place
      ∙ ap (λ (m : ℕ). take m (drop (max s.from f) s.list)) rest)

  pub narrow_to : (s : Span X) (f : ℕ) → rest_in (span_to f s)
      ≡ take (min (s.to - s.from) (f - s.from)) (rest_in s)
  narrow_to s f =
      let n = s.to - s.from in
      let m = min n (f - s.from) in
      let count : min s.to f - s.from ≡ m = omega arith in
      ap (λ (k : ℕ). take k (drop s.from s.list)) count
      ∙ sym (take-take m n (drop s.from s.list) (omega arith))

-- ---- entries

strict_take : (last : Option Entry) (n : ℕ) (es : List Entry) → IsStrictAfter last es
    → IsStrictAfter last (take n es)
unfolding IsStrictAfter
strict_take last zero es strict = tt
strict_take last (suc n) [] strict = tt
strict_take last (suc n) (e ∷ es) strict = (strict.0, strict_take (Some e) n es strict.1)

strict_drop : (last : Option Entry) (n : ℕ) (es : List Entry) → IsStrictAfter last es
    → IsStrict (drop n es)
unfolding IsStrictAfter
strict_drop last zero es strict = strict_alone last es strict
strict_drop last (suc n) [] strict = tt
strict_drop last (suc n) (e ∷ es) strict = strict_drop (Some e) n es strict.1

strict_left : (s : Span Entry) → IsStrict s.list → IsStrict (rest_in s)
strict_left s strict = strict_take None (s.to - s.from) (drop s.from s.list)
    (strict_drop None s.from s.list strict)

-- a lower edge that is sought leaves what is within it
pub lower_left : (low : Bound (List ℕ)) (s : Span Entry) → IsStrict s.list
    → rest_in (span_from (lower_place low s.list) s) ≡ within low Unbounded (rest_in s)
lower_left low s strict =
    let ys = rest_in s in
    let place : lower_place low ys ≡ min (s.to - s.from) (lower_place low s.list - s.from) =
    lower_is low ys ∙ front_length-left (before low) s (lower_parted low s.list strict)
    ∙ ap (λ (n : ℕ). min (s.to - s.from) (n - s.from)) (sym (lower_is low s.list)) in
    narrow_from s (lower_place low s.list)
    ∙ ap (λ (n : ℕ). drop n ys) (sym place)
    ∙ sym (take_all (length ys - lower_place low ys) (drop (lower_place low ys) ys)
    (omega (arith, length-drop (lower_place low ys) ys)))
    ∙ range_within low Unbounded ys (strict_left s strict)

-- an upper edge that is sought leaves what is within it
pub upper_left : (high : Bound (List ℕ)) (s : Span Entry) → IsStrict s.list
    → rest_in (span_to (upper_place high s.list) s) ≡ within Unbounded high (rest_in s)
upper_left high s strict =
    let ys = rest_in s in
    let P = λ (e : Entry). is_to high e.user_key in
    let place : upper_place high ys ≡ min (s.to - s.from) (upper_place high s.list - s.from) =
    upper_is high ys ∙ front_length-left P s (upper_parted high s.list strict)
    ∙ ap (λ (n : ℕ). min (s.to - s.from) (n - s.from)) (sym (upper_is high s.list)) in
    let whole : upper_place high ys - 0 ≡ upper_place high ys = omega arith in
    narrow_to s (upper_place high s.list)
    ∙ ap (λ (n : ℕ). take n ys) (sym place ∙ sym whole)
    ∙ range_within Unbounded high ys (strict_left s strict)

pub sought_lower : (low : Bound (List ℕ)) (s : Span Entry) (n : ℕ) → IsStrict s.list
    → n ≡ max s.from (lower_place low s.list) → rest_in (record s { from = n })
    ≡ within low Unbounded (rest_in s)
sought_lower low s n strict place = ap (λ (k : ℕ). rest_in (record s { from = k })) place
    ∙ lower_left low s strict

pub sought_upper : (high : Bound (List ℕ)) (s : Span Entry) (n : ℕ) → IsStrict s.list
    → n ≡ min s.to (upper_place high s.list) → rest_in (record s { to = n })
    ≡ within Unbounded high (rest_in s)
sought_upper high s n strict place = ap (λ (k : ℕ). rest_in (record s { to = k })) place
    ∙ upper_left high s strict

-- ---- both edges

module _ {X : Type 0} (p q : X → Bool) where
  filter_step : (x : X) (ys zs : List X) (a : Bool) → filter q ys ≡ zs
      → filter q (cond a (x ∷ ys) ys) ≡ cond (a && q x) (x ∷ zs) zs
  filter_step x ys zs true e = ap (λ (ws : List X). cond (q x) (x ∷ ws) ws) e
  filter_step x ys zs false e = e

  filter-filter : (xs : List X) → filter q (filter p xs) ≡ filter (λ x. p x && q x) xs
  filter-filter [] = refl
  filter-filter (x ∷ xs) = filter_step x (filter p xs) (filter (λ y. p y && q y) xs) (p x)
      (filter-filter xs)

  filter_same : ((x : X) → p x ≡ q x) → (xs : List X) → filter p xs ≡ filter q xs
  filter_same same [] = refl
  filter_same same (x ∷ xs) = rw (same x, filter_same same xs) refl

and_turn : (a b : Bool) → (b && (a && true)) ≡ (a && b)
and_turn true true = refl
and_turn true false = refl
and_turn false true = refl
and_turn false false = refl

and_first : (a b : Bool) → ((a && true) && b) ≡ (a && b)
and_first true b = refl
and_first false b = refl

pub lower_of_upper : (low high : Bound (List ℕ)) (es : List Entry)
    → within low Unbounded (within Unbounded high es) ≡ within low high es
lower_of_upper low high es =
    let L = λ (e : Entry). is_from low e.user_key in
    let H = λ (e : Entry). is_to high e.user_key in
    filter-filter H (λ (e : Entry). L e && true) es
    ∙ filter_same (λ (e : Entry). H e && (L e && true)) (λ (e : Entry). L e && H e)
    (λ e. and_turn (L e) (H e)) es

pub upper_of_lower : (low high : Bound (List ℕ)) (es : List Entry)
    → within Unbounded high (within low Unbounded es) ≡ within low high es
upper_of_lower low high es =
    let L = λ (e : Entry). is_from low e.user_key in
    let H = λ (e : Entry). is_to high e.user_key in
    filter-filter (λ (e : Entry). L e && true) H es
    ∙ filter_same (λ (e : Entry). (L e && true) && H e) (λ (e : Entry). L e && H e)
    (λ e. and_first (L e) (H e)) es

pub keeps_upper : (low : Bound (List ℕ)) (s t : Span Entry)
    → rest_in t ≡ within low Unbounded (rest_in s) → KeepsUpper low s t
keeps_upper low s t kept high es was = kept ∙ ap (within low Unbounded) was
    ∙ lower_of_upper low high es

pub keeps_lower : (high : Bound (List ℕ)) (s t : Span Entry)
    → rest_in t ≡ within Unbounded high (rest_in s) → KeepsLower high s t
keeps_lower high s t kept low es was = kept ∙ ap (within Unbounded high) was
    ∙ upper_of_lower low high es

-- ---- handles

-- a lower edge that is sought leaves the window from it on
pub reaching_left : (key : List ℕ) (bound : ℕ) (s : Span Handle) → AreStrictHandles s.list
    → rest_in (span_from (reaching_place (key, bound) s.list) s)
    ≡ window (rest_in s) (Some (key, bound)) None
reaching_left key bound s strict =
    let Q = λ (h : Handle). not (reaches key bound h) in
    narrow_from s (front_length Q s.list)
    ∙ ap (λ (n : ℕ). drop n (rest_in s)) (sym (front_length-left Q s
    (reach_parted s.list key bound strict)))
    ∙ sym (from_first_drop (reaches key bound) (rest_in s))

pub sought_edge : (key : List ℕ) (bound : ℕ) (s : Span Handle) (n : ℕ) → AreStrictHandles s.list
    → n ≡ max s.from (reaching_place (key, bound) s.list)
    → rest_in (record s { from = n }) ≡ window (rest_in s) (Some (key, bound)) None
sought_edge key bound s n strict place = ap (λ (k : ℕ). rest_in (record s { from = k })) place
    ∙ reaching_left key bound s strict

pub keeps_upper_edge : (edge : List ℕ × ℕ) (s t : Span Handle)
    → rest_in t ≡ window (rest_in s) (Some edge) None → KeepsUpperEdge edge s t
keeps_upper_edge edge s t kept key hs was = kept ∙ ap (from_first (reaches edge.0 edge.1)) was

module _ {X : Type 0} where
  take_both : (m n : ℕ) (xs : List X) → take m (take n xs) ≡ take (min m n) xs
  take_both m n xs =
      elim (cases_lt n m) [
        | inl long ↦
            let e : min m n ≡ n = omega (arith, long) in
            take_all m (take n xs) (omega (arith, long, length-take n xs))
            ∙ ap (λ (k : ℕ). take k xs) (sym e)
        | inr short ↦
            let e : min m n ≡ m = omega (arith, short) in
            take-take m n xs short ∙ ap (λ (k : ℕ). take k xs) (sym e)
      ]

  drop_front : (f n : ℕ) (xs : List X) → drop f (take n xs) ≡ take (n - f) (drop f xs)
  drop_front f n xs =
      elim (cases_lt n f) [
        | inl short ↦
            let k : n - f ≡ 0 = omega (arith, short) in
            drop_all f (take n xs) (omega (arith, short, length-take n xs))
            ∙ sym (ap (λ (m : ℕ). take m (drop f xs)) k)
        | inr long ↦
            let k : n ≡ f + (n - f) = omega (arith, long) in
            ap (λ (m : ℕ). drop f (take m xs)) k ∙ drop-take f (n - f) xs
      ]

-- an upper edge that is sought leaves what of it stands in the list's window up to the edge
pub above_left : (key : List ℕ) (s : Span Handle)
    → rest_in (span_to (1 + above_place key s.list) s)
    ≡ rest_in (record s { list = window s.list None (Some key) })
above_left key s =
    let n = 1 + above_place key s.list in
    let count : min s.to n - s.from ≡ min (s.to - s.from) (n - s.from) = omega arith in
    ap (λ (k : ℕ). take k (drop s.from s.list)) count
    ∙ sym (take_both (s.to - s.from) (n - s.from) (drop s.from s.list))
    ∙ ap (take (s.to - s.from)) (sym (drop_front s.from n s.list))
    ∙ ap (λ (hs : List Handle). take (s.to - s.from) (drop s.from hs))
    (sym (up_to_first_take (is_above key) s.list))

take_none : {X : Type 0} (n : ℕ) → take {A = X} n [] ≡ []
take_none zero = refl
take_none (suc n) = refl

-- where the places of a span are known to reach from a place to the end, an upper place cuts the
-- rest
suffix_to : (s : Span Handle) (f n : ℕ) → rest_in s ≡ drop f s.list
    → (f < length s.list → s.from ≡ f) → rest_in (span_to n s) ≡ take (n - f) (drop f s.list)
suffix_to s f n was at =
    let ys = drop f s.list in
    let m = min (s.to - s.from) (n - s.from) in
    elim (cases_lt f (length s.list)) [
      | inl within ↦
          let from : s.from ≡ f = at within in
          let room : length ys ≤ s.to - f =
          omega (
            arith,
            within,
            from,
            ap length was,
            length-take (s.to - s.from)
                (drop s.from s.list),
            length-drop s.from s.list,
            length-drop f s.list,
          ) in
          let count : m ≡ min (n - f) (s.to - f) = omega (arith, from) in
          narrow_to s n ∙ ap (take m) was ∙ ap (λ (k : ℕ). take k ys) count
          ∙ sym (take_both (n - f) (s.to - f) ys)
          ∙ ap (take (n - f)) (take_all (s.to - f) ys room)
      | inr past ↦
          let none : ys ≡ [] = drop_all f s.list past in
          narrow_to s n ∙ ap (take m) (was ∙ none) ∙ take_none m ∙ sym (take_none (n - f))
          ∙ sym (ap (take (n - f)) none)
    ]

-- a span that holds what stands behind a front begins there
starts_behind : (q : Handle → Bool) (s : Span Handle) (d : Handle)
    → rest_in s ≡ drop (front_length q s.list) s.list → front_length q s.list < length s.list
    → s.from ≡ front_length q s.list
starts_behind q s d was within =
    let f = front_length q s.list in
    let lens : min (s.to - s.from) (length s.list - s.from) ≡ length s.list - f =
    omega (
      arith,
      ap length was,
      length-take (s.to - s.from)
          (drop s.from s.list),
      length-drop s.from s.list,
      length-drop f s.list,
    ) in
    elim (cases_lt s.from f) [
      | inl early ↦
          let some : 0 < s.to - s.from = omega (arith, lens, within) in
          let head : get_or s.list s.from d ≡ get_or s.list f d =
          ap (λ (k : ℕ). get_or s.list k d) (let e : s.from ≡ s.from + 0 = omega arith in e)
          ∙ sym (get_or-drop s.from s.list 0 d)
          ∙ sym (get_or-take (s.to - s.from) (drop s.from s.list) 0 d some)
          ∙ ap (λ (hs : List Handle). get_or hs 0 d) was
          ∙ get_or-drop f s.list 0 d
          ∙ ap (λ (k : ℕ). get_or s.list k d) (let e : f + 0 ≡ f = omega arith in e) in
          absurd (apart (q (get_or s.list s.from d)) (front_passes q s.list s.from d early)
          (ap q head ∙ front_stops q s.list d within))
      | inr late ↦ omega (arith, late, lens, within)
    ]

pub sought_above : (key : List ℕ) (s : Span Handle) (n : ℕ)
    → n ≡ min s.to (1 + above_place key s.list) → rest_in (record s { to = n })
    ≡ rest_in (record s { list = window s.list None (Some key) })
sought_above key s n place = ap (λ (k : ℕ). rest_in (record s { to = k })) place ∙ above_left key s

both_edges : (key : List ℕ) (s : Span Handle)
    → KeepsLowerEdge key s (span_to (1 + above_place key s.list) s)
both_edges key s None was =
    let n = 1 + above_place key s.list in
    let whole : n - 0 ≡ n = omega arith in
    suffix_to s 0 n was (λ within. omega (
      arith,
      within,
      ap length was,
      length-take (s.to - s.from)
          (drop s.from s.list),
      length-drop s.from s.list,
    ))
    ∙ ap (λ (k : ℕ). take k s.list) whole ∙ sym (up_to_first_take (is_above key) s.list)
both_edges key s (Some edge) was =
    let Q = λ (h : Handle). not (reaches edge.0 edge.1 h) in
    let hs = s.list in
    let f = front_length Q hs in
    let n = 1 + above_place key hs in
    let d : Handle = record { end_key = key; seqno = 0; offset = 0; size = 0 } in
    let behind : rest_in s ≡ drop f hs = was ∙ from_first_drop (reaches edge.0 edge.1) hs in
    suffix_to s f n behind (starts_behind Q s d behind)
    ∙ sym (cut n f hs)
    ∙ ap (λ (m : ℕ). drop m (take n hs)) (sym (front_length-take Q n hs))
    ∙ sym (from_first_drop (reaches edge.0 edge.1) (take n hs))
    ∙ ap (from_first (reaches edge.0 edge.1)) (sym (up_to_first_take (is_above key) hs))

pub keeps_lower_edge : (key : List ℕ) (s : Span Handle) (n : ℕ)
    → n ≡ min s.to (1 + above_place key s.list) → KeepsLowerEdge key s (record s { to = n })
keeps_lower_edge key s n place edge was = ap (λ (k : ℕ). rest_in (record s { to = k })) place
    ∙ both_edges key s edge was
