-- What searches find in tables whose ranges are in order.
use Rattle.std.proofs.Common.{◌≡◌, refl, sym, ◌∙◌, ap, subst, ℕ, ◌<◌, ◌≤◌, ◌+◌, ◌-◌, Bool, true}
use Rattle.std.proofs.Common.{false, List, [], ◌∷◌, length, take, drop, get_or, zero, suc, inl, inr}
use Rattle.std.proofs.Common.{arith, Some, None, Option, Result, Ok, Err}
use Rattle.std.specs.Prelude.{map, filter, find, not, ◌&&◌, slice_get, ◌==◌, OnOk}
use Rattle.std.specs.List.{list_all}
use Rattle.std.specs.Option.{option_map_or}
use Rattle.std.proofs.Math.ListN.{drop_of_length-le}
use Rattle.std.proofs.lemmas.List.{at_drop_more}
use Rattle.sst_entries.specs.Stream.{first}
use Rattle.std.specs.List.Sorted.{IsPartitionedBy, IsPartitionPoint}
use Rattle.std.specs.declared.ops.Bound.{Bound}
use Rattle.std.specs.declared.ops.Bound.TheVariants.{Included}
use Rattle.std.proofs.lemmas.Bool.{and_parts, and_from, and_right, ne_eqb, cases_Bool, both_ways}
use Rattle.std.proofs.lemmas.Bool.{not_from_false, false_from_ne_true, not-true}
use Rattle.sst_entries.specs.Key.{key_lt}
use Rattle.lsm_sorted.specs.version.KeyRange.{Interval, interval, key_le, is_well_formed, has_key}
use Rattle.lsm_sorted.specs.version.KeyRange.{has_range, overlaps}
use Rattle.sst_entries.specs.Point.{is_from}
use Rattle.lsm_sorted.specs.version.Run.{are_in_order, ends_before, starts_within, how_many}
use Rattle.lsm_sorted.specs.version.Run.{first_and_last}
use Rattle.lsm_sorted.specs.version.Run.{overlap_indexes, first_to_last, last_max}
use Rattle.sst_entries.proofs.OrderLemmas.{lt_trans}
use Rattle.lsm_sorted.proofs.IntervalLemmas.{le_trans, le_not, lt_to_le, lt_then_le, le_then_lt}
use Rattle.lsm_sorted.proofs.IntervalLemmas.{lower_up, upper_down}

-- an interval that passes shows that each that ends before it passes too
pub record Falls (p : Interval → Bool) : Type 0 where
  pub at : (a b : Interval) → is_well_formed a ≡ true → is_well_formed b ≡ true
      → key_lt a.max b.min ≡ true → p b ≡ true → p a ≡ true

-- the ends of intervals of which one ends before the other
mins : (a b : Interval) → is_well_formed a ≡ true → key_lt a.max b.min ≡ true
    → key_le a.min b.min ≡ true
mins a b wa h = lt_to_le a.min b.min (le_then_lt a.min a.max b.min wa h)

maxs : (a b : Interval) → is_well_formed b ≡ true → key_lt a.max b.min ≡ true
    → key_le a.max b.max ≡ true
maxs a b wb h = lt_to_le a.max b.max (lt_then_le a.max b.min b.max h wb)

not_not : (b : Bool) → not b ≡ true → b ≡ true → ⊥
not_not b p q = both_ways b (not-true b p) q

not_by : (b : Bool) → (b ≡ true → ⊥) → not b ≡ true
not_by b h = not_from_false b (false_from_ne_true b h)

pub falls-ends_before : (lower : Bound (List ℕ)) → Falls (ends_before lower)
falls-ends_before lower = record {
  at = λ a b wa wb h p. not_by (is_from lower a.max)
      (λ q. not_not (is_from lower b.max) p (lower_up lower a.max b.max q (maxs a b wb h)));
}

pub falls-starts_within : (upper : Bound (List ℕ)) → Falls (starts_within upper)
falls-starts_within upper = record {
  at = λ a b wa wb h p. upper_down upper b.min a.min p
      (mins a b wa h);
}

pub falls-starts_before : (key : List ℕ) → Falls (λ r. key_lt r.min key)
falls-starts_before key = record {
  at = λ a b wa wb h p. le_then_lt a.min b.min key
      (mins a b wa h) p;
}

pub falls-ends_within : (key : List ℕ) → Falls (λ r. key_le r.max key)
falls-ends_within key = record { at = λ a b wa wb h p. le_trans a.max b.max key (maxs a b wb h) p }

-- the parts of an order
pub record Parts (r : Interval) (rs : List Interval) : Type 0 where
  pub formed : is_well_formed r ≡ true
  pub before : list_all (λ later. key_lt r.max later.min) rs ≡ true
  pub rest : are_in_order rs ≡ true

pub parts : (r : Interval) (rs : List Interval) → are_in_order (r ∷ rs) ≡ true → Parts r rs
parts r rs h =
    let x = and_parts (is_well_formed r && list_all (λ later. key_lt r.max later.min) rs)
    (are_in_order rs) h in
    let y = and_parts (is_well_formed r) (list_all (λ later. key_lt r.max later.min) rs) x.0 in
    record { formed = y.0; before = y.1; rest = x.1 }

pub in_order_from : (r : Interval) (rs : List Interval) → Parts r rs → are_in_order (r ∷ rs) ≡ true
in_order_from r rs h =
    and_from (is_well_formed r && list_all (λ later. key_lt r.max later.min) rs) (are_in_order rs)
    (and_from (is_well_formed r) (list_all (λ later. key_lt r.max later.min) rs) h.formed h.before)
    h.rest

module _ {T : Type 0} (f : T → Interval) where
  -- what holds of each of a list holds of the one at a place
  all_at : (p : Interval → Bool) (xs : List T) → list_all p (map f xs) ≡ true → (j : ℕ) (d : T)
      → j < length xs → p (f (get_or xs j d)) ≡ true
  all_at p [] h j d lt = absurd (omega arith)
  all_at p (x ∷ xs) h zero d lt = (and_parts (p (f x)) (list_all p (map f xs)) h).0
  all_at p (x ∷ xs) h (suc j) d lt = all_at p xs
      (and_parts (p (f x)) (list_all p (map f xs)) h).1 j d (omega arith)

  formed_at : (xs : List T) → are_in_order (map f xs) ≡ true → (j : ℕ) (d : T) → j < length xs
      → is_well_formed (f (get_or xs j d)) ≡ true
  formed_at [] h j d lt = absurd (omega arith)
  formed_at (x ∷ xs) h zero d lt = (parts (f x) (map f xs) h).formed
  formed_at (x ∷ xs) h (suc j) d lt = formed_at xs (parts (f x) (map f xs) h).rest j d (omega arith)

  pub partitioned : (p : Interval → Bool) → Falls p → (xs : List T) → are_in_order (map f xs) ≡ true
      → IsPartitionedBy (λ t. p (f t)) xs
  partitioned p falls [] h i j d le lt q = absurd (omega arith)
  partitioned p falls (x ∷ xs) h zero zero d le lt q = q
  partitioned p falls (x ∷ xs) h zero (suc j) d le lt q =
      let k = parts (f x) (map f xs) h in
      falls.at (f x) (f (get_or xs j d)) k.formed (formed_at xs k.rest j d (omega arith))
      (all_at (λ later. key_lt (f x).max later.min) xs k.before j d (omega arith)) q
  partitioned p falls (x ∷ xs) h (suc i) zero d le lt q = absurd (omega arith)
  partitioned p falls (x ∷ xs) h (suc i) (suc j) d le lt q =
      partitioned p falls xs (parts (f x) (map f xs) h).rest i j d (omega arith) (omega arith) q

  pub how_many-map : (p : Interval → Bool) (xs : List T)
      → how_many p (map f xs) ≡ length (filter (λ t. p (f t)) xs)
  how_many-map p [] = refl
  how_many-map p (x ∷ xs) =
      elim (cases_Bool (p (f x))) [
        | inl e ↦ rw e (ap suc (how_many-map p xs))
        | inr e ↦ rw e (how_many-map p xs)
      ]

  -- a later interval fails where an earlier one does
  later_fails : (p : Interval → Bool) → Falls p → (r : Interval) → is_well_formed r ≡ true
      → p r ≡ false → (xs : List T) → list_all (λ later. key_lt r.max later.min) (map f xs) ≡ true
      → are_in_order (map f xs) ≡ true → list_all (λ t. not (p (f t))) xs ≡ true
  later_fails p falls r wr no_pass [] before ordered = refl
  later_fails p falls r wr no_pass (x ∷ xs) before ordered =
      let b = and_parts (key_lt r.max (f x).min) (list_all (λ later. key_lt r.max later.min)
      (map f xs)) before in
      let k = parts (f x) (map f xs) ordered in
      and_from (not (p (f x))) (list_all (λ t. not (p (f t))) xs)
      (not_by (p (f x)) (λ q. both_ways (p r) no_pass (falls.at r (f x) wr k.formed b.0 q)))
      (later_fails p falls r wr no_pass xs b.1 k.rest)

  pub in_order-drop : (n : ℕ) (xs : List T) → are_in_order (map f xs) ≡ true
      → are_in_order (map f (drop n xs)) ≡ true
  in_order-drop zero xs h = h
  in_order-drop (suc n) [] h = h
  in_order-drop (suc n) (x ∷ xs) h = in_order-drop n xs (parts (f x) (map f xs) h).rest

module _ {T : Type 0} where
  pub point_count : (q : T → Bool) (xs : List T) (i : ℕ) → i ≤ length xs
      → IsPartitionPoint (λ t. q t ≡ true) (λ t. q t ≡ false) xs i → length (filter q xs) ≡ i
  point_count q [] i le h = omega arith
  point_count q (x ∷ xs) zero le h =
      let e : q x ≡ false = h.1 0 x (omega arith) (omega arith) in
      rw e
      (point_count q xs zero (omega arith) (
        (λ k d lo hi. absurd (omega arith)),
        (λ k d lo hi. h.1 (suc k) d (omega arith) (omega arith)),
      ))
  point_count q (x ∷ xs) (suc i) le h =
      let e : q x ≡ true = h.0 0 x (omega arith) (omega arith) in
      rw e
      (ap suc (point_count q xs i (omega arith) (
        (λ k d lo hi. h.0 (suc k) d (omega arith)
            (omega arith)),
        (λ k d lo hi. h.1 (suc k) d (omega arith) (omega arith)),
      )))

  none_pass : (q : T → Bool) (xs : List T) → list_all (λ t. not (q t)) xs ≡ true
      → (filter q xs ≡ []) × (filter (λ t. not (q t)) xs ≡ xs)
  none_pass q [] h = (refl, refl)
  none_pass q (x ∷ xs) h =
      let k = and_parts (not (q x)) (list_all (λ t. not (q t)) xs) h in
      let e = not-true (q x) k.0 in
      let rest = none_pass q xs k.1 in
      (rw e rest.0, rw e (ap (λ l. x ∷ l) rest.1))

  -- two tests one after the other
  pub filter_both : (e s p : T → Bool) → ((x : T) → p x ≡ (not (e x) && s x)) → (xs : List T)
      → filter s (filter (λ t. not (e t)) xs) ≡ filter p xs
  filter_both e s p agree [] = refl
  filter_both e s p agree (x ∷ xs) =
      elim (cases_Bool (e x)) [
        | inl h ↦ rw (agree x, h) (filter_both e s p agree xs)
        | inr h ↦
            elim (cases_Bool (s x)) [
              | inl k ↦ rw (agree x, h) (rw k (ap (λ l. x ∷ l) (filter_both e s p agree xs)))
              | inr k ↦ rw (agree x, h) (rw k (filter_both e s p agree xs))
            ]
      ]

module _ {T : Type 0} (f : T → Interval) (p : Interval → Bool) (falls : Falls p) where
  -- those that pass stand in front, and the others behind them
  pub record Splits (xs : List T) : Type 0 where
    pub front : take (how_many p (map f xs)) xs ≡ filter (λ t. p (f t)) xs
    pub back : drop (how_many p (map f xs)) xs ≡ filter (λ t. not (p (f t))) xs

  -- where the first fails, none passes
  pub none_count : (x : T) (xs : List T) → are_in_order (map f (x ∷ xs)) ≡ true → p (f x) ≡ false
      → how_many p (map f xs) ≡ 0
  none_count x xs h e =
      let k = parts (f x) (map f xs) h in
      how_many-map f p xs ∙ ap length (none_pass (λ t. p (f t)) xs
      (later_fails f p falls (f x) k.formed e xs k.before k.rest)).0

  pub splits : (xs : List T) → are_in_order (map f xs) ≡ true → Splits xs
  splits [] h = record { front = refl; back = refl }
  splits (x ∷ xs) h =
      let k = parts (f x) (map f xs) h in
      elim (cases_Bool (p (f x))) [
        | inl e ↦
            let rest = splits xs k.rest in
            record {
              front = rw e (ap (λ l. x ∷ l) rest.front);
              back = rw e rest.back;
            }
        | inr e ↦
            let none = none_pass (λ t. p (f t)) xs (later_fails f p falls
            (f x) k.formed e xs k.before k.rest) in
            let zero_of : how_many p (map f xs) ≡ 0 = how_many-map f p xs ∙ ap length none.0 in
            record {
              front = rw (e, zero_of) (sym none.0);
              back = rw (e, zero_of) (ap (λ l. x ∷ l) (sym none.1));
            }
      ]

module _ {T : Type 0} (f : T → Interval) where
  -- the places that pass, out of those that fail before them: what passes both tests
  pub middle : (e s q : Interval → Bool) → Falls e → Falls s
      → ((r : Interval) → q r ≡ (not (e r) && s r)) → (xs rest part : List T) (n m : ℕ)
      → are_in_order (map f xs) ≡ true → n ≡ how_many e (map f xs) → rest ≡ drop n xs
      → m ≡ how_many s (map f rest) → part ≡ take m rest → part ≡ filter (λ t. q (f t)) xs
  middle e s q falls_e falls_s agree xs rest part n m ordered n_is rest_is m_is part_is =
      let back : rest ≡ filter (λ t. not (e (f t))) xs = rest_is ∙ ap (λ k. drop k xs) n_is
      ∙ (splits f e falls_e xs ordered).back in
      let rest_ordered : are_in_order (map f rest) ≡ true =
      subst (λ (ys : List T). are_in_order (map f ys) ≡ true) (sym rest_is)
      (in_order-drop f n xs ordered) in
      part_is ∙ ap (λ k. take k rest) m_is ∙ (splits f s falls_s rest rest_ordered).front
      ∙ ap (λ ys. filter (λ t. s (f t)) ys) back
      ∙ filter_both (λ t. e (f t)) (λ t. s (f t)) (λ t. q (f t)) (λ t. agree (f t)) xs

  pub rest_in_order : (xs rest : List T) (n : ℕ) → rest ≡ drop n xs → are_in_order (map f xs) ≡ true
      → are_in_order (map f rest) ≡ true
  rest_in_order xs rest n is ordered = subst (λ (ys : List T). are_in_order (map f ys) ≡ true)
      (sym is) (in_order-drop f n xs ordered)

  map-drop : (n : ℕ) (xs : List T) → map f (drop n xs) ≡ drop n (map f xs)
  map-drop zero xs = refl
  map-drop (suc n) [] = refl
  map-drop (suc n) (x ∷ xs) = map-drop n xs

  pub indexes : (lower upper : Bound (List ℕ)) (xs rest : List T) (n m : ℕ)
      → n ≡ how_many (ends_before lower) (map f xs) → rest ≡ drop n xs
      → m ≡ how_many (starts_within upper) (map f rest)
      → overlap_indexes lower upper (map f xs) ≡ first_and_last n m
  indexes lower upper xs rest n m n_is rest_is m_is =
      ap (λ k. first_and_last k (how_many (starts_within upper) (drop k (map f xs)))) (sym n_is)
      ∙ ap (λ rs. first_and_last n (how_many (starts_within upper) rs))
      (sym (map-drop n xs) ∙ ap (λ ys. map f ys) (sym rest_is))
      ∙ ap (λ k. first_and_last n k) (sym m_is)

  -- the first that passes is the first of those that pass
  find_first : (q : T → Bool) (xs : List T) → find q xs ≡ first (filter q xs)
  find_first q [] = refl
  find_first q (x ∷ xs) =
      elim (cases_Bool (q x)) [
        | inl e ↦ rw e refl
        | inr e ↦ rw e (find_first q xs)
      ]

  passes_first : (s : Interval → Bool) (t : T) (ts : List T) → s (f t) ≡ true
      → first (filter (λ x. s (f x)) (t ∷ ts)) ≡ Some t
  passes_first s t ts e = rw e refl

  none_after : (s : Interval → Bool) → Falls s → (t : T) (ts : List T)
      → are_in_order (map f (t ∷ ts)) ≡ true → s (f t) ≡ false
      → first (filter (λ x. s (f x)) (t ∷ ts)) ≡ None
  none_after s falls t ts ordered e =
      let k = parts (f t) (map f ts) ordered in
      let none = none_pass (λ x. s (f x)) ts (later_fails f s falls
      (f t) k.formed e ts k.before k.rest) in
      rw e (ap first none.0)

  swapped : (a b : Bool) → (b && a) ≡ (not (not a) && b)
  swapped true true = refl
  swapped true false = refl
  swapped false true = refl
  swapped false false = refl

  -- of the tables that do not end before the key, the first decides
  module _ (key : List ℕ) (xs rest : List T) (n : ℕ) (ordered : are_in_order (map f xs) ≡ true)
      (n_is : n ≡ how_many (ends_before (Included key)) (map f xs))
      (rest_is : rest ≡ drop n xs) where
    key_among : find (λ t. has_key (f t) key) xs ≡ first (filter (λ t. key_le (f t).min key) rest)
    key_among =
        let back : rest ≡ filter (λ t. not (ends_before (Included key) (f t))) xs = rest_is
        ∙ ap (λ k. drop k xs) n_is ∙ (splits f (ends_before (Included key))
        (falls-ends_before (Included key)) xs ordered).back in
        find_first (λ t. has_key (f t) key) xs
        ∙ ap first (sym (filter_both (λ t. ends_before (Included key) (f t))
        (λ t. key_le (f t).min key) (λ t. has_key (f t) key)
        (λ t. swapped (key_le key (f t).max) (key_le (f t).min key)) xs))
        ∙ ap (λ ys. first (filter (λ t. key_le (f t).min key) ys)) (sym back)

    pub key_found : (t : T) → Some t ≡ slice_get rest 0 → key_le (f t).min key ≡ true
        → Some t ≡ find (λ t'. has_key (f t') key) xs
    key_found t at starts = sym (key_among ∙ go rest at)
      where
        go : (ys : List T) → Some t ≡ slice_get ys 0
            → first (filter (λ x. key_le (f x).min key) ys) ≡ Some t
        go [] h = absurd cc
        go (y ∷ ys) h = let e : t ≡ y = cc in subst
            (λ (v : T). first (filter (λ x. key_le (f x).min key) (v ∷ ys)) ≡ Some t) e
            (passes_first (λ r. key_le r.min key) t ys starts)

    pub key_past : (t : T) → Some t ≡ slice_get rest 0 → key_le (f t).min key ≡ false
        → None ≡ find (λ t'. has_key (f t') key) xs
    key_past t at starts = sym (key_among ∙ go rest at (rest_in_order xs rest n rest_is ordered))
      where
        go : (ys : List T) → Some t ≡ slice_get ys 0 → are_in_order (map f ys) ≡ true
            → first (filter (λ x. key_le (f x).min key) ys) ≡ None
        go [] h o = absurd cc
        go (y ∷ ys) h o = let e : t ≡ y = cc in none_after (λ r. key_le r.min key)
            (falls-starts_within (Included key)) y ys o
            (subst (λ (v : T). key_le (f v).min key ≡ false) e starts)

    pub key_none : None ≡ slice_get rest 0 → None ≡ find (λ t'. has_key (f t') key) xs
    key_none at = sym (key_among ∙ go rest at)
      where
        go : (ys : List T) → None ≡ slice_get ys 0
            → first (filter (λ x. key_le (f x).min key) ys) ≡ None
        go [] h = refl
        go (y ∷ ys) h = absurd cc

  -- the last of a list with its first is at the place before its length
  last_at : (x : T) (xs : List T) (d : T)
      → last_max (f x) (map f xs) ≡ (f (get_or (x ∷ xs) (length xs) d)).max
  last_at x [] d = refl
  last_at x (y ∷ ys) d = last_at y ys d

  pub ends_at : (xs : List T) (first_one last_one : T) → 0 < length xs
      → first_one ≡ get_or xs 0 first_one → last_one ≡ get_or xs (length xs - 1) last_one
      → first_to_last (map f xs) ≡ Some (interval (f first_one).min (f last_one).max)
  ends_at [] a b some p q = absurd (omega arith)
  ends_at (x ∷ xs) a b some p q =
      let low : x ≡ a = sym p in
      let place : length (x ∷ xs) - 1 ≡ length xs = omega arith in
      let high : get_or (x ∷ xs) (length xs) b ≡ b = ap (λ k. get_or (x ∷ xs) k b) (sym place)
      ∙ sym q in
      ap (λ k. Some (interval (f x).min k)) (last_at x xs b ∙ ap (λ t. (f t).max) high)
      ∙ ap (λ t. Some (interval (f t).min (f b).max)) low

-- after the last greatest key, each interval is well-formed and starts above the one before it
abbrev pub ascends_after : Option (List ℕ) → List Interval → Bool
ascends_after last [] = true
ascends_after last (r ∷ rs) = is_well_formed r && option_map_or (λ k. key_lt k r.min) last true
    && ascends_after (Some r.max) rs

pub further : (k : List ℕ) (r : Interval) (rs : List Interval) → is_well_formed r ≡ true
    → key_lt k r.min ≡ true → list_all (λ later. key_lt r.max later.min) rs ≡ true
    → list_all (λ later. key_lt k later.min) rs ≡ true
further k r [] w e all = refl
further k r (s ∷ rs) w e all =
    let x = and_parts (key_lt r.max s.min) (list_all (λ later. key_lt r.max later.min) rs) all in
    and_from (key_lt k s.min) (list_all (λ later. key_lt k later.min) rs)
    (lt_trans k r.max s.min (lt_then_le k r.min r.max e w) x.0) (further k r rs w e x.1)

ascends_is : (k : List ℕ) (rs : List Interval)
    → ascends_after (Some k) rs ≡ (list_all (λ r. key_lt k r.min) rs && are_in_order rs)
ascends_is k [] = refl
ascends_is k (r ∷ rs) =
    elim (cases_Bool (is_well_formed r)) [
      | inl w ↦
          elim (cases_Bool (key_lt k r.min)) [
            | inl e ↦
                elim (cases_Bool (list_all (λ later. key_lt r.max later.min) rs)) [
                  | inl all ↦ rw (w, e, ascends_is r.max rs, all, further k r rs w e all) refl
                  | inr some ↦ rw (w, e, ascends_is r.max rs, some)
                      (sym (and_right (list_all (λ later. key_lt k later.min) rs) false refl))
                ]
            | inr e ↦ rw (w, e) refl
          ]
      | inr w ↦ rw w (sym (and_right (key_lt k r.min && list_all (λ later. key_lt k later.min) rs)
          false refl))
    ]

-- tables in order ascend from the first on
pub ascends_from_first : (rs : List Interval) → ascends_after None rs ≡ are_in_order rs
ascends_from_first [] = refl
ascends_from_first (r ∷ rs) =
    elim (cases_Bool (is_well_formed r)) [
      | inl w ↦ rw (w, ascends_is r.max rs) refl
      | inr w ↦ rw w refl
    ]

pub kept_twice : (a b : Bool) → (a && b) ≡ (not (not a) && b)
kept_twice true b = refl
kept_twice false b = refl

module _ {T : Type 0} (f : T → Interval) where
  -- what the two counts of a search cut out of the tables
  pub found_between : (e s : List ℕ → Interval → Bool) (q : Interval → Interval → Bool)
      → ((k : List ℕ) → Falls (e k)) → ((k : List ℕ) → Falls (s k))
      → ((kr r : Interval) → q kr r ≡ (not (e kr.min r) && s kr.max r))
      → (kr : Interval) (whole tables rest part : List T) (low high : List ℕ) (n m : ℕ)
      → tables ≡ whole → low ≡ kr.min → high ≡ kr.max
      → (are_in_order (map f tables) ≡ true → n ≡ how_many (e low) (map f tables))
      → rest ≡ drop n tables
      → (are_in_order (map f rest) ≡ true → m ≡ how_many (s high) (map f rest)) → part ≡ take m rest
      → are_in_order (map f whole) ≡ true → part ≡ filter (λ t. q kr (f t)) whole
  found_between e s q falls_e falls_s agree kr whole tables rest part low high n m same low_is
      high_is n_is rest_is m_is part_is whole_ordered =
      let ordered : are_in_order (map f tables) ≡ true =
      subst (λ (ys : List T). are_in_order (map f ys) ≡ true) (sym same) whole_ordered in
      middle f (e kr.min) (s kr.max) (q kr) (falls_e kr.min) (falls_s kr.max)
      (agree kr) tables rest part n m ordered
      (n_is ordered ∙ ap (λ k. how_many (e k) (map f tables)) low_is)
      rest_is
      (m_is (rest_in_order f tables rest n rest_is ordered)
      ∙ ap (λ k. how_many (s k) (map f rest)) high_is)
      part_is
      ∙ ap (λ ys. filter (λ t. q kr (f t)) ys) same

  pub overlapping : (kr : Interval) (whole tables rest part : List T) (low high : List ℕ) (n m : ℕ)
      → tables ≡ whole → low ≡ kr.min → high ≡ kr.max
      → (are_in_order (map f tables) ≡ true
      → n ≡ how_many (ends_before (Included low)) (map f tables)) → rest ≡ drop n tables
      → (are_in_order (map f rest) ≡ true
      → m ≡ how_many (starts_within (Included high)) (map f rest)) → part ≡ take m rest
      → are_in_order (map f whole) ≡ true → part ≡ filter (λ t. overlaps (f t) kr) whole
  overlapping = found_between (λ k r. ends_before (Included k) r)
      (λ k r. starts_within (Included k) r) (λ kr r. overlaps r kr)
      (λ k. falls-ends_before (Included k)) (λ k. falls-starts_within (Included k))
      (λ kr r. kept_twice (key_le kr.min r.max) (key_le r.min kr.max))

  pub contained : (kr : Interval) (whole tables rest part : List T) (low high : List ℕ) (n m : ℕ)
      → tables ≡ whole → low ≡ kr.min → high ≡ kr.max
      → (are_in_order (map f tables) ≡ true → n ≡ how_many (λ r. key_lt r.min low) (map f tables))
      → rest ≡ drop n tables
      → (are_in_order (map f rest) ≡ true → m ≡ how_many (λ r. key_le r.max high) (map f rest))
      → part ≡ take m rest → are_in_order (map f whole) ≡ true
      → part ≡ filter (λ t. has_range kr (f t)) whole
  contained = found_between (λ k r. key_lt r.min k) (λ k r. key_le r.max k)
      (λ kr r. has_range kr r) falls-starts_before falls-ends_within
      (λ kr r. ap (λ b. b && key_le r.max kr.max) (le_not kr.min r.min))

  pub indexes_found : (lower upper : Bound (List ℕ)) (whole tables rest : List T) (n m : ℕ)
      → tables ≡ whole
      → (are_in_order (map f tables) ≡ true → n ≡ how_many (ends_before lower) (map f tables))
      → rest ≡ drop n tables
      → (are_in_order (map f rest) ≡ true → m ≡ how_many (starts_within upper) (map f rest))
      → are_in_order (map f whole) ≡ true
      → overlap_indexes lower upper (map f whole) ≡ first_and_last n m
  indexes_found lower upper whole tables rest n m same n_is rest_is m_is whole_ordered =
      let ordered : are_in_order (map f tables) ≡ true =
      subst (λ (ys : List T). are_in_order (map f ys) ≡ true) (sym same) whole_ordered in
      ap (λ ys. overlap_indexes lower upper (map f ys)) (sym same)
      ∙ indexes f lower upper tables rest n m (n_is ordered) rest_is
      (m_is (rest_in_order f tables rest n rest_is ordered))

pub first_and_last-none : (n m : ℕ) → m ≡ 0 → first_and_last n m ≡ None
first_and_last-none n m h = rw h refl

pub first_and_last-some : (n m : ℕ) → (m ≡ 0 → ⊥) → first_and_last n m ≡ Some (n, n + m - 1)
first_and_last-some n m h = let e : (m == 0) ≡ false = ne_eqb m 0 h in rw e refl

module _ {T : Type 0} (f : T → Interval) where
  step : (last : Option (List ℕ)) (xs : List T) (i : ℕ) (x : T) (r : Interval) (b : Bool)
      → i < length xs → x ≡ get_or xs i x → r ≡ f x
      → b ≡ (is_well_formed r && option_map_or (λ k. key_lt k r.min) last true)
      → ascends_after last (map f (drop i xs))
      ≡ (b && ascends_after (Some r.max) (map f (drop (i + 1) xs)))
  step last xs i x r b lt at r_is b_is =
      at_drop_more (λ ys. ascends_after last (map f ys)) xs i x lt
      ∙ ap (λ y. ascends_after last (f y ∷ map f (drop (i + 1) xs))) (sym at)
      ∙ ap (λ v. ascends_after last (v ∷ map f (drop (i + 1) xs))) (sym r_is)
      ∙ ap (λ v. v && ascends_after (Some r.max) (map f (drop (i + 1) xs))) (sym b_is)

  -- one more table that goes on, or one that does not
  pub goes_on : (last : Option (List ℕ)) (xs : List T) (i : ℕ) (x : T) (r : Interval) (b : Bool)
      → i < length xs → x ≡ get_or xs i x → r ≡ f x
      → b ≡ (is_well_formed r && option_map_or (λ k. key_lt k r.min) last true) → b ≡ true
      → ascends_after last (map f (drop i xs))
      ≡ ascends_after (Some r.max) (map f (drop (i + 1) xs))
  goes_on last xs i x r b lt at r_is b_is h =
      step last xs i x r b lt at r_is b_is ∙ ap (λ v. v
      && ascends_after (Some r.max) (map f (drop (i + 1) xs))) h

  pub stops : (last : Option (List ℕ)) (xs : List T) (i : ℕ) (x : T) (r : Interval) (b : Bool)
      → i < length xs → x ≡ get_or xs i x → r ≡ f x
      → b ≡ (is_well_formed r && option_map_or (λ k. key_lt k r.min) last true) → b ≡ false
      → ascends_after last (map f (drop i xs)) ≡ false
  stops last xs i x r b lt at r_is b_is h =
      step last xs i x r b lt at r_is b_is ∙ ap (λ v. v
      && ascends_after (Some r.max) (map f (drop (i + 1) xs))) h

  -- no table is left
  pub ended : (last : Option (List ℕ)) (xs : List T) (i : ℕ) → length xs ≤ i
      → ascends_after last (map f (drop i xs)) ≡ true
  ended last xs i past = ap (λ ys. ascends_after last (map f ys)) (drop_of_length-le xs past)

module _ {T : Type 0} (range : T → Interval) where
  -- from the pair on whose later table stands at a place, no table starts before the one in front
  -- of it
  abbrev pub AscendsFrom : List T → ℕ → Type 0
  AscendsFrom xs place =
      (k : ℕ) (d : T) → place ≤ k + 1 → k + 1 < length xs
      → key_lt (range (get_or xs (k + 1) d)).min (range (get_or xs k d)).min ≡ false

-- a fact of success gives another
pub on_ok : {X E P Q : Type 0} (r : Result X E) → (P → Q) → OnOk r P → OnOk r Q
on_ok (Ok x) h p = h p
on_ok (Err e) h p = p
