-- What seeks to both edges leave of a strict list are the entries within the edges.
use Rattle.std.proofs.Common.{◌≡◌, ℕ, zero, suc, ◌+◌, ◌-◌, ◌<◌, ◌≤◌, Bool, true, false, List, []}
use Rattle.std.proofs.Common.{◌∷◌, length, get_or, take, drop, max, min, refl, sym, ap, ◌∙◌, arith}
use Rattle.std.specs.Prelude.{not, filter, ◌&&◌}
use Rattle.std.specs.List.{slice_range}
use Rattle.std.specs.List.Sorted.{IsPartitionedBy}
use Rattle.std.specs.declared.ops.Bound.{Bound}
use Rattle.std.specs.declared.ops.Bound.TheVariants.{Included, Excluded, Unbounded}
use Rattle.std.proofs.lemmas.List.{take_all}
use Rattle.sst_entries.specs.Entry.{Entry}
use Rattle.sst_entries.specs.Key.{key_lt}
use Rattle.sst_entries.specs.Point.{is_from, is_to, within, lower_place, upper_place}
use Rattle.sst_entries.specs.Span.{rest_in, front_length}
use Rattle.sst_entries.specs.Strict.{IsStrict}
use Rattle.sst_entries.proofs.Booleans.{is_false, not_not}
use Rattle.sst_blocks.proofs.Points.{below_parted, up_to_parted}
use Rattle.sst_blocks.proofs.SpanLemmas.{front_length-le}

pub left_whole : {X : Type 0} (xs : List X) → rest_in
    (record { list = xs; from = 0; to = length xs }) ≡ xs
left_whole xs = take_all (length xs - 0) xs (omega arith)

-- ---- tests that cut a list in two

module _ {X : Type 0} (p : X → Bool) where
  pub parted_tail : (x : X) (xs : List X) → IsPartitionedBy p (x ∷ xs) → IsPartitionedBy p xs
  parted_tail x xs h i j d le lt passed = h (suc i) (suc j) d (omega (arith, le))
      (omega (arith, lt)) passed

  -- behind one that fails none passes
  pub fail_behind : (x : X) (xs : List X) → IsPartitionedBy p (x ∷ xs) → p x ≡ false
      → (i : ℕ) (d : X) → i < length xs → p (get_or xs i d) ≡ false
  fail_behind x xs h fails i d lt =
      is_false (p (get_or xs i d)) (λ passed. let wrong : true ≡ false =
      sym (h 0 (suc i) d (omega arith) (omega (arith, lt)) passed) ∙ fails in absurd cc)

module _ {X : Type 0} (low high : X → Bool) where
  abbrev both : X → Bool
  both x = low x && high x

  none_low : (x : X) (xs : List X) → low x ≡ false → filter both (x ∷ xs) ≡ filter both xs
  none_low x xs l = rw l refl

  none_high : (x : X) (xs : List X) → low x ≡ true → high x ≡ false
      → filter both (x ∷ xs) ≡ filter both xs
  none_high x xs l h = rw (l, h) refl

  one_more : (x : X) (xs : List X) → low x ≡ true → high x ≡ true
      → filter both (x ∷ xs) ≡ x ∷ filter both xs
  one_more x xs l h = rw (l, h) refl

  none_left : (xs : List X) → ((i : ℕ) (d : X) → i < length xs → high (get_or xs i d) ≡ false)
      → filter both xs ≡ []
  none_left [] h = refl
  none_left (x ∷ xs) h =
      let more = none_left xs (λ i d lt. h (suc i) d (omega (arith, lt))) in
      let here = h 0 x (omega arith) in
      elim (low x) as (λ b. low x ≡ b → filter both (x ∷ xs) ≡ []) [
        | true ↦ λ l. none_high x xs l here ∙ more
        | false ↦ λ l. none_low x xs l ∙ more
      ] refl

  stops : (x : X) (xs : List X) → high x ≡ false → front_length high (x ∷ xs) ≡ 0
  stops x xs h = rw h refl

  goes_on : (x : X) (xs : List X) → high x ≡ true
      → front_length high (x ∷ xs) ≡ suc (front_length high xs)
  goes_on x xs h = let e : 1 + front_length high xs ≡ suc (front_length high xs) = omega arith in
      rw h e

  skips : (x : X) (xs : List X) → low x ≡ false
      → front_length (λ y. not (low y)) (x ∷ xs) ≡ suc (front_length (λ y. not (low y)) xs)
  skips x xs l = let e : 1 + front_length (λ y. not (low y)) xs
      ≡ suc (front_length (λ y. not (low y)) xs) = omega arith in rw l e

  begins : (x : X) (xs : List X) → low x ≡ true → front_length (λ y. not (low y)) (x ∷ xs) ≡ 0
  begins x xs l = rw l refl

  -- where all pass below, those that pass above are a front
  front_left : (xs : List X) → ((i : ℕ) (d : X) → i < length xs → low (get_or xs i d) ≡ true)
      → IsPartitionedBy high xs → take (front_length high xs) xs ≡ filter both xs
  front_left [] l h = refl
  front_left (x ∷ xs) l h =
      let here = l 0 x (omega arith) in
      let more = front_left xs (λ i d lt. l (suc i) d (omega (arith, lt)))
      (parted_tail high x xs h) in
      elim (high x) as (λ b. high x ≡ b → take (front_length high (x ∷ xs)) (x ∷ xs)
      ≡ filter both (x ∷ xs)) [
        | true ↦ λ t. ap (λ (n : ℕ). take n (x ∷ xs)) (goes_on x xs t)
            ∙ ap (λ (ys : List X). x ∷ ys) more ∙ sym (one_more x xs here t)
        | false ↦ λ t. ap (λ (n : ℕ). take n (x ∷ xs)) (stops x xs t)
            ∙ sym (none_high x xs here t ∙ none_left xs (fail_behind high x xs h t))
      ] refl

  all_low : (x : X) (xs : List X) → low x ≡ true
      → ((i : ℕ) (d : X) → i < length xs → low (get_or xs i d) ≡ true) → (i : ℕ) (d : X)
      → i < length (x ∷ xs) → low (get_or (x ∷ xs) i d) ≡ true
  all_low x xs here more zero d lt = here
  all_low x xs here more (suc i) d lt = more i d (omega (arith, lt))

  -- the middle of a list that both tests cut
  pub between : (xs : List X) → IsPartitionedBy (λ x. not (low x)) xs → IsPartitionedBy high xs
      → slice_range xs (front_length (λ x. not (low x)) xs) (front_length high xs) ≡ filter both xs
  between [] l h = refl
  between (x ∷ xs) l h =
      let below = λ (y : X). not (low y) in
      let a = front_length below xs in
      let b = front_length high xs in
      let more = between xs (parted_tail below x xs l) (parted_tail high x xs h) in
      elim (low x) as (λ c. low x ≡ c → slice_range (x ∷ xs) (front_length below (x ∷ xs))
      (front_length high (x ∷ xs)) ≡ filter both (x ∷ xs)) [
        | true ↦ λ t.
            let fails : not (low x) ≡ false = rw t refl in
            let all : (i : ℕ) (d : X) → i < length (x ∷ xs) → low (get_or (x ∷ xs) i d) ≡ true =
            all_low x xs t (λ i d lt. not_not (low (get_or xs i d))
            (fail_behind below x xs l fails i d lt)) in
            let n : front_length high (x ∷ xs) - 0 ≡ front_length high (x ∷ xs) = omega arith in
            ap (λ (k : ℕ). slice_range (x ∷ xs) k (front_length high (x ∷ xs))) (begins x xs t)
            ∙ ap (λ (k : ℕ). take k (x ∷ xs)) n ∙ front_left (x ∷ xs) all h
        | false ↦ λ t.
            ap (λ (k : ℕ). slice_range (x ∷ xs) k (front_length high (x ∷ xs))) (skips x xs t)
            ∙ (elim (high x) as (λ c. high x ≡ c → slice_range (x ∷ xs) (suc a)
            (front_length high (x ∷ xs)) ≡ filter both (x ∷ xs)) [
              | true ↦ λ u.
                  let n : suc b - suc a ≡ b - a = omega arith in
                  ap (slice_range (x ∷ xs) (suc a)) (goes_on x xs u)
                  ∙ ap (λ (k : ℕ). take k (drop a xs)) n ∙ more ∙ sym (none_low x xs t)
              | false ↦ λ u.
                  let n : 0 - suc a ≡ 0 = omega arith in
                  ap (slice_range (x ∷ xs) (suc a)) (stops x xs u)
                  ∙ ap (λ (k : ℕ). take k (drop a xs)) n
                  ∙ sym (none_low x xs t ∙ none_left xs (fail_behind high x xs h u))
            ] refl)
      ] refl

-- ---- entries within edges

not_twice : (b : Bool) → not (not b) ≡ b
not_twice true = refl
not_twice false = refl

front_all : {X : Type 0} (xs : List X) → front_length (λ x. true) xs ≡ length xs
front_all [] = refl
front_all (x ∷ xs) = let e : 1 + front_length (λ (y : _). true) xs ≡ suc (length xs) =
    omega (arith, front_all xs) in e

same_front : {X : Type 0} (p q : X → Bool) → ((x : X) → p x ≡ q x) → (xs : List X)
    → front_length p xs ≡ front_length q xs
same_front p q same [] = refl
same_front p q same (x ∷ xs) = rw (same x, same_front p q same xs) refl

same_parts : {X : Type 0} (p q : X → Bool) → ((x : X) → p x ≡ q x) → (xs : List X)
    → IsPartitionedBy p xs → IsPartitionedBy q xs
same_parts p q same xs h i j d le lt passed = sym (same _) ∙ h i j d le lt (same _ ∙ passed)

abbrev pub before : Bound (List ℕ) → Entry → Bool
before low e = not (is_from low e.user_key)

pub lower_parted : (low : Bound (List ℕ)) (es : List Entry) → IsStrict es
    → IsPartitionedBy (before low) es
lower_parted (Included low) es strict = same_parts (λ (e : Entry). key_lt e.user_key low)
    (before (Included low)) (λ e. sym (not_twice (key_lt e.user_key low))) es
    (below_parted es low strict)
lower_parted (Excluded low) es strict = up_to_parted es low strict
lower_parted Unbounded es strict = λ i j d le lt passed. absurd cc

pub lower_is : (low : Bound (List ℕ)) (es : List Entry)
    → lower_place low es ≡ front_length (before low) es
lower_is (Included low) es = same_front (λ (e : Entry). key_lt e.user_key low)
    (before (Included low)) (λ e. sym (not_twice (key_lt e.user_key low))) es
lower_is (Excluded low) es = refl
lower_is Unbounded [] = refl
lower_is Unbounded (e ∷ es) = refl

pub upper_parted : (high : Bound (List ℕ)) (es : List Entry) → IsStrict es
    → IsPartitionedBy (λ e. is_to high e.user_key) es
upper_parted (Included high) es strict = up_to_parted es high strict
upper_parted (Excluded high) es strict = below_parted es high strict
upper_parted Unbounded es strict = λ i j d le lt passed. refl

pub upper_is : (high : Bound (List ℕ)) (es : List Entry)
    → upper_place high es ≡ front_length (λ e. is_to high e.user_key) es
upper_is (Included high) es = refl
upper_is (Excluded high) es = refl
upper_is Unbounded es = sym (front_all es)

-- the places of both edges enclose the entries within them
pub range_within : (low high : Bound (List ℕ)) (es : List Entry) → IsStrict es
    → slice_range es (lower_place low es) (upper_place high es) ≡ within low high es
range_within low high es strict =
    ap (λ (n : ℕ). slice_range es n (upper_place high es)) (lower_is low es)
    ∙ ap (slice_range es (front_length (before low) es)) (upper_is high es)
    ∙ between (λ (e : Entry). is_from low e.user_key) (λ (e : Entry). is_to high e.user_key) es
    (lower_parted low es strict) (upper_parted high es strict)

upper_within : (high : Bound (List ℕ)) (es : List Entry) → upper_place high es ≤ length es
upper_within (Included high) es = front_length-le (λ (e : Entry). not (key_lt high e.user_key)) es
upper_within (Excluded high) es = front_length-le (λ (e : Entry). key_lt e.user_key high) es
upper_within Unbounded es = omega arith

-- what is left of a whole list once both edges were sought
pub sought_within : (low high : Bound (List ℕ)) (es : List Entry) → IsStrict es
    → rest_in (record {
      list = es;
      from = max 0 (lower_place low es);
      to =
          min (length es) (upper_place high es);
    }) ≡ within low high es
sought_within low high es strict =
    let from : max 0 (lower_place low es) ≡ lower_place low es = omega arith in
    let to : min (length es) (upper_place high es) ≡ upper_place high es =
    omega (arith, upper_within high es) in
    ap (λ (n : ℕ). slice_range es n (min (length es) (upper_place high es))) from
    ∙ ap (slice_range es (lower_place low es)) to ∙ range_within low high es strict
