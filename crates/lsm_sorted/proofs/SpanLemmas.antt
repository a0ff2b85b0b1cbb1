-- The span of a list of intervals.
use Rattle.std.proofs.Common.{◌≡◌, refl, sym, ◌∙◌, ap, subst, ℕ, ◌<◌, ◌≤◌, Bool, true, false, cond}
use Rattle.std.proofs.Common.{List, [], ◌∷◌, ◌++◌, append_assoc, append-nil, length, drop, get_or}
use Rattle.std.proofs.Common.{◌+◌, arith, inl, inr}
use Rattle.std.specs.Prelude.{map, Contains, not, ◌&&◌, ◌||◌}
use Rattle.std.specs.List.{list_any}
use Rattle.std.specs.Borrow.{Bor}
use Rattle.std.proofs.Math.ListN.{drop_of_length-le}
use Rattle.std.proofs.lemmas.Bool.{cases_Bool, cond-true, cond-false}
use Rattle.std.proofs.lemmas.List.{at_drop_more}
use Rattle.std.proofs.lemmas.List.Elements.{All-push, Contains-push, Contains-append_left}
use Rattle.sst_entries.specs.Key.{key_lt}
use Rattle.lsm_sorted.specs.version.KeyRange.{Interval, interval, key_le, IsHull, IsAggregate}
use Rattle.lsm_sorted.specs.version.KeyRange.{overlaps}
use Rattle.lsm_sorted.specs.version.KeyRange.{are_disjoint, intervals}
use Rattle.lsm_sorted.proofs.IntervalLemmas.{le_refl, le_trans, le_to, lt_to_le}

-- the lesser and the greater of two keys, the first where they are the same
abbrev pub lesser : List ℕ → List ℕ → List ℕ
lesser a b = cond (key_lt b a) b a

abbrev pub greater : List ℕ → List ℕ → List ℕ
greater a b = cond (key_lt a b) b a

-- the ends after more intervals
abbrev pub span_from : List ℕ → List ℕ → List Interval → Interval
span_from low high [] = interval low high
span_from low high (x ∷ xs) = span_from (lesser low x.min) (greater high x.max) xs

pub map-push : {X Y : Type 0} (f : X → Y) (xs : List X) (y : X)
    → map f (xs ++ y ∷ []) ≡ map f xs ++ f y ∷ []
map-push f [] y = refl
map-push f (x ∷ xs) y = ap (λ t. f x ∷ t) (map-push f xs y)

low_of : (xs : List Interval) (y : Interval) (low : List ℕ) → Contains (map (λ x. x.min) xs) low
    → (low' : List ℕ) → low' ≡ lesser low y.min
    → (key_le low' low ≡ true) × (key_le low' y.min ≡ true)
    × Contains (map (λ x. x.min) (xs ++ y ∷ [])) low'
low_of xs y low has low' is =
    let P : List ℕ → Type 0 = λ k. (key_le k low ≡ true) × (key_le k y.min ≡ true)
    × Contains (map (λ x. x.min) (xs ++ y ∷ [])) k in
    elim (cases_Bool (key_lt y.min low)) [
      | inl e ↦ subst P (sym (is ∙ cond-true (key_lt y.min low) y.min low e)) (
        lt_to_le y.min low e,
        le_refl y.min,
        subst (λ (ks : List (List ℕ)). Contains ks y.min)
            (sym (map-push (λ (x : Interval). x.min) xs y))
            (Contains-push (map (λ x. x.min) xs) y.min),
      )
      | inr e ↦ subst P (sym (is ∙ cond-false (key_lt y.min low) y.min low e)) (
        le_refl low,
        le_to low y.min e,
        subst (λ (ks : List (List ℕ)). Contains ks low)
            (sym (map-push (λ (x : Interval). x.min) xs y))
            (Contains-append_left (map (λ x. x.min) xs) (y.min ∷ []) low has),
      )
    ]

high_of : (xs : List Interval) (y : Interval) (high : List ℕ) → Contains (map (λ x. x.max) xs) high
    → (high' : List ℕ) → high' ≡ greater high y.max
    → (key_le high high' ≡ true) × (key_le y.max high' ≡ true)
    × Contains (map (λ x. x.max) (xs ++ y ∷ [])) high'
high_of xs y high has high' is =
    let P : List ℕ → Type 0 = λ k. (key_le high k ≡ true) × (key_le y.max k ≡ true)
    × Contains (map (λ x. x.max) (xs ++ y ∷ [])) k in
    elim (cases_Bool (key_lt high y.max)) [
      | inl e ↦ subst P (sym (is ∙ cond-true (key_lt high y.max) y.max high e)) (
        lt_to_le high y.max e,
        le_refl y.max,
        subst (λ (ks : List (List ℕ)). Contains ks y.max)
            (sym (map-push (λ (x : Interval). x.max) xs y))
            (Contains-push (map (λ x. x.max) xs) y.max),
      )
      | inr e ↦ subst P (sym (is ∙ cond-false (key_lt high y.max) y.max high e)) (
        le_refl high,
        le_to y.max high e,
        subst (λ (ks : List (List ℕ)). Contains ks high)
            (sym (map-push (λ (x : Interval). x.max) xs y))
            (Contains-append_left (map (λ x. x.max) xs) (y.max ∷ []) high has),
      )
    ]

hull_push : (xs : List Interval) (low high : List ℕ) (y : Interval) → IsHull xs (interval low high)
    → IsHull (xs ++ y ∷ []) (interval (lesser low y.min) (greater high y.max))
hull_push xs low high y h =
    let l = low_of xs y low h.has_min (lesser low y.min) refl in
    let u = high_of xs y high h.has_max (greater high y.max) refl in
    record {
      below = All-push (λ (x : Interval). key_le (lesser low y.min) x.min ≡ true) xs y
          (λ k d lt. le_trans (lesser low y.min) low _ l.0 (h.below k d lt)) l.1;
      above = All-push (λ (x : Interval). key_le x.max (greater high y.max) ≡ true) xs y
          (λ k d lt. le_trans _ high (greater high y.max) (h.above k d lt) u.0) u.1;
      has_min = l.2;
      has_max = u.2;
    }

hull_all : (xs ys : List Interval) (low high : List ℕ) → IsHull xs (interval low high)
    → IsHull (xs ++ ys) (span_from low high ys)
hull_all xs [] low high h = subst (λ (l : List Interval). IsHull l (interval low high))
    (sym (append-nil xs)) h
hull_all xs (y ∷ ys) low high h =
    subst (λ (l : List Interval). IsHull l (span_from (lesser low y.min) (greater high y.max) ys))
    (append_assoc xs (y ∷ []) ys)
    (hull_all (xs ++ y ∷ []) ys (lesser low y.min) (greater high y.max) (hull_push xs low high y h))

hull_one : (x : Interval) → IsHull (x ∷ []) (interval x.min x.max)
hull_one x =
    record {
      below = All-push (λ (y : Interval). key_le x.min y.min ≡ true) [] x
          (λ k d lt. absurd (omega arith)) (le_refl x.min);
      above = All-push (λ (y : Interval). key_le y.max x.max ≡ true) [] x
          (λ k d lt. absurd (omega arith)) (le_refl x.max);
      has_min = Contains-push [] x.min;
      has_max = Contains-push [] x.max;
    }

-- from the ends of the first
pub aggregate_of : (x : Interval) (xs : List Interval) (r : Interval) → r ≡ span_from x.min x.max xs
    → IsAggregate (x ∷ xs) r
aggregate_of x xs r is = subst (λ (q : Interval). IsHull (x ∷ xs) q) (sym is)
    (hull_all (x ∷ []) xs x.min x.max (hull_one x))

any-map : {X Y : Type 0} (p : Y → Bool) (f : X → Y) (xs : List X)
    → list_any p (map f xs) ≡ list_any (λ x. p (f x)) xs
any-map p f [] = refl
any-map p f (x ∷ xs) = ap (λ b. p (f x) || b) (any-map p f xs)

rest_of : (xs : List (Bor Interval)) (i : ℕ) (x : Bor Interval) (later : List (Bor Interval))
    → i < length xs → x ≡ get_or xs i x → later ≡ drop (i + 1) xs
    → are_disjoint (intervals (drop i xs))
    ≡ (not (list_any (λ y. overlaps x.now y.now) later) && are_disjoint (intervals later))
rest_of xs i x later lt is rest =
    at_drop_more (λ rs. are_disjoint (intervals rs)) xs i x lt
    ∙ subst (λ (y : Bor Interval). are_disjoint (intervals (y ∷ drop (i + 1) xs))
    ≡ (not (list_any (λ z. overlaps x.now z.now) later) && are_disjoint (intervals later))) is
    (subst (λ (ys : List (Bor Interval)). are_disjoint (intervals (x ∷ ys))
    ≡ (not (list_any (λ z. overlaps x.now z.now) later) && are_disjoint (intervals later))) rest
    (ap (λ b. not b && are_disjoint (intervals later))
    (any-map (overlaps x.now) (λ (r : Bor Interval). r.now) later)))

-- an interval that overlaps no later one may be left out
pub disjoint_rest : (xs : List (Bor Interval)) (i : ℕ) (x : Bor Interval)
    (later : List (Bor Interval)) (r : Bool) → i < length xs → x ≡ get_or xs i x
    → later ≡ drop (i + 1) xs → r ≡ list_any (λ y. overlaps x.now y.now) later → r ≡ false
    → are_disjoint (intervals (drop i xs)) ≡ are_disjoint (intervals (drop (i + 1) xs))
disjoint_rest xs i x later r lt is rest says h =
    rest_of xs i x later lt is rest
    ∙ ap (λ b. not b && are_disjoint (intervals later)) (sym says ∙ h)
    ∙ ap (λ ys. are_disjoint (intervals ys)) rest

pub disjoint_stops : (xs : List (Bor Interval)) (i : ℕ) (x : Bor Interval)
    (later : List (Bor Interval)) (r : Bool) → i < length xs → x ≡ get_or xs i x
    → later ≡ drop (i + 1) xs → r ≡ list_any (λ y. overlaps x.now y.now) later → r ≡ true
    → are_disjoint (intervals (drop i xs)) ≡ false
disjoint_stops xs i x later r lt is rest says h =
    rest_of xs i x later lt is rest ∙ ap (λ b. not b && are_disjoint (intervals later))
    (sym says ∙ h)

-- after the last range, the ends are those of the span of all
pub aggregate_at_end : (ranges : List (Bor Interval)) (first : Bor Interval)
    (others : List (Bor Interval)) (low₀ high₀ low high : List ℕ) (i : ℕ) (min max : List ℕ)
    → ranges ≡ first ∷ others → low₀ ≡ first.now.min → high₀ ≡ first.now.max
    → span_from low₀ high₀ (intervals others) ≡ span_from low high (intervals (drop i others))
    → length others ≤ i → min ≡ low → max ≡ high → IsAggregate (intervals ranges) (interval min max)
aggregate_at_end ranges first others low₀ high₀ low high i min max split is_low is_high along past
    min_is max_is =
    subst (λ (rs : List (Bor Interval)). IsAggregate (intervals rs) (interval min max)) (sym split)
    (aggregate_of first.now (intervals others) (interval min max)
    (ap (λ k. interval k max) min_is ∙ ap (λ k. interval low k) max_is
    ∙ sym (ap (λ rs. span_from low high (intervals rs)) (drop_of_length-le others past))
    ∙ sym along
    ∙ ap (λ k. span_from k high₀ (intervals others)) is_low
    ∙ ap (λ k. span_from first.now.min k (intervals others)) is_high))
