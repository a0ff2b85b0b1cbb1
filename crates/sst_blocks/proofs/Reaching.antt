-- Where the handles that reach a key begin, and the windows that seeks leave.
use Rattle.std.proofs.Common.{◌≡◌, refl, sym, ◌∙◌, ap, subst, ℕ, zero, suc, ◌+◌, ◌-◌, ◌<◌, ◌≤◌}
use Rattle.std.proofs.Common.{Bool, true, false, cond, List, [], ◌∷◌, length, take, drop, get_or}
use Rattle.std.proofs.Common.{map, arith, inl, inr}
use Rattle.std.specs.Prelude.{Some, None, min, max, not, nat_lt, ◌&&◌, ◌||◌, ◌==◌}
use Rattle.std.specs.List.Sorted.{IsPartitionedBy}
use Rattle.std.specs.declared.cmp.Ordering.{Ordering}
use Rattle.std.specs.declared.cmp.Ordering.TheVariants.{Less, Equal, Greater}
use Rattle.std.specs.Ordering.{nat_cmp, is_lt, is_eq, ordering_then, ordering_reverse}
use Rattle.std.specs.Cmp.Lexicographic.{slice_cmp, nat_list_cmp_total, texts_ties}
use Rattle.std.proofs.lemmas.Bool.{cases_lt, le-ltb, ltb-false, ltb-true}
use Rattle.std.proofs.lemmas.List.{drop-take, drop_all, length-take, length-drop, take_all}
use Rattle.std.proofs.lemmas.List.{length-map, get_or-map}
use Rattle.sst_entries.specs.declared.value_type.ValueType.TheVariants.{Value}
use Rattle.sst_entries.specs.Entry.{Entry, entry}
use Rattle.sst_blocks.specs.Handle.{Handle}
use Rattle.sst_blocks.specs.Handles.{reaches, is_above, end_of, AreStrictHandles, from_first}
use Rattle.sst_blocks.specs.Handles.{up_to_first, window}
use Rattle.sst_entries.specs.Key.{same_key, key_lt}
use Rattle.sst_entries.specs.Point.{read_place}
use Rattle.sst_entries.specs.Span.{Span, rest_in, front_length}
use Rattle.sst_entries.specs.Strict.{is_before}
use Rattle.sst_blocks.proofs.SpanLemmas.{left_empty}
use Rattle.sst_entries.proofs.Booleans.{apart, is_false, not_is, or_no}
use Rattle.sst_entries.proofs.OrderLemmas.{lt_of_cond, before_trans, strict_at}

-- ---- to reach a key is to end after it

by_order : (o : Ordering) (n bound : ℕ) → (is_lt o
    || (is_eq (ordering_reverse o) && nat_lt n bound)) ≡ is_lt (ordering_then o (nat_cmp n bound))
by_order Less n bound = refl
by_order Equal n bound = sym (lt_of_cond (nat_lt n bound) (n == bound))
by_order Greater n bound = refl

pub reaches_after : (key : List ℕ) (bound : ℕ) (h : Handle)
    → reaches key bound h ≡ is_before (entry key [] bound Value) (end_of h)
reaches_after key bound h =
    let tie : same_key h.end_key key ≡ is_eq (ordering_reverse (slice_cmp nat_cmp key h.end_key)) =
    texts_ties h.end_key key ∙ ap is_eq (nat_list_cmp_total.antisymm h.end_key key) in
    ap (λ (b : Bool). key_lt key h.end_key || (b && nat_lt h.seqno bound)) tie
    ∙ by_order (slice_cmp nat_cmp key h.end_key) h.seqno bound

pub reach_before : (key : List ℕ) (bound : ℕ)
    → reaches key bound ≡ (λ h. is_before (read_place key bound) (end_of h))
reach_before key bound = λ i h. reaches_after key bound h i

and_false : (b : Bool) → (b && false) ≡ false
and_false true = refl
and_false false = refl

-- nothing is numbered below 0
pub above_reaches : (key : List ℕ) (h : Handle) → is_above key h ≡ reaches key 0 h
above_reaches key h =
    let none : nat_lt h.seqno 0 ≡ false = le-ltb h.seqno 0 (omega arith) in
    sym (ap (λ (b : Bool). key_lt key h.end_key || (same_key h.end_key key && b)) none
    ∙ ap (λ (b : Bool). key_lt key h.end_key || b) (and_false (same_key h.end_key key))
    ∙ or_no (key_lt key h.end_key))

-- ---- what comes before the first that reaches does not, and what comes after it does

pub later_reaches : (hs : List Handle) (key : List ℕ) (bound i j : ℕ) (d : Handle)
    → AreStrictHandles hs → i < j → j < length hs → reaches key bound (get_or hs i d) ≡ true
    → reaches key bound (get_or hs j d) ≡ true
later_reaches hs key bound i j d strict lt within hit =
    let es = map end_of hs in
    let b = entry key [] bound Value in
    let many : j < length es = omega (arith, within, length-map hs end_of) in
    let step = strict_at None es i j (end_of d) strict lt many in
    let gi : get_or es i (end_of d) ≡ end_of (get_or hs i d) =
    get_or-map end_of hs i d (end_of d) (omega (arith, lt, within)) in
    let gj : get_or es j (end_of d) ≡ end_of (get_or hs j d) =
    get_or-map end_of hs j d (end_of d) within in
    let step2 : is_before (end_of (get_or hs i d)) (end_of (get_or hs j d)) ≡ true =
    subst (λ (e : Entry). is_before (end_of (get_or hs i d)) e ≡ true) gj
    (subst (λ (e : Entry). is_before e (get_or es j (end_of d)) ≡ true) gi step) in
    reaches_after key bound (get_or hs j d) ∙ before_trans b (end_of (get_or hs i d))
    (end_of (get_or hs j d)) (sym (reaches_after key bound (get_or hs i d)) ∙ hit) step2

-- below a handle that does not reach stands none that does
below_place : (hs : List Handle) (key : List ℕ) (bound n : ℕ) (d : Handle) → AreStrictHandles hs
    → n < length hs → reaches key bound (get_or hs n d) ≡ false → (i : ℕ) → i < n + 1
    → reaches key bound (get_or hs i d) ≡ false
below_place hs key bound n d strict within early i le =
    elim (cases_lt i n) [
      | inl below ↦ is_false (reaches key bound (get_or hs i d))
          (λ hit. apart (reaches key bound (get_or hs n d))
          (later_reaches hs key bound i n d strict below within hit) early)
      | inr above ↦ let e : n ≡ i = omega arith in
          subst (λ (k : ℕ). reaches key bound (get_or hs k d) ≡ false) e early
    ]

-- so what does not reach has nothing before it that does
pub reach_parted : (hs : List Handle) (key : List ℕ) (bound : ℕ) → AreStrictHandles hs
    → IsPartitionedBy (λ h. not (reaches key bound h)) hs
reach_parted hs key bound strict i j d le lt early =
    ap not (below_place hs key bound j d strict lt
    (not_is (reaches key bound (get_or hs j d)) early) i (omega (arith, le)))

same_front : (p q : Handle → Bool) → ((h : Handle) → p h ≡ q h) → (hs : List Handle)
    → front_length p hs ≡ front_length q hs
same_front p q same [] = refl
same_front p q same (h ∷ hs) = ap (λ (b : Bool). cond b (1 + front_length p hs) 0) (same h)
    ∙ ap (λ (n : ℕ). cond (q h) (1 + n) 0) (same_front p q same hs)

-- above a key is where a number 0 of it would be reached
pub above_place : (hs : List Handle) (key : List ℕ)
    → front_length (λ h. not (reaches key 0 h)) hs ≡ front_length (λ h. not (is_above key h)) hs
above_place hs key = same_front (λ (h : Handle). not (reaches key 0 h))
    (λ (h : Handle). not (is_above key h)) (λ h. ap not (sym (above_reaches key h))) hs

-- ---- windows

front_step : (b : Bool) (m n f : ℕ) → m ≡ min n f
    → cond b (1 + m) 0 ≡ min (suc n) (cond b (1 + f) 0)
front_step true m n f e = omega (arith, e)
front_step false m n f e = omega arith

module _ {X : Type 0} where
  from_step : (b : Bool) (x : X) (xs : List X) (n : ℕ) (rest : List X) → rest ≡ drop n xs
      → cond b (x ∷ xs) rest ≡ drop (cond (not b) (1 + n) 0) (x ∷ xs)
  from_step true x xs n rest e = refl
  from_step false x xs n rest e = let k : 1 + n ≡ suc n = omega arith in e
      ∙ sym (ap (λ (m : ℕ). drop m (x ∷ xs)) k)

  pub from_first_drop : (p : X → Bool) (xs : List X)
      → from_first p xs ≡ drop (front_length (λ x. not (p x)) xs) xs
  from_first_drop p [] = refl
  from_first_drop p (x ∷ xs) = from_step (p x) x xs (front_length (λ y. not (p y)) xs)
      (from_first p xs) (from_first_drop p xs)

  to_step : (b : Bool) (x : X) (xs : List X) (n : ℕ) (rest : List X) → rest ≡ take (1 + n) xs
      → cond b (x ∷ []) (x ∷ rest) ≡ take (1 + cond (not b) (1 + n) 0) (x ∷ xs)
  to_step true x xs n rest e = refl
  to_step false x xs n rest e = let k : 1 + (1 + n) ≡ suc (1 + n) = omega arith in
      ap (λ (ys : List X). x ∷ ys) e ∙ sym (ap (λ (m : ℕ). take m (x ∷ xs)) k)

  pub up_to_first_take : (p : X → Bool) (xs : List X)
      → up_to_first p xs ≡ take (1 + front_length (λ x. not (p x)) xs) xs
  up_to_first_take p [] = refl
  up_to_first_take p (x ∷ xs) = to_step (p x) x xs (front_length (λ y. not (p y)) xs)
      (up_to_first p xs) (up_to_first_take p xs)

  pub front_length-take : (q : X → Bool) (n : ℕ) (xs : List X)
      → front_length q (take n xs) ≡ min n (front_length q xs)
  front_length-take q zero xs = omega arith
  front_length-take q (suc n) [] = omega arith
  front_length-take q (suc n) (x ∷ xs) = front_step (q x) (front_length q (take n xs)) n
      (front_length q xs) (front_length-take q n xs)

  pub cut : (n f : ℕ) (xs : List X) → drop (min n f) (take n xs) ≡ take (n - f) (drop f xs)
  cut n f xs =
      elim (cases_lt n f) [
        | inl short ↦
            let e : min n f ≡ n = omega (arith, short) in
            let k : n - f ≡ 0 = omega (arith, short) in
            ap (λ (m : ℕ). drop m (take n xs)) e ∙ drop_all n (take n xs)
            (omega (arith, length-take n xs)) ∙ sym (ap (λ (m : ℕ). take m (drop f xs)) k)
        | inr long ↦
            let e : min n f ≡ f = omega (arith, long) in
            let k : n ≡ f + (n - f) = omega (arith, long) in
            ap (λ (m : ℕ). drop m (take n xs)) e ∙ ap (λ (m : ℕ). drop f (take m xs)) k
            ∙ drop-take f (n - f) xs
      ]

  -- the end of the list bounds a cut
  within_list : (n f : ℕ) (xs : List X) → take (min (length xs) n - f) (drop f xs)
      ≡ take (n - f) (drop f xs)
  within_list n f xs =
      elim (cases_lt (length xs) n) [
        | inl past ↦
            let e : min (length xs) n - f ≡ length xs - f = omega (arith, past) in
            ap (λ (m : ℕ). take m (drop f xs)) e ∙ take_all (length xs - f) (drop f xs)
            (omega (arith, length-drop f xs)) ∙ sym
            (take_all (n - f) (drop f xs) (omega (arith, past, length-drop f xs)))
        | inr within ↦
            let e : min (length xs) n - f ≡ n - f = omega (arith, within) in
            ap (λ (m : ℕ). take m (drop f xs)) e
      ]

-- where the seeks put the places of a span
abbrev pub from_seek : List ℕ → ℕ → Span Handle → Span Handle
from_seek key bound s = record s {
  from = max s.from
      (front_length (λ h. not (reaches key bound h)) s.list);
}

abbrev pub to_seek : List ℕ → Span Handle → Span Handle
to_seek key s = record s { to = min s.to (1 + front_length (λ h. not (is_above key h)) s.list) }

-- the span of a whole list
abbrev pub whole : List Handle → Span Handle
whole hs = record { list = hs; from = 0; to = length hs }

pub left_whole : (hs : List Handle) → rest_in (whole hs) ≡ window hs None None
left_whole hs = take_all (length hs - 0) hs (omega arith)

pub left_from : (hs : List Handle) (key : List ℕ) (bound : ℕ)
    → rest_in (from_seek key bound (whole hs)) ≡ window hs (Some (key, bound)) None
left_from hs key bound =
    let f = front_length (λ (h : Handle). not (reaches key bound h)) hs in
    let e : max 0 f ≡ f = omega arith in
    ap (λ (m : ℕ). take (length hs - m) (drop m hs)) e
    ∙ take_all (length hs - f) (drop f hs) (omega (arith, length-drop f hs))
    ∙ sym (from_first_drop (reaches key bound) hs)

pub left_to : (hs : List Handle) (key : List ℕ)
    → rest_in (to_seek key (whole hs)) ≡ window hs None (Some key)
left_to hs key =
    let n = 1 + front_length (λ (h : Handle). not (is_above key h)) hs in
    within_list n 0 hs ∙ ap (λ (m : ℕ). take m hs) (sub_zero n)
    ∙ sym (up_to_first_take (is_above key) hs)
  where
    sub_zero : (n : ℕ) → n - 0 ≡ n
    sub_zero n = omega arith

pub left_both : (hs : List Handle) (key : List ℕ) (bound : ℕ) (end : List ℕ)
    → rest_in (to_seek end (from_seek key bound (whole hs)))
    ≡ window hs (Some (key, bound)) (Some end)
left_both hs key bound end =
    let R = λ (h : Handle). not (reaches key bound h) in
    let f = front_length R hs in
    let n = 1 + front_length (λ (h : Handle). not (is_above end h)) hs in
    let e : max 0 f ≡ f = omega arith in
    ap (λ (m : ℕ). take (min (length hs) n - m) (drop m hs)) e
    ∙ within_list n f hs
    ∙ sym (cut n f hs)
    ∙ ap (λ (m : ℕ). drop m (take n hs)) (sym (front_length-take R n hs))
    ∙ sym (from_first_drop (reaches key bound) (take n hs))
    ∙ ap (from_first (reaches key bound)) (sym (up_to_first_take (is_above end) hs))

-- ---- what a seek's answer says

module _ {X : Type 0} where
  pub nothing_left : (s : Span X) → nat_lt s.from s.to ≡ false → rest_in s ≡ []
  nothing_left s none = left_empty s (ltb-false s.from s.to none)

  pub something_left : (s : Span X) → s.to ≤ length s.list → nat_lt s.from s.to ≡ true
      → 0 < length (rest_in s)
  something_left s within some = omega (
    arith,
    ltb-true s.from s.to some,
    length-take
        (s.to - s.from) (drop s.from s.list),
    length-drop s.from s.list,
  )
