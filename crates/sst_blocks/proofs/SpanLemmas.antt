-- Spans: one step at either end, and what a span deals.
use Rattle.std.proofs.Common.{◌≡◌, refl, sym, ◌∙◌, ap, ℕ, suc, ◌+◌, ◌-◌, ◌<◌, ◌≤◌, Bool, true}
use Rattle.std.proofs.Common.{false, List, [], ◌∷◌, ◌++◌, length, take, drop, get_or, reverse}
use Rattle.std.proofs.Common.{arith, inl, inr}
use Rattle.std.specs.Prelude.{Option, Some, None, Result, Ok, Err, find, not, cond, IsTrue, ◌↔◌}
use Rattle.std.specs.Prelude.{nat_lt}
use Rattle.std.specs.List.{slice_get, AllByRecursion}
use Rattle.std.proofs.lemmas.List.{reverse-append, reverse-reverse, map-append, take_more}
use Rattle.std.proofs.lemmas.List.{drop_more, get_or-drop, length-drop, length-take}
use Rattle.std.proofs.lemmas.Option.{slice_get_within, get_or_from_slice_get}
use Rattle.std.proofs.lemmas.Bool.{cases_lt, ltb-true, lt-ltb}
use Rattle.sst_entries.specs.declared.error.Error.{Error}
use Rattle.sst_entries.specs.declared.error.Error.TheVariants.{OutOfMemory}
use Rattle.sst_entries.specs.declared.stream.Direction.{Direction}
use Rattle.sst_entries.specs.declared.stream.Direction.TheVariants.{Front, Back}
use Rattle.sst_entries.specs.Span.{Span, rest_in, front_length, SpanHas, SpanGives}
use Rattle.sst_entries.specs.Stream.{first, but_first, last, but_last, front_of, back_of}
use Rattle.sst_entries.specs.Stream.{ok_results, answer_stops, Runs, YieldsExactly, CanYield, EndAtError}
use Rattle.sst_entries.specs.Stream.{EndsAtError}
use Rattle.sst_blocks.specs.Seeking.{YieldsLeft}
use Rattle.sst_entries.proofs.StreamLemmas.{yields_by, can_by}

-- ---- fronts that pass a test

module _ {X : Type 0} (p : X → Bool) where
  cond_le : (b : Bool) (m n : ℕ) → m ≤ n → cond b (1 + m) 0 ≤ suc n
  cond_le true m n le = omega (arith, le)
  cond_le false m n le = omega arith

  pub front_length-le : (xs : List X) → front_length p xs ≤ length xs
  front_length-le [] = omega arith
  front_length-le (x ∷ xs) = cond_le (p x) (front_length p xs) (length xs) (front_length-le xs)

  step_get : (b : Bool) (x : X) (xs : List X) (n : ℕ) (rest : Option X) → rest ≡ slice_get xs n
      → cond b (Some x) rest ≡ slice_get (x ∷ xs) (cond (not b) (1 + n) 0)
  step_get true x xs n rest e = refl
  step_get false x xs n rest e =
      let k : 1 + n ≡ suc n = omega arith in
      e ∙ sym (ap (slice_get (x ∷ xs)) k)

  -- the first that passes stands behind the front that fails
  pub find_at_front : (xs : List X) → find p xs ≡ slice_get xs (front_length (λ x. not (p x)) xs)
  find_at_front [] = refl
  find_at_front (x ∷ xs) = step_get (p x) x xs (front_length (λ y. not (p y)) xs) (find p xs)
      (find_at_front xs)

-- ---- what is left

no_error : (stops : Error → Bool) (e : Error) → stops OutOfMemory ≡ true → e ≡ OutOfMemory
    → stops e ≡ false → ⊥
no_error stops e memory err fine = let wrong : true ≡ false = sym memory ∙ sym (ap stops err)
    ∙ fine in absurd cc

module _ {X : Type 0} where
  pub left_empty : (s : Span X) → s.to ≤ s.from → rest_in s ≡ []
  left_empty s le = let e : s.to - s.from ≡ 0 = omega (arith, le) in
      ap (λ (n : ℕ). take n (drop s.from s.list)) e

  -- something is left exactly where the places have not met
  pub left_any : (s : Span X) → s.to ≤ length s.list
      → IsTrue (nat_lt s.from s.to) ↔ (rest_in s ≡ [] → ⊥)
  left_any s le =
      let len : length (rest_in s) ≡ s.to - s.from =
      omega (
        arith,
        le,
        length-take (s.to - s.from)
            (drop s.from s.list),
        length-drop s.from s.list,
      ) in (
        λ yes. λ none. let zero : length (rest_in s) ≡ 0 = ap length none in
            omega (arith, len, zero, ltb-true s.from s.to yes),
        λ some. decide some,
      )
    where
      decide : (rest_in s ≡ [] → ⊥) → IsTrue (nat_lt s.from s.to)
      decide some = elim (cases_lt s.from s.to) [
        | inl lt ↦ lt-ltb s.from s.to lt
        | inr ge ↦ absurd (some (left_empty s ge))
      ]

  pub left_front : (s : Span X) (x : X) → s.from < s.to → slice_get s.list s.from ≡ Some x
      → rest_in s ≡ x ∷ rest_in (record s { from = s.from + 1 })
  left_front s x lt here =
      let within : s.from < length s.list = slice_get_within s.list s.from x here in
      let e : s.to - s.from ≡ suc (s.to - (s.from + 1)) = omega (arith, lt) in
      ap (λ (n : ℕ). take n (drop s.from s.list)) e
      ∙ ap (take (suc (s.to - (s.from + 1)))) (drop_more s.list s.from x within)
      ∙ ap (λ (y : X). y ∷ take (s.to - (s.from + 1)) (drop (s.from + 1) s.list))
      (get_or_from_slice_get s.list s.from x x here)

  pub left_back : (s : Span X) (x : X) → s.from < s.to → slice_get s.list (s.to - 1) ≡ Some x
      → rest_in s ≡ rest_in (record s { to = s.to - 1 }) ++ x ∷ []
  left_back s x lt here =
      let within : s.to - 1 < length s.list = slice_get_within s.list (s.to - 1) x here in
      let n = s.to - 1 - s.from in
      let e : s.to - s.from ≡ n + 1 = omega (arith, lt) in
      let f : s.from + n ≡ s.to - 1 = omega (arith, lt) in
      let room : n < length (drop s.from s.list) = omega (arith, length-drop s.from s.list) in
      let y : get_or (drop s.from s.list) n x ≡ x = get_or-drop s.from s.list n x
      ∙ ap (λ (k : ℕ). get_or s.list k x) f ∙ get_or_from_slice_get s.list
      (s.to - 1) x x here in
      ap (λ (k : ℕ). take k (drop s.from s.list)) e
      ∙ take_more (drop s.from s.list) n x room
      ∙ ap (λ (z : X). take n (drop s.from s.list) ++ z ∷ []) y

  pub left_some : (s : Span X) → s.from < s.to → s.to ≤ length s.list → rest_in s ≡ [] → ⊥
  left_some s lt within none = omega (
    arith,
    lt,
    within,
    ap length none,
    length-take (s.to - s.from)
        (drop s.from s.list),
    length-drop s.from s.list,
  )

  -- the first item of what is left
  pub gives_front : (s : Span X) (x : X) → s.from < s.to → slice_get s.list s.from ≡ Some x
      → SpanGives front_of s (Some (Ok x)) (record s { from = s.from + 1 })
  gives_front s x lt here =
      let whole = left_front s x lt here in
      record { answer = (ap first whole, sym (ap but_first whole)); list = refl }

  -- the last item
  pub gives_back : (s : Span X) (x : X) → s.from < s.to → slice_get s.list (s.to - 1) ≡ Some x
      → SpanGives back_of s (Some (Ok x)) (record s { to = s.to - 1 })
  gives_back s x lt here =
      let t : Span X = record s { to = s.to - 1 } in
      let turned : reverse (rest_in s) ≡ x ∷ reverse (rest_in t) =
      ap reverse (left_back s x lt here) ∙ reverse-append (rest_in t) (x ∷ []) in
      record {
        answer = (
          ap first turned,
          sym (ap (λ (ys : List X). reverse (but_first ys)) turned
              ∙ reverse-reverse (rest_in t)),
        );
        list = refl;
      }

  -- want of memory, after which nothing is left
  pub gives_refusal : (end : List X → Option X × List X) (s t : Span X) (e : Error) → s.from < s.to
      → s.to ≤ length s.list → e ≡ OutOfMemory → t.list ≡ s.list → t.to ≤ t.from
      → SpanGives end s (Some (Err e)) t
  gives_refusal end s t e lt within memory list none =
      record { answer = (memory, left_some s lt within, left_empty t none); list = list }

  -- nothing is left
  pub gives_none : (end : List X → Option X × List X) (s : Span X) → s.to ≤ s.from
      → SpanGives end s None s
  gives_none end s le = let none = left_empty s le in record { answer = (none, none); list = refl }

  -- ---- what a span deals

  first_is : (ys ts : List X) (x : X) → first ys ≡ Some x → ts ≡ but_first ys
      → (Some (Ok x) ≡ first (ok_results ys)) × (but_first (ok_results ys) ≡ ok_results ts)
  first_is [] ts x h e = absurd cc
  first_is (y ∷ ys) ts x h e = (
    let same : y ≡ x = cc in
        ap (λ (z : X). Some (Ok z)) (sym same),
    sym (ap ok_results e),
  )

  turned_ok : (ys : List X) → reverse (ok_results ys) ≡ ok_results (reverse ys)
  turned_ok [] = refl
  turned_ok (y ∷ ys) =
      reverse-append (Ok y ∷ []) (ok_results ys)
      ∙ ap (λ (zs : List (Result X Error)). zs ++ Ok y ∷ []) (turned_ok ys)
      ∙ sym (map-append (λ (z : X). Ok z) (reverse ys) (y ∷ []))
      ∙ sym (ap ok_results (reverse-append (y ∷ []) ys))

  last_is : (ys ts : List X) (x : X) → last ys ≡ Some x → ts ≡ but_last ys
      → (Some (Ok x) ≡ last (ok_results ys)) × (but_last (ok_results ys) ≡ ok_results ts)
  last_is ys ts x h e =
      let one = first_is (reverse ys) (but_first (reverse ys)) x h refl in (
        one.0 ∙ sym (ap first (turned_ok ys)),
        ap (λ (zs : List (Result X Error)). reverse (but_first zs)) (turned_ok ys)
            ∙ ap reverse one.1 ∙ turned_ok (but_first (reverse ys)) ∙ sym (ap ok_results e),
      )

  front_step : (stops : Error → Bool) (s : Span X) (xs : List (Result X Error))
      (r : Option (Result X Error)) (t : Span X) → SpanHas stops s xs → SpanGives front_of s r t
      → answer_stops stops r ≡ false → (r ≡ first xs) × SpanHas stops t (but_first xs)
  front_step stops s xs None t has step fine =
      let none : xs ≡ [] = has.1 ∙ ap ok_results step.answer.0 in
      (sym (ap first none), (has.0, ap but_first none ∙ sym (ap ok_results step.answer.1)))
  front_step stops s xs (Some (Ok x)) t has step fine =
      let one = first_is (rest_in s) (rest_in t) x step.answer.0 step.answer.1 in
      (one.0 ∙ sym (ap first has.1), (has.0, ap but_first has.1 ∙ one.1))
  front_step stops s xs (Some (Err e)) t has step fine =
      absurd (no_error stops e has.0 step.answer.0 fine)

  back_step : (stops : Error → Bool) (s : Span X) (xs : List (Result X Error))
      (r : Option (Result X Error)) (t : Span X) → SpanHas stops s xs → SpanGives back_of s r t
      → answer_stops stops r ≡ false → (r ≡ last xs) × SpanHas stops t (but_last xs)
  back_step stops s xs None t has step fine =
      let none : xs ≡ [] = has.1 ∙ ap ok_results step.answer.0 in
      (sym (ap last none), (has.0, ap but_last none ∙ sym (ap ok_results step.answer.1)))
  back_step stops s xs (Some (Ok x)) t has step fine =
      let one = last_is (rest_in s) (rest_in t) x step.answer.0 step.answer.1 in
      (one.0 ∙ sym (ap last has.1), (has.0, ap but_last has.1 ∙ one.1))
  back_step stops s xs (Some (Err e)) t has step fine =
      absurd (no_error stops e has.0 step.answer.0 fine)

  -- want of memory aside, a span deals what is left
  pub span_yields : (stops : Error → Bool) (s : Span X) → stops OutOfMemory ≡ true
      → YieldsExactly (answer_stops stops) (SpanGives front_of) (SpanGives back_of) s
      (ok_results (rest_in s))
  span_yields stops s memory = yields_by (answer_stops stops) (SpanGives front_of) (SpanGives back_of)
      (SpanHas stops) (front_step stops) (back_step stops) s (ok_results (rest_in s)) (memory, refl)

  -- it may be asked at either end, however often
  pub span_can : (s : Span X) → CanYield (SpanGives front_of) (SpanGives back_of) (λ _. Unit {0})
      (λ _. Unit {0}) s
  span_can s = can_by (SpanGives front_of) (SpanGives back_of) (λ _. Unit {0}) (λ _. Unit {0})
      (λ _. Unit {0}) (λ s may. (tt, tt)) (λ s r t may step. tt) (λ s r t may step. tt) s tt

  -- ---- nothing comes after a refusal

  -- an end of a list deals nothing of an empty one
  abbrev YieldsNone : (List X → Option X × List X) → Type 0
  YieldsNone end = (end []).0 ≡ None

  none_step : (end : List X → Option X × List X) (s : Span X) (r : Option (Result X Error))
      (t : Span X) → YieldsNone end → rest_in s ≡ [] → SpanGives end s r t
      → (r ≡ None) × (rest_in t ≡ [])
  none_step end s None t yields none step = (refl, step.answer.1)
  none_step end s (Some (Ok x)) t yields none step =
      let wrong : Some x ≡ None = sym step.answer.0 ∙ ap (λ (ys : List X). (end ys).0) none
      ∙ yields in absurd cc
  none_step end s (Some (Err e)) t yields none step = absurd (step.answer.1 none)

  none_along : (ends : List Direction) (rs : List (Option (Result X Error))) (s t : Span X)
      → rest_in s ≡ [] → Runs (SpanGives front_of) (SpanGives back_of) s ends rs t
      → AllByRecursion (λ r. r ≡ None) rs
  none_along [] [] s t none runs = tt
  none_along [] (r ∷ rs) s t none runs = absurd runs
  none_along (e ∷ ends) [] s t none runs = absurd runs
  none_along (Front ∷ ends) (r ∷ rs) s t none runs =
      let one = none_step front_of s r runs.0 refl none runs.1 in
      (one.0, none_along ends rs runs.0 t one.1 runs.2)
  none_along (Back ∷ ends) (r ∷ rs) s t none runs =
      let one = none_step back_of s r runs.0 refl none runs.1 in
      (one.0, none_along ends rs runs.0 t one.1 runs.2)

  end_along : (ends : List Direction) (rs : List (Option (Result X Error))) (s t : Span X)
      → Runs (SpanGives front_of) (SpanGives back_of) s ends rs t → EndAtError rs
  end_along [] [] s t runs = tt
  end_along [] (r ∷ rs) s t runs = absurd runs
  end_along (e ∷ ends) [] s t runs = absurd runs
  end_along (e ∷ ends) (None ∷ rs) s t runs = end_along ends rs runs.0 t runs.2
  end_along (e ∷ ends) (Some (Ok x) ∷ rs) s t runs = end_along ends rs runs.0 t runs.2
  end_along (Front ∷ ends) (Some (Err e) ∷ rs) s t runs =
      none_along ends rs runs.0 t runs.1.answer.2 runs.2
  end_along (Back ∷ ends) (Some (Err e) ∷ rs) s t runs =
      none_along ends rs runs.0 t runs.1.answer.2 runs.2

  -- a span ends for good at its first refusal
  pub span_ends : (s : Span X) → EndsAtError (SpanGives front_of) (SpanGives back_of) s
  span_ends s = record { answers = λ ends rs t runs. end_along ends rs s t runs }

  pub span_left : (s : Span X) → YieldsLeft (SpanGives front_of) (SpanGives back_of) s
  span_left s = record { yields = λ stops memory. span_yields stops s memory; ends = span_ends s }
