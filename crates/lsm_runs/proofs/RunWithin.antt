-- Of tables of lists in a run in order a reader deals what of all lists lies within the bounds.
use Rattle.std.proofs.Common.{◌≡◌, refl, sym, ap, subst, ◌∙◌, ℕ, zero, suc, ◌+◌, ◌-◌, Bool, true}
use Rattle.std.proofs.Common.{false, ◌==◌, List, [], ◌∷◌, ◌++◌, drop, take, IsTrue, inl, inr, arith}
use Rattle.std.specs.Prelude.{Option, Some, None, Ok, ◌&&◌, if◌then◌else◌}
use Rattle.std.specs.List.{AllByRecursion, list_all}
use Rattle.std.specs.declared.ops.Bound.{Bound}
use Rattle.std.specs.declared.ops.Bound.TheVariants.{Unbounded}
use Rattle.std.proofs.lemmas.Bool.{cases_Bool, eq-eqb}
use Rattle.std.proofs.lemmas.List.{map-append}
use Rattle.std.proofs.lemmas.List.Elements.{filter-append}
use Rattle.std.proofs.Math.Bool.{and-false}
use Rattle.sst_entries.specs.Entry.{Entry}
use Rattle.sst_entries.specs.Key.{key_lt}
use Rattle.sst_entries.specs.Point.{is_from, is_to, within}
use Rattle.sst_entries.specs.Stream.{ok_results}
use Rattle.sst_entries.proofs.Booleans.{and_both, and_parts, is_false, not_is, not_not, or_right}
use Rattle.sst_entries.proofs.Booleans.{or_left}
use Rattle.sst_blocks.specs.table.Chunks.{joined}
use Rattle.lsm_iters.specs.Lift.{lift}
use Rattle.lsm_sorted.specs.version.KeyRange.{Interval, has_key, key_le}
use Rattle.lsm_sorted.specs.version.Run.{are_in_order, ends_before, first_and_last, how_many}
use Rattle.lsm_sorted.specs.version.Run.{overlap_indexes, starts_within}
use Rattle.lsm_sorted.proofs.IntervalLemmas.{lt_to_le, lower_up, none_within, upper_down}
use Rattle.lsm_sorted.proofs.RunLemmas.{falls-ends_before, falls-starts_within, first_and_last-none}
use Rattle.lsm_sorted.proofs.RunLemmas.{first_and_last-some, none_count, parts}
use Rattle.lsm_readers.specs.OfList.{ends_of}
use Rattle.lsm_readers.specs.Ranges.{range_results}
use Rattle.lsm_readers.specs.point.Table.{OpenTable}
use Rattle.lsm_readers.proofs.Ends.{keys_within, nothing_within}
use Rattle.lsm_readers.proofs.StoredParts.{bears_out, stored_rows}
use Rattle.lsm_readers.proofs.Recovered.{range_is}
use Rattle.lsm_runs.specs.RunLists.{HoldLists, HoldsList}
use Rattle.lsm_run_parts.specs.RunParts.{Part, RunSpan, is_edge, span_part_at, part_read_results}
use Rattle.lsm_run_parts.specs.RunParts.{span_parts_from, range_of, ranges_of, span_of, span_parts}
use Rattle.lsm_run_parts.specs.Tables.{run_parts_results}
use Rattle.lsm_runs.proofs.RunSteps.{R}

-- ---- one table

abbrev pub Keys : Interval → List Entry → Type 0
Keys r es = AllByRecursion (λ (e : Entry). IsTrue (has_key r e.user_key)) es

lift_keys : (r : Interval) (es : List Entry) (g : ℕ) → Keys r es → Keys r (lift es g)
lift_keys r [] g h = tt
lift_keys r (e ∷ es) g h = (h.0, lift_keys r es g h.1)

pub held_keys : (t : OpenTable) (es : List Entry) → HoldsList t es → Keys (range_of t) es
held_keys t es h =
    let pins = h.opened.recovered in
    let ends : range_of t ≡ ends_of h.stored =
    range_is t pins ∙ (bears_out t.bytes h.stored h.table t.global_seqno pins.pin_filter
    pins.pin_index t.parts pins.returned).key_range in
    let stored : Keys (range_of t) h.stored = subst (λ (r : Interval). Keys r h.stored) (sym ends)
    (keys_within h.stored h.table.strict) in
    subst (λ (xs : List Entry). Keys (range_of t) xs) (sym h.lifted_is)
    (lift_keys (range_of t) h.stored t.global_seqno stored)

pub held_result : (t : OpenTable) (es : List Entry) → HoldsList t es → (low high : Bound (List ℕ))
    → range_results t low high ≡ ok_results (within low high es)
held_result t es h low high =
    let pins = h.opened.recovered in
    stored_rows t.bytes h.stored h.table t.global_seqno pins.pin_filter pins.pin_index t.parts
    pins.returned low high
    ∙ ap (λ (xs : List Entry). ok_results (within low high xs)) (sym h.lifted_is)

module _ (low high : Bound (List ℕ)) where
  -- it ends before the lower bound
  all_before : (t : OpenTable) (es : List Entry) → HoldsList t es
      → ends_before low (range_of t) ≡ true → within low high es ≡ []
  all_before t es h e =
      let r = range_of t in
      let out : (is_from low r.max && is_to high r.min) ≡ false =
      ap (λ (b : Bool). b && is_to high r.min) (not_is (is_from low r.max) e) in
      nothing_within es low high r (held_keys t es h)
      (none_within r low high (is_from low r.max && is_to high r.min) refl out)

  -- it starts past the upper one
  all_past : (t : OpenTable) (es : List Entry) → HoldsList t es
      → starts_within high (range_of t) ≡ false → within low high es ≡ []
  all_past t es h e =
      let r = range_of t in
      let out : (is_from low r.max && is_to high r.min) ≡ false =
      ap (λ (b : Bool). is_from low r.max && b) e ∙ and-false (is_from low r.max) in
      nothing_within es low high r (held_keys t es h)
      (none_within r low high (is_from low r.max && is_to high r.min) refl out)

  -- it lies within both
  all_inside : (r : Interval) (es : List Entry) → Keys r es → is_from low r.min ≡ true
      → is_to high r.max ≡ true → within low high es ≡ es
  all_inside r [] keys from to = refl
  all_inside r (e ∷ es) keys from to =
      let k = e.user_key in
      let p = and_parts (key_le r.min k) (key_le k r.max) keys.0 in
      let holds : (is_from low k && is_to high k) ≡ true =
      and_both (is_from low k) (is_to high k) (lower_up low r.min k from p.0)
      (upper_down high r.max k to p.1) in
      rw holds (ap (λ (xs : List Entry). e ∷ xs) (all_inside r es keys.1 from to))

  within_join : (xs ys : List Entry) → within low high (xs ++ ys) ≡ within low high xs
      ++ within low high ys
  within_join xs ys = filter-append (λ (e : Entry). is_from low e.user_key && is_to high e.user_key)
      xs ys

  ok_join : (xs ys : List Entry)
      → ok_results (within low high (xs ++ ys)) ≡ ok_results (within low high xs) ++ ok_results
      (within low high ys)
  ok_join xs ys = ap ok_results (within_join xs ys)
      ∙ map-append (λ (x : Entry). Ok x) (within low high xs) (within low high ys)

  skip : (es rest : List Entry) → within low high es ≡ []
      → within low high (es ++ rest) ≡ within low high rest
  skip es rest none = within_join es rest ∙ ap (λ (xs : List Entry). xs ++ within low high rest)
      none

inside_all : (r : Interval) (es : List Entry) → Keys r es → within Unbounded Unbounded es ≡ es
inside_all r es keys = all_inside Unbounded Unbounded r es keys refl refl

-- ---- a run

module _ (low high : Bound (List ℕ)) where
  -- behind a key that lies past the upper bound
  past_all : (k : List ℕ) (ts : List OpenTable) (ls : List (List Entry)) → HoldLists ts ls
      → is_to high k ≡ false
      → list_all (λ (later : Interval). key_lt k later.min) (ranges_of ts) ≡ true
      → within low high (joined ls) ≡ []
  past_all k [] [] h miss before = refl
  past_all k [] (es ∷ ls) h miss before = absurd h
  past_all k (t ∷ ts) [] h miss before = absurd h
  past_all k (t ∷ ts) (es ∷ ls) h miss before =
      let r = range_of t in
      let b = and_parts (key_lt k r.min) (list_all (λ (later : Interval). key_lt k later.min)
      (ranges_of ts)) before in
      let out : is_to high r.min ≡ false = is_false (is_to high r.min)
      (λ holds. let w : true ≡ false = sym (upper_down high r.min k holds
      (lt_to_le k r.min b.0)) ∙ miss in absurd cc) in
      skip low high es (joined ls) (all_past low high t es h.0 out) ∙ past_all k ts ls h.1 miss b.1

  -- from a table on that starts past the upper bound
  past_from : (t : OpenTable) (ts : List OpenTable) (es : List Entry) (ls : List (List Entry))
      → HoldLists (t ∷ ts) (es ∷ ls) → are_in_order (ranges_of (t ∷ ts)) ≡ true
      → starts_within high (range_of t) ≡ false → within low high (joined (es ∷ ls)) ≡ []
  past_from t ts es ls h order e =
      let r = range_of t in
      let p = parts r (ranges_of ts) order in
      let miss : is_to high r.max ≡ false = is_false (is_to high r.max)
      (λ holds. let w : true ≡ false = sym (upper_down high r.max r.min holds p.formed) ∙ e in
      absurd cc) in
      skip low high es (joined ls) (all_past low high t es h.0 e)
      ∙ past_all r.max ts ls h.1 miss p.before

-- the first of some tables starts within the upper bound, where one does
starts_first : (high : Bound (List ℕ)) (m : ℕ) (ts : List OpenTable)
    → are_in_order (ranges_of ts) ≡ true → suc m ≡ how_many (starts_within high) (ranges_of ts)
    → (t : OpenTable) × (us : List OpenTable) × (ts ≡ t ∷ us)
    × (starts_within high (range_of t) ≡ true)
starts_first high m [] order many = absurd (omega (arith, many))
starts_first high m (t ∷ us) order many = elim (cases_Bool (starts_within high (range_of t))) [
  | inl e ↦ (t, us, refl, e)
  | inr e ↦
      let none : how_many (starts_within high) (ranges_of (t ∷ us)) ≡ 0 =
      rw e (none_count range_of (starts_within high) (falls-starts_within high) t us order e) in
      absurd (omega (arith, many, none))
]

module _ (span : RunSpan) where
  abbrev low : Bound (List ℕ)
  low = span.low

  abbrev high : Bound (List ℕ)
  high = span.high

  abbrev of_edge : OpenTable → Bool → Part
  of_edge t b = if b then record { table = t; low = span.low; high = span.high }
      else record { table = t; low = Unbounded; high = Unbounded }

  -- a table is read as what of its list lies within the bounds
  at_edge : (k : ℕ) (t : OpenTable) (es : List Entry) → HoldsList t es → is_edge span k ≡ true
      → part_read_results (span_part_at span k t) ≡ ok_results (within low high es)
  at_edge k t es h e = ap (λ (b : Bool). part_read_results (of_edge t b)) e ∙ held_result t es h low high

  in_between : (k : ℕ) (t : OpenTable) (es : List Entry) → HoldsList t es → is_edge span k ≡ false
      → is_from low (range_of t).min ≡ true → is_to high (range_of t).max ≡ true
      → part_read_results (span_part_at span k t) ≡ ok_results (within low high es)
  in_between k t es h e from to =
      ap (λ (b : Bool). part_read_results (of_edge t b)) e
      ∙ held_result t es h Unbounded Unbounded
      ∙ ap ok_results (inside_all (range_of t) es (held_keys t es h)
      ∙ sym (all_inside low high (range_of t) es (held_keys t es h) from to))

  -- behind a table that reaches the lower bound
  mids : (k m : ℕ) (prev : List ℕ) (ts : List OpenTable) (ls : List (List Entry)) → HoldLists ts ls
      → are_in_order (ranges_of ts) ≡ true → list_all (λ (later : Interval). key_lt prev later.min)
      (ranges_of ts) ≡ true → is_from low prev ≡ true
      → m ≡ how_many (starts_within high) (ranges_of ts) → suc span.last ≡ k + m
      → run_parts_results (take m (span_parts_from span k ts))
      ≡ ok_results (within low high (joined ls))
  mids k m prev [] [] h order before from many last =
      ap (λ (n : ℕ). run_parts_results (take n [])) many
  mids k m prev [] (es ∷ ls) h order before from many last = absurd h
  mids k m prev (t ∷ ts) [] h order before from many last = absurd h
  mids k m prev (t ∷ ts) (es ∷ ls) h order before from many last =
      let r = range_of t in
      let p = parts r (ranges_of ts) order in
      let b = and_parts (key_lt prev r.min) (list_all (λ (later : Interval). key_lt prev later.min)
      (ranges_of ts)) before in
      let reaches : is_from low r.min ≡ true = lower_up low prev r.min from
      (lt_to_le prev r.min b.0) in
      elim (cases_Bool (starts_within high r)) [
        | inl e ↦
            let n = how_many (starts_within high) (ranges_of ts) in
            let all : m ≡ suc n = many ∙ rw e refl in
            let rest = mids (suc k) n r.max ts ls h.1 p.rest p.before
            (lower_up low r.min r.max reaches p.formed) refl (omega (arith, last, all)) in
            ap (λ (i : ℕ). run_parts_results (take i (span_parts_from span k (t ∷ ts)))) all
            ∙ ap (λ (rs : List R). part_read_results (span_part_at span k t) ++ rs) rest
            ∙ ap (λ (rs : List R). rs ++ ok_results (within low high (joined ls)))
            (head k n t es ts h.0 order reaches refl (omega (arith, last, all)))
            ∙ sym (ok_join low high es (joined ls))
        | inr e ↦
            let none : how_many (starts_within high) (ranges_of (t ∷ ts)) ≡ 0 =
            rw e (none_count range_of (starts_within high)
            (falls-starts_within high) t ts order e) in
            ap (λ (i : ℕ). run_parts_results (take i (span_parts_from span k (t ∷ ts)))) (many ∙ none)
            ∙ sym (ap ok_results (past_from low high t ts es ls h order e))
      ]
    where
      head : (k n : ℕ) (t : OpenTable) (es : List Entry) (ts : List OpenTable) → HoldsList t es
          → are_in_order (ranges_of (t ∷ ts)) ≡ true → is_from low (range_of t).min ≡ true
          → n ≡ how_many (starts_within high) (ranges_of ts) → span.last ≡ k + n
          → part_read_results (span_part_at span k t) ≡ ok_results (within low high es)
      head k zero t es ts h order reaches many last =
          at_edge k t es h (or_right (k == span.first) (k == span.last)
          (eq-eqb k span.last (omega (arith, last))))
      head k (suc n) t es ts h order reaches many last =
          let p = parts (range_of t) (ranges_of ts) order in
          let next = starts_first high n ts p.rest many in
          let above : list_all (λ (later : Interval). key_lt (range_of t).max later.min)
          (ranges_of (next.0 ∷ next.1)) ≡ true =
          subst (λ (xs : List OpenTable). list_all (λ (later : Interval). key_lt
          (range_of t).max later.min) (ranges_of xs) ≡ true) next.2 p.before in
          let a = and_parts (key_lt (range_of t).max (range_of next.0).min)
          (list_all (λ (later : Interval). key_lt (range_of t).max later.min)
          (ranges_of next.1)) above in
          let to : is_to high (range_of t).max ≡ true =
          upper_down high (range_of next.0).min (range_of t).max next.3
          (lt_to_le (range_of t).max (range_of next.0).min a.0) in
          elim (cases_Bool (is_edge span k)) [
            | inl e ↦ at_edge k t es h e
            | inr e ↦ in_between k t es h e reaches to
          ]

  -- from the first place of the span on
  firsts : (k m : ℕ) (t : OpenTable) (ts : List OpenTable) (es : List Entry)
      (ls : List (List Entry)) → HoldLists (t ∷ ts) (es ∷ ls)
      → are_in_order (ranges_of (t ∷ ts)) ≡ true → is_from low (range_of t).max ≡ true
      → suc m ≡ how_many (starts_within high) (ranges_of (t ∷ ts)) → span.first ≡ k
      → span.last ≡ k + m
      → run_parts_results (take (suc m) (span_parts_from span k (t ∷ ts))) ≡ ok_results
      (within low high (joined (es ∷ ls)))
  firsts k m t ts es ls h order from many begin last =
      let r = range_of t in
      let p = parts r (ranges_of ts) order in
      let edge : is_edge span k ≡ true = or_left (k == span.first) (k == span.last)
      (eq-eqb k span.first (sym begin)) in
      let first = starts_first high m (t ∷ ts) order many in
      let whole : t ∷ ts ≡ first.0 ∷ first.1 = first.2 in
      let same : t ≡ first.0 = cc in
      let starts : starts_within high r ≡ true = subst
      (λ (u : OpenTable). starts_within high (range_of u) ≡ true) (sym same) first.3 in
      let fewer : suc m ≡ suc (how_many (starts_within high) (ranges_of ts)) = many
      ∙ rw starts refl in
      let rest = mids (suc k) m r.max ts ls h.1 p.rest p.before from (omega (arith, fewer))
      (omega (arith, last)) in
      ap (λ (rs : List R). part_read_results (span_part_at span k t) ++ rs) rest
      ∙ ap (λ (rs : List R). rs ++ ok_results (within low high (joined ls)))
      (at_edge k t es h.0 edge)
      ∙ sym (ok_join low high es (joined ls))

  -- tables that end before the lower bound have nothing within
  skips : (n m k : ℕ) (ts : List OpenTable) (ls : List (List Entry)) → HoldLists ts ls
      → are_in_order (ranges_of ts) ≡ true → n ≡ how_many (ends_before low) (ranges_of ts)
      → suc m ≡ how_many (starts_within high) (ranges_of (drop n ts)) → span.first ≡ k + n
      → span.last ≡ k + n + m
      → run_parts_results (take (suc m) (drop n (span_parts_from span k ts))) ≡ ok_results
      (within low high (joined ls))
  skips n m k [] ls h order before many begin last =
      let none : how_many (starts_within high) (ranges_of (drop n [])) ≡ 0 =
      ap (λ (i : ℕ). how_many (starts_within high) (ranges_of (drop i []))) before in
      absurd (omega (arith, many, none))
  skips n m k (t ∷ ts) [] h order before many begin last = absurd h
  skips n m k (t ∷ ts) (es ∷ ls) h order before many begin last =
      let r = range_of t in
      let p = parts r (ranges_of ts) order in
      elim (cases_Bool (ends_before low r)) [
        | inl e ↦
            let i = how_many (ends_before low) (ranges_of ts) in
            let all : n ≡ suc i = before ∙ rw e refl in
            let more : suc m ≡ how_many (starts_within high) (ranges_of (drop i ts)) = many
            ∙ ap (λ (j : ℕ). how_many (starts_within high) (ranges_of (drop j (t ∷ ts)))) all in
            ap (λ (j : ℕ). run_parts_results (take (suc m) (drop j (span_parts_from span k (t ∷ ts)))))
            all
            ∙ skips i m (suc k) ts ls h.1 p.rest refl more (omega (arith, begin, all))
            (omega (arith, last, all))
            ∙ sym (ap ok_results (skip low high es (joined ls) (all_before low high t es h.0 e)))
        | inr e ↦
            let none : n ≡ 0 = before ∙ rw e (none_count range_of (ends_before low)
            (falls-ends_before low) t ts order e) in
            let more : suc m ≡ how_many (starts_within high) (ranges_of (t ∷ ts)) = many
            ∙ ap (λ (j : ℕ). how_many (starts_within high) (ranges_of (drop j (t ∷ ts))))
            none in
            ap (λ (j : ℕ). run_parts_results (take (suc m) (drop j (span_parts_from span k (t ∷ ts)))))
            none
            ∙ firsts k m t ts es ls h order (not_not (is_from low r.max) e) more
            (omega (arith, begin, none)) (omega (arith, last, none))
      ]

-- where no table reaches past both bounds there is nothing
nothing_found : (low high : Bound (List ℕ)) (n : ℕ) (ts : List OpenTable) (ls : List (List Entry))
    → HoldLists ts ls → are_in_order (ranges_of ts) ≡ true
    → n ≡ how_many (ends_before low) (ranges_of ts)
    → how_many (starts_within high) (ranges_of (drop n ts)) ≡ 0 → within low high (joined ls) ≡ []
nothing_found low high n [] [] h order before none = refl
nothing_found low high n [] (es ∷ ls) h order before none = absurd h
nothing_found low high n (t ∷ ts) [] h order before none = absurd h
nothing_found low high n (t ∷ ts) (es ∷ ls) h order before none =
    let r = range_of t in
    let p = parts r (ranges_of ts) order in
    elim (cases_Bool (ends_before low r)) [
      | inl e ↦
          let i = how_many (ends_before low) (ranges_of ts) in
          let all : n ≡ suc i = before ∙ rw e refl in
          skip low high es (joined ls) (all_before low high t es h.0 e)
          ∙ nothing_found low high i ts ls h.1 p.rest refl
          (ap (λ (j : ℕ). how_many (starts_within high) (ranges_of (drop j (t ∷ ts)))) (sym all)
          ∙ none)
      | inr e ↦
          let zero_of : n ≡ 0 = before ∙ rw e (none_count range_of (ends_before low)
          (falls-ends_before low) t ts order e) in
          let miss : how_many (starts_within high) (ranges_of (t ∷ ts)) ≡ 0 =
          ap (λ (j : ℕ). how_many (starts_within high) (ranges_of (drop j (t ∷ ts))))
          (sym zero_of) ∙ none in
          past_from low high t ts es ls h order (is_false (starts_within high r)
          (λ holds. let some : how_many (starts_within high) (ranges_of (t ∷ ts))
          ≡ suc (how_many (starts_within high) (ranges_of ts)) = rw holds refl in
          omega (arith, some, miss)))
    ]

-- ---- by the places that are found

drop_ranges : (n : ℕ) (ts : List OpenTable) → drop n (ranges_of ts) ≡ ranges_of (drop n ts)
drop_ranges zero ts = refl
drop_ranges (suc n) [] = refl
drop_ranges (suc n) (t ∷ ts) = drop_ranges n ts

counted : (n c : ℕ) (ends : ℕ × ℕ) → first_and_last n c ≡ Some ends → (m : ℕ) × (c ≡ suc m)
    × (ends.0 ≡ n) × (ends.1 ≡ n + m)
counted n zero ends e = let wrong : None ≡ Some ends = sym (first_and_last-none n 0 refl) ∙ e in
    absurd cc
counted n (suc m) ends e =
    let found : Some (n, n + suc m - 1) ≡ Some ends =
    sym (first_and_last-some n (suc m) (λ z. omega (arith, z))) ∙ e in
    let same : (n, n + suc m - 1) ≡ ends = cc in (
      m,
      refl,
      sym (ap (λ (x : ℕ × ℕ). x.0) same),
      sym (ap (λ (x : ℕ × ℕ). x.1) same)
          ∙ (let e : n + suc m - 1 ≡ n + m = omega arith in e),
    )

uncounted : (n c : ℕ) → first_and_last n c ≡ None → c ≡ 0
uncounted n zero e = refl
uncounted n (suc m) e = let wrong : ◌≡◌ {A = Option (ℕ × ℕ)} (Some (n, n + suc m - 1)) None =
    sym (first_and_last-some n (suc m) (λ z. omega (arith, z))) ∙ e in absurd cc

module _ (low high : Bound (List ℕ)) (ts : List OpenTable) (ls : List (List Entry))
    (h : HoldLists ts ls) (order : are_in_order (ranges_of ts) ≡ true) where
  abbrev skipped : ℕ
  skipped = how_many (ends_before low) (ranges_of ts)

  pub span_yields : (ends : ℕ × ℕ) → overlap_indexes low high (ranges_of ts) ≡ Some ends
      → run_parts_results (span_parts (span_of ends low high) ts) ≡ ok_results
      (within low high (joined ls))
  span_yields ends found =
      let c = counted skipped (how_many (starts_within high) (drop skipped (ranges_of ts))) ends
      found in
      let m = c.0 in
      let many : suc m ≡ how_many (starts_within high) (ranges_of (drop skipped ts)) = sym c.1
      ∙ ap (how_many (starts_within high)) (drop_ranges skipped ts) in
      let span = span_of ends low high in
      let wide : suc ends.1 - ends.0 ≡ suc m = omega (arith, c.2, c.3) in
      ap (λ (i : ℕ). run_parts_results (take i (drop ends.0 (span_parts_from span 0 ts)))) wide
      ∙ ap (λ (i : ℕ). run_parts_results (take (suc m) (drop i (span_parts_from span 0 ts)))) c.2
      ∙ skips span skipped m 0 ts ls h order refl many (omega (arith, c.2)) (omega (arith, c.3))

  pub none_yields : overlap_indexes low high (ranges_of ts) ≡ None → within low high (joined ls) ≡ []
  none_yields none =
      nothing_found low high skipped ts ls h order refl
      (ap (how_many (starts_within high)) (sym (drop_ranges skipped ts))
      ∙ uncounted skipped (how_many (starts_within high) (drop skipped (ranges_of ts))) none)
