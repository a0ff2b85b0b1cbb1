-- The lists of the tables of a run in order are sorted, one behind another.
use Rattle.std.proofs.Common.{◌≡◌, sym, ◌∙◌, ap, subst, ℕ, ◌+◌, inl, inr, Bool, true}
use Rattle.std.proofs.Common.{List, [], ◌∷◌, ◌++◌, filter, arith}
use Rattle.std.specs.List.{AllByRecursion, list_all}
use Rattle.std.specs.Cmp.Lexicographic.{slice_cmp}
use Rattle.std.specs.Ordering.{is_gt, nat_cmp, ordering_then}
use Rattle.std.specs.declared.cmp.Ordering.{Ordering}
use Rattle.std.specs.declared.cmp.Ordering.TheVariants.{Equal}
use Rattle.std.proofs.lemmas.Bool.{cases_Bool}
use Rattle.sst_entries.specs.Entry.{Entry}
use Rattle.sst_entries.specs.Key.{key_lt}
use Rattle.sst_entries.specs.Kind.{tag_of}
use Rattle.sst_entries.proofs.Booleans.{and_parts}
use Rattle.sst_entries.proofs.Lists.{all_more}
use Rattle.sst_entries.proofs.OrderLemmas.{less_of}
use Rattle.sst_blocks.specs.table.Chunks.{joined}
use Rattle.lsm_iters.specs.Lift.{lift}
use Rattle.lsm_sorted.specs.merge.Union.{AtMost, Ascends}
use Rattle.lsm_sorted.proofs.Pairs.{Precedes, Strict, as_pairs, nat_is_less, tied}
use Rattle.lsm_sorted.specs.version.KeyRange.{Interval, key_le}
use Rattle.lsm_sorted.specs.version.Run.{are_in_order}
use Rattle.lsm_sorted.proofs.IntervalLemmas.{le_then_lt, lt_then_le}
use Rattle.lsm_sorted.proofs.RunLemmas.{parts}
use Rattle.lsm_readers.specs.point.Table.{OpenTable}
use Rattle.lsm_runs.specs.RunLists.{HoldLists, HoldsList}
use Rattle.lsm_run_parts.specs.RunParts.{range_of, ranges_of}
use Rattle.lsm_runs.proofs.RunWithin.{Keys, held_keys}

-- ---- one list

lift_after : (x : Entry) (es : List Entry) (g : ℕ) → AllByRecursion (Precedes x) es
    → AllByRecursion (Precedes (record x { seqno = x.seqno + g })) (lift es g)
lift_after x [] g h = tt
lift_after x (e ∷ es) g h = (
  elim h.0 [
    | inl lower ↦ inl lower
    | inr newer ↦ inr (newer.0, omega (arith, newer.1))
  ],
  lift_after x es g h.1,
)

lift_strict : (es : List Entry) (g : ℕ) → Strict es → Strict (lift es g)
lift_strict [] g h = tt
lift_strict (e ∷ es) g h = (lift_after e es g h.0, lift_strict es g h.1)

held_strict : (t : OpenTable) (es : List Entry) → HoldsList t es → Strict es
held_strict t es h = subst Strict (sym h.lifted_is)
    (lift_strict h.stored t.global_seqno (as_pairs h.stored h.table.strict))

-- ---- a run

-- keys of a range that ends below a key
below : (x : Entry) (max : List ℕ) (r : Interval) (es : List Entry) → key_le x.user_key max ≡ true
    → key_lt max r.min ≡ true → Keys r es → AllByRecursion (Precedes x) es
below x max r [] low less keys = tt
below x max r (e ∷ es) low less keys =
    let p = and_parts (key_le r.min e.user_key) (key_le e.user_key r.max) keys.0 in (
      inl (lt_then_le x.user_key r.min e.user_key (le_then_lt x.user_key max r.min low less) p.0),
      below x max r es low less keys.1,
    )

all_join : (P : Entry → Type 0) (xs ys : List Entry) → AllByRecursion P xs → AllByRecursion P ys
    → AllByRecursion P (xs ++ ys)
all_join P [] ys h k = k
all_join P (x ∷ xs) ys h k = (h.0, all_join P xs ys h.1 k)

-- an entry up to a key, and the tables behind that key
behind : (x : Entry) (max : List ℕ) → key_le x.user_key max ≡ true
    → (ts : List OpenTable) (ls : List (List Entry)) → HoldLists ts ls
    → list_all (λ (later : Interval). key_lt max later.min) (ranges_of ts) ≡ true
    → AllByRecursion (Precedes x) (joined ls)
behind x max low [] [] h before = tt
behind x max low [] (es ∷ ls) h before = absurd h
behind x max low (t ∷ ts) [] h before = absurd h
behind x max low (t ∷ ts) (es ∷ ls) h before =
    let b = and_parts (key_lt max (range_of t).min)
    (list_all (λ (later : Interval). key_lt max later.min) (ranges_of ts)) before in
    all_join (Precedes x) es (joined ls) (below x max (range_of t) es low b.0 (held_keys t es h.0))
    (behind x max low ts ls h.1 b.1)

strict_join : (r : Interval) (es rest : List Entry) → Keys r es → Strict es
    → ((x : Entry) → key_le x.user_key r.max ≡ true → AllByRecursion (Precedes x) rest)
    → Strict rest → Strict (es ++ rest)
strict_join r [] rest keys strict more others = others
strict_join r (e ∷ es) rest keys strict more others =
    let p = and_parts (key_le r.min e.user_key) (key_le e.user_key r.max) keys.0 in (
      all_join (Precedes e) es rest strict.0 (more e p.1),
      strict_join r es rest keys.1 strict.1 more
          others,
    )

pub run_strict : (ts : List OpenTable) (ls : List (List Entry)) → HoldLists ts ls
    → are_in_order (ranges_of ts) ≡ true → Strict (joined ls)
run_strict [] [] h order = tt
run_strict [] (es ∷ ls) h order = absurd h
run_strict (t ∷ ts) [] h order = absurd h
run_strict (t ∷ ts) (es ∷ ls) h order =
    let p = parts (range_of t) (ranges_of ts) order in
    strict_join (range_of t) es (joined ls) (held_keys t es h.0) (held_strict t es h.0)
    (λ x low. behind x (range_of t).max low ts ls h.1 p.before) (run_strict ts ls h.1 p.rest)

-- ---- sorted

pub at_most_of : (x y : Entry) → Precedes x y → AtMost x y
at_most_of x y h = elim h [
  | inl lower ↦ ap (λ (o : Ordering). is_gt (ordering_then o
      (ordering_then (nat_cmp y.seqno x.seqno) (nat_cmp (tag_of x.kind) (tag_of y.kind)))))
      (less_of (slice_cmp nat_cmp x.user_key y.user_key) lower)
  | inr newer ↦
      let tie : slice_cmp nat_cmp x.user_key y.user_key ≡ Equal =
      subst (λ (k : List ℕ). slice_cmp nat_cmp x.user_key k ≡ Equal) newer.0
      (tied x.user_key) in
      ap (λ (o : Ordering). is_gt (ordering_then o
      (ordering_then (nat_cmp y.seqno x.seqno) (nat_cmp (tag_of x.kind) (tag_of y.kind))))) tie
      ∙ ap (λ (o : Ordering). is_gt (ordering_then o (nat_cmp (tag_of x.kind) (tag_of y.kind))))
      (less_of (nat_cmp y.seqno x.seqno) (nat_is_less y.seqno x.seqno newer.1))
]

pub ascends_of : (es : List Entry) → Strict es → Ascends es
ascends_of [] h = tt
ascends_of (e ∷ es) h = (
  all_more (Precedes e) (AtMost e)
      (λ y p. at_most_of e y p) es h.0,
  ascends_of es h.1,
)

kept : (p : Entry → Bool) (x : Entry) (ys : List Entry) → AllByRecursion (Precedes x) ys
    → AllByRecursion (Precedes x) (filter p ys)
kept p x [] h = tt
kept p x (y ∷ ys) h = elim (cases_Bool (p y)) [
  | inl e ↦ rw e (h.0, kept p x ys h.1)
  | inr e ↦ rw e (kept p x ys h.1)
]

pub strict_within : (p : Entry → Bool) (es : List Entry) → Strict es → Strict (filter p es)
strict_within p [] h = tt
strict_within p (x ∷ xs) h = elim (cases_Bool (p x)) [
  | inl e ↦ rw e (kept p x xs h.0, strict_within p xs h.1)
  | inr e ↦ rw e (strict_within p xs h.1)
]
