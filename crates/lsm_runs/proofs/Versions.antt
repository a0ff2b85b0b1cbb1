-- A sorted list is strict where it has each version of a key once at most.
use Rattle.std.proofs.Common.{◌≡◌, ◌≢◌, refl, sym, ◌∙◌, ap, subst, ℕ, ◌+◌, ◌<◌, ◌≤◌, inl, inr, Bool}
use Rattle.std.proofs.Common.{true, false, cond, List, [], ◌∷◌, ◌++◌, count_by, arith}
use Rattle.std.specs.Prelude.{◌==◌, ◌&&◌}
use Rattle.std.specs.List.{AllByRecursion}
use Rattle.std.specs.Cmp.Lexicographic.{slice_cmp}
use Rattle.std.specs.Ordering.{MatchOrdering, is_gt, is_lt, nat_cmp, ordering_then}
use Rattle.std.specs.declared.cmp.Ordering.{Ordering}
use Rattle.std.specs.declared.cmp.Ordering.TheVariants.{Less, Equal, Greater}
use Rattle.std.proofs.lemmas.Bool.{cases_Bool, eqb-true, eq-eqb}
use Rattle.std.proofs.lemmas.Cmp.{ranked}
use Rattle.std.proofs.lemmas.List.Sums.{sum_by-append}
use Rattle.sst_entries.specs.Entry.{Entry}
use Rattle.sst_entries.specs.Key.{same_key}
use Rattle.sst_entries.specs.Kind.{tag_of}
use Rattle.sst_entries.proofs.Booleans.{and_both, and_parts, apart, is_false}
use Rattle.sst_entries.proofs.KeyLemmas.{same_is, same_itself}
use Rattle.sst_entries.proofs.OrderLemmas.{gt_first, tie_same}
use Rattle.lsm_sorted.specs.merge.Union.{AtMost, Ascends}
use Rattle.lsm_sorted.proofs.HeldLemmas.{count_cons, count_no, count_yes}
use Rattle.lsm_sorted.proofs.Pairs.{Precedes, Strict}
use Rattle.lsm_sorted.specs.ReadLaw.{Distinct}
use Rattle.lsm_sorted.proofs.PartLemmas.{no_less}

-- a version of a key
abbrev pub at : List ℕ → ℕ → Entry → Bool
at key number e = same_key e.user_key key && (e.seqno == number)

at_itself : (e : Entry) → at e.user_key e.seqno e ≡ true
at_itself e = and_both (same_key e.user_key e.user_key) (e.seqno == e.seqno)
    (same_itself e.user_key) (eq-eqb e.seqno e.seqno refl)

at_is : (key : List ℕ) (number : ℕ) (e : Entry) → at key number e ≡ true → (e.user_key ≡ key)
    × (e.seqno ≡ number)
at_is key number e h =
    let both = and_parts (same_key e.user_key key) (e.seqno == number) h in
    (same_is e.user_key key both.0, eqb-true e.seqno number both.1)

at_of : (key : List ℕ) (number : ℕ) (e : Entry) → e.user_key ≡ key → e.seqno ≡ number
    → at key number e ≡ true
at_of key number e k n = subst (λ (j : List ℕ). at j number e ≡ true) k
    (subst (λ (m : ℕ). at e.user_key m e ≡ true) n (at_itself e))

-- at most one entry of each version
abbrev pub Once : List Entry → Type 0
Once es = (key : List ℕ) (number : ℕ) → count_by (at key number) es ≤ 1

once_rest : (x : Entry) (xs : List Entry) → Once (x ∷ xs) → Once xs
once_rest x xs once key number = omega (arith, once key number, count_cons (at key number) x xs)

once_first : (x : Entry) (xs : List Entry) → Once (x ∷ xs) → count_by (at x.user_key x.seqno) xs ≡ 0
once_first x xs once = omega (
  arith,
  once x.user_key x.seqno,
  count_yes (at x.user_key x.seqno) x xs
      (at_itself x),
)

-- none of them, one by one
none_at : (key : List ℕ) (number : ℕ) (es : List Entry) → count_by (at key number) es ≡ 0
    → AllByRecursion (λ (e : Entry). at key number e ≡ false) es
none_at key number [] h = tt
none_at key number (e ∷ es) h = (
  is_false (at key number e) (λ yes. absurd (omega (arith, h, count_yes (at key number) e es yes))),
  none_at key number es (omega (arith, h, count_cons (at key number) e es)),
)

count_none : (key : List ℕ) (number : ℕ) (es : List Entry)
    → AllByRecursion (λ (e : Entry). at key number e ≡ false) es → count_by (at key number) es ≡ 0
count_none key number [] h = refl
count_none key number (e ∷ es) h = count_no (at key number) e es h.0 ∙ count_none key number es h.1

-- ---- a strict list has each once

not_again : (x y : Entry) (key : List ℕ) (number : ℕ) → at key number x ≡ true → Precedes x y
    → at key number y ≡ false
not_again x y key number here h = is_false (at key number y) (λ there.
    let a = at_is key number x here in
    let b = at_is key number y there in
    elim h [
      | inl lower ↦ no_less x.user_key y.user_key lower (a.0 ∙ sym b.0)
      | inr newer ↦ let less = newer.1 in let m = a.1 in let n = b.1 in
          absurd (omega (arith, less, m, n))
    ])

none_again : (x : Entry) (key : List ℕ) (number : ℕ) → at key number x ≡ true → (es : List Entry)
    → AllByRecursion (Precedes x) es → AllByRecursion (λ (e : Entry). at key number e ≡ false) es
none_again x key number here [] h = tt
none_again x key number here (e ∷ es) h = (
  not_again x e key number here h.0,
  none_again x key
      number here es h.1,
)

pub strict_once : (es : List Entry) → Strict es → Once es
strict_once [] h key number = omega arith
strict_once (x ∷ xs) h key number = elim (cases_Bool (at key number x)) [
  | inl here ↦ omega (
    arith,
    count_yes (at key number) x xs here,
    count_none key number xs
        (none_again x key number here xs h.0),
  )
  | inr other ↦ omega (arith, count_no (at key number) x xs other, strict_once xs h.1 key number)
]

-- ---- and a sorted list that has each once is strict

precedes_or : (x y : Entry) → AtMost x y → at x.user_key x.seqno y ≡ false → Precedes x y
precedes_or x y h other =
    by_key (slice_cmp nat_cmp x.user_key y.user_key) refl h
  where
    by_number : (o : Ordering) → x.user_key ≡ y.user_key → MatchOrdering o (y.seqno < x.seqno)
        (y.seqno ≡ x.seqno) (x.seqno < y.seqno) → is_gt o ≡ false → Precedes x y
    by_number Less same m fine = inr (same, m)
    by_number Equal same m fine = absurd (apart (at x.user_key x.seqno y)
        (at_of x.user_key x.seqno y (sym same) m) other)
    by_number Greater same m fine = absurd cc

    by_key : (o : Ordering) → slice_cmp nat_cmp x.user_key y.user_key ≡ o
        → is_gt (ordering_then o
        (ordering_then (nat_cmp y.seqno x.seqno) (nat_cmp (tag_of x.kind) (tag_of y.kind)))) ≡ false
        → Precedes x y
    by_key Less e fine = inl (ap is_lt e)
    by_key Equal e fine =
        by_number (nat_cmp y.seqno x.seqno) (tie_same x.user_key y.user_key e)
        (ranked y.seqno x.seqno (nat_cmp y.seqno x.seqno) refl)
        (gt_first (nat_cmp y.seqno x.seqno) (nat_cmp (tag_of x.kind) (tag_of y.kind)) fine)
    by_key Greater e fine = absurd cc

all_precede : (x : Entry) (es : List Entry) → AllByRecursion (AtMost x) es
    → AllByRecursion (λ (e : Entry). at x.user_key x.seqno e ≡ false) es
    → AllByRecursion (Precedes x) es
all_precede x [] up other = tt
all_precede x (e ∷ es) up other = (precedes_or x e up.0 other.0, all_precede x es up.1 other.1)

pub once_strict : (es : List Entry) → Ascends es → Once es → Strict es
once_strict [] up once = tt
once_strict (x ∷ xs) up once = (
  all_precede x xs up.0 (none_at x.user_key x.seqno xs (once_first x xs once)),
  once_strict xs up.1 (once_rest x xs once),
)

-- ---- two lists

abbrev pub OnceIn : List Entry → List Entry → Type 0
OnceIn xs ys = (key : List ℕ) (number : ℕ) → count_by (at key number) xs
    + count_by (at key number) ys ≤ 1

others_of : (key : List ℕ) (number : ℕ) (ys : List Entry)
    → AllByRecursion (λ (e : Entry). at key number e ≡ false) ys
    → AllByRecursion (λ (y : Entry). key ≡ y.user_key → number ≢ y.seqno) ys
others_of key number [] h = tt
others_of key number (y ∷ ys) h = (
  λ k n. apart (at key number y)
      (at_of key number y (sym k) (sym n)) h.0,
  others_of key number ys h.1,
)

of_others : (key : List ℕ) (number : ℕ) (ys : List Entry)
    → AllByRecursion (λ (y : Entry). key ≡ y.user_key → number ≢ y.seqno) ys
    → AllByRecursion (λ (e : Entry). at key number e ≡ false) ys
of_others key number [] h = tt
of_others key number (y ∷ ys) h = (
  is_false (at key number y)
      (λ yes. let i = at_is key number y yes in h.0 (sym i.0) (sym i.1)),
  of_others key number ys h.1,
)

pub once_distinct : (xs ys : List Entry) → OnceIn xs ys → Distinct xs ys
once_distinct [] ys once = tt
once_distinct (x ∷ xs) ys once = (
  others_of x.user_key x.seqno ys (none_at x.user_key x.seqno ys
      (omega (
        arith,
        once x.user_key x.seqno,
        count_yes (at x.user_key x.seqno) x xs
            (at_itself x),
      ))),
  once_distinct xs ys (λ key number. omega (
    arith,
    once key number,
    count_cons
        (at key number) x xs,
  )),
)

pub distinct_once : (xs ys : List Entry) → Strict xs → Strict ys → Distinct xs ys → OnceIn xs ys
distinct_once [] ys sx sy h key number = omega (arith, strict_once ys sy key number)
distinct_once (x ∷ xs) ys sx sy h key number = elim (cases_Bool (at key number x)) [
  | inl here ↦
      let is = at_is key number x here in
      let none : AllByRecursion (λ (y : Entry). key ≡ y.user_key → number ≢ y.seqno) ys =
      subst (λ (k : List ℕ). AllByRecursion (λ (y : Entry). k ≡ y.user_key → number ≢ y.seqno) ys)
      is.0
      (subst (λ (n : ℕ). AllByRecursion (λ (y : Entry). x.user_key ≡ y.user_key → n ≢ y.seqno) ys)
      is.1 h.0) in
      omega (
        arith,
        strict_once (x ∷ xs) sx key number,
        count_none key number ys
            (of_others key number ys none),
      )
  | inr other ↦ omega (
    arith,
    count_no (at key number) x xs other,
    distinct_once xs ys sx.1 sy h.1
        key number,
  )
]

pub count_join : (p : Entry → Bool) (xs ys : List Entry)
    → count_by p (xs ++ ys) ≡ count_by p xs + count_by p ys
count_join p xs ys = sum_by-append (λ (e : Entry). cond (p e) 1 0) xs ys
