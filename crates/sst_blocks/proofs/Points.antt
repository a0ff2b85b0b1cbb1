-- A point read of a strict list is decided at one place.
use Rattle.std.proofs.Common.{◌≡◌, ℕ, zero, suc, ◌<◌, ◌≤◌, Bool, true, false, List, [], ◌∷◌, length}
use Rattle.std.proofs.Common.{get_or, Some, None, refl, sym, ap, subst, ◌∙◌, arith, inl, inr, ◌⊎◌}
use Rattle.std.specs.Prelude.{Option, find, not, nat_eq, nat_lt, ◌&&◌, ◌==◌}
use Rattle.std.proofs.Common.{cond, ltb}
use Rattle.std.specs.declared.cmp.Ordering.{Ordering}
use Rattle.std.specs.declared.cmp.Ordering.TheVariants.{Less, Equal, Greater}
use Rattle.std.specs.Ordering.{nat_cmp, is_lt, ordering_then, ordering_reverse}
use Rattle.std.specs.Cmp.Lexicographic.{slice_cmp, pointwise, nat_list_cmp_total, nat_list_eq_equiv}
use Rattle.std.specs.Cmp.Lexicographic.{same_text, other_text}
use Rattle.std.proofs.lemmas.Bool.{cases_lt, ltb-true}
use Rattle.std.proofs.lemmas.Cmp.{tied_itself}
use Rattle.std.proofs.lemmas.Option.{slice_get_within, get_or_from_slice_get}
use Rattle.std.specs.List.{slice_get}
use Rattle.std.specs.List.Sorted.{IsPartitionedBy}
use Rattle.sst_entries.specs.declared.value_type.ValueType.TheVariants.{Value}
use Rattle.sst_entries.specs.Entry.{Entry, entry}
use Rattle.sst_entries.specs.Key.{key_lt, same_key}
use Rattle.sst_entries.specs.Point.{is_hit, point, read_place}
use Rattle.sst_entries.specs.Span.{front_length}
use Rattle.sst_entries.specs.Strict.{is_before, IsStrict}
use Rattle.sst_blocks.proofs.Fronts.{front_passes, front_stops}
use Rattle.sst_entries.proofs.Booleans.{apart, is_false, not_is, not_of, not_not}
use Rattle.sst_entries.proofs.Booleans.{and_right}
use Rattle.sst_entries.proofs.OrderLemmas.{less_of, lt_of_cond, tie_same, before_trans, strict_at}
use Rattle.sst_entries.proofs.KeyLemmas.{hit_key}

abbrev blank : Entry
blank = entry [] [] 0 Value

not_true : (b r : Bool) → r ≡ not b → r ≡ true → false ≡ b
not_true true r e h = let k : false ≡ true = sym e ∙ h in absurd cc
not_true false r e h = refl

not_false : (b r : Bool) → r ≡ not b → r ≡ false → true ≡ b
not_false true r e h = refl
not_false false r e h = let k : true ≡ false = sym e ∙ h in absurd cc

-- what a test by != says of two keys
pub keys_apart : (xs ys : List ℕ) (r : Bool) → r ≡ not (pointwise nat_eq xs ys) → r ≡ true → xs ≡ ys
    → ⊥
keys_apart xs ys r e h = other_text xs ys (not_true (pointwise nat_eq xs ys) r e h)

pub keys_same : (xs ys : List ℕ) (r : Bool) → r ≡ not (pointwise nat_eq xs ys) → r ≡ false → xs ≡ ys
keys_same xs ys r e h = same_text xs ys (not_false (pointwise nat_eq xs ys) r e h)

-- ---- what is found is visible

passes_by : {X : Type 0} (p : X → Bool) (x y : X) (o : Option X) (b : Bool) → p x ≡ b
    → (o ≡ Some y → p y ≡ true) → cond b (Some x) o ≡ Some y → p y ≡ true
passes_by p x y o true e rest h = let same : x ≡ y = cc in subst (λ z. p z ≡ true) same e
passes_by p x y o false e rest h = rest h

pub find_passes : {X : Type 0} (p : X → Bool) (xs : List X) (y : X) → find p xs ≡ Some y
    → p y ≡ true
find_passes p [] y h = absurd cc
find_passes p (x ∷ xs) y h = passes_by p x y (find p xs) (p x) refl (find_passes p xs y) h

pub point_below : (es : List Entry) (key : List ℕ) (bound : ℕ) (e : Entry)
    → point es key bound ≡ Some e → e.seqno < bound
unfolding point
point_below es key bound e h = ltb-true _ _ (and_right (same_key e.user_key key) (ltb e.seqno bound)
    (find_passes (is_hit key bound) es e h))

-- ---- fronts of a strict list

-- a test that an entry passes where a later one does cuts a strict list in two
pub parted : (p : Entry → Bool) (es : List Entry) → IsStrict es
    → ((a b : Entry) → is_before a b ≡ true → p b ≡ true → p a ≡ true) → IsPartitionedBy p es
parted p es strict down i j d le lt passed =
    elim (cases_lt i j) [
      | inl below ↦ down (get_or es i d) (get_or es j d)
          (strict_at None es i j d strict below lt) passed
      | inr above ↦ let e : j ≡ i = omega arith in
          subst (λ (k : ℕ). p (get_or es k d) ≡ true) e passed
    ]

-- what does not come after a bound has nothing before it that does
pub past_parted : (es : List Entry) (key : List ℕ) (bound : ℕ) → IsStrict es
    → IsPartitionedBy (λ e. not (is_before (read_place key bound) e)) es
past_parted es key bound strict =
    let b = read_place key bound in
    parted (λ (e : Entry). not (is_before b e)) es strict (λ x y before early.
    not_of (is_before b x) (is_false (is_before b x)
    (λ late. apart (is_before b y) (before_trans b x y late before)
    (not_is (is_before b y) early))))

-- an earlier entry's key is no greater
before_key : (a b : Entry) → is_before a b ≡ true → key_lt b.user_key a.user_key ≡ false
before_key a b before =
    let back = nat_list_cmp_total.antisymm b.user_key a.user_key in
    elim (slice_cmp nat_cmp a.user_key b.user_key) as
    (λ o. slice_cmp nat_cmp a.user_key b.user_key ≡ o → key_lt b.user_key a.user_key ≡ false) [
      | Less ↦ λ e. ap is_lt (back ∙ ap ordering_reverse e)
      | Equal ↦ λ e. ap is_lt (back ∙ ap ordering_reverse e)
      | Greater ↦ λ e.
          let wrong : is_lt (ordering_then Greater (nat_cmp b.seqno a.seqno)) ≡ true =
          subst (λ (o : Ordering). is_lt (ordering_then o (nat_cmp b.seqno a.seqno)) ≡ true) e
          before in
          absurd cc
    ] refl

-- what no key below it is is that key or a greater one
not_below : (a b : List ℕ) → key_lt b a ≡ false → (a ≡ b) ⊎ (slice_cmp nat_cmp a b ≡ Less)
not_below a b le =
    elim (slice_cmp nat_cmp b a) as (λ o. slice_cmp nat_cmp b a ≡ o
    → (a ≡ b) ⊎ (slice_cmp nat_cmp a b ≡ Less)) [
      | Less ↦ λ e. absurd (apart (key_lt b a) (ap is_lt e) le)
      | Equal ↦ λ e. inl (sym (tie_same b a e))
      | Greater ↦ λ e. inr (nat_list_cmp_total.antisymm a b ∙ ap ordering_reverse e)
    ] refl

lt_from_le : (a b c : List ℕ) → key_lt b a ≡ false → key_lt b c ≡ true → key_lt a c ≡ true
lt_from_le a b c le lt =
    elim (not_below a b le) [
      | inl same ↦ subst (λ (k : List ℕ). key_lt k c ≡ true) (sym same) lt
      | inr less ↦ ap is_lt (nat_list_cmp_total.trans a b c less
          (less_of (slice_cmp nat_cmp b c) lt))
    ]

lt_to_le : (c a b : List ℕ) → key_lt c a ≡ true → key_lt b a ≡ false → key_lt c b ≡ true
lt_to_le c a b lt le =
    elim (not_below a b le) [
      | inl same ↦ subst (λ (k : List ℕ). key_lt c k ≡ true) same lt
      | inr less ↦ ap is_lt (nat_list_cmp_total.trans c a b
          (less_of (slice_cmp nat_cmp c a) lt) less)
    ]

pub below_parted : (es : List Entry) (key : List ℕ) → IsStrict es
    → IsPartitionedBy (λ e. key_lt e.user_key key) es
below_parted es key strict = parted (λ (e : Entry). key_lt e.user_key key) es strict
    (λ a b before below. lt_from_le a.user_key b.user_key key (before_key a b before) below)

pub up_to_parted : (es : List Entry) (key : List ℕ) → IsStrict es
    → IsPartitionedBy (λ e. not (key_lt key e.user_key)) es
up_to_parted es key strict =
    parted (λ (e : Entry). not (key_lt key e.user_key)) es strict (λ a b before up_to.
    not_of (key_lt key a.user_key) (is_false (key_lt key a.user_key)
    (λ above. apart (key_lt key b.user_key) (lt_to_le key a.user_key b.user_key above
    (before_key a b before)) (not_is (key_lt key b.user_key) up_to))))

-- ---- a hit comes after its bound

at_key : (key : List ℕ) (bound : ℕ) (e : Entry) → e.user_key ≡ key
    → is_before (read_place key bound) e ≡ nat_lt e.seqno bound
at_key key bound e same =
    let tie : slice_cmp nat_cmp key e.user_key ≡ Equal = ap (slice_cmp nat_cmp key) same
    ∙ tied_itself nat_list_cmp_total key in
    ap (λ (o : Ordering). is_lt (ordering_then o (nat_cmp e.seqno bound))) tie
    ∙ lt_of_cond (nat_lt e.seqno bound) (e.seqno == bound)

hit_before : (key : List ℕ) (bound : ℕ) (e : Entry) → is_hit key bound e ≡ true
    → is_before (read_place key bound) e ≡ true
hit_before key bound e h = at_key key bound e (hit_key key bound e h)
    ∙ and_right (pointwise nat_eq e.user_key key) (nat_lt e.seqno bound) h

hit_from : (key : List ℕ) (bound : ℕ) (e : Entry) → e.user_key ≡ key
    → is_before (read_place key bound) e ≡ true → is_hit key bound e ≡ true
hit_from key bound e same h =
    let same_too : pointwise nat_eq e.user_key key ≡ true =
    ap (λ (k : List ℕ). pointwise nat_eq k key) same ∙ nat_list_eq_equiv.refl key in
    ap (λ (b : Bool). b && nat_lt e.seqno bound) same_too ∙ sym (at_key key bound e same) ∙ h

-- ---- the first match

-- the entries from a place on are those that come after the bound
record IsFirst (es : List Entry) (key : List ℕ) (bound : ℕ) (n : ℕ) : Type 0 where
  pub before : (i : ℕ) → i < n → is_before (read_place key bound) (get_or es i blank) ≡ false
  pub after : n < length es → is_before (read_place key bound) (get_or es n blank) ≡ true

first_past : (es : List Entry) (key : List ℕ) (bound n : ℕ)
    → n ≡ front_length (λ e. not (is_before (read_place key bound) e)) es → IsFirst es key bound n
first_past es key bound n is =
    let p = λ (e : Entry). not (is_before (read_place key bound) e) in
    record {
      before = λ i lt. not_is (is_before (read_place key bound) (get_or es i blank))
          (front_passes p es i blank (omega (arith, is, lt)));
      after = λ lt.
          let stop : p (get_or es n blank) ≡ false =
          rw is (front_stops p es blank (omega (arith, is, lt))) in
          not_not (is_before (read_place key bound) (get_or es n blank)) stop;
    }

find_none : (p : Entry → Bool) (es : List Entry)
    → ((i : ℕ) → i < length es → p (get_or es i blank) ≡ false) → find p es ≡ None
find_none p [] h = refl
find_none p (e ∷ es) h =
    let here : p e ≡ false = h 0 (omega arith) in
    rw here (find_none p es (λ i lt. h (suc i) (omega (arith, lt))))

find_first : (p : Entry → Bool) (es : List Entry) (n : ℕ) → n < length es
    → ((i : ℕ) → i < n → p (get_or es i blank) ≡ false) → p (get_or es n blank) ≡ true
    → find p es ≡ Some (get_or es n blank)
find_first p [] n lt h hit = absurd (omega (arith, lt))
find_first p (e ∷ es) zero lt h hit = rw hit refl
find_first p (e ∷ es) (suc n) lt h hit =
    let here : p e ≡ false = h 0 (omega arith) in
    rw here (find_first p es n (omega (arith, lt)) (λ i less. h (suc i) (omega (arith, less))) hit)

missed : (es : List Entry) (key : List ℕ) (bound n : ℕ) → IsFirst es key bound n → (i : ℕ) → i < n
    → is_hit key bound (get_or es i blank) ≡ false
missed es key bound n first i lt = is_false (is_hit key bound (get_or es i blank))
    (λ hit. apart (is_before (read_place key bound) (get_or es i blank))
    (hit_before key bound (get_or es i blank) hit) (first.before i lt))

none_past : (es : List Entry) (key : List ℕ) (bound n : ℕ) → IsFirst es key bound n → n ≡ length es
    → None ≡ point es key bound
unfolding point
none_past es key bound n first end = sym (find_none (is_hit key bound) es
    (λ i lt. missed es key bound n first i (omega arith)))

hit_first : (es : List Entry) (key : List ℕ) (bound n : ℕ) → IsFirst es key bound n → n < length es
    → (get_or es n blank).user_key ≡ key → Some (get_or es n blank) ≡ point es key bound
unfolding point
hit_first es key bound n first lt same = sym (find_first (is_hit key bound) es n lt
    (missed es key bound n first) (hit_from key bound (get_or es n blank) same (first.after lt)))

-- a key that is not the first after the bound is above it, and stands nowhere
key_order : (o p : Ordering) → is_lt (ordering_then o p) ≡ true → (o ≡ Equal → ⊥) → o ≡ Less
key_order Less p h other = refl
key_order Equal p h other = absurd (other refl)
key_order Greater p h other = absurd cc

not_later : (es : List Entry) (key : List ℕ) (bound n : ℕ) → IsStrict es → IsFirst es key bound n
    → n < length es → ((get_or es n blank).user_key ≡ key → ⊥) → (i : ℕ) → n ≤ i → i < length es
    → (get_or es i blank).user_key ≡ key → ⊥
not_later es key bound n strict first lt other i le in_list same =
    let kn = (get_or es n blank).user_key in
    let ki = (get_or es i blank).user_key in
    elim (cases_lt n i) [
      | inl above ↦
          let up : slice_cmp nat_cmp key kn ≡ Less =
          key_order (slice_cmp nat_cmp key kn) (nat_cmp (get_or es n blank).seqno bound)
          (first.after lt) (λ tie. other (sym (tie_same key kn tie))) in
          let down : slice_cmp nat_cmp kn ki ≡ Greater = ap (slice_cmp nat_cmp kn) same
          ∙ nat_list_cmp_total.antisymm kn key ∙ ap ordering_reverse up in
          let h : is_before (get_or es n blank) (get_or es i blank) ≡ true =
          strict_at None es n i blank strict above in_list in
          let wrong : is_lt (ordering_then Greater (nat_cmp (get_or es i blank).seqno
          (get_or es n blank).seqno)) ≡ true = subst
          (λ (o : Ordering). is_lt (ordering_then o
          (nat_cmp (get_or es i blank).seqno (get_or es n blank).seqno)) ≡ true) down h in
          absurd cc
      | inr here ↦ let e : i ≡ n = omega arith in
          other (ap (λ (k : ℕ). (get_or es k blank).user_key) (sym e) ∙ same)
    ]

none_other : (es : List Entry) (key : List ℕ) (bound n : ℕ) → IsStrict es → IsFirst es key bound n
    → n < length es → ((get_or es n blank).user_key ≡ key → ⊥) → None ≡ point es key bound
unfolding point
none_other es key bound n strict first lt other =
    sym (find_none (is_hit key bound) es (λ i in_list.
    elim (cases_lt i n) [
      | inl below ↦ missed es key bound n first i below
      | inr above ↦ is_false (is_hit key bound (get_or es i blank))
          (λ hit. not_later es key bound n strict first lt other i above in_list
          (hit_key key bound (get_or es i blank) hit))
    ]))

-- ---- a point read, from the number of entries that do not come after its bound

pub read_past : (es : List Entry) (key : List ℕ) (bound n : ℕ)
    → n ≡ front_length (λ e. not (is_before (read_place key bound) e)) es → n ≡ length es
    → None ≡ point es key bound
read_past es key bound n is end = none_past es key bound n (first_past es key bound n is) end

pub read_hit : (es : List Entry) (key : List ℕ) (bound n : ℕ) (e : Entry)
    → n ≡ front_length (λ e. not (is_before (read_place key bound) e)) es → slice_get es n ≡ Some e
    → e.user_key ≡ key → Some e ≡ point es key bound
read_hit es key bound n e is here same =
    let at : get_or es n blank ≡ e = get_or_from_slice_get es n e blank here in
    ap (λ x. Some x) (sym at) ∙ hit_first es key bound n (first_past es key bound n is)
    (slice_get_within es n e here) (ap (λ (x : Entry). x.user_key) at ∙ same)

pub read_other : (es : List Entry) (key : List ℕ) (bound n : ℕ) (e : Entry) → IsStrict es
    → n ≡ front_length (λ e. not (is_before (read_place key bound) e)) es → slice_get es n ≡ Some e
    → (e.user_key ≡ key → ⊥) → None ≡ point es key bound
read_other es key bound n e strict is here other =
    let at : get_or es n blank ≡ e = get_or_from_slice_get es n e blank here in
    none_other es key bound n strict (first_past es key bound n is) (slice_get_within es n e here)
    (λ same. other (ap (λ (x : Entry). x.user_key) (sym at) ∙ same))
