-- Merged lists are a union of the lists, and the only one where it is strict.
use Rattle.std.proofs.Common.{◌≡◌, refl, sym, ◌∙◌, ap, ℕ, ◌+◌, ◌<◌, Bool, true, false, cond, List}
use Rattle.std.proofs.Common.{[], ◌∷◌, arith}
use Rattle.std.specs.Prelude.{◌==◌, ◌&&◌, not, count_by}
use Rattle.std.specs.List.{AllByRecursion}
use Rattle.std.specs.Cmp.Lexicographic.{slice_cmp}
use Rattle.std.specs.Ordering.{nat_cmp, is_gt, is_lt, ordering_then, ordering_reverse}
use Rattle.std.specs.declared.cmp.Ordering.{Ordering}
use Rattle.std.specs.declared.cmp.Ordering.TheVariants.{Less, Equal, Greater}
use Rattle.std.proofs.lemmas.Bool.{eqb-true, eq-eqb}
use Rattle.std.proofs.Math.Bool.{and-false}
use Rattle.sst_entries.specs.Entry.{Entry}
use Rattle.sst_entries.specs.Key.{same_key}
use Rattle.sst_entries.specs.Kind.{tag_of}
use Rattle.sst_entries.specs.declared.value_type.ValueType.{ValueType}
use Rattle.sst_entries.specs.declared.value_type.ValueType.TheVariants.{Value, Tombstone}
use Rattle.sst_entries.specs.declared.value_type.ValueType.TheVariants.{WeakTombstone, Indirection}
use Rattle.lsm_sorted.specs.merge.Ends.{R}
use Rattle.lsm_sorted.specs.merge.Union.{item_cmp, AtMost, Ascends, SameBag, all_entries, IsUnion}
use Rattle.lsm_sorted.specs.merge.Union.{insert_sorted, sort_entries, union_of}
use Rattle.sst_entries.specs.Strict.{version_cmp, IsStrict}
use Rattle.sst_entries.proofs.Booleans.{and_parts, and_both}
use Rattle.sst_entries.proofs.Lists.{all_more}
use Rattle.sst_entries.proofs.OrderLemmas.{less_of}
use Rattle.sst_entries.proofs.KeyLemmas.{same_is, same_itself}
use Rattle.lsm_sorted.proofs.Pairs.{AllBefore, pairs_of}
use Rattle.lsm_sorted.proofs.MergedLemmas.{item_total, Above, at_most_chain, above_at_most}
use Rattle.lsm_sorted.proofs.MergedLemmas.{all_inserted}
use Rattle.lsm_sorted.proofs.HeldLemmas.{weight, weight_false, count_cons, count_yes, count_no}
use Rattle.lsm_sorted.proofs.HeldLemmas.{none_counted}

-- ---- sorted

ascends_inserted : (x : Entry) (xs : List Entry) → Ascends xs → Ascends (insert_sorted x xs)
ascends_inserted x [] h = (tt, tt)
ascends_inserted x (y ∷ ys) h =
    elim (is_gt (item_cmp x y)) as (λ b. is_gt (item_cmp x y) ≡ b
    → Ascends (cond b (y ∷ insert_sorted x ys) (x ∷ y ∷ ys))) [
      | true ↦ λ e. (
        all_inserted (AtMost y) x ys
            (above_at_most x y e) h.0,
        ascends_inserted x ys h.1,
      )
      | false ↦ λ e. (
        (e, all_more (AtMost y) (AtMost x) (λ z le. at_most_chain x y z e le) ys h.0),
        h,
      )
    ] refl

pub ascends_in_order : (xs : List Entry) → Ascends (sort_entries xs)
ascends_in_order [] = tt
ascends_in_order (x ∷ xs) = ascends_inserted x (sort_entries xs) (ascends_in_order xs)

-- ---- the same entries

count_inserted : (p : Entry → Bool) (x : Entry) (xs : List Entry)
    → count_by p (insert_sorted x xs) ≡ weight (p x) + count_by p xs
count_inserted p x [] = count_cons p x []
count_inserted p x (y ∷ ys) =
    elim (is_gt (item_cmp x y)) as (λ b. count_by p (cond b (y ∷ insert_sorted x ys) (x ∷ y ∷ ys))
    ≡ weight (p x) + count_by p (y ∷ ys)) [
      | true ↦ let more = count_inserted p x ys in
          omega (arith, more, count_cons p y (insert_sorted x ys), count_cons p y ys)
      | false ↦ count_cons p x (y ∷ ys)
    ]

count_in_order : (p : Entry → Bool) (xs : List Entry) → count_by p (sort_entries xs) ≡ count_by p xs
count_in_order p [] = refl
count_in_order p (x ∷ xs) = let more = count_in_order p xs in
    omega (arith, more, count_inserted p x (sort_entries xs), count_cons p x xs)

pub merged_union : (lists : List (List R)) → IsUnion lists (union_of lists)
merged_union lists = record {
  ascends = ascends_in_order (all_entries lists);
  same =
      record { count = λ p. count_in_order p (all_entries lists) };
}

-- ---- one entry alone

same_kind : (a b : ValueType) → tag_of a ≡ tag_of b → a ≡ b
same_kind Value Value e = refl
same_kind Value Tombstone e = absurd (omega arith)
same_kind Value WeakTombstone e = absurd (omega arith)
same_kind Value Indirection e = absurd (omega arith)
same_kind Tombstone Value e = absurd (omega arith)
same_kind Tombstone Tombstone e = refl
same_kind Tombstone WeakTombstone e = absurd (omega arith)
same_kind Tombstone Indirection e = absurd (omega arith)
same_kind WeakTombstone Value e = absurd (omega arith)
same_kind WeakTombstone Tombstone e = absurd (omega arith)
same_kind WeakTombstone WeakTombstone e = refl
same_kind WeakTombstone Indirection e = absurd (omega arith)
same_kind Indirection Value e = absurd (omega arith)
same_kind Indirection Tombstone e = absurd (omega arith)
same_kind Indirection WeakTombstone e = absurd (omega arith)
same_kind Indirection Indirection e = refl

abbrev is_entry : Entry → Entry → Bool
is_entry a b = same_key a.user_key b.user_key
    && ((a.seqno == b.seqno) && ((tag_of a.kind == tag_of b.kind) && same_key a.value b.value))

entry_itself : (a : Entry) → is_entry a a ≡ true
entry_itself a =
    and_both (same_key a.user_key a.user_key) _ (same_itself a.user_key)
    (and_both (a.seqno == a.seqno) _ (eq-eqb a.seqno a.seqno refl)
    (and_both (tag_of a.kind == tag_of a.kind) _ (eq-eqb (tag_of a.kind) (tag_of a.kind) refl)
    (same_itself a.value)))

entry_is : (a b : Entry) → is_entry a b ≡ true → a ≡ b
entry_is a b h =
    let key = and_parts (same_key a.user_key b.user_key) _ h in
    let number = and_parts (a.seqno == b.seqno) _ key.1 in
    let rest = and_parts (tag_of a.kind == tag_of b.kind) _ number.1 in
    ap (λ (k : List ℕ). record a { user_key = k }) (same_is a.user_key b.user_key key.0)
    ∙ ap (λ (n : ℕ). record b { seqno = n; kind = a.kind; value = a.value })
    (eqb-true a.seqno b.seqno number.0)
    ∙ ap (λ (k : ValueType). record b { kind = k; value = a.value })
    (same_kind a.kind b.kind (eqb-true (tag_of a.kind) (tag_of b.kind) rest.0))
    ∙ ap (λ (v : List ℕ). record b { value = v }) (same_is a.value b.value rest.1)

-- ---- the only one

pub then_less : (a b c : Ordering) → ordering_then a b ≡ Less
    → ordering_then a (ordering_then b c) ≡ Less
then_less Less b c h = refl
then_less Equal b c h = ap (λ (o : Ordering). ordering_then o c) h
then_less Greater b c h = absurd cc

version_less : (x y : Entry) → is_lt (version_cmp x y) ≡ true → Above y x
version_less x y h =
    let less : item_cmp x y ≡ Less = then_less (slice_cmp nat_cmp x.user_key y.user_key)
    (nat_cmp y.seqno x.seqno) (nat_cmp (tag_of x.kind) (tag_of y.kind))
    (less_of (version_cmp x y) h) in
    ap is_gt (item_total.antisymm y x ∙ ap ordering_reverse less)

at_most_itself : (x : Entry) → AtMost x x
at_most_itself x = own (item_cmp x x) (item_total.antisymm x x)
  where
    own : (o : Ordering) → o ≡ ordering_reverse o → is_gt o ≡ false
    own Less e = refl
    own Equal e = refl
    own Greater e = let no : true ≡ false = ap is_gt e in absurd cc

none_pass : (p : Entry → Bool) (xs : List Entry) → AllByRecursion (λ y. p y ≡ false) xs
    → count_by p xs ≡ 0
none_pass p [] h = refl
none_pass p (x ∷ xs) h = count_no p x xs h.0 ∙ none_pass p xs h.1

some_weight : (b : Bool) → 0 < weight b → b ≡ true
some_weight true h = refl
some_weight false h = let none = weight_false in absurd (omega (arith, none, h))

-- y, and not after x by key and number
abbrev after : Entry → Entry → Entry → Bool
after x y z = is_entry y z && not (is_lt (version_cmp x z))

no_after : (x y z : Entry) → is_lt (version_cmp x z) ≡ true → after x y z ≡ false
no_after x y z h = ap (λ (b : Bool). is_entry y z && not b) h ∙ and-false (is_entry y z)

strict_only : (xs ys : List Entry) → AllBefore xs → Ascends ys → SameBag xs ys → xs ≡ ys
strict_only [] [] strict up same = refl
strict_only [] (y ∷ ys) strict up same = let e = same.count (λ z. true) in
    absurd (omega (arith, e, count_yes (λ (z : Entry). true) y ys refl))
strict_only (x ∷ xs) [] strict up same = let e = same.count (λ z. true) in
    absurd (omega (arith, e, count_yes (λ (z : Entry). true) x xs refl))
strict_only (x ∷ xs) (y ∷ ys) strict up same =
    let over : AllByRecursion (λ z. is_gt (item_cmp y z) ≡ false) (x ∷ xs) =
    none_counted (λ z. is_gt (item_cmp y z)) (x ∷ xs)
    (same.count (λ z. is_gt (item_cmp y z)) ∙ none_pass (λ z. is_gt (item_cmp y z)) (y ∷ ys)
    (at_most_itself y, up.0)) in
    let first : is_lt (version_cmp x y) ≡ false = not_before over.0 in
    let e : y ≡ x = entry_is y x (found first) in
    sym (ap (λ (z : Entry). z ∷ ys) e ∙ ap (λ (zs : List Entry). x ∷ zs)
    (sym (strict_only xs ys strict.1 up.1 (tail e))))
  where
    not_before : AtMost y x → is_lt (version_cmp x y) ≡ false
    not_before le = either (is_lt (version_cmp x y)) refl
      where
        either : (b : Bool) → is_lt (version_cmp x y) ≡ b → is_lt (version_cmp x y) ≡ false
        either true h = let no : true ≡ false = sym (version_less x y h) ∙ le in absurd cc
        either false h = h

    found : is_lt (version_cmp x y) ≡ false → is_entry y x ≡ true
    found first =
        let here : after x y y ≡ true = and_both (is_entry y y) _ (entry_itself y) (ap not first) in
        let none : count_by (after x y) xs ≡ 0 = none_pass (after x y) xs
        (all_more (λ z. is_lt (version_cmp x z) ≡ true) (λ z. after x y z ≡ false)
        (λ z lt. no_after x y z lt) xs strict.0) in
        (and_parts (is_entry y x) _ (some_weight (after x y x)
        (omega (
          arith,
          none,
          same.count (after x y),
          count_cons (after x y) x xs,
          count_yes
              (after x y) y ys here,
        )))).0

    tail : y ≡ x → SameBag xs ys
    tail e = record {
      count = λ p. let c = same.count p in let w : weight (p y) ≡ weight (p x) =
          ap (λ (z : Entry). weight (p z)) e in omega
          (arith, c, w, count_cons p x xs, count_cons p y ys);
    }

pub only_union : (lists : List (List R)) (xs : List Entry) → IsUnion lists xs → IsStrict xs
    → xs ≡ union_of lists
only_union lists xs union strict = strict_only xs (union_of lists) (pairs_of xs strict)
    (ascends_in_order (all_entries lists)) (record
    { count = λ p. union.same.count p ∙ sym (count_in_order p (all_entries lists)) })
