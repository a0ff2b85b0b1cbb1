-- A list in order, cut where a test first fails, and an entry that is inserted there.
use Rattle.std.proofs.Common.{◌≡◌, refl, sym, ◌∙◌, ap, subst, ℕ, zero, suc, ◌+◌, ◌<◌, ◌≤◌, Bool}
use Rattle.std.proofs.Common.{true, false, cond, List, [], ◌∷◌, ◌++◌, length, take, drop, inl, inr}
use Rattle.std.proofs.Common.{get_or, arith, rules}
use Rattle.std.specs.Prelude.{Option, Some, None, find, not}
use Rattle.std.specs.List.{AllByRecursion}
use Rattle.std.specs.Cmp.Lexicographic.{slice_cmp}
use Rattle.std.specs.Ordering.{is_lt, nat_cmp, ordering_reverse, ordering_then}
use Rattle.std.specs.declared.cmp.Ordering.TheVariants.{Less, Equal, Greater}
use Rattle.std.specs.List.Sorted.{IsPartitionedBy, IsPartitionPoint}
use Rattle.std.proofs.lemmas.Bool.{cases_Bool}
use Rattle.std.proofs.lemmas.Option.{slice_get_read}
use Rattle.lsm_tables.specs.Words.{Entry, IsStrict, front_length, is_before, is_hit, point}
use Rattle.lsm_tables.specs.Words.{read_place, same_key, version_cmp}
use Rattle.lsm_tables.proofs.TableLaws.{AllBefore, apart, before_trans, hit_key, is_false, lt_other}
use Rattle.lsm_tables.proofs.TableLaws.{number_total, pairs_of, parted, precedes_of, read_hit}
use Rattle.lsm_tables.proofs.TableLaws.{read_other, read_past, same_itself, strict_from}
use Rattle.example_store.specs.Recent.{IsPut}

-- ---- the index at which a test first fails

module _ {X : Type 0} (p : X → Bool) where
  pub place_is : (xs : List X) (n : ℕ) → n ≤ length xs
      → IsPartitionPoint (λ y. p y ≡ true) (λ y. p y ≡ false) xs n → n ≡ front_length p xs
  place_is [] n le h = omega (arith, le)
  place_is (x ∷ xs) zero le h =
      let fails : p x ≡ false = h.1 0 x (omega arith) (omega arith) in
      rw fails refl
  place_is (x ∷ xs) (suc n) le h =
      let passes : p x ≡ true = h.0 0 x (omega arith) (omega arith) in
      let more : n ≡ front_length p xs = place_is xs n (omega (arith, le)) (
        λ k d low up. h.0 (suc k) d (omega arith) (omega (arith, up)),
        λ k d low up. h.1 (suc k) d (omega (arith, low)) (omega (arith, up)),
      ) in
      let one : suc n ≡ 1 + n = omega arith in
      rw passes (one ∙ ap (λ (k : ℕ). 1 + k) more)

  pub front_all : (xs : List X) → AllByRecursion (λ y. p y ≡ true) (take (front_length p xs) xs)
  front_all [] = tt
  front_all (x ∷ xs) =
      elim (cases_Bool (p x)) [
        | inl e ↦
            let one : 1 + front_length p xs ≡ suc (front_length p xs) = omega arith in
            rw (e, one) (e, front_all xs)
        | inr e ↦ rw e tt
      ]

pub take_drop : {X : Type 0} (n : ℕ) (xs : List X) → xs ≡ take n xs ++ drop n xs
take_drop zero xs = refl
take_drop (suc n) [] = refl
take_drop {X} (suc n) (x ∷ xs) = ap (λ (ys : List X). x ∷ ys) (take_drop n xs)

-- ---- the entries before an entry

pub before_cuts : (es : List Entry) (e : Entry) → IsStrict es
    → IsPartitionedBy (λ x. is_before x e) es
before_cuts es e strict = parted (λ (x : Entry). is_before x e) es strict
    (λ a b h k. before_trans a b e h k)

-- entries that tie have the same seqno
same_number : (x y : Entry) → version_cmp x y ≡ Equal → x.seqno ≡ y.seqno
same_number x y h =
    elim (slice_cmp nat_cmp x.user_key y.user_key) as
    (λ o. ordering_then o (nat_cmp y.seqno x.seqno) ≡ Equal → x.seqno ≡ y.seqno) [
      | Less ↦ λ k. absurd cc
      | Equal ↦ λ k. number_tied y.seqno x.seqno k
      | Greater ↦ λ k. absurd cc
    ] h
  where
    number_tied : (m n : ℕ) → nat_cmp m n ≡ Equal → n ≡ m
    number_tied m n k = grind (arith, rules, k)

module _ (e : Entry) where
  -- of two different seqnos one comes before the other
  after_or : (x : Entry) → x.seqno < e.seqno → is_before x e ≡ false → is_before e x ≡ true
  after_or x less not_before =
      elim (version_cmp x e) as (λ o. version_cmp x e ≡ o → is_before e x ≡ true) [
        | Less ↦ λ h. absurd (apart (is_before x e) (ap is_lt h) not_before)
        | Equal ↦ λ h. absurd (omega (arith, less, same_number x e h))
        | Greater ↦ λ h. ap is_lt (number_total.antisymm e x ∙ ap ordering_reverse h)
      ] refl

  abbrev pub Older : List Entry → Type 0
  Older es = AllByRecursion (λ (x : Entry). x.seqno < e.seqno) es

  -- all entries after one that is not before it are after it
  behind_all : (es : List Entry) → AllBefore es → Older es
      → AllByRecursion (λ (x : Entry). is_before e x ≡ true)
      (drop (front_length (λ x. is_before x e) es) es)
  behind_all [] h older = tt
  behind_all (x ∷ xs) h older =
      elim (cases_Bool (is_before x e)) [
        | inl passes ↦
            let one : 1 + front_length (λ (y : Entry). is_before y e) xs
            ≡ suc (front_length (λ (y : Entry). is_before y e) xs) = omega arith in
            rw (passes, one) (behind_all xs h.1 older.1)
        | inr fails ↦
            let first = after_or x older.0 fails in
            rw fails (first, beyond x first xs h.0)
      ]
    where
      beyond : (x : Entry) → is_before e x ≡ true → (ys : List Entry)
          → AllByRecursion (λ (y : Entry). is_before x y ≡ true) ys
          → AllByRecursion (λ (y : Entry). is_before e y ≡ true) ys
      beyond x first [] up = tt
      beyond x first (y ∷ ys) up = (before_trans e x y first up.0, beyond x first ys up.1)

  pub all_put : (P : Entry → Type 0) (front behind : List Entry) → P e
      → AllByRecursion P (front ++ behind) → AllByRecursion P (front ++ e ∷ behind)
  all_put P [] behind own h = (own, h)
  all_put P (x ∷ front) behind own h = (h.0, all_put P front behind own h.1)

  put_before : (front behind : List Entry) → AllBefore (front ++ behind)
      → AllByRecursion (λ (x : Entry). is_before x e ≡ true) front
      → AllByRecursion (λ (x : Entry). is_before e x ≡ true) behind
      → AllBefore (front ++ e ∷ behind)
  put_before [] behind h f b = (b, h)
  put_before (x ∷ front) behind h f b = (
    all_put (λ (y : Entry). is_before x y ≡ true) front behind f.0 h.0,
    put_before front behind h.1 f.1 b,
  )

  -- inserted after the entries before it, it makes a strict list again
  pub put_strict : (es : List Entry) → IsStrict es → Older es
      → let n = front_length (λ (x : Entry). is_before x e) es in
      IsStrict (take n es ++ e ∷ drop n es)
  put_strict es strict older =
      let n = front_length (λ (x : Entry). is_before x e) es in
      strict_from (take n es ++ e ∷ drop n es)
      (put_before (take n es) (drop n es)
      (subst AllBefore (take_drop n es) (pairs_of es strict))
      (front_all (λ (x : Entry). is_before x e) es)
      (behind_all es (pairs_of es strict) older))

  -- ---- reads of the new list

  module _ (key : List ℕ) (bound : ℕ) where
    pub hit_first : (es : List Entry) → is_hit key bound e ≡ true
        → point (e ∷ es) key bound ≡ Some e
    unfolding point
    hit_first es hit = ap (λ (b : Bool). cond b (Some e) (find (is_hit key bound) es)) hit

    pub hit_later : (es : List Entry) → is_hit key bound e ≡ false
        → point (e ∷ es) key bound ≡ point es key bound
    unfolding point
    hit_later es miss = ap (λ (b : Bool). cond b (Some e) (find (is_hit key bound) es)) miss

    hidden : (x : Entry) → is_before x e ≡ true → x.seqno < e.seqno → is_hit key bound e ≡ true
        → is_hit key bound x ≡ false
    hidden x before less hit = is_false (is_hit key bound x) (λ other.
        let own : e.user_key ≡ key = hit_key key bound e hit in
        let same : x.user_key ≡ key = hit_key key bound x other in
        elim (precedes_of x e before) [
          | inl lower ↦ apart (same_key e.user_key x.user_key)
              (subst (λ (k : List ℕ). same_key e.user_key k ≡ true) (own ∙ sym same)
              (same_itself e.user_key))
              (lt_other x.user_key e.user_key lower)
          | inr newer ↦ let above = newer.1 in absurd (omega (arith, above, less))
        ])

    skipped : (x : Entry) (es fs : List Entry) → point es key bound ≡ point fs key bound
        → point (x ∷ es) key bound ≡ point (x ∷ fs) key bound
    unfolding point
    skipped x es fs same = ap (λ (o : Option Entry). cond (is_hit key bound x) (Some x) o) same

    found : (front behind : List Entry) → is_hit key bound e ≡ true
        → AllByRecursion (λ (x : Entry). is_before x e ≡ true) front → Older (front ++ behind)
        → point (front ++ e ∷ behind) key bound ≡ Some e
    unfolding point
    found [] behind hit f older = hit_first behind hit
    found (x ∷ front) behind hit f older =
        ap (λ (b : Bool). cond b (Some x) (find (is_hit key bound) (front ++ e ∷ behind)))
        (hidden x f.0 older.0 hit)
        ∙ found front behind hit f.1 older.1

    passed : (front behind : List Entry) → is_hit key bound e ≡ false
        → point (front ++ e ∷ behind) key bound ≡ point (front ++ behind) key bound
    passed [] behind miss = hit_later behind miss
    passed (x ∷ front) behind miss = skipped x (front ++ e ∷ behind) (front ++ behind)
        (passed front behind miss)

    pub read_put : (front behind : List Entry)
        → AllByRecursion (λ (x : Entry). is_before x e ≡ true) front → Older (front ++ behind)
        → point (front ++ e ∷ behind) key bound ≡ point (e ∷ (front ++ behind)) key bound
    read_put front behind f older =
        elim (cases_Bool (is_hit key bound e)) [
          | inl hit ↦ found front behind hit f older ∙ sym (hit_first (front ++ behind) hit)
          | inr miss ↦ passed front behind miss ∙ sym (hit_later (front ++ behind) miss)
        ]

    -- inserted into a list in order
    pub read_put_in : (es : List Entry) → Older es
        → let n = front_length (λ (x : Entry). is_before x e) es in
        point (take n es ++ e ∷ drop n es) key bound ≡ point (e ∷ es) key bound
    read_put_in es older =
        let n = front_length (λ (x : Entry). is_before x e) es in
        read_put (take n es) (drop n es) (front_all (λ (x : Entry). is_before x e) es)
        (subst Older (take_drop n es) older)
        ∙ ap (λ (xs : List Entry). point (e ∷ xs) key bound) (sym (take_drop n es))

-- ---- a new entry, inserted

pub is_put : (e : Entry) (es new : List Entry) (n : ℕ) → Older e es
    → n ≡ front_length (λ (x : Entry). is_before x e) es → new ≡ take n es ++ e ∷ drop n es
    → IsPut e es new
is_put e es new n older n_is is = record {
  front = take n es;
  behind = drop n es;
  old_is = take_drop n es;
  new_is = is;
  reads = λ key bound. ap (λ (xs : List Entry). point xs key bound)
      (is ∙ ap (λ (k : ℕ). take k es ++ e ∷ drop k es) n_is) ∙ read_put_in e key bound es older;
}

pub put_in_order : (e : Entry) (es new : List Entry) (n : ℕ) → IsStrict es → Older e es
    → n ≡ front_length (λ (x : Entry). is_before x e) es → new ≡ take n es ++ e ∷ drop n es
    → IsStrict new
put_in_order e es new n strict older n_is is =
    subst IsStrict (sym (is ∙ ap (λ (k : ℕ). take k es ++ e ∷ drop k es) n_is))
    (put_strict e es strict older)

-- ---- the first entry of a key, at the index after the entries not after the position of the read

module _ (es : List Entry) (key : List ℕ) (bound n : ℕ)
    (at : n ≡ front_length (λ (e : Entry). not (is_before (read_place key bound) e)) es) where
  pub found_at : (e : Entry) → n < length es → e ≡ get_or es n e → e.user_key ≡ key
      → Some e ≡ point es key bound
  found_at e within here same = read_hit es key bound n e at
      (slice_get_read es (length es) n e refl within here) same

  pub other_at : (e : Entry) → IsStrict es → n < length es → e ≡ get_or es n e
      → (e.user_key ≡ key → ⊥) → None ≡ point es key bound
  other_at e strict within here other = read_other es key bound n e strict at
      (slice_get_read es (length es) n e refl within here) other

  pub none_at : n ≤ length es → length es ≤ n → None ≡ point es key bound
  none_at within end = read_past es key bound n at (omega (arith, within, end))
