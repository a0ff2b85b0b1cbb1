-- The first match in sorted entries, by the one that stands before all others.
use Rattle.std.proofs.Common.{◌≡◌, refl, sym, ◌∙◌, ap, subst, ℕ, ◌<◌, Bool, true, false, cond, List}
use Rattle.std.proofs.Common.{[], ◌∷◌, ◌++◌, inl, inr}
use Rattle.std.specs.Prelude.{Option, Some, None, MatchOption, find, if◌then◌else◌, nat_lt}
use Rattle.std.specs.List.{AllByRecursion}
use Rattle.std.specs.Ordering.{is_gt, is_lt}
use Rattle.std.proofs.lemmas.Bool.{cases_Bool}
use Rattle.sst_entries.specs.Entry.{Entry}
use Rattle.sst_entries.specs.Key.{same_key}
use Rattle.sst_entries.specs.Point.{is_hit, point}
use Rattle.sst_entries.proofs.Booleans.{and_parts}
use Rattle.sst_entries.proofs.KeyLemmas.{same_is}
use Rattle.sst_entries.proofs.Lists.{all_more}
use Rattle.sst_entries.proofs.OrderLemmas.{less_of}
use Rattle.lsm_sorted.specs.merge.Union.{AtMost, Ascends, insert_sorted, item_cmp, sort_entries}
use Rattle.lsm_sorted.proofs.MergedLemmas.{at_most_chain, item_total}
use Rattle.lsm_sorted.proofs.UnionLemmas.{ascends_in_order}
use Rattle.lsm_sorted.specs.Leading.{leading_of}
use Rattle.lsm_runs.proofs.Rising.{at_most_of}
use Rattle.lsm_sorted.proofs.EntryKeyLemmas.{lt_reverse}

-- ---- of entries that may be there the one that stands before the others

pub other_way : (x y : Entry) → is_lt (item_cmp y x) ≡ is_gt (item_cmp x y)
other_way x y = ap is_lt (item_total.antisymm y x) ∙ lt_reverse (item_cmp x y)

leading_by : (x y z : Entry) (b c : Bool) → is_lt (item_cmp y x) ≡ b → is_lt (item_cmp z y) ≡ c
    → leading_of (if b then Some y else Some x) (Some z) ≡ leading_of (Some x)
    (if c then Some z else Some y)
leading_by x y z true true p q =
    let r : is_lt (item_cmp z x) ≡ true = ap is_lt
    (item_total.trans z y x (less_of (item_cmp z y) q) (less_of (item_cmp y x) p)) in
    ap (λ (t : Bool). if t then Some z else Some y) q
    ∙ sym (ap (λ (t : Bool). if t then Some z else Some x) r)
leading_by x y z true false p q =
    ap (λ (t : Bool). if t then Some z else Some y) q
    ∙ sym (ap (λ (t : Bool). if t then Some y else Some x) p)
leading_by x y z false true p q = refl
leading_by x y z false false p q =
    let r : is_lt (item_cmp z x) ≡ false = other_way x z
    ∙ at_most_chain x y z (sym (other_way x y) ∙ p) (sym (other_way y z) ∙ q) in
    ap (λ (t : Bool). if t then Some z else Some x) r
    ∙ sym (ap (λ (t : Bool). if t then Some y else Some x) p)

leading_none : (x y : Entry) (b : Bool)
    → leading_of (if b then Some y else Some x) None ≡ (if b then Some y else Some x)
leading_none x y true = refl
leading_none x y false = refl

pub leading_assoc : (x y z : Option Entry)
    → leading_of (leading_of x y) z ≡ leading_of x (leading_of y z)
leading_assoc None y z = refl
leading_assoc (Some x) None z = refl
leading_assoc (Some x) (Some y) None = leading_none x y (is_lt (item_cmp y x))
leading_assoc (Some x) (Some y) (Some z) = leading_by x y z (is_lt (item_cmp y x))
    (is_lt (item_cmp z y)) refl refl

pub leading_last : (x : Option Entry) → leading_of x None ≡ x
leading_last None = refl
leading_last (Some x) = refl

-- ---- the first match

module _ (key : List ℕ) (bound : ℕ) where
  hit_first : (x : Entry) (es : List Entry) → is_hit key bound x ≡ true
      → point (x ∷ es) key bound ≡ Some x
  unfolding point
  hit_first x es holds = ap (λ (b : Bool). cond b (Some x) (find (is_hit key bound) es)) holds

  hit_later : (x : Entry) (es : List Entry) → is_hit key bound x ≡ false
      → point (x ∷ es) key bound ≡ point es key bound
  unfolding point
  hit_later x es miss = ap (λ (b : Bool). cond b (Some x) (find (is_hit key bound) es)) miss

  hit_either : (x : Entry) (xs ys : List Entry) → point xs key bound ≡ point ys key bound
      → point (x ∷ xs) key bound ≡ point (x ∷ ys) key bound
  unfolding point
  hit_either x xs ys same = ap (λ (o : Option Entry). cond (is_hit key bound x) (Some x) o) same

  no_hit : point [] key bound ≡ None
  unfolding point
  no_hit = refl

  -- an entry that is at most each of some stands before any of them
  leads : (x : Entry) (es : List Entry) → AllByRecursion (AtMost x) es
      → leading_of (Some x) (point es key bound) ≡ Some x
  leads x [] all = ap (leading_of (Some x)) no_hit
  leads x (e ∷ es) all = elim (cases_Bool (is_hit key bound e)) [
    | inl holds ↦ ap (leading_of (Some x)) (hit_first e es holds)
        ∙ ap (λ (b : Bool). if b then Some e else Some x) (other_way x e ∙ all.0)
    | inr miss ↦ ap (leading_of (Some x)) (hit_later e es miss) ∙ leads x es all.1
  ]

  -- what was found is of the key
  abbrev pub IsOfKey : Option Entry → Type 0
  IsOfKey found = MatchOption found (Unit {0}) (λ (e : Entry). e.user_key ≡ key)

  hit_key : (e : Entry) → is_hit key bound e ≡ true → e.user_key ≡ key
  hit_key e holds = same_is e.user_key key
      (and_parts (same_key e.user_key key) (nat_lt e.seqno bound) holds).0

  pub point_of_key : (es : List Entry) → IsOfKey (point es key bound)
  point_of_key [] = subst IsOfKey (sym no_hit) tt
  point_of_key (e ∷ es) = elim (cases_Bool (is_hit key bound e)) [
    | inl holds ↦ subst IsOfKey (sym (hit_first e es holds)) (hit_key e holds)
    | inr miss ↦ subst IsOfKey (sym (hit_later e es miss)) (point_of_key es)
  ]

  pub leading_of_key : (x y : Option Entry) → IsOfKey x → IsOfKey y → IsOfKey (leading_of x y)
  leading_of_key None y h k = k
  leading_of_key (Some x) None h k = h
  leading_of_key (Some x) (Some y) h k = by_order (is_lt (item_cmp y x))
    where
      by_order : (b : Bool) → IsOfKey (if b then Some y else Some x)
      by_order true = k
      by_order false = h

  -- an entry of the key stands before any of some that are numbered below it
  pub leads_older : (x : Entry) (es : List Entry) → x.user_key ≡ key
      → AllByRecursion (λ (e : Entry). e.seqno < x.seqno) es
      → leading_of (Some x) (point es key bound) ≡ Some x
  leads_older x [] is older = ap (leading_of (Some x)) no_hit
  leads_older x (e ∷ es) is older = elim (cases_Bool (is_hit key bound e)) [
    | inl holds ↦ ap (leading_of (Some x)) (hit_first e es holds)
        ∙ ap (λ (b : Bool). if b then Some e else Some x) (other_way x e
        ∙ at_most_of x e (inr (is ∙ sym (hit_key e holds), older.0)))
    | inr miss ↦ ap (leading_of (Some x)) (hit_later e es miss) ∙ leads_older x es is older.1
  ]

  abbrev put : Entry → Entry → List Entry → Bool → List Entry
  put x y ys b = cond b (y ∷ insert_sorted x ys) (x ∷ y ∷ ys)

  -- a match that is put in its place
  inserted_hit : (x : Entry) (ys : List Entry) → is_hit key bound x ≡ true → Ascends ys
      → point (insert_sorted x ys) key bound ≡ leading_of (Some x) (point ys key bound)
  inserted_hit x [] holds up = hit_first x [] holds ∙ sym (ap (leading_of (Some x)) no_hit)
  inserted_hit x (y ∷ ys) holds up = elim (cases_Bool (is_gt (item_cmp x y))) [
    | inl above ↦
        let here : point (insert_sorted x (y ∷ ys)) key bound
        ≡ point (y ∷ insert_sorted x ys) key bound =
        ap (λ (b : Bool). point (put x y ys b) key bound) above in
        elim (cases_Bool (is_hit key bound y)) [
          | inl found ↦
              here
              ∙ hit_first y (insert_sorted x ys) found
              ∙ sym (ap (leading_of (Some x)) (hit_first y ys found)
              ∙ ap (λ (b : Bool). if b then Some y else Some x) (other_way x y ∙ above))
          | inr none ↦
              here
              ∙ hit_later y (insert_sorted x ys) none
              ∙ inserted_hit x ys holds up.1
              ∙ sym (ap (leading_of (Some x)) (hit_later y ys none))
        ]
    | inr under ↦
        ap (λ (b : Bool). point (put x y ys b) key bound) under
        ∙ hit_first x (y ∷ ys) holds
        ∙ sym (leads x (y ∷ ys) (
          under,
          all_more (AtMost y) (AtMost x)
              (λ z le. at_most_chain x y z under le) ys up.0,
        ))
  ]

  -- an entry that is none
  inserted_miss : (x : Entry) (ys : List Entry) → is_hit key bound x ≡ false
      → point (insert_sorted x ys) key bound ≡ point ys key bound
  inserted_miss x [] miss = hit_later x [] miss
  inserted_miss x (y ∷ ys) miss = elim (cases_Bool (is_gt (item_cmp x y))) [
    | inl above ↦ ap (λ (b : Bool). point (put x y ys b) key bound) above
        ∙ hit_either y (insert_sorted x ys) ys (inserted_miss x ys miss)
    | inr under ↦ ap (λ (b : Bool). point (put x y ys b) key bound) under
        ∙ hit_later x (y ∷ ys) miss
  ]

  -- of a sorted list and others
  pub leading_sorted : (es rest : List Entry) → Ascends es
      → point (sort_entries (es ++ rest)) key bound ≡ leading_of (point es key bound)
      (point (sort_entries rest) key bound)
  leading_sorted [] rest up = sym (ap (λ (o : Option Entry). leading_of o
      (point (sort_entries rest) key bound)) no_hit)
  leading_sorted (x ∷ es) rest up =
      let others = point (sort_entries rest) key bound in
      let more = leading_sorted es rest up.1 in
      elim (cases_Bool (is_hit key bound x)) [
        | inl holds ↦
            inserted_hit x (sort_entries (es ++ rest)) holds (ascends_in_order (es ++ rest))
            ∙ ap (leading_of (Some x)) more
            ∙ sym (leading_assoc (Some x) (point es key bound) others)
            ∙ ap (λ (o : Option Entry). leading_of o others)
            (leads x es up.0 ∙ sym (hit_first x es holds))
        | inr miss ↦
            inserted_miss x (sort_entries (es ++ rest)) miss
            ∙ more
            ∙ ap (λ (o : Option Entry). leading_of o others) (sym (hit_later x es miss))
      ]
