-- A reader at the watermark or above sees the same before and after a compaction.
use Rattle.std.proofs.Common.{◌≡◌, refl, sym, ◌∙◌, ap, subst, ℕ, ◌<◌, ◌≤◌, ◌⊎◌, inl, inr, Bool}
use Rattle.std.proofs.Common.{true, false, cond, ◌&&◌, nat_lt, List, [], ◌∷◌, ◌++◌, length, arith}
use Rattle.std.proofs.Common.{zero, suc}
use Rattle.std.specs.Prelude.{Option, Some, None, Ok}
use Rattle.std.specs.List.{AllByRecursion}
use Rattle.std.proofs.lemmas.Bool.Decides.{nat_tests}
use Rattle.sst_entries.specs.Entry.{Entry}
use Rattle.sst_entries.specs.Kind.{is_tombstone_kind}
use Rattle.sst_entries.specs.Key.{same_key, key_lt}
use Rattle.sst_entries.specs.Stream.{first, ok_results}
use Rattle.sst_entries.specs.declared.value_type.ValueType.{ValueType}
use Rattle.sst_entries.specs.declared.value_type.ValueType.TheVariants.{Value, Tombstone}
use Rattle.sst_entries.specs.declared.value_type.ValueType.TheVariants.{WeakTombstone, Indirection}
use Rattle.lsm_sorted.specs.merge.Ends.{R}
use Rattle.lsm_sorted.specs.merge.Union.{entries_among}
use Rattle.sst_entries.specs.Point.{is_hit, point}
use Rattle.lsm_sorted.specs.Point.{shown}
use Rattle.lsm_sorted.specs.declared.compaction.Rules.{Rules}
use Rattle.lsm_sorted.specs.Compaction.{JudgedItem, goes, zeroed, outs, kept, as_is, unfiltered}
use Rattle.lsm_sorted.specs.ReadLaw.{IsServed, ReadLaw}
use Rattle.lsm_sorted.proofs.Hits.{first_hit, hit_shown}
use Rattle.sst_entries.proofs.KeyLemmas.{KeyLe, same_is, same_itself, lt_other, le_other, lt_le}
use Rattle.lsm_sorted.proofs.NewestLemmas.{KeysUp, keys_up}
use Rattle.lsm_sorted.proofs.OutsLemmas.{AllOf, follows_in, open_outs, close_outs}
use Rattle.sst_entries.proofs.Booleans.{apart, and_parts}

-- the versions of a key in front, and what is after them
pub record Split (key : List ℕ) (es : List Entry) : Type 0 where
  pub own : List Entry
  pub rest : List Entry
  pub is : es ≡ own ++ rest
  pub all : AllOf key own
  pub over : follows_in key (ok_results (unfiltered rest)) ≡ false

pub split : (key : List ℕ) (es : List Entry) → Split key es
split key [] = record { own = []; rest = []; is = refl; all = tt; over = refl }
split key (e ∷ es) =
    let s = split key es in
    elim (same_key e.user_key key) as (λ b. same_key e.user_key key ≡ b → Split key (e ∷ es)) [
      | true ↦ λ h. record {
        own = e ∷ s.own;
        rest = s.rest;
        is =
            ap (λ (ys : List Entry). e ∷ ys) s.is;
        all = (same_is e.user_key key h, s.all);
        over =
            s.over;
      }
      | false ↦ λ h. record { own = []; rest = e ∷ es; is = refl; all = tt; over = h }
    ] refl

unfiltered_append : (xs ys : List Entry)
    → ok_results (unfiltered (xs ++ ys)) ≡ ok_results (unfiltered xs) ++ ok_results (unfiltered ys)
unfiltered_append [] ys = refl
unfiltered_append (x ∷ xs) ys = ap (λ (js : List JudgedItem). Ok (as_is x) ∷ js)
    (unfiltered_append xs ys)

-- the first version of a key, and then others
module _ (rules : Rules) (x : Entry) where
  abbrev pub open_kept : Entry → List Entry → Type 0
  open_kept y es = kept rules (unfiltered (x ∷ y ∷ es)) ≡ zeroed rules x
      ∷ kept rules (unfiltered (y ∷ es))

  pub kept_open : (y : Entry) (es : List Entry) → same_key y.user_key x.user_key ≡ true
      → nat_lt x.seqno rules.watermark ≡ false → open_kept y es
  kept_open y es same high = ap entries_among (open_outs rules (as_is x) x refl (as_is y) same high
      (ok_results (unfiltered es)))

  abbrev pub left_alone : List Entry → List Entry
  left_alone own = cond (goes rules.evict x.kind (first own)) [] (zeroed rules x ∷ [])

  listed_alone : (own : List Entry) (rs : List R)
      → entries_among (cond (goes rules.evict x.kind (first own)) [] (Ok (zeroed rules x) ∷ [])
      ++ rs) ≡ left_alone own ++ entries_among rs
  listed_alone own rs = elim (goes rules.evict x.kind (first own)) as
      (λ b. entries_among (cond b [] (Ok (zeroed rules x) ∷ []) ++ rs)
      ≡ cond b [] (zeroed rules x ∷ []) ++ entries_among rs) [ true ↦ refl | false ↦ refl ]

  pub kept_close : (own rest : List Entry) → AllOf x.user_key own
      → follows_in x.user_key (ok_results (unfiltered rest)) ≡ false
      → (nat_lt x.seqno rules.watermark ≡ true) ⊎ (own ≡ [])
      → kept rules (unfiltered (x ∷ (own ++ rest))) ≡ left_alone own ++ kept rules (unfiltered rest)
  kept_close own [] all over last =
      ap (λ (js : List JudgedItem). entries_among (outs rules (Ok (as_is x) ∷ js)))
      (unfiltered_append own [])
      ∙ ap entries_among (close_outs x.user_key [] over rules (as_is x) x refl own refl all last)
      ∙ listed_alone own []
  kept_close own (e ∷ es) all over last =
      let js = ok_results (unfiltered (e ∷ es)) in
      ap (λ (ks : List JudgedItem). entries_among (outs rules (Ok (as_is x) ∷ ks)))
      (unfiltered_append own (e ∷ es))
      ∙ ap entries_among (close_outs x.user_key js over rules (as_is x) x refl own refl all last)
      ∙ listed_alone own (outs rules js)

-- a head that goes is a tombstone
pub goes_dead : (evict : Bool) (kind : ValueType) (next : Option Entry)
    → goes evict kind next ≡ true → is_tombstone_kind kind ≡ true
goes_dead evict Value next h = absurd cc
goes_dead evict Tombstone next h = refl
goes_dead evict WeakTombstone next h = refl
goes_dead evict Indirection next h = absurd cc

-- lists without the key
abbrev pub NoneOf : List ℕ → List Entry → Type 0
NoneOf key es = AllByRecursion (λ e. same_key e.user_key key ≡ false) es

pub none_seen : (key : List ℕ) (bound : ℕ) (es : List Entry) → NoneOf key es
    → first_hit es key bound ≡ None
none_seen key bound [] h = refl
none_seen key bound (e ∷ es) h = ap (λ (b : Bool). cond (b && nat_lt e.seqno bound) (Some e)
    (first_hit es key bound)) h.0 ∙ none_seen key bound es h.1

pub none_before : (key : List ℕ) (bound : ℕ) (es rest : List Entry) → NoneOf key es
    → first_hit (es ++ rest) key bound ≡ first_hit rest key bound
none_before key bound [] rest h = refl
none_before key bound (e ∷ es) rest h = ap (λ (b : Bool). cond (b && nat_lt e.seqno bound) (Some e)
    (first_hit (es ++ rest) key bound)) h.0 ∙ none_before key bound es rest h.1

pub none_of_other : (key other : List ℕ) (es : List Entry) → AllOf other es
    → same_key other key ≡ false → NoneOf key es
none_of_other key other [] all h = tt
none_of_other key other (e ∷ es) all h = (
  subst (λ (k : List ℕ). same_key k key ≡ false)
      (sym all.0) h,
  none_of_other key other es all.1 h,
)

-- keys above another
above_none : (key least : List ℕ) (es : List Entry) → key_lt key least ≡ true
    → AllByRecursion (λ y. KeyLe least y.user_key) es → NoneOf key es
above_none key least [] h all = tt
above_none key least (e ∷ es) h all = (
  lt_other key e.user_key
      (lt_le key least e.user_key h all.0),
  above_none key least es h all.1,
)

pub rest_none : (key : List ℕ) (es : List Entry) → KeysUp es
    → AllByRecursion (λ y. KeyLe key y.user_key) es
    → follows_in key (ok_results (unfiltered es)) ≡ false → NoneOf key es
rest_none key [] up all over = tt
rest_none key (e ∷ es) up all over = (
  over,
  above_none key e.user_key es
      (le_other key e.user_key all.0 over) up.0,
)

pub all_rest : (P : Entry → Type 0) (xs ys : List Entry) → AllByRecursion P (xs ++ ys)
    → AllByRecursion P ys
all_rest P [] ys h = h
all_rest P (x ∷ xs) ys h = all_rest P xs ys h.1

pub up_rest : (xs ys : List Entry) → KeysUp (xs ++ ys) → KeysUp ys
up_rest [] ys h = h
up_rest (x ∷ xs) ys h = up_rest xs ys h.1

pub length_rest : (xs ys : List Entry) (n : ℕ) → length (xs ++ ys) ≤ n → length ys ≤ n
length_rest [] ys n h = h
length_rest (x ∷ xs) ys n h = length_rest xs ys n (omega arith)

-- a number below both
pub zero_hit : (a b : Bool) (n bound : ℕ) → nat_lt n bound ≡ true
    → nat_lt (cond (a && b) 0 n) bound ≡ true
zero_hit a b n bound h = elim (a && b) as (λ t. nat_lt (cond t 0 n) bound ≡ true)
    [ true ↦ grind (arith, nat_tests) | false ↦ h ]

pub high_same : (a b : Bool) (n : ℕ) → b ≡ false → cond (a && b) 0 n ≡ n
high_same a b n h = elim a as (λ t. cond (t && b) 0 n ≡ n)
    [ true ↦ ap (λ (u : Bool). cond u 0 n) h | false ↦ refl ]

pub and_not : (a b : Bool) → a && b ≡ false → (a ≡ false) ⊎ ((a ≡ true) × (b ≡ false))
and_not false b h = inl refl
and_not true true h = absurd cc
and_not true false h = inr (refl, refl)

pub not_under : (n low bound : ℕ) → low ≤ bound → nat_lt n bound ≡ false → nat_lt n low ≡ false
not_under n low bound h k = grind (arith, nat_tests)

not_below : (n bound : ℕ) → n < bound → nat_lt n bound ≡ false → ⊥
not_below n bound h k = grind (arith, nat_tests)

module _ (rules : Rules) (key : List ℕ) (bound : ℕ) where
  abbrev pub Same : List Entry → Type 0
  Same es = hit_shown (kept rules (unfiltered es)) key bound ≡ hit_shown es key bound

  served_rest : (xs ys : List Entry) → IsServed rules.watermark (xs ++ ys) key bound
      → IsServed rules.watermark ys key bound
  served_rest xs ys h = elim h [
    | inl w ↦ inl w
    | inr below ↦
        inr (all_rest (λ e. same_key e.user_key key ≡ true → e.seqno < bound) xs ys below)
  ]

  -- an entry in front, hit or not
  seen_hit : (x : Entry) (es : List Entry) → is_hit key bound x ≡ true
      → hit_shown (x ∷ es) key bound ≡ shown (Some x)
  seen_hit x es h = ap (λ (b : Bool). shown (cond b (Some x) (first_hit es key bound))) h

  seen_miss : (x : Entry) (es : List Entry) → is_hit key bound x ≡ false
      → hit_shown (x ∷ es) key bound ≡ hit_shown es key bound
  seen_miss x es h = ap (λ (b : Bool). shown (cond b (Some x) (first_hit es key bound))) h

  -- a head at the watermark or above, before others that stay
  same_open : (x : Entry) (es : List Entry) → nat_lt x.seqno rules.watermark ≡ false
      → kept rules (unfiltered (x ∷ es)) ≡ zeroed rules x ∷ kept rules (unfiltered es) → Same es
      → Same (x ∷ es)
  same_open x es high is same =
      let number : (zeroed rules x).seqno ≡ x.seqno =
      high_same rules.zeroing (nat_lt x.seqno rules.watermark) x.seqno high in
      let hit : is_hit key bound (zeroed rules x) ≡ is_hit key bound x =
      ap (λ (n : ℕ). same_key x.user_key key && nat_lt n bound) number in
      ap (λ (ys : List Entry). hit_shown ys key bound) is
      ∙ elim (is_hit key bound x) as (λ b. is_hit key bound x ≡ b
      → hit_shown (zeroed rules x ∷ kept rules (unfiltered es)) key bound
      ≡ hit_shown (x ∷ es) key bound) [
        | true ↦ λ e. seen_hit (zeroed rules x) (kept rules (unfiltered es)) (hit ∙ e)
            ∙ sym (seen_hit x es e)
        | false ↦ λ e. seen_miss (zeroed rules x) (kept rules (unfiltered es)) (hit ∙ e) ∙ same
            ∙ sym (seen_miss x es e)
      ] refl

  module _ (x : Entry) (own rest : List Entry) (up : KeysUp (x ∷ (own ++ rest)))
      (all : AllOf x.user_key own) (over : follows_in x.user_key (ok_results (unfiltered rest))
      ≡ false) (last : (nat_lt x.seqno rules.watermark ≡ true) ⊎ (own ≡ [])) (same : Same rest)
    where
      out : kept rules (unfiltered (x ∷ (own ++ rest))) ≡ left_alone rules x own
          ++ kept rules (unfiltered rest)
      out = kept_close rules x own rest all over last

      -- the head is what the reader hits
      closed_hit : is_hit key bound x ≡ true → Same (x ∷ (own ++ rest))
      closed_hit hit =
          let two = and_parts (same_key x.user_key key) (nat_lt x.seqno bound) hit in
          let still : is_hit key bound (zeroed rules x) ≡ true =
          ap (λ (b : Bool). b && nat_lt (zeroed rules x).seqno bound) two.0
          ∙ zero_hit rules.zeroing (nat_lt x.seqno rules.watermark) x.seqno bound two.1 in
          let none : NoneOf key rest = subst (λ (k : List ℕ). NoneOf k rest)
          (same_is x.user_key key two.0) (rest_none x.user_key rest (up_rest own rest up.1)
          (all_rest (λ y. KeyLe x.user_key y.user_key) own rest up.0) over) in
          ap (λ (ys : List Entry). hit_shown ys key bound) out
          ∙ elim (goes rules.evict x.kind (first own)) as
          (λ b. goes rules.evict x.kind (first own) ≡ b
          → hit_shown (cond b [] (zeroed rules x ∷ []) ++ kept rules (unfiltered rest)) key
          bound ≡ shown (Some x)) [
            | true ↦ λ e. same ∙ ap shown (none_seen key bound rest none)
                ∙ sym (ap (λ (b : Bool). cond b None (Some (x.kind, x.value)))
                (goes_dead rules.evict x.kind (first own) e))
            | false ↦ λ e. seen_hit (zeroed rules x) (kept rules (unfiltered rest)) still
          ] refl ∙ sym (seen_hit x (own ++ rest) hit)

      -- the reader hits neither the head nor what follows of its key
      closed_miss : is_hit key bound x ≡ false → is_hit key bound (zeroed rules x) ≡ false
          → first_hit (own ++ rest) key bound ≡ first_hit rest key bound → Same (x ∷ (own ++ rest))
      closed_miss miss still past =
          ap (λ (ys : List Entry). hit_shown ys key bound) out
          ∙ elim (goes rules.evict x.kind (first own)) as
          (λ b. hit_shown (cond b [] (zeroed rules x ∷ []) ++ kept rules (unfiltered rest)) key
          bound ≡ hit_shown (kept rules (unfiltered rest)) key bound) [
            | true ↦ refl
            | false ↦ seen_miss (zeroed rules x) (kept rules (unfiltered rest)) still
          ] ∙ same ∙ sym (seen_miss x (own ++ rest) miss ∙ ap shown past)

      -- a reader is served, so it hits the head, or an older version is not of its key
      closed_past : IsServed rules.watermark (x ∷ (own ++ rest)) key bound
          → is_hit key bound x ≡ false → Same (x ∷ (own ++ rest))
      closed_past served miss =
          elim (and_not (same_key x.user_key key) (nat_lt x.seqno bound) miss) [
            | inl other ↦ closed_miss miss (ap (λ (b : Bool). b
                && nat_lt (zeroed rules x).seqno bound) other)
                (none_before key bound own rest (none_of_other key x.user_key own all other))
            | inr both ↦ elim served [
              | inl reads ↦
                  let high : nat_lt x.seqno rules.watermark ≡ false =
                  not_under x.seqno rules.watermark bound reads both.1 in
                  let alone : own ≡ [] = elim last [
                    | inl low ↦
                        absurd (apart (nat_lt x.seqno rules.watermark) low high)
                    | inr none ↦
                        none
                  ] in
                  let number : (zeroed rules x).seqno ≡ x.seqno =
                  high_same rules.zeroing (nat_lt x.seqno rules.watermark) x.seqno high in
                  closed_miss miss (ap (λ (n : ℕ). same_key x.user_key key && nat_lt n bound) number
                  ∙ miss) (ap (λ (ys : List Entry). first_hit (ys ++ rest) key bound) alone)
              | inr below ↦ absurd (not_below x.seqno bound (below.0 both.0) both.1)
            ]
          ]

      closed : IsServed rules.watermark (x ∷ (own ++ rest)) key bound → Same (x ∷ (own ++ rest))
      closed served = elim (is_hit key bound x) as
          (λ b. is_hit key bound x ≡ b → Same (x ∷ (own ++ rest)))
          [ true ↦ λ e. closed_hit e | false ↦ λ e. closed_past served e ] refl

  -- by the number of entries
  pub same_within : (n : ℕ) (es : List Entry) → length es ≤ n → KeysUp es
      → IsServed rules.watermark es key bound → Same es
  same_within n [] few up served = refl
  same_within zero (x ∷ es) few up served = absurd (omega arith)
  same_within (suc n) (x ∷ es) few up served =
      let s = split x.user_key es in
      let few_rest : length es ≤ n = omega arith in
      let closes : (nat_lt x.seqno rules.watermark ≡ true) ⊎ (s.own ≡ []) → Same (x ∷ es) = λ last.
      let few' : length s.rest ≤ n = length_rest s.own s.rest n
      (subst (λ (ys : List Entry). length ys ≤ n) s.is few_rest) in
      let up' : KeysUp (x ∷ (s.own ++ s.rest)) = subst
      (λ (ys : List Entry). KeysUp (x ∷ ys)) s.is up in
      let served' : IsServed rules.watermark (x ∷ (s.own ++ s.rest)) key bound =
      subst (λ (ys : List Entry). IsServed rules.watermark (x ∷ ys) key bound) s.is served in
      let deeper : Same s.rest = same_within n s.rest few' (up_rest s.own s.rest up'.1)
      (served_rest (x ∷ s.own) s.rest served') in
      subst (λ (ys : List Entry). Same (x ∷ ys)) (sym s.is)
      (closed x s.own s.rest up' s.all s.over last deeper served') in
      elim (nat_lt x.seqno rules.watermark) as (λ b. nat_lt x.seqno rules.watermark ≡ b
      → Same (x ∷ es)) [
        | true ↦ λ low. closes (inl low)
        | false ↦ λ high. elim s.own as (λ own. s.own ≡ own → Same (x ∷ es)) [
          | [] ↦ λ e. closes (inr e)
          | y ∷ ys ↦ λ e.
              let whole : es ≡ y ∷ (ys ++ s.rest) = s.is
              ∙ ap (λ (zs : List Entry). zs ++ s.rest) e in
              let its : AllOf x.user_key (y ∷ ys) = subst (AllOf x.user_key) e s.all in
              let same_first : same_key y.user_key x.user_key ≡ true =
              subst (λ (k : List ℕ). same_key y.user_key k ≡ true) its.0
              (same_itself y.user_key) in
              let deeper : Same es = same_within n es few_rest up.1
              (served_rest (x ∷ []) es served) in
              same_open x es high (subst (λ (zs : List Entry). kept rules (unfiltered (x ∷ zs))
              ≡ zeroed rules x ∷ kept rules (unfiltered zs)) (sym whole)
              (kept_open rules x y (ys ++ s.rest) same_first high)) deeper
        ] refl
      ] refl

pub reads_alike : ReadLaw
unfolding point
reads_alike rules es up key bound served = same_within rules key bound (length es) es (omega arith)
    (keys_up es up) served
