-- What is kept of a list in order comes in order, whatever a filter says of its entries.
use Rattle.std.proofs.Common.{◌≡◌, refl, sym, ◌∙◌, ap, subst, ℕ, ◌<◌, ◌≤◌, ◌-◌, ◌^◌, ◌⊎◌, inl, inr}
use Rattle.std.proofs.Common.{true, false, cond, ◌&&◌, nat_lt, List, [], ◌∷◌, ◌++◌, arith}
use Rattle.std.proofs.Common.{Bool, zero, suc, length, append_assoc, length-append}
use Rattle.std.specs.Prelude.{Option, Some, None, Result, Ok, Err}
use Rattle.std.specs.List.{AllByRecursion}
use Rattle.sst_entries.specs.Entry.{Entry}
use Rattle.sst_entries.specs.Key.{same_key, key_lt}
use Rattle.sst_entries.specs.Stream.{first, ok_results}
use Rattle.sst_entries.specs.declared.error.Error.{Error}
use Rattle.lsm_sorted.specs.merge.Ends.{R}
use Rattle.lsm_sorted.specs.merge.Union.{entries_among}
use Rattle.lsm_sorted.proofs.Pairs.{Precedes, Strict}
use Rattle.lsm_sorted.specs.declared.compaction.Rules.{Rules}
use Rattle.lsm_sorted.specs.Compaction.{Judged, Verdict, Versions, before, by_key, concat_by}
use Rattle.lsm_sorted.specs.Compaction.{drop, entries, expired, given, gone, heads, is_cut, keep, kept}
use Rattle.lsm_sorted.specs.Compaction.{head_given, outs, outs_of, replace, returned}
use Rattle.lsm_sorted.specs.Compaction.{is_left, unfiltered, zeroed}
use Rattle.sst_entries.proofs.KeyLemmas.{KeyLe, same_is, same_itself, le_itself}
use Rattle.sst_entries.proofs.OrderLemmas.{lt_trans}
use Rattle.sst_entries.proofs.Booleans.{apart, is_false}
use Rattle.sst_entries.proofs.Lists.{all_append, all_behind, all_front}
use Rattle.lsm_sorted.proofs.OutsLemmas.{begins, dropped_outs, failed_outs, follows_in, judged, open_outs}
use Rattle.lsm_sorted.proofs.ReadLemmas.{NoneOf, rest_none}
use Rattle.lsm_sorted.proofs.KeptLemmas.{strict_rest, strict_up, zeroed_below}

-- each entry precedes those behind it, and each number is below the largest one
abbrev pub HasLowNumber : Entry → Type 0
HasLowNumber e = e.seqno < 2 ^ 64 - 1

pub record Ordered (es : List Entry) : Type 0 where
  pub pairs : Strict es
  pub low : AllByRecursion HasLowNumber es

-- ---- some entries are left out, or one takes the place of another

skip_all : (P : Entry → Type 0) (ws own left : List Entry)
    → AllByRecursion P (ws ++ (own ++ left)) → AllByRecursion P (ws ++ left)
skip_all P ws own left h = all_append P ws left (all_front P ws (own ++ left) h)
    (all_behind P own left (all_behind P ws (own ++ left) h))

skip_strict : (ws own left : List Entry) → Strict (ws ++ (own ++ left)) → Strict (ws ++ left)
skip_strict [] own left h = strict_rest own left h
skip_strict (w ∷ ws) own left h =
    (skip_all (Precedes w) ws own left h.0, skip_strict ws own left h.1)

pub skipped : (ws own left : List Entry) → Ordered (ws ++ (own ++ left)) → Ordered (ws ++ left)
skipped ws own left h = record {
  pairs = skip_strict ws own left h.pairs;
  low = skip_all HasLowNumber ws own left h.low;
}

-- an entry of the same key, whose number is no greater
pub record IsNoNewer (x y : Entry) : Type 0 where
  pub key_is : x.user_key ≡ y.user_key
  pub number : x.seqno ≤ y.seqno

pub precedes_under : (w x y : Entry) → IsNoNewer x y → Precedes w y → Precedes w x
precedes_under w x y u h = elim h [
  | inl lower ↦ inl (subst (λ (k : List ℕ). key_lt w.user_key k ≡ true) (sym u.key_is) lower)
  | inr newer ↦ inr
      (newer.0 ∙ sym u.key_is, let a = u.number in let b = newer.1 in omega (arith, a, b))
]

place_all : (P : Entry → Type 0) (ws : List Entry) (y x : Entry) (own left : List Entry)
    → (P y → P x) → AllByRecursion P (ws ++ y ∷ (own ++ left)) → AllByRecursion P (ws ++ x ∷ left)
place_all P ws y x own left more h =
    let behind = all_behind P ws (y ∷ (own ++ left)) h in
    all_append P ws (x ∷ left) (all_front P ws (y ∷ (own ++ left)) h)
    (more behind.0, all_behind P own left behind.1)

place_strict : (ws : List Entry) (y x : Entry) (own left : List Entry) → IsNoNewer x y
    → AllByRecursion (Precedes x) left → Strict (ws ++ y ∷ (own ++ left)) → Strict (ws ++ x ∷ left)
place_strict [] y x own left under all h = (all, strict_rest own left h.1)
place_strict (w ∷ ws) y x own left under all h = (
  place_all (Precedes w) ws y x own left (precedes_under w x y under) h.0,
  place_strict ws y x own left under all h.1,
)

pub placed : (ws : List Entry) (y x : Entry) (own left : List Entry) → IsNoNewer x y
    → AllByRecursion (Precedes x) left → Ordered (ws ++ y ∷ (own ++ left))
    → Ordered (ws ++ x ∷ left)
placed ws y x own left under all h = record {
  pairs = place_strict ws y x own left under all h.pairs;
  low = place_all HasLowNumber ws y x own left
      (λ small. let a = under.number in omega (arith, a, small)) h.low;
}

-- ---- what stands behind an entry

behind_strict : (ws : List Entry) (y : Entry) (es : List Entry) → Strict (ws ++ y ∷ es)
    → Strict (y ∷ es)
behind_strict ws y es h = strict_rest ws (y ∷ es) h

as_early : (x y : Entry) (es : List Entry) → x.user_key ≡ y.user_key → x.seqno ≡ y.seqno
    → AllByRecursion (Precedes y) es → AllByRecursion (Precedes x) es
as_early x y [] key number h = tt
as_early x y (e ∷ es) key number h = (
  elim h.0 [
    | inl lower ↦ inl (subst (λ (k : List ℕ). key_lt k e.user_key ≡ true) (sym key) lower)
    | inr newer ↦ inr
        (key ∙ newer.0, subst (λ (n : ℕ). e.seqno < n) (sym number) newer.1)
  ],
  as_early x y es key number h.1,
)

other_keys : (x y : Entry) (es : List Entry) → x.user_key ≡ y.user_key
    → AllByRecursion (Precedes y) es → NoneOf y.user_key es → AllByRecursion (Precedes x) es
other_keys x y [] key h none = tt
other_keys x y (e ∷ es) key h none = (
  elim h.0 [
    | inl lower ↦ inl (subst (λ (k : List ℕ). key_lt k e.user_key ≡ true) (sym key) lower)
    | inr newer ↦ absurd (apart (same_key e.user_key y.user_key)
        (subst (λ (k : List ℕ). same_key e.user_key k ≡ true) (sym newer.0)
        (same_itself e.user_key)) none.0)
  ],
  other_keys x y es key h.1 none.1,
)

le_before : (x y : Entry) → Precedes x y → KeyLe x.user_key y.user_key
le_before x y h = elim h [
  | inl lower ↦ is_false (key_lt y.user_key x.user_key)
      (λ above. apart (key_lt x.user_key x.user_key)
      (lt_trans x.user_key y.user_key x.user_key lower above) (le_itself x.user_key))
  | inr newer ↦ subst (λ (k : List ℕ). KeyLe x.user_key k) newer.0 (le_itself x.user_key)
]

all_le : (x : Entry) (es : List Entry) → AllByRecursion (Precedes x) es
    → AllByRecursion (λ y. KeyLe x.user_key y.user_key) es
all_le x [] h = tt
all_le x (e ∷ es) h = (le_before x e h.0, all_le x es h.1)

zeroed_same : (rules : Rules) (e : Entry) → nat_lt e.seqno rules.watermark ≡ false
    → (zeroed rules e).seqno ≡ e.seqno
zeroed_same rules e h = elim rules.zeroing as
    (λ t. cond (t && nat_lt e.seqno rules.watermark) 0 e.seqno ≡ e.seqno)
    [ true ↦ ap (λ (u : Bool). cond u 0 e.seqno) h | false ↦ refl ]

-- ---- the versions of a key in front

-- those of this key, and the others
record Split (key : List ℕ) (js : List Judged) : Type 0 where
  pub own : List Judged
  pub rest : List Judged
  pub is : js ≡ own ++ rest
  pub all : AllByRecursion (λ j. j.entry.user_key ≡ key) own
  pub over : follows_in key (ok_results rest) ≡ false

split_at : (key : List ℕ) (js : List Judged) → Split key js
split_at key [] = record { own = []; rest = []; is = refl; all = tt; over = refl }
split_at key (j ∷ js) =
    let s = split_at key js in
    elim (same_key j.entry.user_key key) as
    (λ b. same_key j.entry.user_key key ≡ b → Split key (j ∷ js)) [
      | true ↦ λ e. record {
        own = j ∷ s.own;
        rest = s.rest;
        is = ap (λ (ks : List Judged). j ∷ ks) s.is;
        all = (same_is j.entry.user_key key e, s.all);
        over = s.over;
      }
      | false ↦ λ e. record { own = []; rest = j ∷ js; is = refl; all = tt; over = e }
    ] refl

entries_joined : (js ks : List Judged) → entries (js ++ ks) ≡ entries js ++ entries ks
entries_joined [] ks = refl
entries_joined (j ∷ js) ks = ap (λ (es : List Entry). j.entry ∷ es) (entries_joined js ks)

-- the versions of a key, where others follow, stand alone
own_alone : (j : Judged) (rest : List Judged)
    → follows_in j.entry.user_key (ok_results rest) ≡ false
    → by_key (Ok j ∷ ok_results rest)
    ≡ record { versions = j ∷ []; error = None } ∷ by_key (ok_results rest)
own_alone j [] over = refl
own_alone j (k ∷ ks) over =
    let b = begins k (ok_results ks) in
    let v : Versions = record { versions = k ∷ b.more; error = b.error } in
    subst (λ (vs : List Versions). before j vs
    ≡ record { versions = j ∷ []; error = None } ∷ vs) (sym b.is)
    (ap (λ (t : Bool). cond t (record { versions = j ∷ v.versions; error = v.error } ∷ b.others)
    (record { versions = j ∷ []; error = None } ∷ v ∷ b.others)) over)

own_first : (j : Judged) (own rest : List Judged)
    → AllByRecursion (λ k. k.entry.user_key ≡ j.entry.user_key) own
    → follows_in j.entry.user_key (ok_results rest) ≡ false
    → by_key (ok_results (j ∷ (own ++ rest)))
    ≡ record { versions = j ∷ own; error = None } ∷ by_key (ok_results rest)
own_first j [] rest all over = own_alone j rest over
own_first j (k ∷ own) rest all over =
    let more = own_first k own rest (same_all own all.1)
    (subst (λ (q : List ℕ). follows_in q (ok_results rest) ≡ false) (sym all.0) over) in
    let same : same_key k.entry.user_key j.entry.user_key ≡ true =
    subst (λ (q : List ℕ). same_key k.entry.user_key q ≡ true) all.0
    (same_itself k.entry.user_key) in
    ap (before j) more
    ∙ ap (λ (t : Bool). cond t (record { versions = j ∷ k ∷ own; error = None }
    ∷ by_key (ok_results rest)) (record { versions = j ∷ []; error = None }
    ∷ record { versions = k ∷ own; error = None } ∷ by_key (ok_results rest))) same
  where
    same_all : (ks : List Judged) → AllByRecursion (λ i. i.entry.user_key ≡ j.entry.user_key) ks
        → AllByRecursion (λ i. i.entry.user_key ≡ k.entry.user_key) ks
    same_all [] h = tt
    same_all (i ∷ ks) h = (h.0 ∙ sym all.0, same_all ks h.1)

module _ (rules : Rules) where
  -- the only head of its key
  own_kept : (j : Judged) (y : Entry) → returned j ≡ Ok (Some y) → (own rest : List Judged)
      → AllByRecursion (λ k. k.entry.user_key ≡ j.entry.user_key) own
      → follows_in j.entry.user_key (ok_results rest) ≡ false
      → (nat_lt j.entry.seqno rules.watermark ≡ true) ⊎ (own ≡ [])
      → kept rules (j ∷ (own ++ rest)) ≡ cond (gone rules (first (entries (cond
      (is_cut rules.watermark j) own (expired rules.watermark own)))) None y) []
      (zeroed rules y ∷ []) ++ kept rules rest
  own_kept j y left own rest all over last =
      let behind : List R = outs rules (ok_results rest) in
      let o = first (entries (cond (is_cut rules.watermark j) own
      (expired rules.watermark own))) in
      ap (λ (vs : List Versions). entries_among (concat_by (outs_of rules) vs))
      (own_first j own rest all over)
      ∙ ap (λ (hs : List Judged). entries_among ((given rules (gone rules o None) (j ∷ hs) ++ [])
      ++ behind)) (no_heads last)
      ∙ ap (λ (t : Result (Option Entry) Error).
      entries_among ((head_given rules (gone rules o None) t ++ []) ++ behind)) left
      ∙ elim (gone rules o None y) as
      (λ b. entries_among ((cond b [] (Ok (zeroed rules y) ∷ []) ++ []) ++ behind)
      ≡ cond b [] (zeroed rules y ∷ []) ++ entries_among behind) [ true ↦ refl | false ↦ refl ]
    where
      no_heads : (nat_lt j.entry.seqno rules.watermark ≡ true) ⊎ (own ≡ [])
          → cond (is_cut rules.watermark j) [] (heads rules.watermark own) ≡ []
      no_heads (inl low) = ap (λ (t : Bool). cond t [] (heads rules.watermark own))
          (ap (λ (t : Result (Option Entry) Error).
          is_left t && nat_lt j.entry.seqno rules.watermark) left ∙ low)
      no_heads (inr none) = ap (λ (ks : List Judged).
          cond (is_cut rules.watermark j) [] (heads rules.watermark ks)) none
          ∙ elim (is_cut rules.watermark j) as (λ (t : Bool). cond {A = List Judged} t [] [] ≡ [])
          [ true ↦ refl | false ↦ refl ]

  abbrev KeepsOrder : List Judged → Type 0
  KeepsOrder js = (ws : List Entry) → Ordered (ws ++ entries js) → Ordered (ws ++ kept rules js)

  -- an entry before others that are kept in order
  before_kept : (ws : List Entry) (z : Entry) (js : List Judged) → KeepsOrder js
      → Ordered (ws ++ z ∷ entries js) → Ordered (ws ++ z ∷ kept rules js)
  before_kept ws z js more h = subst Ordered (append_assoc ws (z ∷ []) (kept rules js))
      (more (ws ++ z ∷ []) (subst Ordered (sym (append_assoc ws (z ∷ []) (entries js))) h))

  -- what the filter leaves of an entry, and its key and number
  left_order : (j : Judged) (y : Entry) → returned j ≡ Ok (Some y) → y.user_key ≡ j.entry.user_key
      → y.seqno ≡ j.entry.seqno → (js : List Judged)
      → ((ks : List Judged) → length ks ≤ length js → KeepsOrder ks) → KeepsOrder (j ∷ js)
  left_order j y left key number js smaller ws h =
      let s = split_at j.entry.user_key js in
      let z : Entry = zeroed rules y in
      let under : IsNoNewer z j.entry = record {
        key_is = key;
        number = let a = zeroed_below rules y in omega (arith, a, number);
      } in
      let closes : (nat_lt j.entry.seqno rules.watermark ≡ true) ⊎ (s.own ≡ [])
      → Ordered (ws ++ kept rules (j ∷ js)) = λ (last : (nat_lt j.entry.seqno rules.watermark
      ≡ true) ⊎ (s.own ≡ [])).
      let parts : Ordered (ws ++ j.entry ∷ (entries s.own ++ entries s.rest)) =
      subst (λ (es : List Entry). Ordered (ws ++ j.entry ∷ es))
      (ap entries s.is ∙ entries_joined s.own s.rest) h in
      let few : length s.rest ≤ length js =
      omega (arith, ap length s.is, length-append s.own s.rest) in
      let back = strict_rest ws (j.entry ∷ (entries s.own ++ entries s.rest)) parts.pairs in
      let behind = all_behind (Precedes j.entry) (entries s.own) (entries s.rest) back.0 in
      let none : NoneOf j.entry.user_key (entries s.rest) = none_there s.rest
      (strict_rest (entries s.own) (entries s.rest) back.1) behind s.over in
      let o = first (entries (cond (is_cut rules.watermark j) s.own
      (expired rules.watermark s.own))) in
      subst (λ (ks : List Judged). Ordered (ws ++ kept rules (j ∷ ks))) (sym s.is)
      (subst (λ (es : List Entry). Ordered (ws ++ es))
      (sym (own_kept j y left s.own s.rest s.all s.over last))
      (elim (gone rules o None y) as
      (λ b. Ordered (ws ++ (cond b [] (z ∷ []) ++ kept rules s.rest))) [
        | true ↦ smaller s.rest few ws
            (skipped ws (j.entry ∷ entries s.own) (entries s.rest) parts)
        | false ↦ before_kept ws z s.rest (smaller s.rest few)
            (placed ws j.entry z (entries s.own) (entries s.rest) under
            (other_keys z j.entry (entries s.rest) key behind none) parts)
      ])) in
      elim (nat_lt j.entry.seqno rules.watermark) as
      (λ b. nat_lt j.entry.seqno rules.watermark ≡ b → Ordered (ws ++ kept rules (j ∷ js))) [
        | true ↦ λ low. closes (inl low)
        | false ↦ λ high. elim s.own as
            (λ own. s.own ≡ own → Ordered (ws ++ kept rules (j ∷ js))) [
              | [] ↦ λ e. closes (inr e)
              | k ∷ ks ↦ λ e.
                  let whole : js ≡ k ∷ (ks ++ s.rest) =
                  s.is ∙ ap (λ (own : List Judged). own ++ s.rest) e in
                  let its = subst (λ (own : List Judged).
                  AllByRecursion (λ i. i.entry.user_key ≡ j.entry.user_key) own) e s.all in
                  let same : same_key k.entry.user_key j.entry.user_key ≡ true =
                  subst (λ (q : List ℕ). same_key k.entry.user_key q ≡ true) its.0
                  (same_itself k.entry.user_key) in
                  let up : nat_lt y.seqno rules.watermark ≡ false =
                  subst (λ (n : ℕ). nat_lt n rules.watermark ≡ false) (sym number) high in
                  let back = strict_rest ws (j.entry ∷ entries js) h.pairs in
                  let placed' : Ordered (ws ++ z ∷ entries js) =
                  placed ws j.entry z [] (entries js) under
                  (as_early z j.entry (entries js) key (zeroed_same rules y up ∙ number) back.0)
                  h in
                  subst (λ (is : List Judged). Ordered (ws ++ kept rules (j ∷ is))) (sym whole)
                  (subst (λ (es : List Entry). Ordered (ws ++ es))
                  (sym (ap entries_among (open_outs rules j y left k same high
                  (ok_results (ks ++ s.rest)))))
                  (subst (λ (is : List Judged). Ordered (ws ++ z ∷ kept rules is)) whole
                  (before_kept ws z js (smaller js (omega arith)) placed')))
            ] refl
      ] refl
    where
      none_there : (rest : List Judged) → Strict (entries rest)
          → AllByRecursion (Precedes j.entry) (entries rest)
          → follows_in j.entry.user_key (ok_results rest) ≡ false
          → NoneOf j.entry.user_key (entries rest)
      none_there rest strict behind over = rest_none j.entry.user_key (entries rest)
          (strict_up (entries rest) strict) (all_le j.entry (entries rest) behind)
          (first_other rest over)
        where
          first_other : (ks : List Judged)
              → follows_in j.entry.user_key (ok_results ks) ≡ false
              → follows_in j.entry.user_key (ok_results (unfiltered (entries ks))) ≡ false
          first_other [] h = refl
          first_other (k ∷ ks) h = h

  within : (n : ℕ) (js : List Judged) → length js ≤ n → KeepsOrder js
  within n [] few = λ ws h. h
  within zero (j ∷ js) few = absurd (omega (arith, few))
  within (suc n) (j ∷ js) few =
      let less : length js ≤ n = omega (arith, few) in
      let smaller : (ks : List Judged) → length ks ≤ length js → KeepsOrder ks =
      λ (ks : List Judged) (at : length ks ≤ length js). within n ks (omega (arith, at, less)) in
      by_verdict j.entry j.verdict js smaller
    where
      by_verdict : (x : Entry) (v : Result Verdict Error) (js : List Judged)
          → ((ks : List Judged) → length ks ≤ length js → KeepsOrder ks)
          → KeepsOrder (judged x v ∷ js)
      by_verdict x (Ok keep) js smaller =
          left_order (judged x (Ok keep)) x refl refl refl js smaller
      by_verdict x (Ok (replace kind value)) js smaller =
          left_order (judged x (Ok (replace kind value))) (record {
            user_key = x.user_key;
            seqno = x.seqno;
            kind = kind;
            value = value;
          }) refl refl refl js smaller
      by_verdict x (Ok drop) js smaller = λ ws h.
          subst (λ (es : List Entry). Ordered (ws ++ es))
          (sym (ap entries_among (dropped_outs rules x (ok_results js))))
          (smaller js (omega arith) ws (skipped ws (x ∷ []) (entries js) h))
      by_verdict x (Err e) js smaller = λ ws h.
          subst (λ (es : List Entry). Ordered (ws ++ es))
          (sym (ap entries_among (failed_outs rules x e (ok_results js))))
          (smaller js (omega arith) ws (skipped ws (x ∷ []) (entries js) h))

  pub kept_in_order : (js : List Judged) → Ordered (entries js) → Ordered (kept rules js)
  kept_in_order js h = within (length js) js (omega arith) [] h
