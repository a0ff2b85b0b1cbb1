-- What a compaction keeps of a strict list is strict.
use Rattle.std.proofs.Common.{◌≡◌, refl, sym, ◌∙◌, ap, subst, ℕ, ◌<◌, ◌≤◌, ◌⊎◌, inl, inr, Bool}
use Rattle.std.proofs.Common.{true, false, cond, ◌&&◌, nat_lt, List, [], ◌∷◌, ◌++◌, length, arith}
use Rattle.std.proofs.Common.{zero, suc}
use Rattle.std.specs.List.{AllByRecursion}
use Rattle.sst_entries.specs.Entry.{Entry}
use Rattle.sst_entries.specs.Key.{same_key, key_lt}
use Rattle.sst_entries.specs.Stream.{first, ok_results}
use Rattle.lsm_sorted.specs.declared.compaction.Rules.{Rules}
use Rattle.lsm_sorted.specs.Compaction.{goes, zeroed, kept, unfiltered}
use Rattle.lsm_sorted.specs.ReadLaw.{StaysStrict}
use Rattle.lsm_sorted.proofs.Pairs.{Precedes, Strict, as_pairs, from_pairs}
use Rattle.sst_entries.proofs.KeyLemmas.{KeyLe, same_itself, le_itself}
use Rattle.sst_entries.proofs.OrderLemmas.{lt_trans}
use Rattle.lsm_sorted.proofs.NewestLemmas.{KeysUp}
use Rattle.lsm_sorted.proofs.OutsLemmas.{AllOf, follows_in}
use Rattle.lsm_sorted.proofs.ReadLemmas.{split, left_alone, kept_open, kept_close, NoneOf}
use Rattle.lsm_sorted.proofs.ReadLemmas.{rest_none, all_rest, length_rest}
use Rattle.sst_entries.proofs.Booleans.{apart, is_false}
use Rattle.sst_entries.proofs.Lists.{all_append}

-- an induction over what is kept: a head before others that stay, or the last head of its key
module _ (rules : Rules) (Q : List Entry → Type 0)
    (at_end : Q [])
    (at_open : (x : Entry) (es : List Entry) → nat_lt x.seqno rules.watermark ≡ false
    → kept rules (unfiltered (x ∷ es)) ≡ zeroed rules x ∷ kept rules (unfiltered es) → Q es
    → Q (x ∷ es))
    (at_close : (x : Entry) (own rest : List Entry) → AllOf x.user_key own
    → follows_in x.user_key (ok_results (unfiltered rest)) ≡ false
    → (nat_lt x.seqno rules.watermark ≡ true) ⊎ (own ≡ [])
    → kept rules (unfiltered (x ∷ (own ++ rest))) ≡ left_alone rules x own
    ++ kept rules (unfiltered rest) → Q rest → Q (x ∷ (own ++ rest))) where
  within : (n : ℕ) (es : List Entry) → length es ≤ n → Q es
  within n [] few = at_end
  within zero (x ∷ es) few = absurd (omega arith)
  within (suc n) (x ∷ es) few =
      let s = split x.user_key es in
      let few_rest : length es ≤ n = omega arith in
      let closes : (nat_lt x.seqno rules.watermark ≡ true) ⊎ (s.own ≡ []) → Q (x ∷ es) = λ last.
      let few' : length s.rest ≤ n = length_rest s.own s.rest n
      (subst (λ (ys : List Entry). length ys ≤ n) s.is few_rest) in
      subst (λ (ys : List Entry). Q (x ∷ ys)) (sym s.is)
      (at_close x s.own s.rest s.all s.over last
      (kept_close rules x s.own s.rest s.all s.over last) (within n s.rest few')) in
      elim (nat_lt x.seqno rules.watermark) as (λ b. nat_lt x.seqno rules.watermark ≡ b
      → Q (x ∷ es)) [
        | true ↦ λ low. closes (inl low)
        | false ↦ λ high. elim s.own as (λ own. s.own ≡ own → Q (x ∷ es)) [
          | [] ↦ λ e. closes (inr e)
          | y ∷ ys ↦ λ e.
              let whole : es ≡ y ∷ (ys ++ s.rest) = s.is
              ∙ ap (λ (zs : List Entry). zs ++ s.rest) e in
              let its : AllOf x.user_key (y ∷ ys) = subst (AllOf x.user_key) e s.all in
              let same_first : same_key y.user_key x.user_key ≡ true =
              subst (λ (k : List ℕ). same_key y.user_key k ≡ true) its.0
              (same_itself y.user_key) in
              at_open x es high (subst (λ (zs : List Entry). kept rules (unfiltered (x ∷ zs))
              ≡ zeroed rules x ∷ kept rules (unfiltered zs)) (sym whole)
              (kept_open rules x y (ys ++ s.rest) same_first high)) (within n es few_rest)
        ] refl
      ] refl

  pub kept_by : (es : List Entry) → Q es
  kept_by es = within (length es) es (omega arith)

-- what holds of all entries, zeroed or not, holds of all that are kept
module _ (rules : Rules) (P : Entry → Type 0) (lowers : (e : Entry) → P e → P (zeroed rules e))
  where
    alone_all : (x : Entry) (own : List Entry) → P x → AllByRecursion P (left_alone rules x own)
    alone_all x own h = elim (goes rules.evict x.kind (first own)) as
        (λ b. AllByRecursion P (cond b [] (zeroed rules x ∷ [])))
        [ true ↦ tt | false ↦ (lowers x h, tt) ]

    pub all_kept : (es : List Entry) → AllByRecursion P es
        → AllByRecursion P (kept rules (unfiltered es))
    all_kept = kept_by rules (λ es. AllByRecursion P es
        → AllByRecursion P (kept rules (unfiltered es)))
        (λ h. tt)
        (λ x es high is more h. subst (AllByRecursion P) (sym is) (lowers x h.0, more h.1))
        (λ x own rest all over last is more h. subst (AllByRecursion P) (sym is)
        (all_append P (left_alone rules x own) (kept rules (unfiltered rest))
        (alone_all x own h.0) (more (all_rest P own rest h.1))))

-- a number that becomes 0 is no greater
pub zeroed_below : (rules : Rules) (e : Entry) → (zeroed rules e).seqno ≤ e.seqno
zeroed_below rules e = elim (rules.zeroing && nat_lt e.seqno rules.watermark) as
    (λ b. cond b 0 e.seqno ≤ e.seqno) [ true ↦ omega arith | false ↦ omega arith ]

zeroed_high : (rules : Rules) (e : Entry) → nat_lt e.seqno rules.watermark ≡ false
    → (zeroed rules e).seqno ≡ e.seqno
zeroed_high rules e h = elim rules.zeroing as
    (λ t. cond (t && nat_lt e.seqno rules.watermark) 0 e.seqno ≡ e.seqno)
    [ true ↦ ap (λ (u : Bool). cond u 0 e.seqno) h | false ↦ refl ]

precedes_zeroed : (rules : Rules) (x e : Entry) → Precedes x e → Precedes x (zeroed rules e)
precedes_zeroed rules x e h = elim h [
  | inl lower ↦ inl lower
  | inr newer ↦
      inr (newer.0, let k = zeroed_below rules e in omega arith)
]

precedes_as : (x y e : Entry) → x.user_key ≡ y.user_key → x.seqno ≡ y.seqno → Precedes x e
    → Precedes y e
precedes_as x y e key number h = elim h [
  | inl lower ↦ inl (subst (λ (k : List ℕ). key_lt k e.user_key ≡ true) key lower)
  | inr newer ↦ inr (sym key ∙ newer.0, subst (λ (n : ℕ). e.seqno < n) number newer.1)
]

key_le_of : (x y : Entry) → Precedes x y → KeyLe x.user_key y.user_key
key_le_of x y h = elim h [
  | inl lower ↦ is_false (key_lt y.user_key x.user_key)
      (λ above. apart (key_lt x.user_key x.user_key)
      (lt_trans x.user_key y.user_key x.user_key lower above) (le_itself x.user_key))
  | inr newer ↦ subst (λ (k : List ℕ). KeyLe x.user_key k) newer.0 (le_itself x.user_key)
]

all_key_le : (x : Entry) (es : List Entry) → AllByRecursion (Precedes x) es
    → AllByRecursion (λ y. KeyLe x.user_key y.user_key) es
all_key_le x [] h = tt
all_key_le x (e ∷ es) h = (key_le_of x e h.0, all_key_le x es h.1)

pub strict_up : (es : List Entry) → Strict es → KeysUp es
strict_up [] h = tt
strict_up (e ∷ es) h = (all_key_le e es h.0, strict_up es h.1)

pub strict_rest : (xs ys : List Entry) → Strict (xs ++ ys) → Strict ys
strict_rest [] ys h = h
strict_rest (x ∷ xs) ys h = strict_rest xs ys h.1

-- entries of other keys stay behind, whatever the number
other_precedes : (x y : Entry) (es : List Entry) → x.user_key ≡ y.user_key
    → AllByRecursion (Precedes x) es → NoneOf x.user_key es → AllByRecursion (Precedes y) es
other_precedes x y [] key h none = tt
other_precedes x y (e ∷ es) key h none = (
  elim h.0 [
    | inl lower ↦ inl (subst (λ (k : List ℕ). key_lt k e.user_key ≡ true) key lower)
    | inr newer ↦ absurd (apart (same_key e.user_key x.user_key)
        (subst (λ (k : List ℕ). same_key e.user_key k ≡ true) (sym newer.0)
        (same_itself e.user_key)) none.0)
  ],
  other_precedes x y es key h.1 none.1,
)

pub pairs_stay : (rules : Rules) (es : List Entry) → Strict es → Strict (kept rules (unfiltered es))
pairs_stay rules = kept_by rules (λ es. Strict es → Strict (kept rules (unfiltered es)))
    (λ h. tt)
    (λ x es high is more h.
    let number : (zeroed rules x).seqno ≡ x.seqno = zeroed_high rules x high in
    let behind : AllByRecursion (Precedes (zeroed rules x)) (kept rules (unfiltered es)) =
    all_kept rules (Precedes (zeroed rules x)) (precedes_zeroed rules (zeroed rules x)) es
    (precede_all x (zeroed rules x) refl (sym number) es h.0) in
    subst Strict (sym is) (behind, more h.1))
    (λ x own rest all over last is more h.
    let none : NoneOf x.user_key rest = rest_none x.user_key rest
    (strict_up rest (strict_rest own rest h.1))
    (all_rest (λ y. KeyLe x.user_key y.user_key) own rest (all_key_le x (own ++ rest) h.0))
    over in
    let behind : AllByRecursion (Precedes (zeroed rules x)) (kept rules (unfiltered rest)) =
    all_kept rules (Precedes (zeroed rules x)) (precedes_zeroed rules (zeroed rules x)) rest
    (other_precedes x (zeroed rules x) rest refl (all_rest (Precedes x) own rest h.0) none) in
    let later : Strict (kept rules (unfiltered rest)) = more (strict_rest own rest h.1) in
    subst Strict (sym is) (elim (goes rules.evict x.kind (first own)) as
    (λ b. Strict (cond b [] (zeroed rules x ∷ []) ++ kept rules (unfiltered rest)))
    [ true ↦ later | false ↦ (behind, later) ]))
  where
    precede_all : (x y : Entry) → x.user_key ≡ y.user_key → x.seqno ≡ y.seqno → (es : List Entry)
        → AllByRecursion (Precedes x) es → AllByRecursion (Precedes y) es
    precede_all x y key number [] h = tt
    precede_all x y key number (e ∷ es) h = (
      precedes_as x y e key number h.0,
      precede_all x y key
          number es h.1,
    )

pub stays_strict : StaysStrict
stays_strict rules es h = from_pairs (kept rules (unfiltered es))
    (pairs_stay rules es (as_pairs es h))
