-- Where a part of the entries is compacted, a reader at the watermark or above sees the same.
use Rattle.std.proofs.Common.{◌≡◌, ◌≢◌, refl, sym, ◌∙◌, ap, subst, ℕ, ◌<◌, ◌≤◌, ◌⊎◌, inl, inr, Bool}
use Rattle.std.proofs.Common.{true, false, cond, ◌&&◌, nat_lt, nat_eq, List, [], ◌∷◌, ◌++◌, length}
use Rattle.std.proofs.Common.{count_by, arith}
use Rattle.std.specs.Prelude.{Option, Some, None}
use Rattle.std.specs.List.{AllByRecursion}
use Rattle.std.specs.Ordering.{nat_cmp, is_gt, ordering_then, MatchOrdering}
use Rattle.std.specs.Cmp.Lexicographic.{slice_cmp, nat_list_cmp_total}
use Rattle.std.proofs.lemmas.Cmp.{tied_itself, ranked}
use Rattle.std.specs.declared.cmp.Ordering.{Ordering}
use Rattle.std.specs.declared.cmp.Ordering.TheVariants.{Less, Equal, Greater}
use Rattle.std.proofs.lemmas.Bool.Decides.{nat_tests}
use Rattle.std.proofs.lemmas.List.Sums.{sum_by-cons}
use Rattle.std.proofs.lemmas.Bool.{lt-ltb}
use Rattle.sst_entries.specs.Entry.{Entry}
use Rattle.sst_entries.specs.Kind.{tag_of, is_weak_kind}
use Rattle.sst_entries.specs.Key.{same_key, key_lt}
use Rattle.sst_entries.specs.Stream.{first}
use Rattle.sst_entries.specs.declared.value_type.ValueType.{ValueType}
use Rattle.sst_entries.specs.declared.value_type.ValueType.TheVariants.{Value, Tombstone}
use Rattle.sst_entries.specs.declared.value_type.ValueType.TheVariants.{WeakTombstone, Indirection}
use Rattle.lsm_sorted.specs.merge.Union.{Ascends, AtMost, SameBag}
use Rattle.sst_entries.specs.Point.{is_hit, point}
use Rattle.lsm_sorted.specs.Point.{shown}
use Rattle.lsm_sorted.specs.declared.compaction.Rules.{Rules}
use Rattle.lsm_sorted.specs.Compaction.{goes, zeroed, kept, unfiltered}
use Rattle.lsm_sorted.specs.ReadLaw.{Distinct, AllNewer, IsMerged, PartLaw}
use Rattle.lsm_sorted.proofs.Hits.{first_hit}
use Rattle.lsm_sorted.proofs.Pairs.{Precedes, Strict, as_pairs}
use Rattle.sst_entries.proofs.KeyLemmas.{same_is, same_itself, le_itself, hit_key}
use Rattle.sst_entries.proofs.OrderLemmas.{gt_first}
use Rattle.lsm_sorted.proofs.OutsLemmas.{AllOf}
use Rattle.lsm_sorted.proofs.ReadLemmas.{and_not, all_rest, none_before, none_of_other, not_under}
use Rattle.lsm_sorted.proofs.ReadLemmas.{same_within}
use Rattle.lsm_sorted.proofs.KeptLemmas.{kept_by, all_kept, zeroed_below, strict_up, pairs_stay}
use Rattle.sst_entries.proofs.Booleans.{apart, and_parts}
use Rattle.sst_entries.proofs.Lists.{all_more}

-- x is among xs
abbrev IsIn : Entry → List Entry → Type 0
IsIn x [] = ⊥
IsIn x (y ∷ ys) = (x ≡ y) ⊎ IsIn x ys

in_left : (x : Entry) (xs ys : List Entry) → IsIn x xs → IsIn x (xs ++ ys)
in_left x [] ys h = absurd h
in_left x (z ∷ zs) ys h = elim h [ inl e ↦ inl e | inr more ↦ inr (in_left x zs ys more) ]

in_right : (x : Entry) (xs ys : List Entry) → IsIn x ys → IsIn x (xs ++ ys)
in_right x [] ys h = h
in_right x (z ∷ zs) ys h = inr (in_right x zs ys h)

in_either : (x : Entry) (xs ys : List Entry) → IsIn x (xs ++ ys) → IsIn x xs ⊎ IsIn x ys
in_either x [] ys h = inr h
in_either x (z ∷ zs) ys h = elim h [
  | inl e ↦ inl (inl e)
  | inr more ↦
      elim (in_either x zs ys more) [ inl a ↦ inl (inr a) | inr b ↦ inr b ]
]

all_in : (P : Entry → Type 0) (xs : List Entry) (x : Entry) → AllByRecursion P xs → IsIn x xs → P x
all_in P [] x all h = absurd h
all_in P (y ∷ ys) x all h = elim h [
  | inl e ↦ subst P (sym e) all.0
  | inr more ↦
      all_in P ys x all.1 more
]

-- equality of entries as a test
kind_is : (a b : ValueType) → nat_eq (tag_of a) (tag_of b) ≡ true → a ≡ b
kind_is Value Value h = refl
kind_is Value Tombstone h = absurd cc
kind_is Value WeakTombstone h = absurd cc
kind_is Value Indirection h = absurd cc
kind_is Tombstone Value h = absurd cc
kind_is Tombstone Tombstone h = refl
kind_is Tombstone WeakTombstone h = absurd cc
kind_is Tombstone Indirection h = absurd cc
kind_is WeakTombstone Value h = absurd cc
kind_is WeakTombstone Tombstone h = absurd cc
kind_is WeakTombstone WeakTombstone h = refl
kind_is WeakTombstone Indirection h = absurd cc
kind_is Indirection Value h = absurd cc
kind_is Indirection Tombstone h = absurd cc
kind_is Indirection WeakTombstone h = absurd cc
kind_is Indirection Indirection h = refl

kind_itself : (a : ValueType) → nat_eq (tag_of a) (tag_of a) ≡ true
kind_itself Value = refl
kind_itself Tombstone = refl
kind_itself WeakTombstone = refl
kind_itself Indirection = refl

abbrev same_entry : Entry → Entry → Bool
same_entry x y = same_key x.user_key y.user_key
    && (nat_eq x.seqno y.seqno && (nat_eq (tag_of x.kind) (tag_of y.kind)
    && same_key x.value y.value))

number_is : (m n : ℕ) → nat_eq m n ≡ true → m ≡ n
number_is m n h = grind (arith, nat_tests)

number_itself : (n : ℕ) → nat_eq n n ≡ true
number_itself n = grind (arith, nat_tests)

entry_is : (x y : Entry) → same_entry x y ≡ true → x ≡ y
entry_is x y h =
    let a = and_parts (same_key x.user_key y.user_key)
    (nat_eq x.seqno y.seqno && (nat_eq (tag_of x.kind) (tag_of y.kind)
    && same_key x.value y.value)) h in
    let b = and_parts (nat_eq x.seqno y.seqno) (nat_eq (tag_of x.kind) (tag_of y.kind)
    && same_key x.value y.value) a.1 in
    let c = and_parts (nat_eq (tag_of x.kind) (tag_of y.kind)) (same_key x.value y.value) b.1 in
    let key : x.user_key ≡ y.user_key = same_is x.user_key y.user_key a.0 in
    let number : x.seqno ≡ y.seqno = number_is x.seqno y.seqno b.0 in
    let kind : x.kind ≡ y.kind = kind_is x.kind y.kind c.0 in
    let value : x.value ≡ y.value = same_is x.value y.value c.1 in
    ap (λ (k : List ℕ). record { user_key = k; seqno = x.seqno; kind = x.kind; value = x.value })
    key
    ∙ ap (λ (n : ℕ). record { user_key = y.user_key; seqno = n; kind = x.kind; value = x.value })
    number
    ∙ ap (λ (t : ValueType). record {
      user_key = y.user_key;
      seqno = y.seqno;
      kind = t;
      value =
          x.value;
    }) kind
    ∙ ap (λ (v : List ℕ). record {
      user_key = y.user_key;
      seqno = y.seqno;
      kind = y.kind;
      value =
          v;
    }) value

both_true : (a b : Bool) → a ≡ true → b ≡ true → a && b ≡ true
both_true a b h k = ap (λ (t : Bool). t && b) h ∙ k

entry_itself : (x : Entry) → same_entry x x ≡ true
entry_itself x = both_true (same_key x.user_key x.user_key)
    (nat_eq x.seqno x.seqno && (nat_eq (tag_of x.kind) (tag_of x.kind) && same_key x.value x.value))
    (same_itself x.user_key)
    (both_true (nat_eq x.seqno x.seqno) (nat_eq (tag_of x.kind) (tag_of x.kind)
    && same_key x.value x.value) (number_itself x.seqno)
    (both_true (nat_eq (tag_of x.kind) (tag_of x.kind)) (same_key x.value x.value)
    (kind_itself x.kind) (same_itself x.value)))

-- an entry that is counted is there
count_in : (x : Entry) (xs : List Entry) → 0 < count_by (same_entry x) xs → IsIn x xs
count_in x [] h = absurd (omega arith)
count_in x (y ∷ ys) h =
    let e = sum_by-cons (λ z. cond (same_entry x z) 1 0) y ys in
    elim (same_entry x y) as (λ b. same_entry x y ≡ b → IsIn x (y ∷ ys)) [
      | true ↦ λ t. inl (entry_is x y t)
      | false ↦ λ t.
          let none : ◌≡◌ {A = ℕ} (cond (same_entry x y) 1 0) 0 = ap (λ (b : Bool). cond b 1 0) t in
          inr (count_in x ys (omega (arith, e, none)))
    ] refl

in_count : (x : Entry) (xs : List Entry) → IsIn x xs → 0 < count_by (same_entry x) xs
in_count x [] h = absurd h
in_count x (y ∷ ys) h =
    let e = sum_by-cons (λ z. cond (same_entry x z) 1 0) y ys in
    elim h [
      | inl is ↦
          let one : ◌≡◌ {A = ℕ} (cond (same_entry x y) 1 0) 1 =
          ap (λ (b : Bool). cond b 1 0) (subst (λ (z : Entry). same_entry x z ≡ true) is
          (entry_itself x)) in
          omega (arith, e, one)
      | inr more ↦ let k = in_count x ys more in omega (arith, e, k)
    ]

same_in : (xs ys : List Entry) → SameBag xs ys → (x : Entry) → IsIn x xs → IsIn x ys
same_in xs ys same x h = count_in x ys (let k = in_count x xs h in let e =
    same.count (same_entry x) in omega (arith, k, e))

in_same : (xs ys : List Entry) → SameBag xs ys → (x : Entry) → IsIn x ys → IsIn x xs
in_same xs ys same x h = count_in x xs (let k = in_count x ys h in let e =
    same.count (same_entry x) in omega (arith, k, e))

-- of a key, no later entry has a greater number
abbrev NotAbove : Entry → Entry → Type 0
NotAbove x y = x.user_key ≡ y.user_key → y.seqno ≤ x.seqno

abbrev Down : List Entry → Type 0
Down [] = Unit {0}
Down (x ∷ xs) = AllByRecursion (NotAbove x) xs × Down xs

pub no_less : (a b : List ℕ) → key_lt a b ≡ true → a ≡ b → ⊥
no_less a b h e = apart (key_lt b b) (subst (λ (k : List ℕ). key_lt k b ≡ true) e h) (le_itself b)

precedes_down : (x y : Entry) → Precedes x y → NotAbove x y
precedes_down x y h e = elim h [
  | inl lower ↦ absurd
      (no_less x.user_key y.user_key lower e)
  | inr newer ↦ let k = newer.1 in omega arith
]

strict_down : (xs : List Entry) → Strict xs → Down xs
strict_down [] h = tt
strict_down (x ∷ xs) h = (
  all_more (Precedes x) (NotAbove x)
      (precedes_down x) xs h.0,
  strict_down xs h.1,
)

not_gt_of : (a b : ℕ) (r : Ordering) → MatchOrdering r (a < b) (a ≡ b) (b < a) → is_gt r ≡ false
    → a ≤ b
not_gt_of a b Less m h = omega arith
not_gt_of a b Equal m h = omega arith
not_gt_of a b Greater m h = absurd cc

at_most_down : (x y : Entry) → AtMost x y → NotAbove x y
at_most_down x y h e =
    let tie : slice_cmp nat_cmp x.user_key y.user_key ≡ Equal =
    subst (λ (k : List ℕ). slice_cmp nat_cmp x.user_key k ≡ Equal) e
    (tied_itself nat_list_cmp_total x.user_key) in
    let tags : Ordering = nat_cmp (tag_of x.kind) (tag_of y.kind) in
    let rest : is_gt (ordering_then (nat_cmp y.seqno x.seqno) tags) ≡ false =
    sym (ap (λ (o : Ordering). is_gt (ordering_then o
    (ordering_then (nat_cmp y.seqno x.seqno) tags))) tie) ∙ h in
    not_gt_of y.seqno x.seqno (nat_cmp y.seqno x.seqno)
    (ranked y.seqno x.seqno (nat_cmp y.seqno x.seqno) refl)
    (gt_first (nat_cmp y.seqno x.seqno) tags rest)

ascends_down : (xs : List Entry) → Ascends xs → Down xs
ascends_down [] h = tt
ascends_down (x ∷ xs) h = (
  all_more (AtMost x) (NotAbove x)
      (at_most_down x) xs h.0,
  ascends_down xs h.1,
)

abbrev Unique : List Entry → Type 0
Unique xs = (x y : Entry) → IsIn x xs → IsIn y xs → x.user_key ≡ y.user_key → x.seqno ≡ y.seqno
    → x ≡ y

never : (a b : Entry) → Precedes a b → a.user_key ≡ b.user_key → a.seqno ≡ b.seqno → ⊥
never a b h e n = elim h [
  | inl lower ↦ no_less a.user_key b.user_key lower e
  | inr newer ↦ let k =
      newer.1 in absurd (omega arith)
]

strict_unique : (xs : List Entry) → Strict xs → Unique xs
strict_unique [] s x y a b e n = absurd a
strict_unique (z ∷ zs) s x y a b e n = elim a [
  | inl xz ↦ elim b [
    | inl yz ↦ xz ∙ sym yz
    | inr yin ↦ absurd (never z y (all_in (Precedes z) zs y s.0 yin)
        (sym (ap (λ (w : Entry). w.user_key) xz) ∙ e) (sym (ap (λ (w : Entry). w.seqno) xz) ∙ n))
  ]
  | inr xin ↦ elim b [
    | inl yz ↦ absurd (never z x (all_in (Precedes z) zs x s.0 xin)
        (sym (ap (λ (w : Entry). w.user_key) yz) ∙ sym e)
        (sym (ap (λ (w : Entry). w.seqno) yz) ∙ sym n))
    | inr yin ↦ strict_unique zs s.1 x y xin yin e n
  ]
]

joined_unique : (xs ys : List Entry) → Strict xs → Strict ys → Distinct xs ys → Unique (xs ++ ys)
joined_unique xs ys sx sy apart x y a b e n = elim (in_either x xs ys a) [
  | inl xa ↦ elim (in_either y xs ys b) [
    | inl ya ↦ strict_unique xs sx x y xa ya e n
    | inr yb ↦ absurd (all_in (λ z. x.user_key ≡ z.user_key → x.seqno ≢ z.seqno) ys y
        (all_in (λ w. AllByRecursion (λ z. w.user_key ≡ z.user_key → w.seqno ≢ z.seqno) ys) xs x
        apart xa) yb e n)
  ]
  | inr xb ↦ elim (in_either y xs ys b) [
    | inl ya ↦ absurd (all_in (λ z. y.user_key ≡ z.user_key → y.seqno ≢ z.seqno) ys x
        (all_in (λ w. AllByRecursion (λ z. w.user_key ≡ z.user_key → w.seqno ≢ z.seqno) ys) xs y
        apart ya) xb (sym e) (sym n))
    | inr yb ↦ strict_unique ys sy x y xb yb e n
  ]
]

at_most_lower : (a q y : ℕ) → nat_lt a q ≡ true → y ≤ a → y ≤ q
at_most_lower a q y h k = grind (arith, nat_tests)

at_most_upper : (a q y : ℕ) → nat_lt a q ≡ false → y ≤ q → y ≤ a
at_most_upper a q y h k = grind (arith, nat_tests)

module _ (key : List ℕ) (bound : ℕ) where
  point_in : (es : List Entry) (x : Entry) → first_hit es key bound ≡ Some x → IsIn x es
      × (is_hit key bound x ≡ true)
  point_in [] x h = absurd cc
  point_in (e ∷ es) x h =
      elim (is_hit key bound e) as (λ b. is_hit key bound e ≡ b
      → cond b (Some e) (first_hit es key bound) ≡ Some x
      → IsIn x (e ∷ es) × (is_hit key bound x ≡ true)) [
        | true ↦ λ hit k. let same : x ≡ e = cc in
            (inl same, subst (λ (z : Entry). is_hit key bound z ≡ true) (sym same) hit)
        | false ↦ λ miss k. let more = point_in es x k in (inr more.0, more.1)
      ] refl h

  point_none : (es : List Entry) → first_hit es key bound ≡ None → (y : Entry) → IsIn y es
      → is_hit key bound y ≡ true → ⊥
  point_none [] h y i hit = absurd i
  point_none (e ∷ es) h y i hit =
      elim (is_hit key bound e) as (λ b. is_hit key bound e ≡ b
      → cond b (Some e) (first_hit es key bound) ≡ None → ⊥) [
        | true ↦ λ has k. absurd cc
        | false ↦ λ miss k. elim i [
          | inl is ↦ apart (is_hit key bound e)
              (subst (λ (z : Entry). is_hit key bound z ≡ true) is hit) miss
          | inr more ↦
              point_none es k y more hit
        ]
      ] refl h

  point_down : (es : List Entry) → Down es → (x : Entry) → first_hit es key bound ≡ Some x
      → (y : Entry) → IsIn y es → is_hit key bound y ≡ true → y.seqno ≤ x.seqno
  point_down [] down x h y i hit = absurd i
  point_down (e ∷ es) down x h y i hit =
      elim (is_hit key bound e) as (λ b. is_hit key bound e ≡ b
      → cond b (Some e) (first_hit es key bound) ≡ Some x → y.seqno ≤ x.seqno) [
        | true ↦ λ has k.
            let same : e ≡ x = cc in
            subst (λ (z : Entry). y.seqno ≤ z.seqno) same (elim i [
              | inl is ↦ let n : y.seqno ≡ e.seqno = ap (λ (z : Entry). z.seqno) is in omega arith
              | inr more ↦ all_in (NotAbove e) es y down.0 more
                  (hit_key key bound e has ∙ sym (hit_key key bound y hit))
            ])
        | false ↦ λ miss k. elim i [
          | inl is ↦ absurd
              (apart (is_hit key bound e) (subst (λ (z : Entry). is_hit key bound z ≡ true) is hit)
              miss)
          | inr more ↦ point_down es down.1 x k y more hit
        ]
      ] refl h

  -- of two entries the one with the greater number
  abbrev later : Option Entry → Option Entry → Option Entry
  later None q = q
  later (Some a) None = Some a
  later (Some a) (Some q) = cond (nat_lt a.seqno q.seqno) (Some q) (Some a)

  later_none : (o : Option Entry) → later o None ≡ o
  later_none None = refl
  later_none (Some a) = refl

  module _ (xs ys zs : List Entry) (sx : Strict xs) (sy : Strict ys) (apart : Distinct xs ys)
      (merged : IsMerged xs ys zs) where
    down : Down zs
    down = ascends_down zs merged.ascends

    newest_point : (x : Entry) → IsIn x (xs ++ ys) → is_hit key bound x ≡ true
        → ((y : Entry) → IsIn y (xs ++ ys) → is_hit key bound y ≡ true → y.seqno ≤ x.seqno)
        → first_hit zs key bound ≡ Some x
    newest_point x i hit top = elim (first_hit zs key bound) as
        (λ o. first_hit zs key bound ≡ o → o ≡ Some x) [
          | None ↦ λ e. absurd (point_none zs e x (in_same zs (xs ++ ys) merged.same x i) hit)
          | Some u ↦ λ e.
              let two = point_in zs u e in
              let uin : IsIn u (xs ++ ys) = same_in zs (xs ++ ys) merged.same u two.0 in
              let below = top u uin two.1 in
              let above = point_down zs down u e x (in_same zs (xs ++ ys) merged.same x i) hit in
              let number : u.seqno ≡ x.seqno = omega arith in
              ap (λ (z : Entry). Some z) (joined_unique xs ys sx sy apart u x uin i
              (hit_key key bound u two.1 ∙ sym (hit_key key bound x hit)) number)
        ] refl

    no_point : ((y : Entry) → IsIn y (xs ++ ys) → is_hit key bound y ≡ true → ⊥)
        → first_hit zs key bound ≡ None
    no_point none = elim (first_hit zs key bound) as (λ o. first_hit zs key bound ≡ o → o ≡ None) [
      | None ↦ λ e. refl
      | Some u ↦ λ e. let two = point_in zs u e in
          absurd (none u (same_in zs (xs ++ ys) merged.same u two.0) two.1)
    ] refl

    joined_point : first_hit zs key bound ≡ later (first_hit xs key bound) (first_hit ys key bound)
    joined_point = elim (first_hit xs key bound) as
        (λ o. first_hit xs key bound ≡ o → first_hit zs key bound
        ≡ later o (first_hit ys key bound)) [
          | None ↦ λ ex. elim (first_hit ys key bound) as
              (λ o. first_hit ys key bound ≡ o → first_hit zs key bound ≡ o) [
                | None ↦ λ ey. no_point (λ y i hit. elim (in_either y xs ys i)
                    [ inl a ↦ point_none xs ex y a hit | inr b ↦ point_none ys ey y b hit ])
                | Some q ↦ λ ey.
                    let two = point_in ys q ey in
                    newest_point q (in_right q xs ys two.0) two.1
                    (λ y i hit. elim (in_either y xs ys i) [
                      | inl a ↦ absurd (point_none xs ex y a hit)
                      | inr b ↦
                          point_down ys (strict_down ys sy) q ey y b hit
                    ])
              ] refl
          | Some a ↦ λ ex. elim (first_hit ys key bound) as
              (λ o. first_hit ys key bound ≡ o → first_hit zs key bound ≡ later (Some a) o) [
                | None ↦ λ ey.
                    let two = point_in xs a ex in
                    newest_point a (in_left a xs ys two.0) two.1
                    (λ y i hit. elim (in_either y xs ys i) [
                      | inl b ↦ point_down xs (strict_down xs sx) a ex y b hit
                      | inr b ↦
                          absurd (point_none ys ey y b hit)
                    ])
                | Some q ↦ λ ey.
                    let ain = point_in xs a ex in
                    let qin = point_in ys q ey in
                    elim (nat_lt a.seqno q.seqno) as (λ b. nat_lt a.seqno q.seqno ≡ b
                    → first_hit zs key bound ≡ cond b (Some q) (Some a)) [
                      | true ↦ λ lower. newest_point q (in_right q xs ys qin.0) qin.1
                          (λ y i hit. elim (in_either y xs ys i) [
                            | inl b ↦ let k = point_down xs (strict_down xs sx) a ex y b hit in
                                at_most_lower a.seqno q.seqno y.seqno lower k
                            | inr b ↦
                                point_down ys (strict_down ys sy) q ey y b hit
                          ])
                      | false ↦ λ upper. newest_point a (in_left a xs ys ain.0) ain.1
                          (λ y i hit. elim (in_either y xs ys i) [
                            | inl b ↦ point_down xs (strict_down xs sx) a ex y b hit
                            | inr b ↦ let k =
                                point_down ys (strict_down ys sy) q ey y b hit in
                                at_most_upper a.seqno q.seqno y.seqno upper k
                          ])
                    ] refl
              ] refl
        ] refl

  -- where the second list is newer, it decides
  newer_later : (xs ys : List Entry) → AllNewer xs ys → (q : Entry)
      → first_hit ys key bound ≡ Some q → later (first_hit xs key bound) (Some q) ≡ Some q
  newer_later xs ys newer q ey = elim (first_hit xs key bound) as
      (λ o. first_hit xs key bound ≡ o → later o (Some q) ≡ Some q) [
        | None ↦ λ ex. refl
        | Some a ↦ λ ex.
            let ain = point_in xs a ex in
            let qin = point_in ys q ey in
            let less : a.seqno < q.seqno =
            all_in (λ z. a.user_key ≡ z.user_key → a.seqno < z.seqno) ys
            q (all_in (λ w. AllByRecursion (λ z. w.user_key ≡ z.user_key → w.seqno < z.seqno) ys) xs
            a newer ain.0) qin.0 (hit_key key bound a ain.1 ∙ sym (hit_key key bound q qin.1)) in
            ap (λ (b : Bool). cond b (Some q) (Some a)) (lt-ltb a.seqno q.seqno less)
      ] refl

  -- where nothing goes or becomes 0, a reader at the watermark or above hits the same entry
  plain_point : (rules : Rules) → rules.evict ≡ false → rules.zeroing ≡ false
      → rules.watermark ≤ bound → (es : List Entry)
      → AllByRecursion (λ e. is_weak_kind e.kind ≡ false) es
      → first_hit (kept rules (unfiltered es)) key bound ≡ first_hit es key bound
  plain_point rules evict zeroing reads = kept_by rules
      (λ es. AllByRecursion (λ e. is_weak_kind e.kind ≡ false) es
      → first_hit (kept rules (unfiltered es)) key bound ≡ first_hit es key bound)
      (λ h. refl)
      (λ x es high is more h.
      ap (λ (ys : List Entry). first_hit ys key bound)
      (is ∙ ap (λ (z : Entry). z ∷ kept rules (unfiltered es)) (unzeroed rules zeroing x))
      ∙ ap (λ (o : Option Entry). cond (is_hit key bound x) (Some x) o) (more h.1))
      (λ x own rest all over last is more h.
      let stays : goes rules.evict x.kind (first own) ≡ false =
      ap (λ (b : Bool). goes b x.kind (first own)) evict ∙ goes_plain x.kind (first own) h.0 in
      let deeper : first_hit (kept rules (unfiltered rest)) key bound ≡ first_hit rest key bound =
      more (all_rest (λ e. is_weak_kind e.kind ≡ false) own rest h.1) in
      ap (λ (ys : List Entry). first_hit ys key bound)
      (is ∙ ap (λ (b : Bool). cond b [] (zeroed rules x ∷ []) ++ kept rules (unfiltered rest))
      stays ∙ ap (λ (z : Entry). z ∷ kept rules (unfiltered rest)) (unzeroed rules zeroing x))
      ∙ ap (λ (o : Option Entry). cond (is_hit key bound x) (Some x) o) deeper
      ∙ elim (is_hit key bound x) as (λ b. is_hit key bound x ≡ b
      → cond b (Some x) (first_hit rest key bound)
      ≡ cond b (Some x) (first_hit (own ++ rest) key bound)) [
        | true ↦ λ hit. refl
        | false ↦ λ miss. sym (past rules reads x own rest all last miss)
      ] refl)
    where
      unzeroed : (rules : Rules) → rules.zeroing ≡ false → (x : Entry) → zeroed rules x ≡ x
      unzeroed rules zeroing x = ap (λ (b : Bool). record {
        user_key = x.user_key;
        seqno = cond (b && nat_lt x.seqno rules.watermark) 0 x.seqno;
        kind = x.kind;
        value = x.value;
      }) zeroing

      goes_plain : (kind : ValueType) (next : Option Entry) → is_weak_kind kind ≡ false
          → goes false kind next ≡ false
      goes_plain Value next h = refl
      goes_plain Tombstone next h = refl
      goes_plain WeakTombstone next h = absurd cc
      goes_plain Indirection next h = refl

      past : (rules : Rules) → rules.watermark ≤ bound → (x : Entry) (own rest : List Entry)
          → AllOf x.user_key own → (nat_lt x.seqno rules.watermark ≡ true) ⊎ (own ≡ [])
          → is_hit key bound x ≡ false
          → first_hit (own ++ rest) key bound ≡ first_hit rest key bound
      past rules reads x own rest all last miss =
          elim (and_not (same_key x.user_key key) (nat_lt x.seqno bound) miss) [
            | inl other ↦
                none_before key bound own rest (none_of_other key x.user_key own all other)
            | inr both ↦ elim last [
              | inl low ↦ absurd (apart (nat_lt x.seqno rules.watermark) low
                  (not_under x.seqno rules.watermark bound reads both.1))
              | inr none ↦ ap (λ (ys : List Entry). first_hit (ys ++ rest) key bound) none
            ]
          ]

pub newer_distinct : (xs ys : List Entry) → AllNewer xs ys → Distinct xs ys
newer_distinct xs ys = all_more (λ x. AllByRecursion
    (λ y. x.user_key ≡ y.user_key → x.seqno < y.seqno) ys)
    (λ x. AllByRecursion (λ y. x.user_key ≡ y.user_key → x.seqno ≢ y.seqno) ys)
    (λ x all. all_more (λ y. x.user_key ≡ y.user_key → x.seqno < y.seqno)
    (λ y. x.user_key ≡ y.user_key → x.seqno ≢ y.seqno)
    (λ y h e n. let k = h e in absurd (omega arith)) ys all) xs

pub kept_newer : (rules : Rules) (xs ys : List Entry) → AllNewer xs ys
    → AllNewer (kept rules (unfiltered xs)) ys
kept_newer rules xs ys = all_kept rules (λ x. AllByRecursion
    (λ y. x.user_key ≡ y.user_key → x.seqno < y.seqno) ys)
    (λ x all. all_more (λ y. x.user_key ≡ y.user_key → x.seqno < y.seqno)
    (λ y. x.user_key ≡ y.user_key → (zeroed rules x).seqno < y.seqno)
    (λ y h e. let k = h e in let z = zeroed_below rules x in omega arith) ys all) xs

pub kept_distinct : (rules : Rules) → rules.zeroing ≡ false → (xs ys : List Entry) → Distinct xs ys
    → Distinct (kept rules (unfiltered xs)) ys
kept_distinct rules zeroing xs ys = all_kept rules
    (λ x. AllByRecursion (λ y. x.user_key ≡ y.user_key → x.seqno ≢ y.seqno) ys)
    (λ x all. all_more (λ y. x.user_key ≡ y.user_key → x.seqno ≢ y.seqno)
    (λ y. x.user_key ≡ y.user_key → (zeroed rules x).seqno ≢ y.seqno)
    (λ y h e n. h e (sym (ap (λ (b : Bool). cond (b && nat_lt x.seqno rules.watermark) 0 x.seqno)
    zeroing) ∙ n)) ys all) xs

pub reads_alike_of_part : PartLaw
unfolding point
reads_alike_of_part rules part others all left strict_part strict_others apart whole rest cases key
    bound reads =
    let sp = as_pairs part strict_part in
    let so = as_pairs others strict_others in
    let strict : Strict (kept rules (unfiltered part)) = pairs_stay rules part sp in
    let before : first_hit all key bound ≡ later key bound (first_hit part key bound)
    (first_hit others key bound) = joined_point key bound part others all sp so apart whole in
    elim cases [
      | inl plain ↦
          let apart' = kept_distinct rules plain.1 part others apart in
          let after : first_hit left key bound ≡ later key bound
          (first_hit (kept rules (unfiltered part)) key bound) (first_hit others key bound) =
          joined_point key bound (kept rules (unfiltered part)) others left strict so apart'
          rest in
          ap shown (after ∙ ap (λ (o : Option Entry). later key bound o
          (first_hit others key bound)) (plain_point key bound rules plain.0 plain.1 reads part
          plain.2) ∙ sym before)
      | inr newer ↦
          let newer' = kept_newer rules part others newer in
          let after : first_hit left key bound ≡ later key bound
          (first_hit (kept rules (unfiltered part)) key bound) (first_hit others key bound) =
          joined_point key bound (kept rules (unfiltered part)) others left strict so
          (newer_distinct (kept rules (unfiltered part)) others newer') rest in
          ap shown after ∙ elim (first_hit others key bound) as
          (λ o. first_hit others key bound ≡ o → shown
          (later key bound (first_hit (kept rules (unfiltered part)) key bound) o)
          ≡ shown (later key bound (first_hit part key bound) o)) [
            | None ↦ λ e. ap shown (later_none key bound
                (first_hit (kept rules (unfiltered part)) key bound))
                ∙ same_within rules key bound (length part) part (omega arith) (strict_up part sp)
                (inl reads) ∙ sym (ap shown (later_none key bound (first_hit part key bound)))
            | Some q ↦ λ e. ap shown (newer_later key bound
                (kept rules (unfiltered part)) others newer' q e
                ∙ sym (newer_later key bound part others newer q e))
          ] refl ∙ sym (ap shown before)
    ]
