-- More entries in a sorted list in which no key has one seqno twice.
use Rattle.std.proofs.Common.{◌≡◌, refl, sym, ◌∙◌, ap, subst, ℕ, ◌-◌, ◌^◌, ◌<◌, ◌⊎◌, inl, inr, Bool}
use Rattle.std.proofs.Common.{true, false, cond, List, [], ◌∷◌, ◌++◌, arith, rules}
use Rattle.std.specs.Prelude.{◌&&◌, ◌==◌, map}
use Rattle.std.specs.List.{AllByRecursion}
use Rattle.std.specs.declared.cmp.Ordering.{Ordering}
use Rattle.std.specs.declared.cmp.Ordering.TheVariants.{Less, Equal, Greater}
use Rattle.std.specs.Cmp.Lexicographic.{slice_cmp}
use Rattle.std.specs.Ordering.{is_gt, is_lt, nat_cmp, ordering_reverse, ordering_then}
use Rattle.std.proofs.lemmas.Bool.{eq-eqb, or_parts}
use Rattle.sst_entries.specs.Entry.{Entry}
use Rattle.sst_entries.specs.Key.{same_key}
use Rattle.sst_entries.specs.Kind.{tag_of}
use Rattle.sst_entries.specs.Stream.{ok_results}
use Rattle.sst_entries.specs.Strict.{is_before, version_cmp}
use Rattle.sst_entries.proofs.Booleans.{and_both}
use Rattle.sst_entries.proofs.KeyLemmas.{same_itself}
use Rattle.sst_entries.proofs.Lists.{all_more}
use Rattle.sst_entries.proofs.OrderLemmas.{before_trans, less_of, number_total, tie_same}
use Rattle.lsm_sorted.specs.merge.Union.{all_entries, insert_sorted, item_cmp, sort_entries}
use Rattle.lsm_sorted.proofs.MergedLemmas.{Above, above_at_most, all_inserted, all_sorted_in}
use Rattle.lsm_sorted.proofs.MergedLemmas.{item_total}
use Rattle.lsm_sorted.proofs.Pairs.{AllBefore, pairs_of, strict_from}
use Rattle.lsm_sorted.proofs.UnionLemmas.{then_less}
use Rattle.lsm_runs.proofs.Unions.{entries_of}
use Rattle.lsm_writers.specs.Writing.{IsWritable}
use Rattle.sst_script.specs.Runs.{Run, has_entry, repeats, union}

-- two entries of different keys or seqnos: one is before the other
abbrev Apart : Entry → Entry → Type 0
Apart x y = (is_before x y ≡ true) ⊎ (is_before y x ≡ true)

-- an entry after another is above it
behind_above : (x y : Entry) → is_before x y ≡ true → Above y x
behind_above x y h =
    let less : item_cmp x y ≡ Less = then_less (slice_cmp nat_cmp x.user_key y.user_key)
    (nat_cmp y.seqno x.seqno) (nat_cmp (tag_of x.kind) (tag_of y.kind))
    (less_of (version_cmp x y) h) in
    ap is_gt (item_total.antisymm y x ∙ ap ordering_reverse less)

apart_below : (x y : Entry) → Apart x y → is_gt (item_cmp x y) ≡ false → is_before x y ≡ true
apart_below x y a e = elim a [
  | inl p ↦ p
  | inr q ↦ let no : true ≡ false = sym (behind_above y x q) ∙ e in absurd cc
]

apart_above : (x y : Entry) → Apart x y → is_gt (item_cmp x y) ≡ true → is_before y x ≡ true
apart_above x y a e = elim a [
  | inl p ↦ let no : true ≡ false = sym e ∙ above_at_most y x (behind_above x y p) in absurd cc
  | inr q ↦ q
]

-- an entry that differs from each of a strict list is inserted
put_strict : (x : Entry) (ys : List Entry) → AllBefore ys → AllByRecursion (Apart x) ys
    → AllBefore (insert_sorted x ys)
put_strict x [] h a = (tt, tt)
put_strict x (y ∷ ys) h a =
    elim (is_gt (item_cmp x y)) as (λ b. is_gt (item_cmp x y) ≡ b
    → AllBefore (cond b (y ∷ insert_sorted x ys) (x ∷ y ∷ ys))) [
      | true ↦ λ e. (
        all_inserted (λ (z : Entry). is_before y z ≡ true) x ys
            (apart_above x y a.0 e) h.0,
        put_strict x ys h.1 a.1,
      )
      | false ↦ λ e.
          let first = apart_below x y a.0 e in (
            (
              first,
              all_more (λ (z : Entry). is_before y z ≡ true)
                  (λ (z : Entry). is_before x z ≡ true) (λ z k. before_trans x y z first k) ys h.0,
            ),
            h,
          )
    ] refl

-- each entry of a list differs from each of another
abbrev AreApart : List Entry → List Entry → Type 0
AreApart es ys = AllByRecursion (λ (e : Entry). AllByRecursion (Apart e) ys) es

sorted_strict : (es all : List Entry) → AllBefore es → AllBefore (sort_entries all)
    → AreApart es (sort_entries all) → AllBefore (sort_entries (es ++ all))
sorted_strict [] all h k a = k
sorted_strict (e ∷ es) all h k a =
    let own : AllByRecursion (Apart e) es = all_more (λ (y : Entry). is_before e y ≡ true) (Apart e)
    (λ y p. inl p) es h.0 in
    put_strict e (sort_entries (es ++ all)) (sorted_strict es all h.1 k a.1)
    (all_sorted_in (Apart e) es all own a.0)

-- ---- entries whose key and seqno another list does not have

abbrev is_at : Entry → Entry → Bool
is_at x y = same_key y.user_key x.user_key && (y.seqno == x.seqno)

ties : (a b : Ordering) → ordering_then a b ≡ Equal → (a ≡ Equal) × (b ≡ Equal)
ties Less b h = absurd cc
ties Equal b h = (refl, h)
ties Greater b h = absurd cc

same_number : (m n : ℕ) → nat_cmp m n ≡ Equal → m ≡ n
same_number m n h = grind (arith, rules, h)

tied_at : (x y : Entry) → version_cmp x y ≡ Equal → is_at x y ≡ true
tied_at x y h =
    let both = ties (slice_cmp nat_cmp x.user_key y.user_key) (nat_cmp y.seqno x.seqno) h in
    let key : x.user_key ≡ y.user_key = tie_same x.user_key y.user_key both.0 in
    let number : y.seqno ≡ x.seqno = same_number y.seqno x.seqno both.1 in
    and_both (same_key y.user_key x.user_key) (y.seqno == x.seqno)
    (subst (λ (k : List ℕ). same_key y.user_key k ≡ true) (sym key) (same_itself y.user_key))
    (eq-eqb y.seqno x.seqno number)

apart_of : (x y : Entry) → is_at x y ≡ false → Apart x y
apart_of x y miss =
    elim (version_cmp x y) as (λ o. version_cmp x y ≡ o → Apart x y) [
      | Less ↦ λ e. inl (ap is_lt e)
      | Equal ↦ λ e. let no : true ≡ false = sym (tied_at x y e) ∙ miss in absurd cc
      | Greater ↦ λ e. inr (ap is_lt (number_total.antisymm y x ∙ ap ordering_reverse e))
    ] refl

all_apart : (x : Entry) (ys : List Entry) → has_entry ys x.user_key x.seqno ≡ false
    → AllByRecursion (Apart x) ys
all_apart x [] h = tt
all_apart x (y ∷ ys) h =
    let both = or_parts (is_at x y) (has_entry ys x.user_key x.seqno) h in
    (apart_of x y both.0, all_apart x ys both.1)

each_apart : (rs : List Run) (es : List Entry) → repeats rs es ≡ false → AreApart es (union rs)
each_apart rs [] h = tt
each_apart rs (e ∷ es) h =
    let both = or_parts (has_entry (union rs) e.user_key e.seqno) (repeats rs es) h in
    (all_apart e (union rs) both.0, each_apart rs es both.1)

-- ---- one more run

abbrev all_of : List Run → List Entry
all_of rs = all_entries (map (λ (r : Run). ok_results r.list) rs)

-- the sorted entries of runs, and of one more that repeats none of their keys and seqnos
pub union_more : (run : Run) (rs : List Run) → IsWritable run.list → IsWritable (union rs)
    → repeats rs run.list ≡ false → IsWritable (union (run ∷ rs))
union_more run rs one all fresh =
    let is : union (run ∷ rs) ≡ sort_entries (run.list ++ all_of rs) =
    ap (λ (es : List Entry). sort_entries (es ++ all_of rs)) (entries_of run.list) in
    let strict = strict_from (sort_entries (run.list ++ all_of rs))
    (sorted_strict run.list (all_of rs) (pairs_of run.list one.strict)
    (pairs_of (union rs) all.strict) (each_apart rs run.list fresh)) in
    let numbered = all_sorted_in (λ (e : Entry). e.seqno < 2 ^ 64 - 1) run.list
    (all_of rs) one.numbered all.numbered in
    subst IsWritable (sym is) (record { strict = strict; numbered = numbered })
