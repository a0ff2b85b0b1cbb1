-- The keys of a strict list lie between its ends.
use Rattle.std.proofs.Common.{◌≡◌, refl, sym, ap, subst, ◌∙◌, ℕ, true, false, List, [], ◌∷◌, IsTrue}
use Rattle.std.specs.Prelude.{Option, Some, ◌&&◌, not, unwrap_or}
use Rattle.std.specs.List.{AllByRecursion}
use Rattle.std.specs.Option.{option_map}
use Rattle.std.specs.Cmp.Lexicographic.{slice_cmp, nat_list_cmp_total}
use Rattle.std.specs.Ordering.{nat_cmp, is_lt, ordering_reverse, ordering_then}
use Rattle.std.specs.declared.cmp.Ordering.{Ordering}
use Rattle.std.specs.declared.cmp.Ordering.TheVariants.{Less, Equal, Greater}
use Rattle.std.specs.declared.ops.Bound.{Bound}
use Rattle.sst_entries.specs.Entry.{Entry}
use Rattle.sst_entries.specs.Point.{is_from, is_to, within}
use Rattle.sst_entries.specs.Strict.{is_before, IsStrictAfter, IsStrict, last_of}
use Rattle.sst_entries.proofs.Booleans.{and_both, and_parts, is_false}
use Rattle.sst_entries.proofs.OrderLemmas.{before_trans}
use Rattle.lsm_sorted.specs.version.KeyRange.{Interval, IsOutside, key_le, has_key}
use Rattle.lsm_sorted.proofs.IntervalLemmas.{le_refl, le_trans}
use Rattle.sst_blocks.specs.table.Facts.{facts}
use Rattle.sst_blocks.specs.table.Index.{last_entry}
use Rattle.lsm_readers.specs.OfList.{ends_of}
use Rattle.lsm_readers.proofs.FileLengths.{last_some}

not_above : (o p : Ordering) → is_lt (ordering_then o p) ≡ true
    → not (is_lt (ordering_reverse o)) ≡ true
not_above Less p h = refl
not_above Equal p h = refl
not_above Greater p h = absurd cc

before_le : (a b : Entry) → is_before a b ≡ true → key_le a.user_key b.user_key ≡ true
before_le a b h = ap (λ (o : Ordering). not (is_lt o))
    (nat_list_cmp_total.antisymm b.user_key a.user_key)
    ∙ not_above (slice_cmp nat_cmp a.user_key b.user_key) _ h

-- what stands behind an entry stands behind what comes before that
behind_too : (x y : Entry) (es : List Entry) → is_before x y ≡ true → IsStrictAfter (Some y) es
    → IsStrictAfter (Some x) es
unfolding IsStrictAfter
behind_too x y [] before h = tt
behind_too x y (e ∷ es) before h = (before_trans x y e before h.0, h.1)

abbrev FromKey : List ℕ → Entry → Type 0
FromKey low e = key_le low e.user_key ≡ true

abbrev ToKey : List ℕ → Entry → Type 0
ToKey high e = key_le e.user_key high ≡ true

from_head : (x : Entry) (es : List Entry) → IsStrictAfter (Some x) es
    → AllByRecursion (FromKey x.user_key) es
unfolding IsStrictAfter
from_head x [] h = tt
from_head x (e ∷ es) h = (before_le x e h.0, from_head x es (behind_too x e es h.0 h.1))

to_last : (x : Entry) (es : List Entry) → IsStrictAfter (Some x) es
    → AllByRecursion (ToKey (last_entry (x ∷ es)).user_key) (x ∷ es)
unfolding IsStrictAfter last_of
to_last x [] h = (le_refl x.user_key, tt)
to_last x (y ∷ ys) h =
    let more = to_last y ys h.1 in
    (le_trans x.user_key y.user_key (last_entry (y ∷ ys)).user_key (before_le x y h.0) more.0, more)

max_is : (x : Entry) (xs : List Entry) → (last_entry (x ∷ xs)).user_key ≡ (facts (x ∷ xs)).max_key
unfolding last_of
max_is x xs = sym (ap (λ (o : Option Entry). unwrap_or
    (option_map (λ (e : Entry). e.user_key) o) []) (last_some x xs))

abbrev InRange : Interval → Entry → Type 0
InRange r e = IsTrue (has_key r e.user_key)

both : (low high : List ℕ) (es : List Entry) → AllByRecursion (FromKey low) es
    → AllByRecursion (ToKey high) es → AllByRecursion
    (InRange (record { min = low; max = high })) es
both low high [] p q = tt
both low high (e ∷ es) p q = (and_both _ _ p.0 q.0, both low high es p.1 q.1)

pub keys_within : (es : List Entry) → IsStrict es → AllByRecursion (InRange (ends_of es)) es
unfolding IsStrictAfter
keys_within [] h = tt
keys_within (x ∷ xs) h =
    both x.user_key (facts (x ∷ xs)).max_key (x ∷ xs) (le_refl x.user_key, from_head x xs h.1)
    (subst (λ (k : List ℕ). AllByRecursion (ToKey k) (x ∷ xs)) (max_is x xs) (to_last x xs h.1))

-- where no key of the interval lies within two edges, no entry does
pub nothing_within : (es : List Entry) (low high : Bound (List ℕ)) (r : Interval)
    → AllByRecursion (InRange r) es → IsOutside low high r → within low high es ≡ []
nothing_within [] low high r h out = refl
nothing_within (e ∷ es) low high r h out =
    let k = e.user_key in
    let no : (is_from low k && is_to high k) ≡ false =
    is_false _ (λ yes. let p = and_parts (is_from low k) (is_to high k) yes in out k h.0 p.0 p.1) in
    rw no (nothing_within es low high r h.1 out)
