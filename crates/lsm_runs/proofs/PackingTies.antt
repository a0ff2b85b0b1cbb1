-- Runs in which each key has its tables in the same order hold the same entries, those that tie
-- too.
use Rattle.std.proofs.Common.{◌≡◌, refl, sym, ◌∙◌, ap, ℕ, Bool, true, false, cond, List, [], ◌∷◌}
use Rattle.std.proofs.Common.{◌++◌, filter, inl, inr}
use Rattle.std.specs.Prelude.{◌&&◌, flat_map}
use Rattle.std.specs.List.{AllByRecursion}
use Rattle.std.specs.Cmp.Lexicographic.{nat_list_cmp_total, slice_cmp}
use Rattle.std.specs.Ordering.{is_gt, is_lt, nat_cmp, ordering_reverse, ordering_then}
use Rattle.std.specs.declared.cmp.Ordering.{Ordering}
use Rattle.std.specs.declared.cmp.Ordering.TheVariants.{Less, Equal, Greater}
use Rattle.std.specs.declared.ops.Bound.TheVariants.{Included}
use Rattle.std.proofs.lemmas.Bool.{and_from, and_parts, both_ways, cases_Bool}
use Rattle.std.proofs.lemmas.List.Elements.{filter-append}
use Rattle.sst_entries.specs.Entry.{Entry}
use Rattle.sst_entries.specs.Kind.{tag_of}
use Rattle.sst_entries.specs.Point.{within}
use Rattle.sst_entries.proofs.Booleans.{is_false}
use Rattle.lsm_sorted.specs.merge.Union.{AtMost, Ascends, sort_entries}
use Rattle.lsm_sorted.proofs.UnionLemmas.{ascends_in_order}
use Rattle.lsm_sorted.specs.version.KeyRange.{Interval, IsOutside, has_key, key_le}
use Rattle.lsm_sorted.specs.version.Packing.{tables_in}
use Rattle.lsm_sorted.proofs.IntervalLemmas.{above, le_refl, le_to, le_trans, lt_then_le, not_le}
use Rattle.lsm_readers.specs.point.Table.{OpenTable}
use Rattle.lsm_readers.proofs.Ends.{nothing_within}
use Rattle.lsm_runs.specs.compaction.Packed.{KeptLaw}
use Rattle.lsm_run_parts.specs.RunParts.{range_of}
use Rattle.lsm_runs.specs.SeveralRuns.{union_in}
use Rattle.lsm_runs.proofs.Packing.{Holds, list_of, packed_union, runs_all_hold, same_hold}
use Rattle.lsm_runs.proofs.Packing.{union_sorts}
use Rattle.lsm_runs.proofs.RunWithin.{held_keys}
use Rattle.lsm_runs.proofs.Unions.{within_sorted}
use Rattle.sst_entries.specs.Key.{key_lt}
use Rattle.sst_entries.proofs.StreamLemmas.{head_eq, tail_eq}

-- the entries of a key
abbrev of_key : List ℕ → List Entry → List Entry
of_key k es = within (Included k) (Included k) es

abbrev has : List ℕ → Entry → Bool
has k e = key_le k e.user_key && key_le e.user_key k

-- ---- sorted lists that have the same entries of each key are the same

has_own : (e : Entry) → has e.user_key e ≡ true
has_own e = and_from (key_le e.user_key e.user_key) (key_le e.user_key e.user_key)
    (le_refl e.user_key) (le_refl e.user_key)

taken : (k : List ℕ) (e : Entry) (es : List Entry) → has k e ≡ true
    → of_key k (e ∷ es) ≡ e ∷ of_key k es
taken k e es h = ap (λ (b : Bool). cond b (e ∷ of_key k es) (of_key k es)) h

left : (k : List ℕ) (e : Entry) (es : List Entry) → has k e ≡ false
    → of_key k (e ∷ es) ≡ of_key k es
left k e es h = ap (λ (b : Bool). cond b (e ∷ of_key k es) (of_key k es)) h

not_greater : (o p : Ordering) → is_gt (ordering_then o p) ≡ false
    → is_lt (ordering_reverse o) ≡ false
not_greater Less p h = refl
not_greater Equal p h = refl
not_greater Greater p h = absurd cc

-- keys do not fall
at_most_key : (x y : Entry) → AtMost x y → key_le x.user_key y.user_key ≡ true
at_most_key x y h =
    le_to x.user_key y.user_key
    (ap is_lt (nat_list_cmp_total.antisymm y.user_key x.user_key)
    ∙ not_greater (slice_cmp nat_cmp x.user_key y.user_key)
    (ordering_then (nat_cmp y.seqno x.seqno) (nat_cmp (tag_of x.kind) (tag_of y.kind))) h)

above_key : (k : List ℕ) (e : Entry) → key_lt k e.user_key ≡ true → has k e ≡ false
above_key k e h = is_false (has k e) (λ yes. both_ways (key_le e.user_key k) (not_le e.user_key k h)
    (and_parts (key_le k e.user_key) (key_le e.user_key k) yes).1)

-- a sorted list that starts above a key has none of it
none_above : (k : List ℕ) (x : Entry) (es : List Entry) → key_lt k x.user_key ≡ true
    → AllByRecursion (AtMost x) es → of_key k es ≡ []
none_above k x [] low up = refl
none_above k x (e ∷ es) low up =
    left k e es (above_key k e (lt_then_le k x.user_key e.user_key low (at_most_key x e up.0)))
    ∙ none_above k x es low up.1

starts_above : (k : List ℕ) (x : Entry) (es : List Entry) → key_lt k x.user_key ≡ true
    → Ascends (x ∷ es) → of_key k (x ∷ es) ≡ []
starts_above k x es low up = left k x es (above_key k x low) ∙ none_above k x es low up.0

not_none : (x : Entry) (xs : List Entry) → x ∷ xs ≡ [] → ⊥
not_none x xs h = absurd cc

-- the first entries of such lists have one key
first_key : (x y : Entry) (xs ys : List Entry) → Ascends (y ∷ ys)
    → of_key x.user_key (x ∷ xs) ≡ of_key x.user_key (y ∷ ys) → key_le y.user_key x.user_key ≡ true
first_key x y xs ys up same =
    elim (cases_Bool (key_le y.user_key x.user_key)) [
      | inl e ↦ e
      | inr e ↦
          absurd (not_none x (of_key x.user_key xs)
          (sym (taken x.user_key x xs (has_own x)) ∙ same
          ∙ starts_above x.user_key y ys (above y.user_key x.user_key e) up))
    ]

rest_same : (x : Entry) (xs ys : List Entry)
    → ((k : List ℕ) → of_key k (x ∷ xs) ≡ of_key k (x ∷ ys)) → (k : List ℕ)
    → of_key k xs ≡ of_key k ys
rest_same x xs ys same k =
    elim (cases_Bool (has k x)) [
      | inl e ↦ tail_eq (sym (taken k x xs e) ∙ same k ∙ taken k x ys e)
      | inr e ↦ sym (left k x xs e) ∙ same k ∙ left k x ys e
    ]

same_sorted : (xs ys : List Entry) → Ascends xs → Ascends ys
    → ((k : List ℕ) → of_key k xs ≡ of_key k ys) → xs ≡ ys
same_sorted [] [] up vp same = refl
same_sorted [] (y ∷ ys) up vp same = absurd (not_none y (of_key y.user_key ys)
    (sym (taken y.user_key y ys (has_own y)) ∙ sym (same y.user_key)))
same_sorted (x ∷ xs) [] up vp same = absurd (not_none x (of_key x.user_key xs)
    (sym (taken x.user_key x xs (has_own x)) ∙ same x.user_key))
same_sorted (x ∷ xs) (y ∷ ys) up vp same =
    let kx = x.user_key in
    let one : has kx y ≡ true = and_from (key_le kx y.user_key) (key_le y.user_key kx)
    (first_key y x ys xs up (sym (same y.user_key))) (first_key x y xs ys vp (same kx)) in
    let e : x ≡ y = head_eq (sym (taken kx x xs (has_own x)) ∙ same kx ∙ taken kx y ys one) in
    let more : (k : List ℕ) → of_key k (x ∷ xs) ≡ of_key k (x ∷ ys) = λ k. same k
    ∙ ap (λ (z : Entry). of_key k (z ∷ ys)) (sym e) in
    ap (λ (zs : List Entry). x ∷ zs) (same_sorted xs ys up.1 vp.1 (rest_same x xs ys more))
    ∙ ap (λ (z : Entry). z ∷ ys) e

-- lists that have the same entries of each key, in the same order
sorts_alike : (xs ys : List Entry) → ((k : List ℕ) → of_key k xs ≡ of_key k ys)
    → sort_entries xs ≡ sort_entries ys
sorts_alike xs ys same =
    same_sorted (sort_entries xs) (sort_entries ys) (ascends_in_order xs) (ascends_in_order ys)
    (λ k. within_sorted (Included k) (Included k) xs ∙ ap sort_entries (same k)
    ∙ sym (within_sorted (Included k) (Included k) ys))

-- ---- the entries of a key lie in the tables whose range has it

outside : (k : List ℕ) (r : Interval) → has_key r k ≡ false → IsOutside (Included k) (Included k) r
outside k r miss other inside from to =
    let p = and_parts (key_le r.min other) (key_le other r.max) inside in
    both_ways (has_key r k) miss (and_from (key_le r.min k) (key_le k r.max)
    (le_trans r.min other k p.0 to) (le_trans k other r.max from p.1))

none_of_key : (k : List ℕ) (t : OpenTable) → Holds t → has_key (range_of t) k ≡ false
    → of_key k (list_of t) ≡ []
none_of_key k t h miss = nothing_within (list_of t) (Included k) (Included k) (range_of t)
    (held_keys t (list_of t) h.list) (outside k (range_of t) miss)

abbrev holding : List ℕ → List OpenTable → List OpenTable
holding k ts = filter (λ (t : OpenTable). has_key (range_of t) k) ts

key_entries : (k : List ℕ) (ts : List OpenTable) → AllByRecursion Holds ts
    → of_key k (flat_map list_of ts) ≡ flat_map (λ (t : OpenTable). of_key k (list_of t))
    (holding k ts)
key_entries k [] h = refl
key_entries k (t ∷ ts) h =
    let own = of_key k (list_of t) in
    let rest = flat_map (λ (u : OpenTable). of_key k (list_of u)) (holding k ts) in
    let parts : of_key k (flat_map list_of (t ∷ ts)) ≡ own ++ rest =
    filter-append (has k) (list_of t) (flat_map list_of ts)
    ∙ ap (λ (xs : List Entry). own ++ xs) (key_entries k ts h.1) in
    elim (cases_Bool (has_key (range_of t) k)) [
      | inl e ↦ rw e parts
      | inr e ↦ rw e (parts ∙ ap (λ (xs : List Entry). xs ++ rest) (none_of_key k t h.0 e))
    ]

pub kept_alike : KeptLaw
kept_alike runs packed lists h same holds order =
    packed_union runs packed lists h same order (λ are.
    let own = runs_all_hold runs lists h in
    union_sorts packed
    ∙ sorts_alike (flat_map list_of (tables_in packed)) (flat_map list_of (tables_in runs))
    (λ k.
    key_entries k (tables_in packed) (same_hold runs packed same own)
    ∙ ap (flat_map (λ (t : OpenTable). of_key k (list_of t))) (holds k)
    ∙ sym (key_entries k (tables_in runs) own))
    ∙ sym (union_sorts runs)
    ∙ sym (ap union_in are))
