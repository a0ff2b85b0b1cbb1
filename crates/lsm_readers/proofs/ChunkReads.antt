-- A point read of a chunk and of what stands behind it is decided by the chunk's last entry.
use Rattle.std.proofs.Common.{◌≡◌, ℕ, ◌<◌, Bool, true, false, cond, List, [], ◌∷◌, ◌++◌, length}
use Rattle.std.proofs.Common.{refl, sym, ap, ◌∙◌}
use Rattle.std.proofs.Math.Bool.{or-false}
use Rattle.std.specs.Prelude.{Option, Some, None, find, ◌&&◌, ◌||◌, nat_lt}
use Rattle.std.specs.declared.cmp.Ordering.{Ordering}
use Rattle.std.specs.Ordering.{is_eq, nat_cmp, ordering_reverse}
use Rattle.std.specs.Cmp.Lexicographic.{slice_cmp, nat_list_cmp_total, texts_ties}
use Rattle.sst_entries.specs.declared.value_type.ValueType.TheVariants.{Value}
use Rattle.sst_entries.specs.Entry.{Entry, entry}
use Rattle.sst_blocks.specs.Handle.{Handle}
use Rattle.sst_entries.specs.Key.{same_key, key_lt}
use Rattle.sst_entries.specs.Point.{is_hit}
use Rattle.sst_entries.proofs.Booleans.{apart, is_false, or_right}
use Rattle.sst_entries.proofs.OrderLemmas.{before_trans, less_of}
use Rattle.sst_entries.specs.Strict.{is_before, IsStrictAfter, last_of}
use Rattle.sst_blocks.proofs.Reaching.{reaches_after, above_reaches}
use Rattle.sst_blocks.specs.table.Index.{last_entry}

-- the entry comes after a read of the key at the bound
abbrev pub after : List ℕ → ℕ → Entry → Bool
after key bound e = is_before (entry key [] bound Value) e

-- the handle of a block that ends with the entry
abbrev ending : Entry → Handle
ending e = record { end_key = e.user_key; seqno = e.seqno; offset = 0; size = 0 }

after_is : (key : List ℕ) (bound : ℕ) (e : Entry)
    → (key_lt key e.user_key || is_hit key bound e) ≡ after key bound e
after_is key bound e = reaches_after key bound (ending e)

above_is : (key : List ℕ) (e : Entry) → key_lt key e.user_key ≡ after key 0 e
above_is key e = above_reaches key (ending e) ∙ reaches_after key 0 (ending e)

hit_after : (key : List ℕ) (bound : ℕ) (e : Entry) → is_hit key bound e ≡ true
    → after key bound e ≡ true
hit_after key bound e h = sym (after_is key bound e)
    ∙ or_right (key_lt key e.user_key) (is_hit key bound e) h

-- what does not come after the read is not hit
not_hit : (key : List ℕ) (bound : ℕ) (e : Entry) → after key bound e ≡ false
    → is_hit key bound e ≡ false
not_hit key bound e early = is_false (is_hit key bound e)
    (λ h. apart (after key bound e) (hit_after key bound e h) early)

-- nothing before an entry that does not come after the read does
pub not_before : (key : List ℕ) (bound : ℕ) (e l : Entry) → is_before e l ≡ true
    → after key bound l ≡ false → after key bound e ≡ false
not_before key bound e l before early = is_false (after key bound e)
    (λ late. apart (after key bound l) (before_trans (entry key [] bound Value) e l late before)
    early)

-- an entry above the key is not hit
above_apart : (key : List ℕ) (bound : ℕ) (e : Entry) → key_lt key e.user_key ≡ true
    → is_hit key bound e ≡ false
above_apart key bound e above =
    let tie : same_key e.user_key key ≡ is_eq (ordering_reverse
    (slice_cmp nat_cmp key e.user_key)) = texts_ties e.user_key key
    ∙ ap is_eq (nat_list_cmp_total.antisymm e.user_key key) in
    let apart : same_key e.user_key key ≡ false = tie
    ∙ ap (λ (o : Ordering). is_eq (ordering_reverse o))
    (less_of (slice_cmp nat_cmp key e.user_key) above) in
    ap (λ (b : Bool). b && nat_lt e.seqno bound) apart

-- ---- a chunk before the one that is read

pub later : (x y : Entry) (ys : List Entry) → IsStrictAfter (Some x) (y ∷ ys)
    → is_before x (last_entry (y ∷ ys)) ≡ true
unfolding IsStrictAfter last_of
later x y [] strict = strict.0
later x y (z ∷ zs) strict = before_trans x y (last_entry (z ∷ zs)) strict.0 (later y z zs strict.1)

passed_one : (p : Entry → Bool) (x : Entry) (o : Option Entry) → p x ≡ false
    → cond (p x) (Some x) o ≡ o
passed_one p x o h = rw h refl

pub chunk_passed : (key : List ℕ) (bound : ℕ) (last : Option Entry) (x : Entry)
    (xs rest : List Entry)
    → IsStrictAfter last (x ∷ xs) → after key bound (last_entry (x ∷ xs)) ≡ false
    → find (is_hit key bound) ((x ∷ xs) ++ rest) ≡ find (is_hit key bound) rest
unfolding IsStrictAfter last_of
chunk_passed key bound last x [] rest strict early =
    passed_one (is_hit key bound) x (find (is_hit key bound) rest) (not_hit key bound x early)
chunk_passed key bound last x (y ∷ ys) rest strict early =
    passed_one (is_hit key bound) x (find (is_hit key bound) ((y ∷ ys) ++ rest))
    (not_hit key bound x (not_before key bound x (last_entry (y ∷ ys))
    (later x y ys strict.1) early))
    ∙ chunk_passed key bound (Some x) y ys rest strict.1 early

-- ---- the chunk that is read

-- nothing behind an entry above the key is hit
none_above : (key : List ℕ) (bound : ℕ) (x : Entry) (rest : List Entry)
    → IsStrictAfter (Some x) rest → key_lt key x.user_key ≡ true
    → find (is_hit key bound) rest ≡ None
unfolding IsStrictAfter
none_above key bound x [] strict above = refl
none_above key bound x (y ∷ ys) strict above =
    let up : key_lt key y.user_key ≡ true = above_is key y
    ∙ before_trans (entry key [] 0 Value) x y (sym (above_is key x) ∙ above) strict.0 in
    passed_one (is_hit key bound) y (find (is_hit key bound) ys) (above_apart key bound y up)
    ∙ none_above key bound y ys strict.1 up

read_last : (key : List ℕ) (bound : ℕ) (x : Entry) (rest : List Entry) (hit : Bool)
    → is_hit key bound x ≡ hit → IsStrictAfter (Some x) rest → after key bound x ≡ true
    → cond hit (Some x) (find (is_hit key bound) rest) ≡ cond hit (Some x) None
read_last key bound x rest true e strict late = refl
read_last key bound x rest false e strict late =
    let above = key_lt key x.user_key in
    none_above key bound x rest strict (sym (or-false above) ∙ ap (λ (b : Bool). above || b) (sym e)
    ∙ after_is key bound x ∙ late)

pub chunk_here : (key : List ℕ) (bound : ℕ) (last : Option Entry) (x : Entry)
    (xs rest : List Entry)
    → IsStrictAfter last ((x ∷ xs) ++ rest) → after key bound (last_entry (x ∷ xs)) ≡ true
    → find (is_hit key bound) ((x ∷ xs) ++ rest) ≡ find (is_hit key bound) (x ∷ xs)
unfolding IsStrictAfter last_of
chunk_here key bound last x [] rest strict late =
    read_last key bound x rest (is_hit key bound x) refl strict.1 late
chunk_here key bound last x (y ∷ ys) rest strict late =
    ap (λ (o : Option Entry). cond (is_hit key bound x) (Some x) o)
    (chunk_here key bound (Some x) y ys rest strict.1 late)

-- ---- chunks one behind another

-- each chunk has an entry
abbrev pub AreSome : List (List Entry) → Type 0
AreSome [] = Unit {0}
AreSome (c ∷ cs) = (0 < length c) × AreSome cs
