-- Strict lists of handles: their parts, and the last handles of these.
use Rattle.std.proofs.Common.{◌≡◌, refl, sym, subst, ℕ, zero, suc, ◌-◌, Bool, true, List, [], ◌∷◌}
use Rattle.std.proofs.Common.{◌++◌, take, drop, arith}
use Rattle.std.specs.Prelude.{map, slice_range, Option, Some, None, unwrap_or}
use Rattle.std.proofs.lemmas.List.{map-append}
use Rattle.sst_entries.specs.Entry.{Entry, entry}
use Rattle.sst_entries.specs.Strict.{IsStrict, IsStrictAfter, last_of, may_follow}
use Rattle.sst_entries.specs.declared.value_type.ValueType.TheVariants.{Value}
use Rattle.sst_entries.proofs.Strictness.{strict_alone, may_jump}
use Rattle.sst_blocks.specs.Handle.{Handle}
use Rattle.sst_blocks.specs.Handles.{AreStrictHandles, end_of}
use Rattle.sst_blocks.specs.table.Parts.{AreParts, joined_parts, parts_by}
use Rattle.sst_blocks.specs.table.Partitions.{last_end}
use Rattle.sst_blocks.proofs.PartLaws.{are_parts_of}

-- no handle
pub strict_none : AreStrictHandles []
unfolding IsStrictAfter
strict_none = tt

-- a front of a strict list, and what is left behind one
strict_take : (last : Option Entry) (n : ℕ) (hs : List Handle) → IsStrictAfter last (map end_of hs)
    → IsStrictAfter last (map end_of (take n hs))
unfolding IsStrictAfter
strict_take last zero hs h = tt
strict_take last (suc n) [] h = tt
strict_take last (suc n) (x ∷ hs) h = (h.0, strict_take (Some (end_of x)) n hs h.1)

strict_drop : (last : Option Entry) (n : ℕ) (hs : List Handle) → IsStrictAfter last (map end_of hs)
    → AreStrictHandles (drop n hs)
unfolding IsStrictAfter
strict_drop last zero hs h = strict_alone last (map end_of hs) h
strict_drop last (suc n) [] h = tt
strict_drop last (suc n) (x ∷ hs) h = strict_drop (Some (end_of x)) n hs h.1

pub strict_range : (hs : List Handle) (i j : ℕ) → AreStrictHandles hs
    → AreStrictHandles (slice_range hs i j)
strict_range hs i j h = strict_take None (j - i) (drop i hs) (strict_drop None i hs h)

-- the last entry of some, or else this one
abbrev end_or : Entry → List Entry → Entry
end_or d es = unwrap_or (last_of None es) d

last_of_one : (d e : Entry) → end_or d (e ∷ []) ≡ e
unfolding last_of
last_of_one d e = refl

last_of_next : (d e x : Entry) (es : List Entry) → end_or d (e ∷ x ∷ es) ≡ end_or d (x ∷ es)
unfolding last_of
last_of_next d e x es = refl

-- the last of a strict front follows what stands before, and the rest follows it
front_end : (d : Entry) (last : Option Entry) (e : Entry) (es rest : List Entry)
    → IsStrictAfter last (e ∷ (es ++ rest))
    → (may_follow last (end_or d (e ∷ es)) ≡ true) × IsStrictAfter (Some (end_or d (e ∷ es))) rest
unfolding IsStrictAfter
front_end d last e [] rest h = rw (last_of_one d e) h
front_end d last e (x ∷ es) rest h =
    let later = front_end d (Some e) x es rest h.1 in
    rw (last_of_next d e x es) (may_jump last e (end_or d (x ∷ es)) h.0 later.0, later.1)

-- the last entries of the parts of a strict list
ends_strict : (full : List Handle → Bool) (last : Option Entry) (parts : List (List Handle))
    → AreParts full parts → IsStrictAfter last (map end_of (joined_parts parts))
    → IsStrictAfter last (map last_end parts)
unfolding IsStrictAfter
ends_strict full last [] are h = tt
ends_strict full last ([] ∷ parts) are h = absurd (omega (arith, are.0.some))
ends_strict full last ((x ∷ xs) ∷ parts) are h =
    let d = entry [] [] 0 Value in
    let split : map end_of ((x ∷ xs) ++ joined_parts parts) ≡ end_of x
    ∷ (map end_of xs ++ map end_of (joined_parts parts)) =
    map-append end_of (x ∷ xs) (joined_parts parts) in
    let first = front_end d last (end_of x) (map end_of xs) (map end_of (joined_parts parts))
    (subst (λ es. IsStrictAfter last es) split h) in
    (first.0, ends_strict full (Some (last_end (x ∷ xs))) parts are.2 first.1)

pub part_ends_strict : (full : List Handle → Bool) (hs : List Handle) → AreStrictHandles hs
    → IsStrict (map last_end (parts_by full hs))
part_ends_strict full hs h =
    let are = are_parts_of full hs in
    ends_strict full None (parts_by full hs) are.each
    (subst (λ xs. AreStrictHandles xs) (sym are.whole) h)
