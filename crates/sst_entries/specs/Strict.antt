-- Entries in strict order: keys ascending, sequence numbers descending within a key.
use Rattle.std.specs.Prelude.{◌≡◌, Bool, true, ◌&&◌, List, [], ◌∷◌, Option, Some, None}
use Rattle.std.specs.Cmp.Lexicographic.{slice_cmp}
use Rattle.std.specs.declared.cmp.Ordering.{Ordering}
use Rattle.std.specs.Ordering.{nat_cmp, on, flip_args, then_cmp, is_lt}
use Rattle.sst_entries.specs.Entry.{Entry}

-- The order by key and sequence number alone.
abbrev pub version_cmp : Entry → Entry → Ordering
version_cmp = then_cmp (on (λ (e : Entry). e.user_key) (slice_cmp nat_cmp))
    (flip_args (on (λ (e : Entry). e.seqno) nat_cmp))

-- One entry is strictly before another.
abbrev pub is_before : Entry → Entry → Bool
is_before a b = is_lt (version_cmp a b)

-- The entry may come after the optional previous entry.
abbrev pub may_follow : Option Entry → Entry → Bool
may_follow None e = true
may_follow (Some last) e = is_before last e

-- Each entry is before the next, and the first may follow the previous one.
unfoldable pub IsStrictAfter : Option Entry → List Entry → Type 0
IsStrictAfter last [] = Unit {0}
IsStrictAfter last (e ∷ es) = (may_follow last e ≡ true) × IsStrictAfter (Some e) es

-- The entries are in strict order.
abbrev pub IsStrict : List Entry → Type 0
IsStrict es = IsStrictAfter None es

-- The same as a decidable test.
unfoldable pub is_strict_after : Option Entry → List Entry → Bool
is_strict_after last [] = true
is_strict_after last (e ∷ es) = may_follow last e && is_strict_after (Some e) es

-- The last entry of a list, or the previous one if it is empty.
unfoldable pub last_of : Option Entry → List Entry → Option Entry
last_of before [] = before
last_of before (e ∷ es) = last_of (Some e) es
