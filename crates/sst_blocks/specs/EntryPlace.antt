-- The position of an entry in a table's bytes.
use Rattle.std.specs.Prelude.{ℕ, ◌≤◌, ◌||◌, List, length, nat_lt, slice_range, Option, Some, None}
use Rattle.std.specs.Prelude.{if◌then◌else◌}
use Rattle.sst_blocks.specs.declared.entry_place.EntryPlace.{EntryPlace}
use Rattle.sst_entries.specs.Entry.{Entry, entry}

-- the value follows the key, and both are within the bytes
abbrev pub IsPlacedIn : List ℕ → EntryPlace → Type 0
IsPlacedIn bytes p = (p.key_at ≤ p.value_at) × (p.value_at ≤ p.end) × (p.end ≤ length bytes)

-- the entry at that position
abbrev pub entry_placed : List ℕ → EntryPlace → Entry
entry_placed bytes p =
    entry (slice_range bytes p.key_at p.value_at) (slice_range bytes p.value_at p.end) p.seqno
    p.value_type

-- the same for any bytes: `None` where the position exceeds them
abbrev pub placed_in : List ℕ → EntryPlace → Option Entry
placed_in bytes p =
    if nat_lt p.value_at p.key_at || (nat_lt p.end p.value_at || nat_lt (length bytes) p.end)
    then None
    else Some (entry_placed bytes p)
