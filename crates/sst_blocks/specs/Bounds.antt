-- Upper bounds for block lengths, as u64 that saturate.
use Rattle.std.specs.Prelude.{ℕ, ◌+◌, ◌-◌, ◌^◌, List, length, min, sum_by}
use Rattle.sst_entries.specs.Entry.{Entry}
use Rattle.sst_blocks.specs.Handle.{Handle}

abbrev pub capped : ℕ → ℕ
capped n = min n (2 ^ 64 - 1)

-- the length of an empty block: its header and a count
abbrev pub empty_len : ℕ
empty_len = 28

-- the bound for a block of a list of items
abbrev pub bound_of : {X : Type 0} → (X → ℕ) → List X → ℕ
bound_of bound xs = capped (empty_len + sum_by bound xs)

-- the bytes of an entry besides its key and value, and of a handle besides its end key
abbrev pub entry_head_len : ℕ
entry_head_len = 17

abbrev pub handle_head_len : ℕ
handle_head_len = 24

-- the maximum length of an entry and of a handle
abbrev pub entry_bound : Entry → ℕ
entry_bound e = entry_head_len + length e.user_key + length e.value

abbrev pub handle_bound : Handle → ℕ
handle_bound h = handle_head_len + length h.end_key

-- the bound for a block of entries, and for a block of handles
abbrev pub data_block_bound_of : List Entry → ℕ
data_block_bound_of es = bound_of entry_bound es

abbrev pub index_block_bound_of : List Handle → ℕ
index_block_bound_of hs = bound_of handle_bound hs
