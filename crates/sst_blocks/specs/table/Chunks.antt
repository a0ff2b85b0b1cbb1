-- Cutting a list of entries into chunks, one for each data block.
use Rattle.std.specs.Prelude.{◌≡◌, ℕ, ◌+◌, ◌<◌, ◌==◌, ◌||◌, Bool, true, false, nat_le, List, []}
use Rattle.std.specs.Prelude.{◌∷◌, length, take, sum_by}
use Rattle.std.specs.List.{flat_map, list_any}
use Rattle.sst_entries.specs.Entry.{Entry}

-- the bytes of an entry that count toward the block size
abbrev pub entry_size : Entry → ℕ
entry_size e = length e.user_key + length e.value

abbrev pub entries_size : List Entry → ℕ
entries_size es = sum_by entry_size es

-- the chunks, concatenated
abbrev pub joined : List (List Entry) → List Entry
joined cs = flat_map (λ c. c) cs

-- the keys and values reach the block size
abbrev pub is_full : ℕ → List Entry → Bool
is_full size es = nat_le size (entries_size es)

-- a block was spilled after this many entries
abbrev pub is_spilled : List ℕ → ℕ → Bool
is_spilled spills place = list_any (λ p. p == place) spills

-- the first n entries from an index on end a chunk: the chunk is full or was spilled
abbrev pub ends_after : ℕ → List ℕ → ℕ → List Entry → ℕ → Bool
ends_after size spills at es n = is_full size (take n es) || is_spilled spills (at + n)

-- a chunk is not empty, and no shorter prefix of it ends a chunk
pub record IsChunk (size : ℕ) (spills : List ℕ) (at : ℕ) (c : List Entry) : Type 0 where
  pub some : 0 < length c
  pub shortest : (n : ℕ) → 0 < n → n < length c → ends_after size spills at c n ≡ false

-- each chunk ends where it is full or spilled; the last takes the rest
abbrev pub Ends : ℕ → List ℕ → ℕ → List Entry → List (List Entry) → Type 0
Ends size spills at c [] = Unit {0}
Ends size spills at c (d ∷ ds) = ends_after size spills at c (length c) ≡ true

abbrev pub AreChunksFrom : ℕ → List ℕ → ℕ → List (List Entry) → Type 0
AreChunksFrom size spills at [] = Unit {0}
AreChunksFrom size spills at (c ∷ cs) =
    IsChunk size spills at c × Ends size spills at c cs
    × AreChunksFrom size spills (at + length c) cs

-- the list cut into chunks: each is the shortest prefix of the rest that is full or was spilled
pub record AreChunks (size : ℕ) (spills : List ℕ) (es : List Entry)
    (cs : List (List Entry)) : Type 0 where
  pub whole : joined cs ≡ es
  pub each : AreChunksFrom size spills 0 cs
