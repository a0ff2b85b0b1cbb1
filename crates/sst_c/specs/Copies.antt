-- A found entry as C gets it: copied or borrowed.
use Rattle.std.specs.Prelude.{◌≡◌, ◌≢◌, ℕ, List, length, drop, ◌++◌, Option, Some, None}
use Rattle.std.specs.Prelude.{Bool, ◌||◌, nat_lt, if◌then◌else◌}
use Rattle.sst_entries.specs.Entry.{Entry}

-- a buffer after these elements are copied to its front
abbrev pub laid_over : {X : Type 0} → List X → List X → List X
laid_over xs room = xs ++ drop (length xs) room

-- a buffer is too small for bytes
abbrev pub is_short : List ℕ → List ℕ → Bool
is_short bytes room = nat_lt (length room) (length bytes)

-- the code of copying: 106 if nothing was found, 103 if a buffer is too small, else 0
abbrev pub copy_code : Option Entry → List ℕ → List ℕ → ℕ
copy_code None key value = 106
copy_code (Some e) key value =
    if is_short e.user_key key || is_short e.value value then 103 else 0

-- the code of borrowing: 106 if nothing was found, else 0
abbrev pub lend_code : Option Entry → ℕ
lend_code None = 106
lend_code (Some e) = 0

-- the key and the value of a found entry are copied to two buffers, which an error leaves unchanged
pub record CopiesEntry (found : Option Entry) (code : ℕ) (key key_after value value_after : List ℕ)
    : Type 0 where
  pub copied : (e : Entry) → found ≡ Some e → code ≡ 0
      → (key_after ≡ laid_over e.user_key key) × (value_after ≡ laid_over e.value value)
  pub left : code ≢ 0 → (key_after ≡ key) × (value_after ≡ value)

-- a found entry is borrowed: a key and a value of these lengths
pub record LendsEntry (found : Option Entry) (key_len value_len : ℕ) : Type 0 where
  pub lens : (e : Entry) → found ≡ Some e
      → (key_len ≡ length e.user_key) × (value_len ≡ length e.value)
