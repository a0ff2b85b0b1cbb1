-- Slots for items.
use Rattle.std.specs.Prelude.{◌≡◌, ◌≢◌, ℕ, ◌+◌, ◌<◌, List, [], ◌∷◌, Option, Some, None, length}
use Rattle.std.specs.Prelude.{slice_index, slice_index_or}

-- the slots, the capacity, and the free slots, of which the last is used first
pub record Places (T : Type 0) : Type 0 where
  pub places : List (Option T)
  pub room : ℕ
  pub free : List ℕ

-- the items in the occupied slots
abbrev pub occupants : {T : Type 0} → List (Option T) → List T
occupants [] = []
occupants (None ∷ places) = occupants places
occupants (Some x ∷ places) = x ∷ occupants places

-- the item in a slot, if any
abbrev pub slot_at : {T : Type 0} → List (Option T) → ℕ → Option T
slot_at places k = slice_index_or places k None

-- the free list has a distinct empty slot for each item that still fits the capacity
pub record IsFreeList {T : Type 0} (places : List (Option T)) (free : List ℕ)
    (room : ℕ) : Type 0 where
  pub count : length (occupants places) + length free ≡ room
  pub within : (i : ℕ) → i < length free → slice_index free i < length places
  pub empty : (i : ℕ) → i < length free → slot_at places (slice_index free i) ≡ None
  pub apart : (i j : ℕ) → i < j → j < length free → slice_index free i ≢ slice_index free j
