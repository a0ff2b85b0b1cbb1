-- A list as a tree of intervals. Node i has its ends at 2i and 2i + 1, its children are 2i + 1 and
-- 2i + 2; a last node with one item uses it for both ends.
use Rattle.std.specs.Prelude.{◌≡◌, ◌≢◌, ◌⊎◌, ℕ, ◌+◌, ◌-◌, ◌*◌, ◌/◌, ◌%◌, ◌<◌, ◌≤◌, false, List}
use Rattle.std.specs.Prelude.{length, min, slice_index_or}
use Rattle.std.specs.declared.cmp.Ordering.{Ordering}
use Rattle.std.specs.Ordering.{is_gt}
use Rattle.sst_entries.specs.declared.stream.Direction.{Direction}
use Rattle.sst_entries.specs.declared.stream.Direction.TheVariants.{Front, Back}
use Rattle.lsm_sorted.specs.merge.Order.{toward}

-- a is the low end of the parent of the node with low end b
pub record IsLowAbove (n a b : ℕ) : Type 0 where
  pub above : a % 2 ≡ 0
  pub low : b % 2 ≡ 0
  pub from : 2 * a + 2 ≤ b
  pub upto : b < 2 * a + 6
  pub within : b < n

-- a and b are the ends of one node
pub record IsNode (n a b : ℕ) : Type 0 where
  pub low : a % 2 ≡ 0
  pub high : b ≡ a + 1
  pub within : b < n

-- b is the high end of the parent of the node with high end a
pub record IsHighAbove (n a b : ℕ) : Type 0 where
  pub above : b % 2 ≡ 1
  pub high : a % 2 ≡ 0 → a + 1 ≡ n
  pub from : 2 * b ≤ a
  pub upto : a < 2 * b + 4
  pub within : a < n

-- among n items, the item at a must not sort after the one at b
abbrev pub Precedes : ℕ → ℕ → ℕ → Type 0
Precedes n a b = IsLowAbove n a b ⊎ (IsNode n a b ⊎ IsHighAbove n a b)

-- the intervals of children are within that of their parent
abbrev pub IsIntervalHeap : {T : Type 0} → (T → T → Ordering) → List T → Type 0
IsIntervalHeap {T} cmp xs = (d : T) (a b : ℕ) → Precedes (length xs) a b
    → is_gt (cmp (slice_index_or xs a d) (slice_index_or xs b d)) ≡ false

-- the same, from one end
abbrev pub PrecedesOn : Direction → ℕ → ℕ → ℕ → Type 0
PrecedesOn Front n a b = Precedes n a b
PrecedesOn Back n a b = Precedes n b a

-- the index is the end of its node at this side
abbrev pub IsEnd : Direction → ℕ → ℕ → Type 0
IsEnd Front n k = k % 2 ≡ 0
IsEnd Back n k = k % 2 ≡ 0 → k + 1 ≡ n

-- the end of the root at this side, among n items; for one item both ends are the same
abbrev pub IsRoot : Direction → ℕ → ℕ → Type 0
IsRoot Front n k = k ≡ 0
IsRoot Back n k = k ≡ min (n - 1) 1

-- the end at this side of the parent of the node with index k
abbrev pub above_of : Direction → ℕ → ℕ
above_of Front k = 2 * ((k - 2) / 4)
above_of Back k = 2 * ((k - 2) / 4) + 1

-- b is the other end of the parent of the node with index k
abbrev pub IsOtherAbove : Direction → ℕ → ℕ → Type 0
IsOtherAbove Front k b = (b % 2 ≡ 1) × (2 * b ≤ k) × (k < 2 * b + 4)
IsOtherAbove Back k b = (b % 2 ≡ 0) × (2 * b + 2 ≤ k) × (k < 2 * b + 6)

-- the item at a does not sort after the one at b, from this end
abbrev pub InOrder : {T : Type 0} → Direction → (T → T → Ordering) → List T → ℕ → ℕ → Type 0
InOrder {T} side cmp xs a b =
    (d : T) → is_gt (toward side cmp (slice_index_or xs a d) (slice_index_or xs b d)) ≡ false

-- only the item at this index may sort before the one above it
pub record IsRisingAt {T : Type 0} (side : Direction) (cmp : T → T → Ordering) (xs : List T)
    (at : ℕ) : Type 0 where
  pub within : at < length xs
  pub end : IsEnd side (length xs) at
  pub others : (a b : ℕ) → PrecedesOn side (length xs) a b → b ≢ at → InOrder side cmp xs a b
  pub around : (a b : ℕ) → PrecedesOn side (length xs) a at → PrecedesOn side (length xs) at b
      → InOrder side cmp xs a b

-- only the item at this index may sort after those below it
pub record IsSinkingAt {T : Type 0} (side : Direction) (cmp : T → T → Ordering) (xs : List T)
    (at : ℕ) : Type 0 where
  pub within : at < length xs
  pub end : IsEnd side (length xs) at
  pub others : (a b : ℕ) → PrecedesOn side (length xs) a b → a ≢ at → InOrder side cmp xs a b
  pub around : (a b : ℕ) → PrecedesOn side (length xs) a at → PrecedesOn side (length xs) at b
      → InOrder side cmp xs a b
  pub below_other : (b : ℕ) → IsOtherAbove side at b → InOrder side cmp xs at b

-- the item at this index may sink, or the index is past the end and all is in order
pub record SinksFrom {T : Type 0} (side : Direction) (cmp : T → T → Ordering) (xs : List T)
    (at : ℕ) : Type 0 where
  pub inside : at < length xs → IsSinkingAt side cmp xs at
  pub past : length xs ≤ at → IsIntervalHeap cmp xs

-- c is the end at this side of a child of the node with index k
pub record IsChildEnd (side : Direction) (n k c : ℕ) : Type 0 where
  pub precedes : PrecedesOn side n k c
  pub below : k / 2 < c / 2
