-- Tournaments over slots: full binary trees, whose leaves are the slots and whose inner nodes name
-- the winner of their children. Node 1 is the root, and the children of node n are 2n and 2n + 1.
use Rattle.std.specs.Prelude.{◌≡◌, ◌⊎◌, ℕ, ◌+◌, ◌-◌, ◌*◌, ◌^◌, ◌<◌, Bool, true, false, List, [], ◌∷◌}
use Rattle.std.specs.Prelude.{◌++◌, Option, Some, None, length, slice_index, slice_set}
use Rattle.std.specs.Prelude.{if◌then◌else◌}
use Rattle.std.specs.declared.cmp.Ordering.{Ordering}
use Rattle.std.specs.Ordering.{is_gt}
use Rattle.sst_entries.specs.declared.stream.Direction.{Direction}
use Rattle.sst_entries.specs.declared.stream.Direction.TheVariants.{Front, Back}
use Rattle.lsm_sorted.specs.declared.heap.lazy_tournament.brackets.Bracket.{Bracket}
use Rattle.lsm_sorted.specs.declared.heap.lazy_tournament.brackets.Brackets.{Brackets}
use Rattle.lsm_sorted.specs.merge.Order.{toward}
use Rattle.lsm_sorted.specs.merge.Slots.{Places, slot_at}
use Rattle.lsm_sorted.specs.merge.Tournament.{height, total_height}

-- the second slot beats the first: an empty slot loses
abbrev pub is_beaten : {T : Type 0} → (T → T → Ordering) → Option T → Option T → Bool
is_beaten cmp x None = false
is_beaten cmp None (Some y) = true
is_beaten cmp (Some x) (Some y) = is_gt (cmp x y)

-- no slot beats this one
abbrev pub IsUnbeaten : {T : Type 0} → (T → T → Ordering) → List (Option T) → ℕ → Type 0
IsUnbeaten cmp slots s =
    (k : ℕ) → k < length slots → is_beaten cmp (slot_at slots s) (slot_at slots k) ≡ false

-- the nodes name slots, and each leaf names its own
pub record IsBracket (leaves : ℕ) (nodes : List ℕ) : Type 0 where
  pub size : length nodes ≡ 2 * leaves
  pub within : (n : ℕ) → n < length nodes → slice_index nodes n < leaves
  pub leaf : (k : ℕ) → k < leaves → slice_index nodes (leaves + k) ≡ k

-- a node names the winner of its two children
pub record IsDecided {T : Type 0} (cmp : T → T → Ordering) (slots : List (Option T))
    (nodes : List ℕ) (n : ℕ) : Type 0 where
  pub from : (slice_index nodes n ≡ slice_index nodes (2 * n))
      ⊎ (slice_index nodes n ≡ slice_index nodes (2 * n + 1))
  pub first : is_beaten cmp (slot_at slots (slice_index nodes n))
      (slot_at slots (slice_index nodes (2 * n))) ≡ false
  pub second : is_beaten cmp (slot_at slots (slice_index nodes n))
      (slot_at slots (slice_index nodes (2 * n + 1))) ≡ false

abbrev pub AllDecided : {T : Type 0} → (T → T → Ordering) → List (Option T) → List ℕ → Type 0
AllDecided cmp slots nodes = (n : ℕ) → 0 < n → n < length slots → IsDecided cmp slots nodes n

-- the first child wins, as between two empty slots
pub record IsUnplayed {Z : Type 0} (leaves : ℕ) (b : Bracket Z) : Type 0 where
  pub nodes : IsBracket leaves b.nodes.items
  pub first : (n : ℕ) → 0 < n → n < leaves
      → slice_index b.nodes.items n ≡ slice_index b.nodes.items (2 * n)

-- each node names the winner below it
pub record IsWon {T Z : Type 0} (cmp : T → T → Ordering) (slots : List (Option T))
    (b : Bracket Z) : Type 0 where
  pub nodes : IsBracket (length slots) b.nodes.items
  pub decided : AllDecided (toward b.end cmp) slots b.nodes.items

-- each node named the winner below it before this slot changed
pub record WasWon {T Z : Type 0} (cmp : T → T → Ordering) (slots : List (Option T)) (s : ℕ)
    (b : Bracket Z) : Type 0 where
  pub within : s < length slots
  pub was : Option T
  pub won : IsWon cmp (slice_set slots s was) b

-- decided, or decided before this slot changed
abbrev pub IsWonBut : {T Z : Type 0} → Option ℕ → (T → T → Ordering) → List (Option T)
    → Bracket Z → Type 0
IsWonBut None cmp slots b = IsWon cmp slots b
IsWonBut (Some s) cmp slots b = WasWon cmp slots s b

-- a bracket that may be played: if it is, it is decided
pub record IsKept {T Z : Type 0} (changed : Option ℕ) (cmp : T → T → Ordering)
    (slots : List (Option T)) (b : Bracket Z) : Type 0 where
  pub nodes : IsBracket (length slots) b.nodes.items
  pub won : b.is_played ≡ true → IsWonBut changed cmp slots b

-- one bracket for each end
pub record AreKept {T Z : Type 0} (changed : Option ℕ) (cmp : T → T → Ordering)
    (slots : List (Option T)) (b : Brackets Z) : Type 0 where
  pub front_end : b.front.end ≡ Front
  pub back_end : b.back.end ≡ Back
  pub front : IsKept changed cmp slots b.front
  pub back : IsKept changed cmp slots b.back

-- the bracket of this end becomes played, and the other does not change
abbrev pub PlaysEnd : {Z : Type 0} → Direction → Brackets Z → Brackets Z → Type 0
PlaysEnd Front old new = (new.front.is_played ≡ true) × (new.back.is_played ≡ old.back.is_played)
PlaysEnd Back old new = (new.front.is_played ≡ old.front.is_played) × (new.back.is_played ≡ true)

-- whether the bracket of this end is played
abbrev pub is_played_at : {Z : Type 0} → Direction → Brackets Z → Bool
is_played_at Front b = b.front.is_played
is_played_at Back b = b.back.is_played

-- the most comparisons after a first winner at this end: h for each played bracket, and one for
-- each inner node if this one is not played yet
abbrev pub most_steps : {Z : Type 0} → Direction → Brackets Z → ℕ → ℕ → ℕ
most_steps end b leaves h = b.steps + total_height b.front.is_played b.back.is_played h
    + (if is_played_at end b then 0 else leaves - 1)

-- the free slot to be used next
pub record IsNext {T : Type 0} (slots : Places T) (s : ℕ) : Type 0 where
  pub others : List ℕ
  pub last : slots.free ≡ others ++ s ∷ []

abbrev pub IsNextIf : {T : Type 0} → Places T → Option ℕ → Type 0
IsNextIf slots None = Unit {0}
IsNextIf slots (Some s) = IsNext slots s

-- there is a leaf for each slot, and as few as possible. Played brackets are decided, except for
-- the slot emptied last, which is used next.
pub record IsTournament {T Z : Type 0} (cmp : T → T → Ordering) (slots : Places T)
    (b : Brackets Z) : Type 0 where
  pub leaves : length slots.places ≡ 2 ^ height slots.room
  pub kept : AreKept b.emptied cmp slots.places b
  pub next : IsNextIf slots b.emptied
