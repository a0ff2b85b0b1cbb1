-- A tournament as a double-ended priority queue.
use Rattle.std.specs.Prelude.{◌≡◌, ℕ, zero, suc, ◌+◌, ◌-◌, ◌^◌, ◌≤◌, Bool, true, nat_lt}
use Rattle.std.specs.Prelude.{if◌then◌else◌, List}
use Rattle.sst_entries.specs.declared.stream.Direction.{Direction}
use Rattle.sst_entries.specs.declared.stream.Direction.TheVariants.{Front, Back}

-- the items, in unspecified order, and the capacity. Also the number of comparisons (saturating at
-- `u64::MAX`), and the ends at which matches are played.
pub record Contest (T : Type 0) : Type 0 where
  pub items : List T
  pub room : ℕ
  pub steps : ℕ
  pub plays_front : Bool
  pub plays_back : Bool

-- at most n comparisons were made
pub record PlaysAtMost {T : Type 0} (n : ℕ) (old new : Contest T) : Type 0 where
  pub rises : old.steps ≤ new.steps
  pub bound : new.steps ≤ old.steps + n

-- how many of the first k powers of two, from 1 on, are below n
abbrev pub powers_below : ℕ → ℕ → ℕ
powers_below n zero = 0
powers_below n (suc k) = if nat_lt (2 ^ k) n then powers_below n k + 1 else powers_below n k

-- the number of powers of two below n: the least h with n at most 2 ^ h
abbrev pub height : ℕ → ℕ
height n = powers_below n n

-- h for each end where matches are played
abbrev pub total_height : Bool → Bool → ℕ → ℕ
total_height front back h = (if front then h else 0) + (if back then h else 0)

-- the maximum number of matches to replay after one item has changed
abbrev pub rematches : {T : Type 0} → Contest T → ℕ
rematches t = total_height t.plays_front t.plays_back (height t.room)

-- whether matches are played at this end
abbrev pub plays_at : {T : Type 0} → Direction → Contest T → Bool
plays_at Front t = t.plays_front
plays_at Back t = t.plays_back

-- the maximum number of matches in a first pop at this end: those of all nodes above the leaves
abbrev pub first_round : {T : Type 0} → Direction → Contest T → ℕ
first_round end t = if plays_at end t then 0 else 2 ^ height t.room - 1

-- the same ends play
pub record SameEnds {T : Type 0} (old new : Contest T) : Type 0 where
  pub front : new.plays_front ≡ old.plays_front
  pub back : new.plays_back ≡ old.plays_back

-- this end becomes played, and the other does not change
abbrev pub PlaysFrom : {T : Type 0} → Direction → Contest T → Contest T → Type 0
PlaysFrom Front old new = (new.plays_front ≡ true) × (new.plays_back ≡ old.plays_back)
PlaysFrom Back old new = (new.plays_front ≡ old.plays_front) × (new.plays_back ≡ true)
