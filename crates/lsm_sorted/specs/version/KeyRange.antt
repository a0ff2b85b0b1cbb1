-- Closed intervals of keys.
use Rattle.std.specs.Prelude.{◌≡◌, ℕ, Bool, true, not, ◌&&◌, IsTrue, List, [], ◌∷◌, map, All}
use Rattle.std.specs.Prelude.{Contains}
use Rattle.std.specs.List.{list_any}
use Rattle.std.specs.Borrow.{Bor}
use Rattle.std.specs.declared.ops.Bound.{Bound}
use Rattle.std.specs.declared.ops.Bound.TheVariants.{Included, Excluded, Unbounded}
use Rattle.sst_entries.specs.Key.{key_lt}
use Rattle.sst_entries.specs.Point.{is_from, is_to}

-- the keys from `min` to `max`, both included
pub record Interval : Type 0 where
  pub min : List ℕ
  pub max : List ℕ

-- the interval of its ends
abbrev pub interval : List ℕ → List ℕ → Interval
interval low high = record { min = low; max = high }

-- a key is less than or equal to another
abbrev pub key_le : List ℕ → List ℕ → Bool
key_le a b = not (key_lt b a)

-- the minimum key is not above the maximum
abbrev pub is_well_formed : Interval → Bool
is_well_formed r = key_le r.min r.max

-- the interval contains the key
abbrev pub has_key : Interval → List ℕ → Bool
has_key r k = key_le r.min k && key_le k r.max

-- the interval contains the other one
abbrev pub has_range : Interval → Interval → Bool
has_range r other = key_le r.min other.min && key_le other.max r.max

-- neither interval ends before the other one starts
abbrev pub overlaps : Interval → Interval → Bool
overlaps a b = key_le b.min a.max && key_le a.min b.max

-- no interval overlaps a later one
abbrev pub are_disjoint : List Interval → Bool
are_disjoint [] = true
are_disjoint (x ∷ xs) = not (list_any (overlaps x) xs) && are_disjoint xs

-- the intervals that these references borrow
abbrev pub intervals : List (Bor Interval) → List Interval
intervals rs = map (λ r. r.now) rs

-- the intervals have a key in common
abbrev pub ShareKey : Interval → Interval → Type 0
ShareKey a b = (k : List ℕ) × IsTrue (has_key a k) × IsTrue (has_key b k)

-- an interval overlaps two bounds: it does not end before the lower one, nor start past the upper
-- one
abbrev pub overlaps_bounds : Bound (List ℕ) → Bound (List ℕ) → Interval → Bool
overlaps_bounds low high r = is_from low r.max && is_to high r.min

-- no key of an interval is within two bounds
abbrev pub IsOutside : Bound (List ℕ) → Bound (List ℕ) → Interval → Type 0
IsOutside low high r =
    (k : List ℕ) → IsTrue (has_key r k) → IsTrue (is_from low k) → IsTrue (is_to high k) → ⊥

-- a bound with a borrowed key, as a bound of bytes
abbrev pub key_bound : Bound (Bor (List ℕ)) → Bound (List ℕ)
key_bound (Included k) = Included k.now
key_bound (Excluded k) = Excluded k.now
key_bound Unbounded = Unbounded

-- an interval has the least minimum and the greatest maximum of some intervals
pub record IsHull (ranges : List Interval) (r : Interval) : Type 0 where
  pub below : All (λ x. IsTrue (key_le r.min x.min)) ranges
  pub above : All (λ x. IsTrue (key_le x.max r.max)) ranges
  pub has_min : Contains (map (λ x. x.min) ranges) r.min
  pub has_max : Contains (map (λ x. x.max) ranges) r.max

-- the hull of some intervals; from the empty key to the empty key if there are none
abbrev pub IsAggregate : List Interval → Interval → Type 0
IsAggregate [] r = r ≡ interval [] []
IsAggregate (x ∷ xs) r = IsHull (x ∷ xs) r
