-- Tables packed from one run each.
use Rattle.std.specs.Prelude.{◌<◌, ℕ, suc, List, [], ◌∷◌, length}
use Rattle.lsm_sorted.specs.version.KeyRange.{Interval}
use Rattle.lsm_sorted.specs.version.Packing.{ArePacked, ArePlaced, IsChain, IsLeastSize}
use Rattle.lsm_sorted.specs.version.Packing.{SameHolders}
use Rattle.lsm_sorted.specs.version.Packing.{SameTables, tables_in}
use Rattle.lsm_sorted.specs.declared.version.packed.Packed.{Packed}
use Rattle.lsm_sorted.specs.declared.version.packed.Placed.{Placed}

-- a table and its index
abbrev pub indexed : {T : Type 0} → ℕ → T → Placed T
indexed place table = record { place = place; table = table }

-- tables with their indexes, each in its own run
abbrev pub alone : {T : Type 0} → ℕ → List T → List (List (Placed T))
alone place [] = []
alone place (t ∷ ts) = (indexed place t ∷ []) ∷ alone (suc place) ts

-- the fewest runs of these tables that keep the order of each key's tables. The chain of
-- successively overlapping tables shows that no fewer suffice.
pub record IsPackedOf {T A : Type 0} (range : T → Interval) (tables : List T) (p : Packed T A)
    : Type 0 where
  pub same : SameTables (alone 0 tables) p.runs.items
  pub order : SameHolders (λ t. range t.table) (alone 0 tables) p.runs.items
  -- with several tables, each run is in order and not empty. A table is one run after the last run
  -- with an earlier table that it overlaps, or in the first.
  pub ordered : 1 < length (alone 0 tables) → ArePacked (λ t. range t.table) p.runs.items
  pub behind : 1 < length (alone 0 tables) →
      ArePlaced (λ t. range t.table) (tables_in (alone 0 tables)) p.runs.items
  pub least : IsLeastSize (λ t. range t.table) (alone 0 tables) (length p.runs.items)
  pub chain : IsChain (λ t. range t.table) (alone 0 tables) p.chain.items
  pub as_long : IsLeastSize (λ t. range t.table) (alone 0 tables) (length p.chain.items)
