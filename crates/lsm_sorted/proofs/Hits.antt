-- The first hit of a reader in a list, entry by entry.
use Rattle.std.specs.Prelude.{ℕ, List, Option, find}
use Rattle.sst_entries.specs.Entry.{Entry}
use Rattle.sst_entries.specs.Point.{is_hit}
use Rattle.sst_entries.specs.declared.value_type.ValueType.{ValueType}
use Rattle.lsm_sorted.specs.Point.{shown}

-- a point read that computes
abbrev pub first_hit : List Entry → List ℕ → ℕ → Option Entry
first_hit es key bound = find (is_hit key bound) es

abbrev pub hit_shown : List Entry → List ℕ → ℕ → Option (ValueType × List ℕ)
hit_shown es key bound = shown (first_hit es key bound)
