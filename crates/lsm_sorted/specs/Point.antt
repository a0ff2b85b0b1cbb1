-- The value of a key that a reader sees in a list of entries.
use Rattle.std.specs.Prelude.{ℕ, if◌then◌else◌, List, Option, Some, None}
use Rattle.sst_entries.specs.Entry.{Entry}
use Rattle.sst_entries.specs.Kind.{is_tombstone_kind}
use Rattle.sst_entries.specs.Point.{point}
use Rattle.sst_entries.specs.declared.value_type.ValueType.{ValueType}

-- the kind and value of an entry; `None` for a tombstone
abbrev pub shown : Option Entry → Option (ValueType × List ℕ)
shown None = None
shown (Some e) = if is_tombstone_kind e.kind then None else Some (e.kind, e.value)

-- the value of a key that a reader sees at a bound
abbrev pub seen : List Entry → List ℕ → ℕ → Option (ValueType × List ℕ)
seen es key bound = shown (point es key bound)
