-- Kinds of entries and their tags.
use Rattle.std.specs.Prelude.{ℕ, ◌==◌, if◌then◌else◌, Bool, true, false, Option, Some, None}
use Rattle.sst_entries.specs.declared.value_type.ValueType.{ValueType}
use Rattle.sst_entries.specs.declared.value_type.ValueType.TheVariants.{Value, Tombstone}
use Rattle.sst_entries.specs.declared.value_type.ValueType.TheVariants.{WeakTombstone, Indirection}

-- The tag of a kind.
abbrev pub tag_of : ValueType → ℕ
tag_of Value = 0
tag_of Tombstone = 1
tag_of WeakTombstone = 2
tag_of Indirection = 4

-- The kind of a tag, if it is one.
abbrev pub kind_of : ℕ → Option ValueType
kind_of n = if n == 0 then Some Value
    else (if n == 1 then Some Tombstone
    else (if n == 2 then Some WeakTombstone
    else (if n == 4 then Some Indirection else None)))

-- The kind is a tombstone, weak or not.
abbrev pub is_tombstone_kind : ValueType → Bool
is_tombstone_kind Value = false
is_tombstone_kind Tombstone = true
is_tombstone_kind WeakTombstone = true
is_tombstone_kind Indirection = false

-- The kind is a weak tombstone.
abbrev pub is_weak_kind : ValueType → Bool
is_weak_kind Value = false
is_weak_kind Tombstone = false
is_weak_kind WeakTombstone = true
is_weak_kind Indirection = false
