-- The entries of a stored table and of a new one.
use Rattle.std.specs.Prelude.{List, [], ◌∷◌}
use Rattle.sst_entries.specs.declared.value_type.ValueType.TheVariants.{Value}
use Rattle.sst_entries.specs.Entry.{Entry, entry}

-- `a` at 9, 7 and 5 and `b` at 1, without values
abbrev pub stored_entries : List Entry
stored_entries =
    entry (97 ∷ []) [] 9 Value
    ∷ entry (97 ∷ []) [] 7 Value
    ∷ entry (97 ∷ []) [] 5 Value
    ∷ entry (98 ∷ []) [] 1 Value
    ∷ []

-- `c` at 2, without a value
abbrev pub new_entries : List Entry
new_entries = entry (99 ∷ []) [] 2 Value ∷ []
