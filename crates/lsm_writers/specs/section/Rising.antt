-- Keys in rising order.
use Rattle.std.specs.Prelude.{ℕ, List, [], ◌∷◌, ◌++◌, map}
use Rattle.sst_entries.specs.declared.value_type.ValueType.TheVariants.{Value}
use Rattle.sst_entries.specs.Entry.{Entry, entry}
use Rattle.sst_entries.specs.Strict.{IsStrict}
use Rattle.lsm_writers.specs.section.Given.{GivenKeys, all_keys}

-- the entry that represents the end key of a top-level handle
abbrev pub end_entry : List ℕ → Entry
end_entry key = entry key [] 0 Value

-- each key is below the next
abbrev pub AreRising : List (List ℕ) → Type 0
AreRising keys = IsStrict (map end_entry keys)

-- a key is above all keys that the writer holds
pub record Rises (holds : GivenKeys → Type 0) (key : List ℕ) : Type 0 where
  pub given : GivenKeys
  pub held : holds given
  pub rising : AreRising (all_keys given ++ key ∷ [])
