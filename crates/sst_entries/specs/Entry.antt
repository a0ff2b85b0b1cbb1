-- An entry of a table: a key, a sequence number, a kind and a value.
use Rattle.std.specs.Prelude.{ℕ, List}
use Rattle.sst_entries.specs.declared.value_type.ValueType.{ValueType}

-- An entry, as a plain record.
pub record Entry : Type 0 where
  pub user_key : List ℕ
  pub seqno : ℕ
  pub kind : ValueType
  pub value : List ℕ

-- The entry with these parts.
abbrev pub entry : List ℕ → List ℕ → ℕ → ValueType → Entry
entry k v n t = record { user_key = k; seqno = n; kind = t; value = v }
