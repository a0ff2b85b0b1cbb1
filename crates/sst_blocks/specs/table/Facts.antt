-- The facts about a table's entries that its meta block records.
use Rattle.std.specs.Prelude.{ℕ, ◌+◌, ◌-◌, ◌^◌, Bool, true, false, not, ◌&&◌, List, [], ◌∷◌, length}
use Rattle.std.specs.Prelude.{min, max, count_by, Option, Some, None, unwrap_or, if◌then◌else◌}
use Rattle.std.specs.Option.{option_map}
use Rattle.sst_entries.specs.declared.value_type.ValueType.{ValueType}
use Rattle.sst_entries.specs.declared.value_type.ValueType.TheVariants.{Value, Tombstone}
use Rattle.sst_entries.specs.declared.value_type.ValueType.TheVariants.{WeakTombstone, Indirection}
use Rattle.sst_entries.specs.Entry.{Entry}
use Rattle.sst_entries.specs.Key.{same_key}
use Rattle.sst_entries.specs.Kind.{is_tombstone_kind, is_weak_kind}
use Rattle.sst_entries.specs.Stream.{first}
use Rattle.sst_entries.specs.Strict.{last_of}

abbrev pub is_tombstone : Entry → Bool
is_tombstone e = is_tombstone_kind e.kind

abbrev pub is_weak : Entry → Bool
is_weak e = is_weak_kind e.kind

abbrev pub is_value_kind : ValueType → Bool
is_value_kind Value = true
is_value_kind Tombstone = false
is_value_kind WeakTombstone = false
is_value_kind Indirection = false

-- an entry is the first of its key, given the preceding entry
abbrev pub starts_key : Option Entry → Entry → Bool
starts_key None e = true
starts_key (Some before) e = not (same_key before.user_key e.user_key)

-- a value directly after a weak tombstone with the same key
abbrev pub is_reclaimable : Option Entry → Entry → Bool
is_reclaimable None e = false
is_reclaimable (Some before) e =
    is_value_kind e.kind && (is_weak before && same_key before.user_key e.user_key)

-- 1 where a condition holds, else 0
abbrev pub one_if : Bool → ℕ
one_if b = if b then 1 else 0

-- the number of entries that pass a test, which also sees the preceding entry
unfoldable pub count_after : (Option Entry → Entry → Bool) → Option Entry → List Entry → ℕ
count_after test before [] = 0
count_after test before (e ∷ es) = one_if (test before e) + count_after test (Some e) es

-- the lowest and the highest sequence number
unfoldable pub lowest_seqno : List Entry → ℕ
lowest_seqno [] = 2 ^ 64 - 1
lowest_seqno (e ∷ es) = min e.seqno (lowest_seqno es)

unfoldable pub highest_seqno : List Entry → ℕ
highest_seqno [] = 0
highest_seqno (e ∷ es) = max e.seqno (highest_seqno es)

-- the keys of the first and last entries
abbrev pub first_key : List Entry → Option (List ℕ)
first_key es = option_map (λ (e : Entry). e.user_key) (first es)

abbrev pub last_key : List Entry → Option (List ℕ)
last_key es = option_map (λ (e : Entry). e.user_key) (last_of None es)

-- the counts, the end keys and the sequence numbers of a list
pub record ListFacts : Type 0 where
  pub item_count : ℕ
  pub tombstone_count : ℕ
  pub weak_tombstone_count : ℕ
  pub weak_tombstone_reclaimable : ℕ
  pub key_count : ℕ
  pub min_key : List ℕ
  pub max_key : List ℕ
  pub lowest : ℕ
  pub highest : ℕ

abbrev pub facts : List Entry → ListFacts
facts es = record {
  item_count = length es;
  tombstone_count = count_by is_tombstone es;
  weak_tombstone_count = count_by is_weak es;
  weak_tombstone_reclaimable = count_after is_reclaimable None es;
  key_count = count_after starts_key None es;
  min_key = unwrap_or (first_key es) [];
  max_key = unwrap_or (last_key es) [];
  lowest = lowest_seqno es;
  highest = highest_seqno es;
}
