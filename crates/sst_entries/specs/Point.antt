-- Point reads, and the entries within bounds.
use Rattle.std.specs.Prelude.{ℕ, Bool, true, ◌&&◌, not, nat_lt, List, [], length, Option, find}
use Rattle.std.specs.Prelude.{filter}
use Rattle.std.specs.declared.ops.Bound.{Bound}
use Rattle.std.specs.declared.ops.Bound.TheVariants.{Included, Excluded, Unbounded}
use Rattle.sst_entries.specs.declared.value_type.ValueType.TheVariants.{Value}
use Rattle.sst_entries.specs.Entry.{Entry, entry}
use Rattle.sst_entries.specs.Key.{same_key, key_lt}
use Rattle.sst_entries.specs.Span.{front_length}

-- The entry has the key, and a sequence number below the bound.
abbrev pub is_hit : List ℕ → ℕ → Entry → Bool
is_hit key bound e = same_key e.user_key key && nat_lt e.seqno bound

-- The first entry of the key that is visible at the bound.
unfoldable pub point : List Entry → List ℕ → ℕ → Option Entry
point es key bound = find (is_hit key bound) es

-- The position, in the order of entries, of a read of a key at a bound.
abbrev pub read_place : List ℕ → ℕ → Entry
read_place key bound = entry key [] bound Value

-- The key is within a lower bound.
abbrev pub is_from : Bound (List ℕ) → List ℕ → Bool
is_from (Included low) key = not (key_lt key low)
is_from (Excluded low) key = key_lt low key
is_from Unbounded key = true

-- The key is within an upper bound.
abbrev pub is_to : Bound (List ℕ) → List ℕ → Bool
is_to (Included high) key = not (key_lt high key)
is_to (Excluded high) key = key_lt key high
is_to Unbounded key = true

-- The entries within both bounds.
abbrev pub within : Bound (List ℕ) → Bound (List ℕ) → List Entry → List Entry
within low high es = filter (λ e. is_from low e.user_key && is_to high e.user_key) es

-- The number of entries before a lower bound.
abbrev pub lower_place : Bound (List ℕ) → List Entry → ℕ
lower_place (Included low) es = front_length (λ e. key_lt e.user_key low) es
lower_place (Excluded low) es = front_length (λ e. not (key_lt low e.user_key)) es
lower_place Unbounded es = 0

-- The number of entries up to an upper bound.
abbrev pub upper_place : Bound (List ℕ) → List Entry → ℕ
upper_place (Included high) es = front_length (λ e. not (key_lt high e.user_key)) es
upper_place (Excluded high) es = front_length (λ e. key_lt e.user_key high) es
upper_place Unbounded es = length es
