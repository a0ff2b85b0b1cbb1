-- The first fault of encoding a block.
use Rattle.std.specs.Prelude.{ℕ, ◌<◌, ◌≤◌, ◌^◌, List, [], ◌∷◌, length, nat_lt, nat_le}
use Rattle.std.specs.Prelude.{Bool, Option, Some, None, if◌then◌else◌}
use Rattle.std.specs.Option.{option_or}
use Rattle.sst_blocks.specs.declared.version.TableVersion.TheVariants.{V4}
use Rattle.sst_entries.specs.declared.error.Error.{Error}
use Rattle.sst_entries.specs.declared.error.Error.TheVariants.{KeyTooLong, ValueTooLong}
use Rattle.sst_entries.specs.declared.error.Error.TheVariants.{BlockTooLarge}
use Rattle.sst_blocks.specs.Bounds.{bound_of, entry_bound, handle_bound}
use Rattle.sst_entries.specs.Entry.{Entry}
use Rattle.sst_blocks.specs.Handle.{Handle}
use Rattle.sst_blocks.specs.Version.{longest_key}

-- the fault of the first item that has one; `fault_or` returns an item's own fault, else the later
-- one
abbrev pub first_fault : {X : Type 0} → (X → Option Error → Option Error) → List X → Option Error
first_fault fault_or [] = None
first_fault fault_or (x ∷ xs) = fault_or x (first_fault fault_or xs)

abbrev pub large_fault : ℕ → Option Error
large_fault bound = if nat_le (2 ^ 32) bound then Some BlockTooLarge else None

-- an item's fault, else the block's
abbrev pub items_fault
    : {X : Type 0} → (X → Option Error → Option Error) → (X → ℕ) → List X → Option Error
items_fault fault_or bound xs =
    option_or (first_fault fault_or xs) (large_fault (bound_of bound xs))

abbrev pub is_long_key : List ℕ → Bool
is_long_key key = nat_lt (longest_key V4) (length key)

-- the fault of an entry: its key is too long, else its value
abbrev pub entry_fault_or : Entry → Option Error → Option Error
entry_fault_or e later =
    if is_long_key e.user_key then Some KeyTooLong
    else (if nat_le (2 ^ 32) (length e.value) then Some ValueTooLong
    else later)

pub record IsShortEntry (e : Entry) : Type 0 where
  pub key : length e.user_key ≤ longest_key V4
  pub value : length e.value < 2 ^ 32

abbrev pub entries_fault : List Entry → Option Error
entries_fault es = items_fault entry_fault_or entry_bound es

-- the fault of a handle whose end key is too long
abbrev pub handle_fault_or : Handle → Option Error → Option Error
handle_fault_or h later = if is_long_key h.end_key then Some KeyTooLong else later

abbrev pub IsShortHandle : Handle → Type 0
IsShortHandle h = length h.end_key ≤ longest_key V4

abbrev pub handles_fault : List Handle → Option Error
handles_fault hs = items_fault handle_fault_or handle_bound hs

-- the first fault of a list of entries, and of a list of handles
abbrev pub length_fault : List Entry → Option Error
length_fault es = first_fault entry_fault_or es

abbrev pub key_fault : List Handle → Option Error
key_fault hs = first_fault handle_fault_or hs
