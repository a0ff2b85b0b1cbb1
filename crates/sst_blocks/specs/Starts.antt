-- The offsets of entries and handles in a payload.
use Rattle.std.specs.Prelude.{◌≡◌, ℕ, ◌+◌, ◌<◌, ◌^◌, List, [], ◌∷◌, length, Option, Some}
use Rattle.sst_blocks.specs.declared.version.TableVersion.{TableVersion}
use Rattle.sst_blocks.specs.declared.block_type.BlockType.{BlockType}
use Rattle.sst_blocks.specs.declared.block_type.BlockType.TheVariants.{Data, Index, Filter, Meta}
use Rattle.sst_blocks.specs.Block.{is_filter}
use Rattle.sst_entries.specs.Entry.{Entry}
use Rattle.sst_blocks.specs.Handle.{Handle}
use Rattle.sst_blocks.specs.Format.{Format, items_in}
use Rattle.sst_blocks.specs.Payload.{spelled}
use Rattle.sst_blocks.specs.Handles.{handle_spelled, handles_in}
use Rattle.sst_blocks.specs.Reading.{entries_in}
use Rattle.std.specs.Prelude.{true}

-- the offsets of the items, given the first
unfoldable pub starts_of : {X : Type 0} → (X → List ℕ) → ℕ → List X → List ℕ
starts_of spell at [] = []
starts_of spell at (x ∷ xs) = at ∷ starts_of spell (at + length (spell x)) xs

-- the payload decodes to these items, which start at these offsets
pub record SpellsAt (X : Type 0) (spell : X → List ℕ) (returned : Option (List X))
    (bytes starts : List ℕ)
    : Type 0 where
  pub items : List X
  pub are : returned ≡ Some items
  pub places : starts ≡ starts_of spell 4 items
  pub short : length bytes < 2 ^ 32

abbrev pub ItemsAt : {X : Type 0} → Format X → List ℕ → List ℕ → Type 0
ItemsAt {X} f bytes starts = SpellsAt X f.spell (items_in f bytes) bytes starts

abbrev pub EntriesAt : TableVersion → List ℕ → List ℕ → Type 0
EntriesAt v bytes starts = SpellsAt Entry (spelled v) (entries_in v bytes) bytes starts

abbrev pub HandlesAt : TableVersion → List ℕ → List ℕ → Type 0
HandlesAt v bytes starts = SpellsAt Handle (handle_spelled v) (handles_in v bytes) bytes starts

-- the payload follows the grammar of its block type, and its items start at these offsets
abbrev pub IsBlock : TableVersion → BlockType → List ℕ → List ℕ → Type 0
IsBlock v Data bytes starts = EntriesAt v bytes starts
IsBlock v Meta bytes starts = EntriesAt v bytes starts
IsBlock v Index bytes starts = HandlesAt v bytes starts
IsBlock v Filter bytes starts = (is_filter bytes ≡ true) × (length bytes < 2 ^ 32)

-- a block type that holds entries
abbrev pub HoldsEntries : BlockType → Type 0
HoldsEntries Data = Unit {0}
HoldsEntries Meta = Unit {0}
HoldsEntries Index = ⊥
HoldsEntries Filter = ⊥
