-- Whether a written filter admits a key.
use Rattle.std.specs.Prelude.{◌≡◌, ℕ, ◌-◌, Bool, true, not, List, ◌∷◌, ◌++◌, length, find}
use Rattle.std.specs.Prelude.{Some, Ok, []}
use Rattle.std.specs.List.{list_any}
use Rattle.sst_entries.specs.Key.{key_lt, same_key}
use Rattle.sst_blocks.specs.filter.KeyHash.{hash_of}
use Rattle.sst_blocks.specs.Sections.{Written}
use Rattle.sst_blocks.specs.declared.section.SectionName.TheVariants.{Filter as FilterSection}
use Rattle.sst_blocks.specs.declared.section.SectionName.TheVariants.{FilterTli}
use Rattle.sst_blocks.specs.declared.version.TableVersion.TheVariants.{V4}
use Rattle.sst_blocks.specs.declared.block_type.BlockType.TheVariants.{Filter}
use Rattle.sst_blocks.specs.Block.{Loaded, load_result}
use Rattle.sst_blocks.specs.Handle.{Handle}
use Rattle.sst_blocks.specs.filter.Filter.{admits, filter_in}
use Rattle.sst_blocks.specs.declared.table.options.FilterKind.{FilterKind}
use Rattle.sst_blocks.specs.declared.table.options.FilterKind.TheVariants.{Full, Partitioned}
use Rattle.sst_blocks.specs.table.Partitions.{handles_block}
use Rattle.lsm_writers.specs.section.Given.{GivenKeys, all_keys}

-- a key is among a list of keys
abbrev pub is_among : List (List ℕ) → List ℕ → Bool
is_among keys key = list_any (λ k. same_key k key) keys

-- a key is among the registered keys
abbrev pub was_given : GivenKeys → List ℕ → Bool
was_given given key = is_among (all_keys given) key

-- the block at this offset and size loads, and its filter admits the hash of the key
pub record SaysYes (body : List ℕ) (offset size : ℕ) (key : List ℕ) : Type 0 where
  pub block : Loaded
  pub loads : load_result body offset size Filter ≡ Ok block
  pub yes : admits (filter_in block.payload) (hash_of key) ≡ true

-- the first handle whose end key is not below the key refers to a filter that admits the key
pub record FirstSaysYes (body : List ℕ) (tops : List Handle) (key : List ℕ) : Type 0 where
  pub top : Handle
  pub first : find (λ h. not (key_lt h.end_key key)) tops ≡ Some top
  pub says : SaysYes body top.offset top.size key

-- the top level is the section written last, and its handles lead to a filter that admits the key
pub record TopLevelSaysYes (before after : Written) (body key : List ℕ) : Type 0 where
  pub front : List ℕ
  pub tops : List Handle
  pub bytes : after.bytes ≡ front ++ handles_block V4 tops
  pub started : after.started ≡
      before.started ++ (FilterSection, length before.bytes) ∷ (FilterTli, length front) ∷ []
  pub says : FirstSaysYes body tops key

-- the filter written between two states of a file admits the key, with its one block or one
-- partition; any bytes can follow it
abbrev pub IsAdmitted : FilterKind → Written → Written → List ℕ → List ℕ → Type 0
IsAdmitted Full before after behind key =
    let size = length after.bytes - length before.bytes in
    SaysYes (after.bytes ++ behind) (length before.bytes) size key
IsAdmitted (Partitioned size) before after behind key =
    TopLevelSaysYes before after (after.bytes ++ behind) key
