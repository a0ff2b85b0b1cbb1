-- The items of a table's meta block: their names and values.
use Rattle.std.specs.Prelude.{ℕ, List, [], ◌∷◌, ◌++◌, length, sum_by, codes}
use Rattle.sst_blocks.specs.declared.version.TableVersion.{TableVersion}
use Rattle.sst_blocks.specs.declared.version.TableVersion.TheVariants.{V3, V4}
use Rattle.sst_entries.specs.declared.value_type.ValueType.TheVariants.{Value}
use Rattle.sst_entries.specs.Entry.{Entry, entry}
use Rattle.sst_blocks.specs.Number.{le4, le8, le16}
use Rattle.sst_blocks.specs.Payload.{payload}
use Rattle.sst_blocks.specs.table.Chunks.{joined}
use Rattle.sst_blocks.specs.table.Facts.{ListFacts, facts}
use Rattle.sst_blocks.specs.table.Index.{data_section}
use Rattle.sst_blocks.specs.declared.table.item_name.ItemName.{ItemName}
use Rattle.sst_blocks.specs.declared.table.item_name.ItemName.TheVariants as item
use Rattle.sst_blocks.specs.declared.table.options.Options.{Options}
use Rattle.sst_blocks.specs.declared.table.label.Label.{Label}

-- the key of an item; the items are sorted by the bytes of their keys
unfoldable pub name_of : ItemName → List ℕ
name_of item.BlockCountData = codes "block_count#data"
name_of item.BlockCountFilter = codes "block_count#filter"
name_of item.BlockCountIndex = codes "block_count#index"
name_of item.ChecksumType = codes "checksum_type"
name_of item.CompressionData = codes "compression#data"
name_of item.CompressionIndex = codes "compression#index"
name_of item.CrateVersion = codes "crate_version"
name_of item.CreatedAt = codes "created_at"
name_of item.DataBlockHashRatio = codes "data_block_hash_ratio"
name_of item.FileSize = codes "file_size"
name_of item.FilterHashType = codes "filter_hash_type"
name_of item.IndexKeysHaveSeqno = codes "index_keys_have_seqno"
name_of item.InitialLevel = codes "initial_level"
name_of item.ItemCount = codes "item_count"
name_of item.KeyMax = codes "key#max"
name_of item.KeyMin = codes "key#min"
name_of item.KeyCount = codes "key_count"
name_of item.PrefixTruncationData = codes "prefix_truncation#data"
name_of item.PrefixTruncationIndex = codes "prefix_truncation#index"
name_of item.RestartIntervalData = codes "restart_interval#data"
name_of item.RestartIntervalIndex = codes "restart_interval#index"
name_of item.SeqnoMax = codes "seqno#max"
name_of item.SeqnoMin = codes "seqno#min"
name_of item.TableId = codes "table_id"
name_of item.TableVersion = codes "table_version"
name_of item.TombstoneCount = codes "tombstone_count"
name_of item.UserDataSize = codes "user_data_size"
name_of item.WeakTombstoneCount = codes "weak_tombstone_count"
name_of item.WeakTombstoneReclaimable = codes "weak_tombstone_reclaimable"

-- the number of the hash of keys in a meta block
abbrev pub filter_hash_type : ℕ
filter_hash_type = 1

-- the crate version recorded in a table
abbrev pub crate_version : List ℕ
crate_version = codes "3.1.10"

-- an item with its value
abbrev pub meta_entry : ItemName → List ℕ → Entry
meta_entry name value = entry (name_of name) value 0 Value

-- the number of a version, as stored in a table
abbrev pub version_number : TableVersion → ℕ
version_number V3 = 3
version_number V4 = 4

-- the numbers of index and filter blocks in a table
pub record BlockCounts : Type 0 where
  pub index : ℕ
  pub filter : ℕ

-- the first ten items, sorted by name: block counts, checksum type, compressions, crate version,
-- timestamp, hash ratio of data blocks and file size
abbrev pub block_items : Label → Options → BlockCounts → ℕ → ℕ → List Entry
block_items label options counted data_blocks file_size =
    meta_entry item.BlockCountData (le8 data_blocks)
    ∷ meta_entry item.BlockCountFilter (le8 counted.filter)
    ∷ meta_entry item.BlockCountIndex (le8 counted.index)
    ∷ meta_entry item.ChecksumType (1 ∷ [])
    ∷ meta_entry item.CompressionData (0 ∷ [])
    ∷ meta_entry item.CompressionIndex (0 ∷ [])
    ∷ meta_entry item.CrateVersion crate_version
    ∷ meta_entry item.CreatedAt (le16 label.created_at)
    ∷ meta_entry item.DataBlockHashRatio (le4 options.data_block_hash_ratio)
    ∷ meta_entry item.FileSize (le8 file_size)
    ∷ []

-- then the hash, the level and the number of items
abbrev pub level_items : Label → ListFacts → List Entry
level_items label f =
    meta_entry item.FilterHashType (filter_hash_type ∷ [])
    ∷ meta_entry item.IndexKeysHaveSeqno (1 ∷ [])
    ∷ meta_entry item.InitialLevel (label.initial_level ∷ [])
    ∷ meta_entry item.ItemCount (le8 f.item_count)
    ∷ []

-- then the last and the first key, the only items whose values can be long
abbrev pub key_items : ListFacts → List Entry
key_items f = meta_entry item.KeyMax f.max_key ∷ meta_entry item.KeyMin f.min_key ∷ []

-- the items after the keys, sorted by name: key count, prefix truncations, restart intervals,
-- sequence number bounds, table id and version
abbrev pub option_items : TableVersion → Label → Options → ListFacts → List Entry
option_items v label options f =
    meta_entry item.KeyCount (le8 f.key_count)
    ∷ meta_entry item.PrefixTruncationData (0 ∷ [])
    ∷ meta_entry item.PrefixTruncationIndex (0 ∷ [])
    ∷ meta_entry item.RestartIntervalData (options.data_block_restart_interval ∷ [])
    ∷ meta_entry item.RestartIntervalIndex (options.index_block_restart_interval ∷ [])
    ∷ meta_entry item.SeqnoMax (le8 f.highest)
    ∷ meta_entry item.SeqnoMin (le8 f.lowest)
    ∷ meta_entry item.TableId (le8 label.table_id)
    ∷ meta_entry item.TableVersion (version_number v ∷ [])
    ∷ []

-- then the other counts
abbrev pub count_items : ListFacts → ℕ → List Entry
count_items f user_data_size =
    meta_entry item.TombstoneCount (le8 f.tombstone_count)
    ∷ meta_entry item.UserDataSize (le8 user_data_size)
    ∷ meta_entry item.WeakTombstoneCount (le8 f.weak_tombstone_count)
    ∷ meta_entry item.WeakTombstoneReclaimable (le8 f.weak_tombstone_reclaimable)
    ∷ []

-- all 29 items, given the facts, the number of data blocks, the length of their section and of
-- their payloads
abbrev pub meta_items : TableVersion → Label → Options → BlockCounts → ListFacts → ℕ → ℕ → ℕ → List
    Entry
meta_items v label options counted f data_blocks file_size user_data_size =
    block_items label options counted data_blocks file_size
    ++ level_items label f
    ++ key_items f
    ++ option_items v label options f
    ++ count_items f user_data_size

-- the items of a table of these chunks
abbrev pub meta_entries : TableVersion → Label → Options → List (List Entry) → BlockCounts → List
    Entry
meta_entries v label options cs counted =
    meta_items v label options counted (facts (joined cs)) (length cs) (length (data_section v cs))
    (sum_by (λ c. length (payload v c)) cs)
