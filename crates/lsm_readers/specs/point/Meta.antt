-- Decoding a meta block item by item, up to the first error.
use Rattle.std.specs.Prelude.{ℕ, ◌-◌, ◌^◌, ◌==◌, ◌||◌, nat_lt, nat_eq, List, [], ◌∷◌, length}
use Rattle.std.specs.Prelude.{slice_index, Option, Some, None, Result, Ok, Err, if◌then◌else◌}
use Rattle.std.specs.Cmp.Lexicographic.{pointwise}
use Rattle.sst_blocks.specs.declared.block_type.BlockType.TheVariants.{Meta}
use Rattle.sst_blocks.specs.Block.{load_result, entries_of}
use Rattle.sst_blocks.specs.Place.{Place}
use Rattle.sst_entries.specs.declared.error.Error.{Error}
use Rattle.sst_entries.specs.declared.error.Error.TheVariants.{MetaKeyMissing, InvalidMetaValue}
use Rattle.sst_entries.specs.declared.error.Error.TheVariants.{UnsupportedTableVersion}
use Rattle.sst_entries.specs.declared.error.Error.TheVariants.{UnsupportedHashType}
use Rattle.sst_entries.specs.declared.error.Error.TheVariants.{UnsupportedChecksumType}
use Rattle.sst_entries.specs.declared.error.Error.TheVariants.{UnsupportedIndexInterval}
use Rattle.sst_entries.specs.declared.error.Error.TheVariants.{UnsupportedCompression}
use Rattle.sst_entries.specs.Entry.{Entry}
use Rattle.sst_blocks.specs.Number.{num8, num16}
use Rattle.sst_entries.specs.Point.{point}
use Rattle.sst_blocks.specs.declared.version.TableVersion.{TableVersion}
use Rattle.lsm_sorted.specs.version.KeyRange.{Interval, interval}
use Rattle.sst_blocks.specs.table.Facts.{ListFacts, facts}
use Rattle.sst_blocks.specs.table.MetaBlock.{filter_hash_type, name_of, version_number}
use Rattle.sst_blocks.specs.declared.table.item_name.ItemName.{ItemName}
use Rattle.sst_blocks.specs.declared.table.item_name.ItemName.TheVariants as item
use Rattle.sst_blocks.specs.declared.table.label.Label.{Label}
use Rattle.lsm_readers.specs.declared.meta.Numbers.{Numbers}
use Rattle.lsm_readers.specs.declared.meta.ParsedMeta.{ParsedMeta}
use Rattle.lsm_readers.specs.point.Read.{◌>>=◌}

-- The facts that a table's meta block states.
pub record Facts : Type 0 where
  pub table_version : ℕ
  pub id : ℕ
  pub created_at : ℕ
  pub data_block_count : ℕ
  pub index_block_count : ℕ
  pub key_range : Interval
  pub seqno_min : ℕ
  pub seqno_max : ℕ
  pub file_size : ℕ
  pub item_count : ℕ
  pub tombstone_count : ℕ
  pub weak_tombstone_count : ℕ
  pub weak_tombstone_reclaimable : ℕ

abbrev pub facts_of : {A : Type 0} → ParsedMeta A → Facts
facts_of m = record {
  table_version = m.table_version;
  id = m.id;
  created_at = m.created_at;
  data_block_count = m.data_block_count;
  index_block_count = m.index_block_count;
  key_range = m.key_range;
  seqno_min = m.seqnos.0;
  seqno_max = m.seqnos.1;
  file_size = m.file_size;
  item_count = m.item_count;
  tombstone_count = m.tombstone_count;
  weak_tombstone_count = m.weak_tombstone_count;
  weak_tombstone_reclaimable = m.weak_tombstone_reclaimable;
}

-- The facts assembled from the version, the timestamp, the counts, the key range and the seqno
-- range.
abbrev pub facts_with : ℕ → ℕ → Numbers → Interval → ℕ × ℕ → Facts
facts_with table_version created_at n key_range seqnos = record {
  table_version = table_version;
  id = n.id;
  created_at = created_at;
  data_block_count = n.data_block_count;
  index_block_count = n.index_block_count;
  key_range = key_range;
  seqno_min = seqnos.0;
  seqno_max = seqnos.1;
  file_size = n.file_size;
  item_count = n.item_count;
  tombstone_count = n.tombstone_count;
  weak_tombstone_count = n.weak_tombstone_count;
  weak_tombstone_reclaimable = n.weak_tombstone_reclaimable;
}

-- The counts and the facts of the table of a list, for these numbers of blocks and data bytes.
abbrev pub numbers_said : Label → ListFacts → ℕ → ℕ → ℕ → Numbers
numbers_said label f blocks index_blocks size = record {
  id = label.table_id;
  item_count = f.item_count;
  tombstone_count = f.tombstone_count;
  data_block_count = blocks;
  index_block_count = index_blocks;
  file_size = size;
  weak_tombstone_count = f.weak_tombstone_count;
  weak_tombstone_reclaimable = f.weak_tombstone_reclaimable;
}

abbrev pub facts_said : TableVersion → Label → List Entry → ℕ → ℕ → ℕ → Facts
facts_said v label es blocks index_blocks size =
    let f = facts es in
    facts_with (version_number v) label.created_at
    (numbers_said label f blocks index_blocks size)
    (interval f.min_key f.max_key) (f.lowest, f.highest)

-- The value of an item, or `MetaKeyMissing`.
abbrev pub value_result : Option Entry → Result (List ℕ) Error
value_result None = Err MetaKeyMissing
value_result (Some e) = Ok e.value

-- The value of the first item of a name, of any value type.
unfoldable pub item_result : List Entry → ItemName → Result (List ℕ) Error
item_result es name = value_result (point es (name_of name) (2 ^ 64 - 1))

-- A number of 8 or 16 bytes; further bytes are ignored.
abbrev pub number8_result : List ℕ → Result ℕ Error
number8_result value = if nat_lt (length value) 8 then Err InvalidMetaValue else Ok (num8 value)

abbrev pub number16_result : List ℕ → Result ℕ Error
number16_result value = if nat_lt (length value) 16 then Err InvalidMetaValue else Ok (num16 value)

-- The item of a name as a number of 8 bytes.
unfoldable pub u64_result : List Entry → ItemName → Result ℕ Error
u64_result es name = item_result es name >>= number8_result

-- The value must be exactly this byte.
abbrev pub one_byte_result : List ℕ → ℕ → Error → Result (Unit {0}) Error
one_byte_result value byte fault =
    if pointwise nat_eq value (byte ∷ []) then Ok tt else Err fault

-- The item's value must be exactly this byte.
unfoldable pub byte_result : List Entry → ItemName → ℕ → Error → Result (Unit {0}) Error
byte_result es name byte fault = item_result es name >>= λ value. one_byte_result value byte fault

-- The value's first byte must be this one.
abbrev pub first_byte_result : List ℕ → ℕ → Error → Result (Unit {0}) Error
first_byte_result value byte fault =
    if nat_lt (length value) 1 then Err InvalidMetaValue
    else (if slice_index value 0 == byte then Ok tt else Err fault)

-- The first byte of the item's value must be this one.
unfoldable pub first_result : List Entry → ItemName → ℕ → Error → Result (Unit {0}) Error
first_result es name byte fault = item_result es name >>= λ value. first_byte_result value byte fault

-- The table version: one byte, 3 or 4.
abbrev pub version_number_result : List ℕ → Result ℕ Error
version_number_result value =
    if pointwise nat_eq value (3 ∷ []) || pointwise nat_eq value (4 ∷ [])
    then Ok (slice_index value 0)
    else Err UnsupportedTableVersion

unfoldable pub version_result : List Entry → Result ℕ Error
version_result es = item_result es item.TableVersion >>= version_number_result

-- The hash type, the checksum type and the index restart interval must be supported.
unfoldable pub kinds_result : List Entry → Result (Unit {0}) Error
kinds_result es =
    byte_result es item.FilterHashType filter_hash_type UnsupportedHashType >>= λ _.
    byte_result es item.ChecksumType 1 UnsupportedChecksumType >>= λ _.
    first_result es item.RestartIntervalIndex 1 UnsupportedIndexInterval

-- No block is compressed.
unfoldable pub compressions_result : List Entry → Result (Unit {0}) Error
compressions_result es =
    first_result es item.CompressionData 0 UnsupportedCompression >>= λ _.
    first_result es item.CompressionIndex 0 UnsupportedCompression

unfoldable pub created_result : List Entry → Result ℕ Error
created_result es = item_result es item.CreatedAt >>= number16_result

-- The counts, decoded in this order before the timestamp. The filter block count is decoded for its
-- error only.
unfoldable pub numbers_result : List Entry → Result Numbers Error
numbers_result es =
    u64_result es item.TableId >>= λ id.
    u64_result es item.ItemCount >>= λ item_count.
    u64_result es item.TombstoneCount >>= λ tombstone_count.
    u64_result es item.BlockCountData >>= λ data_block_count.
    u64_result es item.BlockCountIndex >>= λ index_block_count.
    u64_result es item.BlockCountFilter >>= λ _.
    u64_result es item.FileSize >>= λ file_size.
    u64_result es item.WeakTombstoneCount >>= λ weak_tombstone_count.
    u64_result es item.WeakTombstoneReclaimable >>= λ weak_tombstone_reclaimable.
    Ok (record {
      id = id;
      item_count = item_count;
      tombstone_count = tombstone_count;
      data_block_count = data_block_count;
      index_block_count = index_block_count;
      file_size = file_size;
      weak_tombstone_count = weak_tombstone_count;
      weak_tombstone_reclaimable = weak_tombstone_reclaimable;
    })

-- The first and the last key.
unfoldable pub keys_result : List Entry → Result Interval Error
keys_result es =
    item_result es item.KeyMin >>= λ min.
    item_result es item.KeyMax >>= λ max.
    Ok (interval min max)

-- The lowest and the highest seqno.
unfoldable pub seqnos_result : List Entry → Result (ℕ × ℕ) Error
seqnos_result es =
    u64_result es item.SeqnoMin >>= λ min.
    u64_result es item.SeqnoMax >>= λ max.
    Ok (min, max)

-- The items decoded after the version and the counts, in this order.
unfoldable pub rest_result : List Entry → ℕ → Numbers → Result Facts Error
rest_result es table_version numbers =
    created_result es >>= λ created_at.
    keys_result es >>= λ key_range.
    seqnos_result es >>= λ seqnos.
    compressions_result es >>= λ _.
    Ok (facts_with table_version created_at numbers key_range seqnos)

-- All items, decoded in this order.
unfoldable pub facts_result : List Entry → Result Facts Error
facts_result es =
    version_result es >>= λ table_version.
    kinds_result es >>= λ _.
    numbers_result es >>= λ numbers.
    rest_result es table_version numbers

-- The facts of a meta block: it is loaded, then decoded.
abbrev pub meta_result : List ℕ → Place → Result Facts Error
meta_result body place =
    load_result body place.offset place.size Meta >>= λ block. facts_result (entries_of block)

-- The value of one item of a meta block, whatever the others are.
abbrev pub meta_item_result : List ℕ → Place → ItemName → Result (List ℕ) Error
meta_item_result body place name =
    load_result body place.offset place.size Meta >>= λ block. item_result (entries_of block) name
