-- The filter of a table: the keys in each filter block, and the filters built from them.
use Rattle.std.specs.Prelude.{◌≡◌, ℕ, ◌+◌, nat_le, nat_lt, Bool, List, [], ◌∷◌, length}
use Rattle.std.specs.Prelude.{map, Option, Some, None, if◌then◌else◌}
use Rattle.std.specs.List.{flat_map}
use Rattle.sst_blocks.specs.declared.version.TableVersion.{TableVersion}
use Rattle.sst_blocks.specs.declared.section.SectionName.TheVariants.{Filter as FilterSection}
use Rattle.sst_blocks.specs.declared.section.SectionName.TheVariants.{FilterTli}
use Rattle.sst_blocks.specs.declared.block_type.BlockType.TheVariants.{Filter}
use Rattle.sst_blocks.specs.declared.filter.policy.BloomConstructionPolicy.{BloomConstructionPolicy}
use Rattle.sst_blocks.specs.filter.Filter.{BloomFilter, IsFilterOf, payload_of}
use Rattle.sst_blocks.specs.filter.Policy.{probe_count, size_for, tenths_of}
use Rattle.sst_blocks.specs.filter.KeyHash.{hash_of}
use Rattle.sst_entries.specs.Entry.{Entry}
use Rattle.sst_blocks.specs.Block.{block_bytes, header_len}
use Rattle.sst_blocks.specs.table.Facts.{starts_key}
use Rattle.sst_blocks.specs.table.Layout.{Sections}
use Rattle.sst_blocks.specs.table.Partitions.{Partition, handles_block, tops_from}

-- the key of each entry that is the first of its key
unfoldable pub keys_after : Option Entry → List Entry → List (List ℕ)
keys_after before [] = []
keys_after before (e ∷ es) =
    if starts_key before e then e.user_key ∷ keys_after (Some e) es else keys_after (Some e) es

-- the distinct keys of a list
abbrev pub keys_of : List Entry → List (List ℕ)
keys_of es = keys_after None es

-- the keys that filters hold: none without an active policy
abbrev pub filtered_keys : BloomConstructionPolicy → List Entry → List (List ℕ)
filtered_keys policy es = if nat_lt 0 (tenths_of policy) then keys_of es else []

-- the filter of some keys: of the policy's size, with exactly the bits of their hashes
pub record IsFilterFor (policy : BloomConstructionPolicy) (keys : List (List ℕ)) (f : BloomFilter)
    : Type 0 where
  pub probes : f.probe_count ≡ probe_count (tenths_of policy)
  pub size : length f.bits ≡ size_for (tenths_of policy) (length keys)
  pub hashes : IsFilterOf f (map hash_of keys)

-- a filter for each part of the keys
abbrev pub AreFiltersFor : BloomConstructionPolicy → List (List (List ℕ)) → List BloomFilter
    → Type 0
AreFiltersFor policy [] [] = Unit {0}
AreFiltersFor policy [] (f ∷ fs) = ⊥
AreFiltersFor policy (p ∷ ps) [] = ⊥
AreFiltersFor policy (p ∷ ps) (f ∷ fs) = IsFilterFor policy p f × AreFiltersFor policy ps fs

-- the filter bits for the keys reach the partition size
abbrev pub is_full_filter : BloomConstructionPolicy → ℕ → List (List ℕ) → Bool
is_full_filter policy size keys = nat_le size (size_for (tenths_of policy) (length keys))

-- a filter block
abbrev pub filter_block : TableVersion → BloomFilter → List ℕ
filter_block v f = block_bytes v Filter (payload_of f)

-- the last of some keys
abbrev pub last_of_keys : List (List ℕ) → List ℕ
last_of_keys [] = []
last_of_keys (k ∷ []) = k
last_of_keys (k ∷ l ∷ keys) = last_of_keys (l ∷ keys)

-- the top level's data for a filter partition: the part's last key, sequence number 0, and the size
abbrev pub filter_partition : List (List ℕ) → BloomFilter → Partition
filter_partition keys f = record {
  end_key = last_of_keys keys;
  seqno = 0;
  size = header_len + length (payload_of f);
}

abbrev pub filter_partitions : List (List (List ℕ)) → List BloomFilter → List Partition
filter_partitions [] fs = []
filter_partitions (p ∷ ps) [] = []
filter_partitions (p ∷ ps) (f ∷ fs) = filter_partition p f ∷ filter_partitions ps fs

-- the section of a full filter: none without keys
abbrev pub full_filter : TableVersion → List BloomFilter → Sections
full_filter v [] = []
full_filter v (f ∷ fs) = (FilterSection, filter_block v f) ∷ []

-- the sections of a partitioned filter, given the offset of the first: none without keys
abbrev pub partitioned_filter : TableVersion → ℕ → List (List (List ℕ)) → List BloomFilter
    → Sections
partitioned_filter v at parts [] = []
partitioned_filter v at parts (f ∷ fs) =
    (FilterSection, flat_map (filter_block v) (f ∷ fs))
    ∷ (FilterTli, handles_block v (tops_from at (filter_partitions parts (f ∷ fs))))
    ∷ []
