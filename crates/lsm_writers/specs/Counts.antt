-- The counts of a writer.
use Rattle.std.specs.Prelude.{ℕ, ◌+◌, ◌-◌, ◌<◌, ◌≤◌, ◌^◌, List, [], ◌++◌, length, min, max}
use Rattle.std.specs.Prelude.{count_by, sum_by, Option, Some, None, unwrap_or}
use Rattle.std.specs.Option.{option_or}
use Rattle.sst_blocks.specs.declared.version.TableVersion.{TableVersion}
use Rattle.sst_blocks.specs.declared.version.TableVersion.TheVariants.{V4}
use Rattle.sst_blocks.specs.Version.{longest_key}
use Rattle.sst_entries.specs.Entry.{Entry}
use Rattle.sst_blocks.specs.Payload.{payload}
use Rattle.lsm_writers.specs.declared.writer.meta.Metadata.{Metadata}
use Rattle.lsm_writers.specs.declared.writer.meta.Tally.{Tally}
use Rattle.sst_blocks.specs.table.Chunks.{joined}
use Rattle.sst_blocks.specs.table.Facts.{ListFacts, is_tombstone, is_weak, starts_key}
use Rattle.sst_blocks.specs.table.Facts.{is_reclaimable}
use Rattle.sst_blocks.specs.table.Facts.{one_if, count_after, lowest_seqno, highest_seqno}
use Rattle.sst_blocks.specs.table.Facts.{first_key}
use Rattle.sst_blocks.specs.table.Facts.{last_key}
use Rattle.sst_blocks.specs.table.Index.{data_section}
use Rattle.sst_blocks.specs.table.MetaBlock.{BlockCounts, meta_items}
use Rattle.sst_blocks.specs.declared.table.options.Options.{Options}
use Rattle.sst_blocks.specs.declared.table.label.Label.{Label}
use Rattle.lsm_writers.specs.declared.writer.meta_block.BlockCounts.{BlockCounts as CountedBlocks}

-- the counts of an empty list
abbrev pub no_counts : {A : Type 0} → Metadata A
no_counts = record {
  data_block_count = 0;
  item_count = 0;
  tombstone_count = 0;
  weak_tombstone_count = 0;
  weak_tombstone_reclaimable_count = 0;
  key_count = 0;
  file_pos = record { 0 = 0 };
  uncompressed_size = 0;
  first_key = None;
  last_key = None;
  lowest_seqno = 2 ^ 64 - 1;
  highest_seqno = 0;
}

-- the counts of a list: blocks, items, bytes and last key count the cut blocks, the rest all
-- entries
abbrev pub metadata_of : {A : Type 0} → TableVersion → List (List Entry) → List Entry → Metadata A
metadata_of v cut pending =
    let es = joined cut ++ pending in
    record {
      data_block_count = length cut;
      item_count = length (joined cut);
      tombstone_count = count_by is_tombstone es;
      weak_tombstone_count = count_by is_weak es;
      weak_tombstone_reclaimable_count = count_after is_reclaimable None es;
      key_count = count_after starts_key None es;
      file_pos = record { 0 = length (data_section v cut) };
      uncompressed_size = sum_by (λ c. length (payload v c)) cut;
      first_key = first_key es;
      last_key = last_key (joined cut);
      lowest_seqno = lowest_seqno es;
      highest_seqno = highest_seqno es;
    }

-- the first key that an entry sets: its own if none was set before
abbrev pub brought : Option (List ℕ) → List ℕ → Option (List ℕ)
brought None key = Some key
brought (Some first) key = None

-- the changes that an entry makes to the counts, after the entry before it
abbrev pub tally_of : {A : Type 0} → Option Entry → Entry → Option (List ℕ) → Tally A
tally_of before e first = record {
  starts_key = starts_key before e;
  is_tombstone = is_tombstone e;
  is_weak = is_weak e;
  is_reclaimable = is_reclaimable before e;
  seqno = e.seqno;
  first_key = brought first e.user_key;
}

-- the counts with one more entry
abbrev pub added : {A : Type 0} → Tally A → Metadata A → Metadata A
added t m = record m {
  tombstone_count = m.tombstone_count + one_if t.is_tombstone;
  weak_tombstone_count = m.weak_tombstone_count + one_if t.is_weak;
  weak_tombstone_reclaimable_count = m.weak_tombstone_reclaimable_count + one_if t.is_reclaimable;
  key_count = m.key_count + one_if t.starts_key;
  first_key = option_or m.first_key t.first_key;
  lowest_seqno = min m.lowest_seqno t.seqno;
  highest_seqno = max m.highest_seqno t.seqno;
}

-- the counts with one more entry, after the entry before it
abbrev pub with_entry : {A : Type 0} → Option Entry → Entry → Metadata A → Metadata A
with_entry before e m = added (tally_of before e m.first_key) m

-- no count overflows a `u64` when it grows by one
pub record HasRoom {A : Type 0} (m : Metadata A) : Type 0 where
  pub tombstones : m.tombstone_count + 1 < 2 ^ 64
  pub weak : m.weak_tombstone_count + 1 < 2 ^ 64
  pub reclaimable : m.weak_tombstone_reclaimable_count + 1 < 2 ^ 64
  pub keys : m.key_count + 1 < 2 ^ 64

-- the facts about a list that its meta block stores, from these counts
abbrev pub counted_facts : {A : Type 0} → Metadata A → ListFacts
counted_facts m = record {
  item_count = m.item_count;
  tombstone_count = m.tombstone_count;
  weak_tombstone_count = m.weak_tombstone_count;
  weak_tombstone_reclaimable = m.weak_tombstone_reclaimable_count;
  key_count = m.key_count;
  min_key = unwrap_or m.first_key [];
  max_key = unwrap_or m.last_key [];
  lowest = m.lowest_seqno;
  highest = m.highest_seqno;
}

-- the numbers of index and filter blocks
abbrev pub block_counts : CountedBlocks → BlockCounts
block_counts counts = record { index = counts.index; filter = counts.filter }

-- the items of the meta block, from these counts
unfoldable pub counted_items : {A : Type 0} → Label → Options → BlockCounts → Metadata A → List
    Entry
counted_items label options counts m =
    meta_items V4 label options counts (counted_facts m)
    m.data_block_count m.file_pos.0 m.uncompressed_size

-- neither the first nor the last key is longer than a table allows
pub record HasShortKeys {A : Type 0} (m : Metadata A) : Type 0 where
  pub first : length (unwrap_or m.first_key []) ≤ longest_key V4
  pub last : length (unwrap_or m.last_key []) ≤ longest_key V4
