-- Limits on a table's contents, such that each number and length fits its field.
use Rattle.sst_blocks.specs.Block.{header_len}
use Rattle.std.specs.Prelude.{ℕ, ◌+◌, ◌-◌, ◌^◌, ◌<◌, ◌≤◌, List, length}
use Rattle.std.specs.List.{AllByRecursion}
use Rattle.sst_blocks.specs.declared.version.TableVersion.{TableVersion}
use Rattle.sst_entries.specs.Entry.{Entry}
use Rattle.sst_blocks.specs.Payload.{payload}
use Rattle.sst_blocks.specs.Version.{longest_key}
use Rattle.sst_blocks.specs.table.Chunks.{joined}
use Rattle.sst_blocks.specs.declared.section.SectionName.{SectionName}
use Rattle.sst_blocks.specs.table.Content.{Content}
use Rattle.sst_blocks.specs.table.File.{index_part, filter_part}
use Rattle.sst_blocks.specs.declared.table.options.Options.{Options}
use Rattle.sst_blocks.specs.declared.table.label.Label.{Label}

-- an entry that a writer of the version accepts
pub record EntryFits (v : TableVersion) (e : Entry) : Type 0 where
  pub key : length e.user_key ≤ longest_key v
  pub value : length e.value < 2 ^ 32
  pub number : e.seqno < 2 ^ 64 - 1

-- a chunk whose block is shorter than 2^32
pub record BlockFits (v : TableVersion) (c : List Entry) : Type 0 where
  pub short : header_len + length (payload v c) < 2 ^ 32

-- a table info whose numbers fit their fields
pub record LabelFits (label : Label) : Type 0 where
  pub id : label.table_id < 2 ^ 64
  pub created_at : label.created_at < 2 ^ 128

-- a section shorter than 2^32
pub record SectionFits (s : SectionName × List ℕ) : Type 0 where
  pub short : length s.1 < 2 ^ 32

-- the entries, the data blocks, the sections of the index and filter, and the table info fit
pub record Fits (v : TableVersion) (label : Label) (options : Options) (c : Content)
    : Type 0 where
  pub entries : AllByRecursion (EntryFits v) (joined c.blocks)
  pub blocks : AllByRecursion (BlockFits v) c.blocks
  pub index : AllByRecursion SectionFits (index_part v options c)
  pub filter : AllByRecursion SectionFits (filter_part v options c)
  pub label_fits : LabelFits label
