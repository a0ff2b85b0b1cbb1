-- The options of commands that write tables.
use Rattle.std.specs.Prelude.{◌*◌, ◌-◌, ◌^◌, ℕ, Bool, min, if◌then◌else◌}
use Rattle.sst_blocks.specs.declared.table.options.IndexKind.{IndexKind}
use Rattle.sst_blocks.specs.declared.table.options.IndexKind.TheVariants.{Full, Partitioned}
use Rattle.sst_blocks.specs.declared.filter.policy.BloomConstructionPolicy.TheVariants.{BitsPerKey}
use Rattle.sst_tool.specs.declared.make.compact_options.CompactOptions.{CompactOptions}
use Rattle.sst_tool.specs.declared.lines.entry_line.Format.{Format}
use Rattle.sst_tool.specs.declared.lines.entry_line.Format.TheVariants.{Lines, Json}
use Rattle.sst_tool.specs.declared.make.options.TableOptions.{TableOptions}
use Rattle.sst_tool.specs.declared.make.options.WriteOptions.{WriteOptions}
use Rattle.tool_options.specs.declared.tasks.CompactTask.{CompactTask}
use Rattle.tool_options.specs.declared.tasks.TableArguments.{TableArguments}
use Rattle.tool_options.specs.declared.tasks.WriteTask.{WriteTask}

-- The format of lines.
abbrev pub format_of : Bool → Format
format_of json = if json then Json else Lines

-- The kind of the index.
abbrev pub index_asked : Bool → ℕ → IndexKind
index_asked partitioned size = if partitioned then Partitioned size else Full

-- Tenths of so many bits.
abbrev pub tenths : ℕ → ℕ
tenths bits = min (bits * 10) (2 ^ 32 - 1)

-- The options of new tables, with the given creation time.
abbrev pub tables_by : TableArguments → TableOptions → TableOptions
tables_by asked o = record o {
  index = index_asked asked.partitioned asked.partition_size;
  filter = BitsPerKey (tenths asked.filter_bits);
  block_size = asked.block_size;
  level = asked.level;
  target = asked.target;
}

-- The options of a task for writing, with the given creation time.
abbrev pub write_by : WriteTask → WriteOptions → WriteOptions
write_by task o = record o {
  tables = tables_by task.tables o.tables;
  format = format_of task.json;
  sort = task.sort;
}

-- The options of a task for compacting, with the given creation time.
abbrev pub compact_by : CompactTask → CompactOptions → CompactOptions
compact_by task o = record o {
  rules = record {
    watermark = task.watermark;
    evict = task.evict;
    zeroing = task.zero;
  };
  tables = tables_by task.tables o.tables;
}
