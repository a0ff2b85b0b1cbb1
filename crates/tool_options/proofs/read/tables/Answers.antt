use Rattle.std.proofs.Common.{rules}
use Rattle.tool_options.proofs.read.tables.Goals as goal

pub returns : goal.returns
returns c = record {
  partitioned = c.says.ensures;
  filter = search rules;
  block_size = search rules;
  partition_size = search rules;
  level = search rules;
  target = c.number.ensures;
}
