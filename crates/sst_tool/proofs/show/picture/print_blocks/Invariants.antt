use Rattle.std.proofs.Common.{◌-◌, length}
use Rattle.sst_tool.proofs.show.picture.print_blocks.Given as goal

abbrev pub decreases-loop-first : goal.decreases-loop-first
decreases-loop-first g l = length l.blocks - l.first
