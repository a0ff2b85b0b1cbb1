use Rattle.std.proofs.Common.{◌≡◌, ◌++◌, map, take}
use Rattle.sst_blocks.specs.table.MetaBlock.{meta_entry}
use Rattle.lsm_writers.proofs.writer.meta_block.put_all.Given as goal

abbrev pub invariant-loop-name : goal.invariant-loop-name
invariant-loop-name g l = l.items.items ≡ l.fn.items.items
    ++ map (λ x. meta_entry x.0 x.1.now) (take l.name-index l.named)
