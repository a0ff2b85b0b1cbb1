use Rattle.std.proofs.Common.{append_assoc}
use Rattle.lsm_writers.specs.Counts.{counted_items}
use Rattle.lsm_writers.proofs.writer.meta_block.meta_items.Goals as goal

pub returns-clause-ok : goal.returns-clause-ok
unfolding counted_items
returns-clause-ok g c = simp append_assoc at (rw (c.in_ok-put_option_items.ensures.ok, c.in_ok-put_level_and_key_items.ensures.ok, c.in_ok-put_block_items.ensures.ok, c.new-items.ensures.items) at c.in_ok-put_count_items.ensures.ok)
