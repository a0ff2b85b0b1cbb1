use Rattle.std.proofs.Common.{List, ℕ, rules}
use Rattle.sst_entries.specs.Key.{key_lt}
use Rattle.sst_blocks.proofs.Points.{below_parted}
use Rattle.sst_blocks.proofs.data_block.DataBlock.first_at_least.Goals as goal

pub returns-clause-place : goal.returns-clause-place
returns-clause-place g c =
    c.front_len.ensures.value (λ (k : List ℕ) (n : ℕ). key_lt k c.args.key.now) (λ k n r h. search rules) (below_parted _ _ c.front_len.ensures.strict)
