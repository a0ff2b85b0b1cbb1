use Rattle.std.proofs.Common.{List, ℕ, rules}
use Rattle.std.specs.Prelude.{not}
use Rattle.sst_entries.specs.Key.{key_lt}
use Rattle.sst_blocks.proofs.Points.{up_to_parted}
use Rattle.sst_blocks.proofs.data_block.DataBlock.first_above.Goals as goal

pub returns-clause-place : goal.returns-clause-place
returns-clause-place g c =
    c.front_len.ensures.value (λ (k : List ℕ) (n : ℕ). not (key_lt c.args.key.now k)) (λ k n r h. search rules) (up_to_parted _ _ c.front_len.ensures.strict)
