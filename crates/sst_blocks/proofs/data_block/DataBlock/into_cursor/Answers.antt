use Rattle.std.proofs.Common.{◌∙◌, ℕ, ap, slice_range}
use Rattle.sst_blocks.specs.Cursor.{cursor_of}
use Rattle.sst_blocks.proofs.Within.{left_whole}
use Rattle.sst_blocks.proofs.data_block.DataBlock.into_cursor.Goals as goal

pub returns : goal.returns
returns g c =
    c.into_cursor_of.ensures
    ∙ ap cursor_of (ap (λ (n : ℕ). slice_range c.args.self 0 n) c.len-len.ensures.value ∙ left_whole c.args.self)
