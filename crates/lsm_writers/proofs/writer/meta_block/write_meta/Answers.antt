use Rattle.std.proofs.Common.{◌≡◌, ◌∙◌, sym, subst, List}
use Rattle.std.specs.Prelude.{None}
use Rattle.sst_entries.specs.Strict.{IsStrict}
use Rattle.sst_entries.specs.Entry.{Entry}
use Rattle.sst_blocks.specs.Encoding.{entries_fault}
use Rattle.lsm_writers.proofs.Finishing.{counted_strict, counted_fit}
use Rattle.lsm_writers.proofs.writer.meta_block.write_meta.Goals as goal

pub write_items-requires-clause-strict : goal.write_items-requires-clause-strict
write_items-requires-clause-strict g c =
    subst (λ (es : List Entry). IsStrict es) (sym (c.deref.ensures.value ∙ c.in_ok-items.ensures.ok)) (counted_strict _ _ _ _)

pub write_items-requires-clause-fit : goal.write_items-requires-clause-fit
write_items-requires-clause-fit g c =
    subst (λ (es : List Entry). entries_fault es ≡ None) (sym (c.deref.ensures.value ∙ c.in_ok-items.ensures.ok)) (counted_fit _ _ _ _ c.requires.short)
