use Rattle.std.proofs.Common.{◌≡◌, ◌∙◌, ap, refl, ◌++◌, ◌∷◌, []}
use Rattle.sst_entries.specs.Entry.{Entry}
use Rattle.sst_blocks.specs.table.MetaBlock.{meta_entry}
use Rattle.lsm_writers.proofs.writer.meta_block.put.Goals as goal

pub returns-clause-ok : goal.returns-clause-ok
returns-clause-ok g c =
    let is : c.from_components.result ≡ meta_entry c.args.name c.args.value.now = rw (c.from_components.ensures, c.in_ok-name.ensures.ok, c.in_ok-value.ensures.ok, c.key.ensures) refl in
    c.in_ok-push.ensures.items ∙ ap (λ (e : Entry). c.args.items.now.items ++ e ∷ []) is
