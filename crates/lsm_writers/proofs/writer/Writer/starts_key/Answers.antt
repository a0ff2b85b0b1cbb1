use Rattle.std.proofs.Common.{◌∙◌, ap, sym}
use Rattle.std.specs.Prelude.{None, Option}
use Rattle.sst_entries.specs.Entry.{Entry}
use Rattle.sst_entries.specs.Lending.{entry_of_ref}
use Rattle.sst_blocks.specs.table.Chunks.{joined}
use Rattle.sst_blocks.specs.table.Facts.{starts_key}
use Rattle.lsm_writers.proofs.Orders.{last_of-append}
use Rattle.lsm_writers.proofs.writer.Writer.starts_key.Goals as goal

pub returns : goal.returns
returns g c =
    let i = c.self.inside in
    let last = c.last_written.ensures.last ∙ sym (last_of-append None (joined i.blocks.chunks) i.chunk) in
    rw (← c.self.view_is) (c.starts_key.ensures ∙ ap (λ (o : Option Entry). starts_key o (entry_of_ref c.args.entry.now)) last)
