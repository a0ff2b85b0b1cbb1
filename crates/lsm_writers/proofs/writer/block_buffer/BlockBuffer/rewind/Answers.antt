use Rattle.std.proofs.Common.{sym, subst, List}
use Rattle.sst_entries.specs.Entry.{Entry}
use Rattle.lsm_writers.specs.Buffered.{MarksFront}
use Rattle.lsm_writers.proofs.Buffering.{front_taken, held_as_read, read_again}
use Rattle.lsm_writers.proofs.writer.block_buffer.BlockBuffer.rewind.Goals as goal

pub invariant_of-self : goal.invariant_of-self
invariant_of-self g c =
    let marks = subst (λ (es : List Entry). MarksFront c.args.mark es) (sym c.self.view_is) c.requires in
    rw c.truncate.ensures.items (held_as_read _ c.args.mark _ (front_taken _ _ c.args.mark _ c.self.invariant marks))

pub returns : goal.returns
returns g c =
    let marks = subst (λ (es : List Entry). MarksFront c.args.mark es) (sym c.self.view_is) c.requires in
    rw (c.truncate.ensures.items, ← c.self.view_is) (read_again _ c.args.mark _ (front_taken _ _ c.args.mark _ c.self.invariant marks))
