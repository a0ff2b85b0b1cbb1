use Rattle.std.proofs.Common.{◌≡◌, ◌∙◌, ap, refl, ◌+◌, ◌-◌, arith, length, take, ℕ}
use Rattle.std.specs.Prelude.{Some, vec_len}
use Rattle.sst_entries.specs.Lending.{entry_of_ref}
use Rattle.lsm_writers.specs.declared.writer.block_buffer.Mark.{Mark}
use Rattle.lsm_writers.specs.declared.writer.block_buffer.Place.{Place}
use Rattle.lsm_writers.specs.Buffered.{entries_behind}
use Rattle.lsm_writers.proofs.Buffering.{held_as_read, many_bytes, pushed_buffered, read_again, whole_len}
use Rattle.lsm_writers.proofs.writer.block_buffer.BlockBuffer.push.Goals as goal

pub invariant_of-self : goal.invariant_of-self
invariant_of-self g c =
    let i = c.self.inside in
    let end : i.filled.end ≡ vec_len i.payload = omega (arith, whole_len _ _ _ c.self.invariant, i.payload.ok.0) in
    let same : c.truncate.new.self.items ≡ i.payload.items = c.truncate.ensures.items ∙ ap (λ (n : ℕ). take n c.put_entry.new.buf.items) end ∙ c.in-Err.ensures.front in
    rw same c.self.invariant

pub overflow_add-self : goal.overflow_add-self
overflow_add-self g c =
    let h = c.self.invariant in
    omega (arith, h.mark.count, many_bytes (entries_behind c.self.inside.filled.len c.self.inside.payload.items), h.mark.ends)

pub invariant_of-self-2 : goal.invariant_of-self-2
invariant_of-self-2 g c =
    let i = c.self.inside in
    let e = entry_of_ref c.args.entry.now in
    let r = c.in_default.ensures in
    let p : Place = record { key = i.filled.end - 4 + 17; value = i.filled.end - 4 + 17 + length e.user_key; seqno = e.seqno; value_type = e.kind } in
    let o : Mark = record { len = i.filled.len + 1; end = c.len.result; last = Some p } in
    held_as_read _ o _ (pushed_buffered i.payload.items c.put_entry.new.buf.items i.filled o _ e p c.self.invariant r.fits r.ok refl refl refl refl refl (omega (arith, c.len.ensures, c.put_entry.new.buf.ok.0)) refl)

pub returns-clause-pushed : goal.returns-clause-pushed
returns-clause-pushed g c =
    let i = c.self.inside in
    let e = entry_of_ref c.args.entry.now in
    let r = c.in_default.ensures in
    let p : Place = record { key = i.filled.end - 4 + 17; value = i.filled.end - 4 + 17 + length e.user_key; seqno = e.seqno; value_type = e.kind } in
    let o : Mark = record { len = i.filled.len + 1; end = c.len.result; last = Some p } in
    rw (← c.self.view_is) (read_again _ o _ (pushed_buffered i.payload.items c.put_entry.new.buf.items i.filled o _ e p c.self.invariant r.fits r.ok refl refl refl refl refl (omega (arith, c.len.ensures, c.put_entry.new.buf.ok.0)) refl))
