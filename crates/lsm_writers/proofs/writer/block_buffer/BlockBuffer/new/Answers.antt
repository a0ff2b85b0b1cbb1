use Rattle.std.proofs.Common.{◌≡◌, [], length, refl}
use Rattle.std.specs.Prelude.{None}
use Rattle.lsm_writers.specs.declared.writer.block_buffer.Mark.{Mark}
use Rattle.lsm_writers.proofs.Buffering.{count_len, held_as_read, none_buffered, read_again}
use Rattle.lsm_writers.proofs.writer.block_buffer.BlockBuffer.new.Goals as goal

pub invariant_of-result : goal.invariant_of-result
invariant_of-result g c =
    let none : Mark = record { len = 0; end = 4; last = None } in
    let four : length c.put_u32.new.buf.items ≡ 4 = count_len _ _ c.in_ok-put_u32.ensures.ok c.new-payload.ensures.items in
    held_as_read _ none [] (none_buffered _ none four refl refl refl)

pub returns-clause-ok : goal.returns-clause-ok
returns-clause-ok g c =
    let none : Mark = record { len = 0; end = 4; last = None } in
    let four : length c.put_u32.new.buf.items ≡ 4 = count_len _ _ c.in_ok-put_u32.ensures.ok c.new-payload.ensures.items in
    read_again _ none [] (none_buffered _ none four refl refl refl)
