use Rattle.std.proofs.Common.{[], refl}
use Rattle.std.specs.Prelude.{None}
use Rattle.lsm_writers.specs.declared.writer.block_buffer.Mark.{Mark}
use Rattle.lsm_writers.proofs.Buffering.{held_as_read, none_buffered, read_again, room_left}
use Rattle.lsm_writers.proofs.writer.block_buffer.BlockBuffer.clear.Goals as goal

pub invariant_of-self : goal.invariant_of-self
invariant_of-self g c =
    let none : Mark = record { len = 0; end = 4; last = None } in
    let four = room_left _ _ _ _ c.self.invariant c.truncate.ensures.items in
    held_as_read _ none [] (none_buffered _ none four refl refl refl)

pub returns : goal.returns
returns g c =
    let none : Mark = record { len = 0; end = 4; last = None } in
    let four = room_left _ _ _ _ c.self.invariant c.truncate.ensures.items in
    read_again _ none [] (none_buffered _ none four refl refl refl)
