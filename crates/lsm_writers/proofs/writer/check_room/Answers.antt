use Rattle.std.proofs.Common.{arith}
use Rattle.sst_entries.specs.Lending.{entry_of_ref}
use Rattle.lsm_writers.proofs.Taking.{item_large, item_fits}
use Rattle.lsm_writers.proofs.writer.check_room.Goals as goal

pub returns-then-entries-bytes : goal.returns-then-entries-bytes
returns-then-entries-bytes g c = item_large c.args.chunk.now (entry_of_ref c.args.entry.now) c.in_ok-check_entry.ensures.short.key c.in_ok-check_entry.ensures.short.value (omega (arith, c.requires.sized, c.len.ensures))

pub returns : goal.returns
returns g c = item_fits c.args.chunk.now (entry_of_ref c.args.entry.now) c.in_ok-check_entry.ensures.short.key c.in_ok-check_entry.ensures.short.value (omega (arith, c.requires.sized, c.len.ensures))
