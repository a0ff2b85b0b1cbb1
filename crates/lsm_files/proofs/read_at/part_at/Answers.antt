use Rattle.std.proofs.Common.{arith}
use Rattle.lsm_files.proofs.Parts.{range_length, range_part}
use Rattle.lsm_files.proofs.read_at.part_at.Goals as goal

pub returns-clause-part : goal.returns-clause-part
returns-clause-part c = range_part c.args.bytes.now c.args.offset c.args.len (omega arith)

pub returns-clause-len : goal.returns-clause-len
returns-clause-len c = range_length c.args.bytes.now c.args.offset c.args.len (omega arith)
