use Rattle.sst_blocks.specs.Sections.{body_of}
use Rattle.lsm_readers.proofs.Verifications.{at_start}
use Rattle.lsm_readers.proofs.table.verification.begin.Goals as goal

pub invariant_of-result : goal.invariant_of-result
invariant_of-result g c =
    let t = c.args.table in
    rw (c.start.ensures t.parts, c.unread-left.ensures) (at_start (body_of t.bytes) t.parts)
