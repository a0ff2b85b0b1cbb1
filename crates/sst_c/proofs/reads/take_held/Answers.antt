use Rattle.std.proofs.Common.{None, refl}
use Rattle.sst_c.specs.Reads.{ReadsOn}
use Rattle.sst_c.specs.Takes.{ReadsMany}
use Rattle.sst_c.specs.Reported.{found_by}
use Rattle.sst_c.specs.declared.held.Held.{Held}
use Rattle.sst_c.proofs.Bulk.{part_many}
use Rattle.sst_c.proofs.reads.take_held.Goals as goal

-- the reads of the handle are those of what it holds
pub returns-in-Some : goal.returns-in-Some
returns-in-Some c =
    let a = c.args in
    let n = c.take_from.new in
    part_many (λ (h : Held). h.what) (ReadsOn _ _ _ a.back) a.held.now n.source a.entries.now n.entries
    a.bytes.now n.bytes n.count c.in-Some.code (found_by n.source)
    (c.in-Some.ensures.stopped c.in-Some.code refl)

pub returns-in-None : goal.returns-in-None
returns-in-None c =
    let a = c.args in
    let n = c.take_from.new in
    rw c.clear.ensures
    (part_many (λ (h : Held). h.what) (ReadsOn _ _ _ a.back) a.held.now n.source a.entries.now n.entries
    a.bytes.now n.bytes n.count 0 None (c.in-None.ensures.full refl))
