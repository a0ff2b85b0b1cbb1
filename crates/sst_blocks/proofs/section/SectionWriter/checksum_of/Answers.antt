use Rattle.std.proofs.Common.{arith}
use Rattle.std.proofs.lemmas.List.{take_rest, take_all}
use Rattle.sst_blocks.specs.Fnv.{fnv_basis}
use Rattle.sst_blocks.proofs.FnvLemmas.{fnv_from-split}
use Rattle.sst_blocks.proofs.section.SectionWriter.checksum_of.Goals as goal

pub invariant_of-self : goal.invariant_of-self
invariant_of-self g c =
    let xs = c.self.inside.bytes.items in
    let rest = take_rest xs c.self.inside.hashed in
    let whole = fnv_from-split fnv_basis c.self.inside.hashed xs in
    let all = take_all c.len-self-inside.result xs (omega arith) in
    (omega arith, cc (c.update_both.ensures.first, c.self.invariant.1, c.deref.ensures.value), c.self.invariant.2)
