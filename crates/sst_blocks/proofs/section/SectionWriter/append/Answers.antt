use Rattle.std.proofs.Common.{◌≤◌, arith, ap, length, length-append}
use Rattle.sst_blocks.specs.Fnv.{fnv_basis}
use Rattle.sst_blocks.proofs.FnvLemmas.{fnv_from-front}
use Rattle.sst_blocks.proofs.SectionLaws.{ascending_more}
use Rattle.sst_blocks.proofs.section.SectionWriter.append.Goals as goal

pub invariant_of-self-2 : goal.invariant_of-self-2
invariant_of-self-2 g c =
    let xs = c.self.inside.bytes.items in
    let grown = c.in_ok-extend_from_slice.ensures.items in
    let longer : length xs ≤ length c.extend_from_slice.new.self.items = omega (arith, ap length grown, length-append xs c.args.bytes.now) in (
      omega arith,
      fnv_from-front _ fnv_basis c.self.inside.hashed xs c.args.bytes.now _ (omega arith) grown c.self.invariant.1,
      ascending_more _ _ _ longer c.self.invariant.2,
    )
