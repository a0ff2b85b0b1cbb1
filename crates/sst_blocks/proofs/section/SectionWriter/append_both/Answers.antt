use Rattle.std.proofs.Common.{◌≡◌, ◌++◌, ◌≤◌, ◌∙◌, arith, ap, length, length-append, append_assoc}
use Rattle.sst_blocks.specs.Fnv.{fnv_basis}
use Rattle.sst_blocks.proofs.FnvLemmas.{fnv_from-front}
use Rattle.sst_blocks.proofs.SectionLaws.{ascending_more}
use Rattle.sst_blocks.proofs.section.SectionWriter.append_both.Goals as goal

pub invariant_of-self-2 : goal.invariant_of-self-2
invariant_of-self-2 g c =
    let xs = c.self.inside.bytes.items in
    let more = c.args.front.now ++ c.args.back.now in
    let first : c.extend_from_slice.new.self.items ≡ xs ++ c.args.front.now =
    c.in_ok-extend_from_slice.ensures.items ∙ ap (λ ys. ys ++ c.args.front.now) c.in_ok-reserve.ensures.items in
    let grown : c.extend_from_slice-2.new.self.items ≡ xs ++ more =
    c.in_ok-extend_from_slice-2.ensures.items ∙ ap (λ ys. ys ++ c.args.back.now) first ∙ append_assoc xs c.args.front.now c.args.back.now in
    let longer : length xs ≤ length c.extend_from_slice-2.new.self.items = omega (arith, ap length grown, length-append xs more) in (
      omega arith,
      fnv_from-front _ fnv_basis c.self.inside.hashed xs more _ (omega arith) grown c.self.invariant.1,
      ascending_more _ _ _ longer c.self.invariant.2,
    )
