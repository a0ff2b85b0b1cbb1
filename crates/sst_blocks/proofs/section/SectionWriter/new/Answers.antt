use Rattle.std.proofs.Common.{rules, sym, ◌∙◌, arith}
use Rattle.sst_blocks.specs.Fnv.{fnv_basis}
use Rattle.sst_blocks.proofs.FnvLemmas.{fnv_from-none}
use Rattle.sst_blocks.proofs.section.SectionWriter.new.Goals as goal

pub invariant_of-result : goal.invariant_of-result
invariant_of-result g c = (omega arith, c.new-2.ensures ∙ sym (fnv_from-none fnv_basis), search rules)
