use Rattle.std.proofs.Common.{◌≡◌, ◌∙◌, ap, ℕ, List, ◌++◌, length, arith}
use Rattle.sst_blocks.specs.declared.version.TableVersion.TheVariants.{V4}
use Rattle.sst_blocks.specs.Encoding.{entries_fault}
use Rattle.sst_blocks.specs.Payload.{payload}
use Rattle.sst_entries.proofs.Refusals.{faults_refusal}
use Rattle.lsm_writers.proofs.Refused.{memory_alone}
use Rattle.lsm_writers.proofs.writer.meta_block.write_items.Goals as goal

pub returns-in_err-encode_into-clause-err : goal.returns-in_err-encode_into-clause-err
returns-in_err-encode_into-clause-err g c =
    memory_alone c.from_residual-in_err-encode_into.result _ c.requires.fit
    (faults_refusal c.from_residual-in_err-encode_into.result c.in_err-encode_into.field-0.0 (entries_fault c.args.items.now) c.from_residual-in_err-encode_into.ensures.1 c.in_err-encode_into.ensures.refused)

pub write_into-requires : goal.write_into-requires
write_into-requires g c =
    let is : c.deref.result.now ≡ payload V4 c.args.items.now = c.deref.ensures.value ∙ c.in_ok-encode_into.ensures.ok ∙ ap (λ (bytes : List ℕ). bytes ++ payload V4 c.args.items.now) c.clear.ensures.items in
    omega (arith, ap length is, c.in_ok-encode_into.ensures.short)
