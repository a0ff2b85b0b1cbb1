-- The block has its header and its payload.
use Rattle.std.proofs.Common.{◌≡◌, ◌∙◌, ap, arith, ℕ, ◌++◌, List, length}
use Rattle.sst_blocks.specs.declared.version.TableVersion.TheVariants.{V4}
use Rattle.sst_blocks.specs.Sections.{Written}
use Rattle.sst_blocks.specs.declared.block_type.BlockType.TheVariants.{Index}
use Rattle.sst_blocks.specs.Block.{block_bytes}
use Rattle.sst_blocks.specs.Handles.{handles_payload}
use Rattle.sst_blocks.proofs.Faults.{on_ok}
use Rattle.sst_blocks.proofs.BlockLengths.{length-block}
use Rattle.lsm_writers.proofs.Behind.{faults_none}
use Rattle.lsm_writers.proofs.section.block.write_block.Goals as goal

pub write_into-requires : goal.write_into-requires
write_into-requires g c =
    let payload = handles_payload V4 c.args.handles.now in
    let is : c.deref.result.now ≡ payload = c.deref.ensures.value ∙ c.in_ok-encode_into.ensures.ok ∙ ap (λ (bytes : List ℕ). bytes ++ payload) c.clear.ensures.items in
    omega (arith, ap length is, c.in_ok-encode_into.ensures.short)

pub returns-clause-ok : goal.returns-clause-ok
returns-clause-ok g c =
    let payload = handles_payload V4 c.args.handles.now in
    let is : c.deref.result.now ≡ payload = c.deref.ensures.value ∙ c.in_ok-encode_into.ensures.ok ∙ ap (λ (bytes : List ℕ). bytes ++ payload) c.clear.ensures.items in
    let w = c.args.writer.now in
    let at : List ℕ → Written = λ bytes. record w { bytes = w.bytes ++ block_bytes V4 Index bytes } in
    on_ok _ _ c.write_into.result c.write_into.ensures.ok (λ e. e ∙ ap at is)

pub returns-clause-place : goal.returns-clause-place
returns-clause-place g c =
    let payload = handles_payload V4 c.args.handles.now in
    let is : c.deref.result.now ≡ payload = c.deref.ensures.value ∙ c.in_ok-encode_into.ensures.ok ∙ ap (λ (bytes : List ℕ). bytes ++ payload) c.clear.ensures.items in
    rw is at c.write_into.ensures.handle

pub returns-clause-bound : goal.returns-clause-bound
returns-clause-bound g c =
    on_ok _ _ c.write_into.result c.write_into.ensures.ok (λ e. length-block V4 Index (handles_payload V4 c.args.handles.now) ∙ c.in_ok-encode_into.ensures.bound)

pub returns-clause-short : goal.returns-clause-short
returns-clause-short g c =
    on_ok _ _ c.write_into.result c.write_into.ensures.ok (λ e. omega (arith, length-block V4 Index (handles_payload V4 c.args.handles.now), c.in_ok-encode_into.ensures.short))

pub returns-clause-unchanged : goal.returns-clause-unchanged
returns-clause-unchanged g c = c.write_into.ensures.unchanged

pub returns-clause-refused : goal.returns-clause-refused
returns-clause-refused g c = faults_none c.write_into.result _ c.in_ok-encode_into.ensures.refused c.write_into.ensures.err
