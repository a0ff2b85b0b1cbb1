use Rattle.std.proofs.Common.{◌≡◌, ◌∙◌, ap, subst, arith, List, ℕ, ◌+◌, ◌++◌, length}
use Rattle.std.specs.Prelude.{IfOk, OnOk}
use Rattle.sst_blocks.specs.Block.{block_bytes}
use Rattle.sst_blocks.specs.Payload.{payload}
use Rattle.sst_blocks.specs.declared.block_type.BlockType.TheVariants.{Data}
use Rattle.sst_blocks.specs.declared.version.TableVersion.TheVariants.{V4}
use Rattle.lsm_writers.proofs.Buffering.{block_short, counted_buffered, few_entries, held_as_read, read_again, reads_back}
use Rattle.lsm_writers.proofs.writer.block_buffer.BlockBuffer.write_into.Goals as goal

pub overflow_cast-count : goal.overflow_cast-count
overflow_cast-count g c = omega (arith, few_entries c.args.self.now c.requires.fit, c.self.invariant.mark.count, ap length c.self.view_is)

pub put_count-requires : goal.put_count-requires
put_count-requires g c = c.self.invariant.room

pub write_into-requires : goal.write_into-requires
write_into-requires g c =
    let i = c.self.inside in
    let is : c.deref.result.now ≡ payload V4 c.args.self.now = c.deref.ensures.value ∙ (counted_buffered i.payload.items c.put_count.new.payload.items i.filled _ c.self.invariant c.put_count.ensures).1 ∙ ap (payload V4) c.self.view_is in
    omega (arith, ap length is, (block_short c.args.self.now c.requires.fit).1)

pub invariant_of-self : goal.invariant_of-self
invariant_of-self g c =
    let i = c.self.inside in
    held_as_read _ _ _ (counted_buffered i.payload.items c.put_count.new.payload.items i.filled _ c.self.invariant c.put_count.ensures).0

pub returns-clause-ok : goal.returns-clause-ok
returns-clause-ok g c =
    let i = c.self.inside in
    let w = c.args.file_writer.now in
    let is : c.deref.result.now ≡ payload V4 c.args.self.now = c.deref.ensures.value ∙ (counted_buffered i.payload.items c.put_count.new.payload.items i.filled _ c.self.invariant c.put_count.ensures).1 ∙ ap (payload V4) c.self.view_is in
    subst (λ (b : List ℕ). OnOk c.write_into.result (c.write_into.new.writer ≡ record w { bytes = w.bytes ++ block_bytes V4 Data b })) is c.write_into.ensures.ok

pub returns-clause-handle : goal.returns-clause-handle
returns-clause-handle g c =
    let i = c.self.inside in
    let at = length c.args.file_writer.now.bytes in
    let is : c.deref.result.now ≡ payload V4 c.args.self.now = c.deref.ensures.value ∙ (counted_buffered i.payload.items c.put_count.new.payload.items i.filled _ c.self.invariant c.put_count.ensures).1 ∙ ap (payload V4) c.self.view_is in
    subst (λ (b : List ℕ). IfOk c.write_into.result (λ h. h ≡ record { offset = at; size = 24 + length b })) is c.write_into.ensures.handle

pub returns-clause-readable : goal.returns-clause-readable
returns-clause-readable g c = reads_back _ _ _ _ c.self.invariant c.self.view_is c.requires.strict c.requires.some c.requires.fit

pub returns-clause-same : goal.returns-clause-same
returns-clause-same g c =
    let i = c.self.inside in
    read_again _ i.filled _ (counted_buffered i.payload.items c.put_count.new.payload.items i.filled _ c.self.invariant c.put_count.ensures).0 ∙ c.self.view_is
