-- The block has its header and its payload.
use Rattle.std.proofs.Common.{◌∙◌, ap, List, subst, sym}
use Rattle.sst_entries.proofs.Refusals.{faults_refusal}
use Rattle.sst_blocks.specs.Encoding.{handles_fault}
use Rattle.sst_blocks.specs.Handle.{Handle}
use Rattle.sst_blocks.specs.Handles.{AreStrictHandles}
use Rattle.lsm_writers.proofs.Sections.{front_of_block, front_same, top_fits, top_room, top_written}
use Rattle.lsm_writers.proofs.Behind.{bytes_stay, front_begun}
use Rattle.lsm_writers.proofs.section.filter_partitioned.write_top_level.Goals as goal

pub returns-clause-ok : goal.returns-clause-ok
returns-clause-ok g c =
    top_written c.args.writer.now c.start.new.self c.write_into.new.writer c.args.handles.now.items c.deref.result.now c.deref-2.result.now c.new-payload.result.items
    c.in_ok-start.ensures.ok c.deref.ensures.value c.new-payload.ensures.items (c.deref-2.ensures.value ∙ c.in_ok-encode_into.ensures.ok) c.in_ok-write_into.ensures.ok

pub returns-clause-short : goal.returns-clause-short
returns-clause-short g c = top_fits c.args.handles.now.items c.deref.result.now c.deref.ensures.value c.in_ok-encode_into.ensures.short

pub returns-clause-before : goal.returns-clause-before
returns-clause-before g c = front_of_block c.args.writer.now c.start.new.self c.write_into.new.writer _ _ c.in_ok-start.ensures.ok c.in_ok-write_into.ensures.ok

pub returns-in_err-clone-clause-before : goal.returns-in_err-clone-clause-before
returns-in_err-clone-clause-before g c = bytes_stay c.args.writer.now

pub encode_into-requires : goal.encode_into-requires
encode_into-requires g c = subst (λ (hs : List Handle). AreStrictHandles hs) (sym c.deref.ensures.value) c.requires.strict

pub returns-in_err-encode_into-clause-before : goal.returns-in_err-encode_into-clause-before
returns-in_err-encode_into-clause-before g c = bytes_stay c.args.writer.now

pub returns-in_err-encode_into-clause-refused : goal.returns-in_err-encode_into-clause-refused
returns-in_err-encode_into-clause-refused g c =
    faults_refusal c.from_residual-in_err-encode_into.result c.in_err-encode_into.field-0.0 _ c.from_residual-in_err-encode_into.ensures.1
    (λ m. ap (λ (hs : List Handle). handles_fault hs) (sym c.deref.ensures.value) ∙ c.in_err-encode_into.ensures.refused m)

pub returns-in_err-start-clause-before : goal.returns-in_err-start-clause-before
returns-in_err-start-clause-before g c = front_begun c.args.writer.now c.start.new.self c.args.writer.now.started c.in_err-start.ensures.unchanged

pub write_into-requires : goal.write_into-requires
write_into-requires g c =
    top_room c.deref.result.now c.deref-2.result.now c.new-payload.result.items c.new-payload.ensures.items (c.deref-2.ensures.value ∙ c.in_ok-encode_into.ensures.ok)
    c.in_ok-encode_into.ensures.short

pub returns-in_err-write_into-clause-before : goal.returns-in_err-write_into-clause-before
returns-in_err-write_into-clause-before g c = front_same c.args.writer.now c.start.new.self c.write_into.new.writer _ c.in_ok-start.ensures.ok c.in_err-write_into.ensures.unchanged

pub returns-clause-refused : goal.returns-clause-refused
returns-clause-refused g c = ap (λ (hs : List Handle). handles_fault hs) (sym c.deref.ensures.value) ∙ c.in_ok-encode_into.ensures.refused
