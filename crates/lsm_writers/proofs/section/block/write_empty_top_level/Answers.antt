-- The block has a count of no handles.
use Rattle.std.proofs.Common.{◌≡◌, ap}
use Rattle.sst_entries.proofs.StreamLemmas.{on_err}
use Rattle.sst_blocks.specs.Sections.{Written}
use Rattle.lsm_writers.proofs.Empty.{empty_top, no_bytes}
use Rattle.lsm_writers.proofs.section.block.write_empty_top_level.Goals as goal

pub returns-clause-ok : goal.returns-clause-ok
returns-clause-ok g c = empty_top c.args.writer.now c.start.new.self c.write_into.new.writer c.in_ok-start.ensures.ok c.in_ok-write_into.ensures.ok

pub returns-in_err-write_into-clause-bytes : goal.returns-in_err-write_into-clause-bytes
returns-in_err-write_into-clause-bytes g c =
    let same : c.write_into.new.writer.bytes ≡ c.args.writer.now.bytes =
    no_bytes c.args.writer.now c.start.new.self c.write_into.new.writer _ c.in_ok-start.ensures.ok c.in_err-write_into.ensures.unchanged in
    on_err c.from_residual-in_err-write_into.result same

pub returns-in_err-start-clause-bytes : goal.returns-in_err-start-clause-bytes
returns-in_err-start-clause-bytes g c =
    let same : c.start.new.self.bytes ≡ c.args.writer.now.bytes = ap (λ (y : Written). y.bytes) c.in_err-start.ensures.unchanged in
    on_err c.from_residual.result same
