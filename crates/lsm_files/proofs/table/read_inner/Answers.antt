use Rattle.std.proofs.Common.{ap, sym}
use Rattle.sst_blocks.specs.Sections.{body_of}
use Rattle.lsm_readers.specs.point.Parts.{parts_result}
use Rattle.lsm_readers.specs.point.Table.{parts_of}
use Rattle.lsm_files.proofs.Gets.{passed_on}
use Rattle.lsm_files.proofs.Loads.{to_known}
use Rattle.lsm_files.proofs.table.read_inner.Goals as goal

pub new-source-requires : goal.new-source-requires
new-source-requires g c known = sym (c.requires known).body

pub returns-clause-returned : goal.returns-clause-returned
returns-clause-returned g c known =
    let reads = g.R.ReadAt.reads in
    let bytes = g.R.ReadAt.bytes c.args.file.now in
    let inner = c.recover_in-inner in
    passed_on reads (parts_of {A = g.row.A.Denot}) c.result.result inner.result (parts_result bytes c.args.global_seqno c.args.pins.0 c.args.pins.1) c.result.ensures.ok c.result.ensures.err
    (inner.ensures.returned (to_known reads known) bytes (c.requires known).sections (ap body_of c.new-source.ensures.bytes))
