use Rattle.std.proofs.Common.{ap, ◌∙◌, arith}
use Rattle.sst_blocks.specs.declared.block_type.BlockType.TheVariants.{Index}
use Rattle.sst_blocks.specs.Sections.{body_of}
use Rattle.lsm_readers.specs.point.IndexKinds.{index_len}
use Rattle.lsm_readers.specs.point.Table.{OpenTable, table_of}
use Rattle.lsm_readers.proofs.IndexKinds.{kept_len}
use Rattle.lsm_readers.proofs.Loads.{load_size}
use Rattle.lsm_readers.proofs.table.Table.pinned_block_index_size.Goals as goal

pub returns-clause-payload : goal.returns-clause-payload
returns-clause-payload g c b loaded some =
    let t = c.args.self.now in
    let tli = t.parts.regions.tli in
    let shown = ap (table_of c.self.inside.source) c.deref-inner.ensures ∙ c.self.view_is in
    let len = c.payload_len.ensures ∙ ap (λ (u : OpenTable). index_len u.parts.pinned.index u.parts.regions.tli) shown in
    omega (arith, len, kept_len t.parts.pinned.index tli some, load_size (body_of t.bytes) tli.offset tli.size Index b loaded)
