use Rattle.std.proofs.Common.{◌≡◌, ℕ, ◌-◌, List, ap, subst, sym, ◌∙◌}
use Rattle.std.specs.Prelude.{Ok}
use Rattle.sst_entries.specs.Entry.{Entry}
use Rattle.sst_blocks.specs.Block.{load_at_result}
use Rattle.sst_blocks.specs.Cursor.{Cursor}
use Rattle.sst_blocks.specs.Sections.{body_of}
use Rattle.sst_blocks.specs.declared.block_type.BlockType.TheVariants.{Data}
use Rattle.lsm_readers.specs.Scan.{block_result, entries_from, fault_of, scan_results}
use Rattle.lsm_readers.specs.point.Table.{IsRecovered, OpenTable}
use Rattle.lsm_readers.proofs.StoredParts.{stored_scan}
use Rattle.lsm_readers.proofs.Scans.{first_left, same_left}
use Rattle.lsm_files.specs.Results.{FileFaults}
use Rattle.lsm_files.proofs.FileScans.{scan_refused}
use Rattle.lsm_files.proofs.table.FileTable.scan.Goals as goal

pub returns-in_err-block-clause-refused : goal.returns-in_err-block-clause-refused
returns-in_err-block-clause-refused g c known =
    let bytes = c.new-blocks.result in
    subst (λ (b : List ℕ). FileFaults g.R.ReadAt.reads c.from_residual.result (fault_of (load_at_result (body_of b) 0 Data))) (c.new-blocks.ensures ∙ ap (λ (t : OpenTable). t.bytes) c.self.view_is)
    (scan_refused g.R.ReadAt.reads (λ (x : List Entry × ℕ). x) (body_of bytes) c.from_residual.result c.in_err-block.field-0.0 c.from_residual.ensures.1 (c.in_err-block.ensures.returned known))

pub returns-clause-left : goal.returns-clause-left
returns-clause-left g c known =
    let bytes = g.R.ReadAt.bytes c.self.inside.file in
    let inner = c.self.inside.inner in
    let count = inner.metadata.data_block_count in
    let add = inner.global_seqno in
    let read = subst (λ (b : List ℕ). block_result (body_of b) 0 ≡ Ok (c.in_ok-block.block, c.in_ok-block.position)) c.new-blocks.ensures (c.in_ok-block.ensures.returned known) in
    let first = first_left (body_of bytes) add count c.in_ok-block.block c.in_ok-block.position read in
    let same = ap body_of (c.in_ok-block.ensures.bytes ∙ c.new-blocks.ensures) in
    let rest = same_left (body_of c.block_at.new.blocks) (body_of bytes) add c.into_cursor.result.behind c.in_ok-block.block c.in_ok-block.position c.saturating_sub.result (count - 1)
    same (ap (λ (k : Cursor). k.behind) c.into_cursor.ensures) c.saturating_sub.ensures in
    subst (λ (t : OpenTable). entries_from (body_of c.block_at.new.blocks) add c.into_cursor.result.behind c.in_ok-block.position c.saturating_sub.result
    ≡ scan_results (body_of t.bytes) t.parts.facts.data_block_count t.global_seqno) c.self.view_is (rest ∙ sym first)

pub returns-clause-list : goal.returns-clause-list
returns-clause-list g c known es is some =
    let t = c.args.self.now in
    let held = subst IsRecovered c.self.view_is (c.self.invariant known).1 in
    returns-clause-left g c known ∙ stored_scan t.bytes es is t.global_seqno held.pin_filter held.pin_index t.parts held.returned some
