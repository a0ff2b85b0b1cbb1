use Rattle.std.proofs.Common.{ℕ, List}
use Rattle.sst_entries.specs.Entry.{Entry}
use Rattle.sst_blocks.specs.Block.{Loaded}
use Rattle.sst_blocks.specs.Sections.{body_of}
use Rattle.sst_blocks.proofs.LoadLemmas.{data_holds}
use Rattle.lsm_files.proofs.FileScans.{block_read, block_refuses}
use Rattle.lsm_files.proofs.scanner.block_at.Goals as goal

pub new-requires : goal.new-requires
new-requires g c = data_holds _ c.in_ok-block.ensures.kind

pub returns-in_err-block-clause-returned : goal.returns-in_err-block-clause-returned
returns-in_err-block-clause-returned g c known =
    block_refuses {X = Loaded × ℕ} {Y = List Entry × ℕ} g.R.ReadAt.reads (λ b. b.0) (λ x. x) (body_of c.args.blocks.now) c.args.position
    c.from_residual.result c.in_err-block.field-0.0 c.from_residual.ensures.1 (c.in_err-block.ensures.returned known)

pub returns-clause-returned : goal.returns-clause-returned
returns-clause-returned g c known =
    block_read (body_of c.args.blocks.now) c.args.position c.in_ok-block.block c.new.result c.in_ok-block.next (c.in_ok-block.ensures.returned known) c.new.ensures c.in_ok-block.ensures.next
