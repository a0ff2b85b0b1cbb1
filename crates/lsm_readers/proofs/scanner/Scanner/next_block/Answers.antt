use Rattle.std.proofs.Common.{ap, sym, ◌∙◌}
use Rattle.sst_blocks.specs.Block.{position_fault}
use Rattle.sst_blocks.specs.declared.block_type.BlockType.TheVariants.{Data}
use Rattle.lsm_readers.specs.Scan.{Scan, block_result, fault_of}
use Rattle.lsm_readers.proofs.Scans.{moved_is, halted_is}
use Rattle.lsm_readers.proofs.scanner.Scanner.next_block.Goals as goal

pub returns-in-Ok-clause-ok : goal.returns-in-Ok-clause-ok
returns-in-Ok-clause-ok g c = (
  c.in-Ok.block,
  c.in-Ok.position,
  ap (λ (s : Scan). block_result s.body s.position) (sym c.self.view_is) ∙ c.in-Ok.ensures.returned,
  rw (c.replace.ensures.after, c.into_cursor.ensures) (moved_is _ c.args.self.now c.in-Ok.block c.in-Ok.position c.block_at.new.opened c.self.view_is c.in-Ok.ensures.counted),
)

pub returns-in-Ok-clause-refused : goal.returns-in-Ok-clause-refused
returns-in-Ok-clause-refused g c = ap (λ (s : Scan). fault_of (block_result s.body s.position)) (sym c.self.view_is) ∙ ap fault_of c.in-Ok.ensures.returned

pub returns-in-Err-clause-refused : goal.returns-in-Err-clause-refused
returns-in-Err-clause-refused g c memory = ap (λ (s : Scan). fault_of (block_result s.body s.position)) (sym c.self.view_is) ∙ ap fault_of (c.in-Err.ensures.returned memory)

pub returns-in-Err-clause-err : goal.returns-in-Err-clause-err
returns-in-Err-clause-err g c = c.end.ensures ∙ halted_is _ c.args.self.now c.block_at.new.opened c.self.view_is c.in-Err.ensures.counted

pub returns-in-Ok-clause-early : goal.returns-in-Ok-clause-early
returns-in-Ok-clause-early g c e returned = c.in-Ok.ensures.early e (ap (λ (s : Scan). position_fault s.body s.position Data) c.self.view_is ∙ returned)

pub returns-in-Err-clause-early : goal.returns-in-Err-clause-early
returns-in-Err-clause-early g c e returned = c.in-Err.ensures.early e (ap (λ (s : Scan). position_fault s.body s.position Data) c.self.view_is ∙ returned)
