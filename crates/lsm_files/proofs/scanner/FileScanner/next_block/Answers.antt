use Rattle.std.specs.Prelude.{Err}
use Rattle.std.proofs.Common.{ℕ, List, ap, subst, sym, ◌∙◌}
use Rattle.sst_entries.specs.Entry.{Entry}
use Rattle.sst_blocks.specs.Sections.{body_of}
use Rattle.lsm_readers.specs.Scan.{Scan, block_result}
use Rattle.lsm_files.specs.Results.{FileGives}
use Rattle.lsm_files.proofs.FileScans.{halted_by, moved_by}
use Rattle.lsm_files.proofs.Opened.{same_error}
use Rattle.lsm_files.proofs.scanner.FileScanner.next_block.Goals as goal

pub returns-in-Ok-clause-returned : goal.returns-in-Ok-clause-returned
returns-in-Ok-clause-returned g c known =
    ap (λ (s : Scan). block_result s.body s.position) (sym c.self.view_is) ∙ rw (c.replace.ensures.after, c.into_cursor.ensures) (c.in-Ok.ensures.returned known)

pub returns-in-Ok-clause-ok : goal.returns-in-Ok-clause-ok
returns-in-Ok-clause-ok g c =
    rw (c.replace.ensures.after, c.into_cursor.ensures) (moved_by _ c.args.self.now _ c.in-Ok.block c.in-Ok.position c.block_at.new.opened c.self.view_is (ap body_of c.in-Ok.ensures.bytes) c.in-Ok.ensures.counted)

pub returns-in-Err-clause-returned : goal.returns-in-Err-clause-returned
returns-in-Err-clause-returned g c known =
    subst (λ (s : Scan). FileGives g.R.ReadAt.reads (λ (_ : Unit {0}). (c.end.new.self.entries, c.end.new.self.position)) (Err c.in-Err.error) (block_result s.body s.position)) c.self.view_is
    (same_error g.R.ReadAt.reads (λ (_ : Unit {0}). (c.end.new.self.entries, c.end.new.self.position)) (λ (x : List Entry × ℕ). x) c.in-Err.error _ (c.in-Err.ensures.returned known))

pub returns-in-Err-clause-err : goal.returns-in-Err-clause-err
returns-in-Err-clause-err g c = c.end.ensures ∙ halted_by _ c.args.self.now _ c.block_at.new.opened c.self.view_is (ap body_of c.in-Err.ensures.bytes) c.in-Err.ensures.counted
