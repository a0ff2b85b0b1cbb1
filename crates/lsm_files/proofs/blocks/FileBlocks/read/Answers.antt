use Rattle.std.proofs.Common.{◌≡◌, ℕ, ◌+◌, ◌≤◌, List, length, arith, subst}
use Rattle.std.specs.Prelude.{Bool}
use Rattle.sst_blocks.specs.Sections.{body_of}
use Rattle.sst_blocks.specs.declared.opened.Opened.{Opened}
use Rattle.lsm_files.specs.Reads.{IsPartAt}
use Rattle.lsm_files.proofs.Kept.{both_ok, kept_ok}
use Rattle.lsm_files.proofs.Parts.{part_of_body}
use Rattle.lsm_files.proofs.blocks.FileBlocks.read.Goals as goal

pub returns-clause-part : goal.returns-clause-part
returns-clause-part g c known =
    let bytes = g.R.ReadAt.bytes c.self.inside.file.now in
    let at = c.args.handle.now.offset in
    let read = c.read_slice-read in
    let IsRead = λ (part : List ℕ). IsPartAt (body_of c.args.self.now.0) at part × (length part ≡ c.args.handle.now.size) in
    kept_ok _ IsRead read.result c.keep.result c.keep.new.self c.keep.ensures
    (both_ok (λ (part : List ℕ). length part ≡ c.from-size.result) (λ (part : List ℕ). IsPartAt bytes c.offset-2.result.0 part) IsRead read.result read.ensures.len (read.ensures.part known)
    (λ part long there.
    let size : length part ≡ c.args.handle.now.size = omega (arith, long, c.from-size.ensures, c.size.ensures) in
    let here = subst (λ (n : ℕ). IsPartAt bytes n part) c.offset-2.ensures there in
    let ends : at + length part ≤ length (body_of bytes) = omega (arith, size, c.self.invariant.0 known, c.if-self-size.false, c.if-self-size-2.false, c.offset.ensures, c.from-size.ensures, c.size.ensures) in
    (subst (λ (s : List ℕ × Opened × Bool). IsPartAt (body_of s.0) at part) c.self.view_is (part_of_body bytes at part here ends), size)))
