use Rattle.std.proofs.Common.{ℕ, ◌+◌, ◌≤◌, List, length, arith, subst}
use Rattle.sst_blocks.specs.Sections.{body_of}
use Rattle.lsm_files.specs.Reads.{IsPartAt}
use Rattle.lsm_files.proofs.Aheads.{first_part, kept_part}
use Rattle.lsm_files.proofs.ahead.Ahead.part.Goals as goal

pub returns-in-Some-clause-part : goal.returns-in-Some-clause-part
returns-in-Some-clause-part g c known =
    let bytes = g.R.ReadAt.bytes c.self.inside.file.now in
    let inv = c.self.invariant known in
    let part = c.in_ok-slice.field-0 in
    let ends : c.args.position + c.args.len ≤ length (body_of bytes) = omega (arith, inv.0, c.if-self-len.false, c.if-self-len-2.false) in
    subst (λ (b : List ℕ). IsPartAt (body_of b) c.args.position part) c.self.view_is
    (kept_part bytes c.self.inside.chunk.bytes part c.self.inside.chunk.at c.in-Some.start c.args.position c.args.len inv.1 c.in-Some.ensures.within c.in-Some.ensures.at c.in_ok-slice.ensures.ok ends)

pub returns-clause-part : goal.returns-clause-part
returns-clause-part g c known =
    let bytes = g.R.ReadAt.bytes c.self.inside.file.now in
    let inv = c.self.invariant known in
    let part = c.in_ok-part.part in
    let ends : c.args.position + c.args.len ≤ length (body_of bytes) = omega (arith, inv.0, c.if-self-len.false, c.if-self-len-2.false) in
    subst (λ (b : List ℕ). IsPartAt (body_of b) c.args.position part) c.self.view_is
    (first_part bytes c.in_ok-bytes.bytes part c.args.position c.args.len (c.in_ok-bytes.ensures.part known) (omega (arith, c.in_ok-bytes.ensures.len, c.max-size.ensures)) c.in_ok-part.ensures.ok ends)
