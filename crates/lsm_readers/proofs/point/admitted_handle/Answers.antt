use Rattle.std.proofs.Common.{List, ℕ, None, true, false, subst}
use Rattle.lsm_readers.specs.point.Answer.{admission, handle_for}
use Rattle.lsm_readers.specs.point.IndexKinds.{handle_by}
use Rattle.lsm_readers.specs.point.Read.{DoesRead}
use Rattle.lsm_readers.specs.point.Table.{parts_of}
use Rattle.lsm_readers.proofs.ReadLaws.{does_known, result, then_fails, then_goes}
use Rattle.lsm_readers.proofs.point.admitted_handle.Goals as goal

pub returns-in_err-admission-clause-read : goal.returns-in_err-admission-clause-read
returns-in_err-admission-clause-read g c known =
    let body = g.S.LoadBlocks.body c.args.source.now in
    let parts = parts_of c.args.inner.now in
    then_fails g.S.LoadBlocks.access (admission body parts c.args.key.now c.args.seqno) (handle_for body parts c.args.key.now c.args.seqno) c.in_err-admission.field-0.0 c.from_residual.result _ _
    (c.in_err-admission.ensures.read known) c.from_residual.ensures.1

pub returns-then-branch-clause-read : goal.returns-then-branch-clause-read
returns-then-branch-clause-read g c known =
    let body = g.S.LoadBlocks.body c.args.source.now in
    let parts = parts_of c.args.inner.now in
    let key = c.args.key.now in
    let n = c.args.seqno in
    let o = g.S.LoadBlocks.opened c.admission.new.source in
    let o' = g.S.LoadBlocks.opened c.handle_by.new.source in
    let access = g.S.LoadBlocks.access in
    let yes = rw c.if-branch.true at (c.in_ok-admission.ensures.read known) in
    let read = subst (λ (b : List ℕ). DoesRead access c.handle_by.result (handle_by b parts.pinned.index parts.regions.tli key n) o o') c.admission.ensures.body (c.handle_by.ensures.read known) in
    then_goes access (admission body parts key n) (handle_for body parts key n) true c.handle_by.result _ _ _ yes read

pub returns-else-branch-clause-read : goal.returns-else-branch-clause-read
returns-else-branch-clause-read g c known =
    let body = g.S.LoadBlocks.body c.args.source.now in
    let parts = parts_of c.args.inner.now in
    let key = c.args.key.now in
    let n = c.args.seqno in
    let access = g.S.LoadBlocks.access in
    let no = rw c.if-branch.false at (c.in_ok-admission.ensures.read known) in
    then_goes access (admission body parts key n) (handle_for body parts key n) false (result None) _ _ _ no (does_known access None (g.S.LoadBlocks.opened c.admission.new.source))
