use Rattle.std.proofs.Common.{◌≤◌, length, subst, sym, ◌∙◌, arith}
use Rattle.std.specs.Prelude.{Result}
use Rattle.sst_blocks.specs.Sections.{body_of}
use Rattle.lsm_readers.specs.declared.verify.Finding.{Finding}
use Rattle.lsm_readers.specs.point.Table.{parts_of}
use Rattle.lsm_readers.specs.Verify.{Unread, Misses}
use Rattle.lsm_readers.proofs.VerifyLoops.{entries_last, entries_miss, entries_next, passes}
use Rattle.lsm_readers.proofs.verify.entries.read_entries.Goals as goal

pub loop-index-preserved : goal.loop-index-preserved
loop-index-preserved g c =
    let parts = parts_of c.args.inner.now in
    let body = body_of c.args.source.now in
    sym (entries_next body parts c.args.at c.loop-index.left c.args.block.now c.loop-index.index
    c.in_ok-entry.entry _ c.in_ok-entry.ensures.ok c.in_ok-read_entry.ensures.returned)
    ∙ c.loop-index.invariant

pub returns-in_err-read_entry : goal.returns-in_err-read_entry
returns-in_err-read_entry g c =
    let parts = parts_of c.args.inner.now in
    let body = body_of c.args.source.now in
    let e = c.in_err-read_entry.field-0.0 in
    let passed = c.from_residual-in_err-read_entry in
    passes _ passed.result _ e passed.ensures.1
    (subst (λ (r : Result Unread Finding). Misses e r) c.loop-index.invariant
    (entries_miss body parts c.args.at c.loop-index.left c.args.block.now c.loop-index.index
    c.in_ok-entry.entry e c.in_ok-entry.ensures.ok c.in_err-read_entry.ensures.returned))

pub returns : goal.returns
returns g c =
    let parts = parts_of c.args.inner.now in
    let body = body_of c.args.source.now in
    let far : length c.args.block.now ≤ c.loop-index.index =
    omega (arith, c.len-index-end.ensures.value, c.loop-index-test.false) in
    sym c.loop-index.invariant
    ∙ entries_last body parts c.args.at c.loop-index.left c.args.block.now c.loop-index.index far
