use Rattle.std.proofs.Common.{◌≡◌, ap, subst, ◌∙◌}
use Rattle.std.specs.Prelude.{Ok, Option}
use Rattle.sst_blocks.specs.Sections.{body_of}
use Rattle.sst_entries.specs.Entry.{Entry}
use Rattle.sst_blocks.specs.Handle.{Handle}
use Rattle.sst_blocks.specs.Place.{Place, place_of}
use Rattle.lsm_readers.specs.declared.verify.Counts.{Counts}
use Rattle.lsm_readers.specs.point.Table.{parts_of}
use Rattle.lsm_readers.specs.Verify.{Misses, Unread, block_found, chunk_found, contents_found}
use Rattle.lsm_readers.specs.Verify.{counted_found}
use Rattle.lsm_readers.proofs.VerifyLoops.{passes}
use Rattle.lsm_readers.proofs.VerifyReads.{chunk_misses, contents_goes, contents_misses}
use Rattle.lsm_readers.proofs.VerifyReads.{counted_misses, place_is, same_found}
use Rattle.lsm_readers.proofs.verify.steps.read_at.Goals as goal

pub returns-in_err-counts-clause-returned : goal.returns-in_err-counts-clause-returned
returns-in_err-counts-clause-returned g c = λ h here.
    let parts = parts_of c.args.inner.now in
    let body = body_of c.args.source.now in
    let left = c.args.left.now in
    let at = place_is c.args.handles.now c.args.index c.place_at-place.result h
    c.place_at-place.ensures here in
    let e = c.in_err-counts.field-0.0 in
    let spent = ap (λ (u : Unread). u.counts) c.left.view_is in
    passes _ c.from_residual.result (block_found body parts left h) e c.from_residual.ensures.1
    (counted_misses body parts left h e
    (subst (λ (k : Counts). Misses e (counted_found parts k (place_of h))) spent
    (subst (λ (p : Place). Misses e (counted_found parts c.left.inside.counts p)) at
    c.in_err-counts.ensures.returned)))

pub returns-in_err-block-clause-returned : goal.returns-in_err-block-clause-returned
returns-in_err-block-clause-returned g c = λ h here.
    let parts = parts_of c.args.inner.now in
    let body = body_of c.args.source.now in
    let left = c.args.left.now in
    let counts = c.in_ok-counts.counts in
    let spent = ap (λ (u : Unread). u.counts) c.left.view_is in
    let at = place_is c.args.handles.now c.args.index c.place_at-place.result h
    c.place_at-place.ensures here in
    let e = c.in_err-block.field-0.0 in
    let passed = c.from_residual-in_err-block in
    passes _ passed.result (block_found body parts left h) e passed.ensures.1
    (chunk_misses body parts left h counts e
    (subst (λ (k : Counts). counted_found parts k (place_of h) ≡ Ok counts) spent
    (subst (λ (p : Place). counted_found parts c.left.inside.counts p ≡ Ok counts) at
    c.in_ok-counts.ensures.returned))
    (subst (λ (p : Place). Misses e (chunk_found body p)) at c.in_err-block.ensures.returned))

pub returns-in_err-read_contents-clause-returned : goal.returns-in_err-read_contents-clause-returned
returns-in_err-read_contents-clause-returned g c = λ h here.
    let parts = parts_of c.args.inner.now in
    let body = body_of c.args.source.now in
    let left = c.args.left.now in
    let counts = c.in_ok-counts.counts in
    let spent = ap (λ (u : Unread). u.counts) c.left.view_is in
    let chunk = c.in_ok-block.block in
    let at = place_is c.args.handles.now c.args.index c.place_at-place.result h
    c.place_at-place.ensures here in
    let same = same_found c.args.handles.now c.args.index c.in_ok-handle.handle h
    c.in_ok-handle.ensures.ok here in
    let e = c.in_err-read_contents.field-0.0 in
    let passed = c.from_residual-in_err-read_contents in
    let begun : Option Entry → Unread = λ last. record { last = last; counts = counts } in
    passes _ passed.result (block_found body parts left h) e passed.ensures.1
    (contents_misses body parts left h counts chunk e
    (subst (λ (k : Counts). counted_found parts k (place_of h) ≡ Ok counts) spent
    (subst (λ (p : Place). counted_found parts c.left.inside.counts p ≡ Ok counts) at
    c.in_ok-counts.ensures.returned))
    (subst (λ (p : Place). chunk_found body p ≡ Ok chunk) at c.in_ok-block.ensures.returned)
    (subst (λ (last : Option Entry). Misses e (contents_found body parts (begun last) h chunk))
    (ap (λ (u : Unread). u.last) (c.read.view_is ∙ c.in_ok-read.ensures.ok))
    (subst (λ (x : Handle). Misses e (contents_found body parts (begun c.read.inside.last) x
    chunk)) same c.in_err-read_contents.ensures)))

pub returns-clause-returned : goal.returns-clause-returned
returns-clause-returned g c = λ h here.
    let parts = parts_of c.args.inner.now in
    let body = body_of c.args.source.now in
    let left = c.args.left.now in
    let counts = c.in_ok-counts.counts in
    let spent = ap (λ (u : Unread). u.counts) c.left.view_is in
    let chunk = c.in_ok-block.block in
    let new = c.read_contents.new.left in
    let at = place_is c.args.handles.now c.args.index c.place_at-place.result h
    c.place_at-place.ensures here in
    let same = same_found c.args.handles.now c.args.index c.in_ok-handle.handle h
    c.in_ok-handle.ensures.ok here in
    let begun : Option Entry → Unread = λ last. record { last = last; counts = counts } in
    contents_goes body parts left h counts chunk new
    (subst (λ (k : Counts). counted_found parts k (place_of h) ≡ Ok counts) spent
    (subst (λ (p : Place). counted_found parts c.left.inside.counts p ≡ Ok counts) at
    c.in_ok-counts.ensures.returned))
    (subst (λ (p : Place). chunk_found body p ≡ Ok chunk) at c.in_ok-block.ensures.returned)
    (subst (λ (last : Option Entry). contents_found body parts (begun last) h chunk ≡ Ok new)
    (ap (λ (u : Unread). u.last) (c.read.view_is ∙ c.in_ok-read.ensures.ok))
    (subst (λ (x : Handle). contents_found body parts (begun c.read.inside.last) x chunk
    ≡ Ok new) same c.in_ok-read_contents.ensures))
