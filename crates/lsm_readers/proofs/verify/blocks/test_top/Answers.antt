use Rattle.std.proofs.Common.{◌≡◌, ℕ, ◌+◌, ◌-◌, List, length, ap, subst, sym, ◌∙◌, arith}
use Rattle.std.specs.Prelude.{Result}
use Rattle.sst_blocks.specs.declared.section.SectionName.TheVariants.{Index}
use Rattle.lsm_readers.specs.declared.verify.Finding.{Finding}
use Rattle.lsm_readers.specs.Verify.{Finds, end_named}
use Rattle.lsm_readers.proofs.VerifyLoops.{finds_it, top_at, top_hollow}
use Rattle.lsm_readers.proofs.verify.blocks.test_top.Goals as goal

pub returns-then-count-eq0 : goal.returns-then-count-eq0
returns-then-count-eq0 g c =
    finds_it c.found.result _ _
    (c.found.ensures)
    (rw c.offset.ensures
    (top_hollow c.args.top.now c.args.handles.now
    (sym c.len-count.ensures.value ∙ c.if-count-eq0.true)))

pub returns : goal.returns
returns g c =
    let top = c.args.top.now in
    let hs = c.args.handles.now in
    let last = c.in_ok-last.last in
    let key : c.as_slice.result.now ≡ last.end_key = c.as_slice.ensures ∙ c.end_key.ensures in
    let at : c.len-count.result - 1 + 1 ≡ length hs =
    omega (arith, c.len-count.ensures.value, c.if-count-eq0.false) in
    let returned = top_at top hs (c.len-count.result - 1) last c.in_ok-last.ensures.ok at in
    subst (λ (r : Result (Unit {0}) Finding). Finds (λ (_ : Unit {0}). tt) c.test_end.result r)
    (ap (λ (k : List ℕ). end_named Index top k c.seqno.result) key
    ∙ ap (λ (n : ℕ). end_named Index top last.end_key n) c.seqno.ensures ∙ sym returned)
    c.test_end.ensures.returned
