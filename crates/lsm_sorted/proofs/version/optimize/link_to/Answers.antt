-- Where a table overlaps, the first of those that overlap is there.
use Rattle.std.proofs.Common.{◌≡◌, ◌∙◌, sym, ap, rules, arith, true}
use Rattle.std.proofs.lemmas.Bool.{both_ways}
use Rattle.lsm_sorted.specs.version.KeyRange.{overlaps}
use Rattle.lsm_sorted.specs.version.Packing.{touches}
use Rattle.lsm_sorted.specs.declared.version.optimize.Link.{Link}
use Rattle.lsm_sorted.proofs.LinkLemmas.{first_passes, first_found}
use Rattle.lsm_sorted.proofs.version.optimize.link_to.Goals as goal
use Rattle.lsm_sorted.proofs.version.optimize.link_to.Goals.{else-link-above-via-then-link-above+else-overlaps_with_key_range}
use Rattle.lsm_sorted.proofs.version.optimize.link_to.Goals.{else-link-above-via-else-link-above}

pub returns-in_err-link-clause-next : goal.returns-in_err-link-clause-next
returns-in_err-link-clause-next g c ordered later some =
    let p = λ (l : Link g.row.T.Denot). overlaps (g.T.Ranged.range l.table.now) c.key_range.result.now in
    absurd (first_passes p c.args.run.now c.get_overlapping.result.now (c.get_overlapping.ensures.found ordered) c.in_err-link.ensures.value (ap (λ r. touches (λ (l : Link g.row.T.Denot). g.T.Ranged.range l.table.now) r c.args.run.now) c.key_range.ensures ∙ some))

pub returns-else-link-above-clause-next : goal.returns-else-link-above-clause-next
returns-else-link-above-clause-next g c ordered later some =
    let p = λ (l : Link g.row.T.Denot). overlaps (g.T.Ranged.range l.table.now) c.key_range.result.now in
    let found = first_found p c.args.run.now c.get_overlapping.result.now c.in_ok-link.link.now (c.get_overlapping.ensures.found ordered) c.in_ok-link.ensures.value in
    let over : overlaps (g.T.Ranged.range c.in_ok-link.link.now.table.now) (g.T.Ranged.range c.args.above.now.table.now) ≡ true = ap (λ r. overlaps (g.T.Ranged.range c.in_ok-link.link.now.table.now) r) (sym c.key_range.ensures) ∙ found.1 in
    let earlier = later c.in_ok-link.link.now found.0 over in
    elim c.else-link-above.branch [
      | else-link-above-via-then-link-above+else-overlaps_with_key_range w ↦ absurd (both_ways w.overlaps_with_key_range.result w.if-overlaps_with_key_range.false (search rules))
      | else-link-above-via-else-link-above w ↦ absurd (omega (arith, earlier))
    ]
