use Rattle.std.proofs.Common.{◌∙◌, ap, sym, subst, List, [], ◌∷◌, ◌++◌}
use Rattle.lsm_readers.specs.point.Table.{OpenTable}
use Rattle.lsm_runs.specs.compaction.Compacted.{AreCompactable}
use Rattle.test_reads.proofs.StoredTable.{both_compactable}
use Rattle.test_reads.proofs.runs.stored.run.Goals as goal

pub returns : goal.returns
returns c =
    let made = rw c.in-Some.is at c.new-2.ensures in
    let first = c.in_ok-push.ensures.items ∙ ap (λ (ts : List OpenTable). ts ++ c.in_ok-stored.stored ∷ []) c.new-tables.ensures.items in
    let items = made.0 ∙ c.in_ok-push-2.ensures.items ∙ ap (λ (ts : List OpenTable). ts ++ c.in_ok-new.new ∷ []) first in
    subst (λ (run : List OpenTable). AreCompactable (run ∷ [])) (sym c.in_ok-new-2.ensures.ok)
    (both_compactable c.in-Some.both c.in_ok-stored.stored c.in_ok-new.new items c.in_ok-stored.ensures c.in_ok-new.ensures (sym c.is_in_order.ensures ∙ c.if-not-is_in_order.false))
