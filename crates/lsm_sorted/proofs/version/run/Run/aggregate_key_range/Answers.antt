-- The least key of the first and the greatest of the last.
use Rattle.std.proofs.Common.{◌≡◌, ◌∙◌, sym, ap, subst, Some, ◌<◌, length}
use Rattle.std.specs.Prelude.{map}
use Rattle.lsm_sorted.specs.version.KeyRange.{interval}
use Rattle.lsm_sorted.specs.version.Run.{first_to_last}
use Rattle.lsm_sorted.proofs.RunLemmas.{ends_at}
use Rattle.lsm_sorted.proofs.version.run.Run.aggregate_key_range.Goals as goal

pub returns-clause-ok : goal.returns-clause-ok
returns-clause-ok g c =
    let range = g.T.Ranged.range in
    let whole : c.as_slice-tables.result.now ≡ c.args.self.now = c.as_slice-tables.ensures.value ∙ c.self.view_is in
    let some : 0 < length c.as_slice-tables.result.now = subst (λ ts. 0 < length ts) (sym whole) c.requires in
    let low = c.in_ok-clone.ensures.cases ∙ c.min.ensures ∙ ap (λ r. r.min) c.key_range-first.ensures in
    let high = c.in_ok-clone-2.ensures.cases ∙ c.max.ensures ∙ ap (λ r. r.max) c.key_range-last.ensures in
    ap (λ ts. first_to_last (map range ts)) (sym whole)
    ∙ ends_at range c.as_slice-tables.result.now c.index-tables-0.result c.index-tables-tables.result some c.index-tables-0.is c.index-tables-tables.is
    ∙ ap (λ r. Some r) (sym (c.new-2.ensures ∙ ap (λ k. interval k c.in_ok-clone-2.field-0) low ∙ ap (λ k. interval (range c.index-tables-0.result).min k) high))
