-- Of the tables that do not end before the key, the first decides.
use Rattle.std.proofs.Common.{◌≡◌, ◌∙◌, sym, ap, subst, rules, true}
use Rattle.std.specs.Prelude.{map, find}
use Rattle.lsm_sorted.specs.version.KeyRange.{has_key}
use Rattle.lsm_sorted.specs.version.Run.{are_in_order}
use Rattle.lsm_sorted.proofs.RunLemmas.{key_found, key_past, key_none}
use Rattle.lsm_sorted.proofs.version.run.Run.get_for_key.Goals as goal

pub returns-in_err-table-clause-found : goal.returns-in_err-table-clause-found
returns-in_err-table-clause-found g c ordered =
    let whole : c.as_slice-tables.result.now ≡ c.args.self.now = c.as_slice-tables.ensures.value ∙ c.self.view_is in
    rw c.from_residual.ensures
    (key_none g.T.Ranged.range c.args.key.now c.as_slice-tables.result.now c.split_at.result.1.now c.count_ends_before.result (subst (λ ts. are_in_order (map g.T.Ranged.range ts) ≡ true) (sym whole) ordered)
    (c.count_ends_before.ensures.exact (subst (λ ts. are_in_order (map g.T.Ranged.range ts) ≡ true) (sym whole) ordered)) c.split_at.ensures.back c.in_err-table.ensures.value
    ∙ ap (λ ts. find (λ t. has_key (g.T.Ranged.range t) c.args.key.now) ts) whole)

pub returns-then-is_at_most-clause-found : goal.returns-then-is_at_most-clause-found
returns-then-is_at_most-clause-found g c ordered =
    let whole : c.as_slice-tables.result.now ≡ c.args.self.now = c.as_slice-tables.ensures.value ∙ c.self.view_is in
    key_found g.T.Ranged.range c.args.key.now c.as_slice-tables.result.now c.split_at.result.1.now c.count_ends_before.result (subst (λ ts. are_in_order (map g.T.Ranged.range ts) ≡ true) (sym whole) ordered)
    (c.count_ends_before.ensures.exact (subst (λ ts. are_in_order (map g.T.Ranged.range ts) ≡ true) (sym whole) ordered)) c.split_at.ensures.back c.in_ok-table.table.now c.in_ok-table.ensures.value (search rules)
    ∙ ap (λ ts. find (λ t. has_key (g.T.Ranged.range t) c.args.key.now) ts) whole

pub returns-else-is_at_most-clause-found : goal.returns-else-is_at_most-clause-found
returns-else-is_at_most-clause-found g c ordered =
    let whole : c.as_slice-tables.result.now ≡ c.args.self.now = c.as_slice-tables.ensures.value ∙ c.self.view_is in
    key_past g.T.Ranged.range c.args.key.now c.as_slice-tables.result.now c.split_at.result.1.now c.count_ends_before.result (subst (λ ts. are_in_order (map g.T.Ranged.range ts) ≡ true) (sym whole) ordered)
    (c.count_ends_before.ensures.exact (subst (λ ts. are_in_order (map g.T.Ranged.range ts) ≡ true) (sym whole) ordered)) c.split_at.ensures.back c.in_ok-table.table.now c.in_ok-table.ensures.value (search rules)
    ∙ ap (λ ts. find (λ t. has_key (g.T.Ranged.range t) c.args.key.now) ts) whole
