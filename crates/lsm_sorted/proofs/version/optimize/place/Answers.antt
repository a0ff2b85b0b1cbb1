-- A table goes into the run behind the last one that it touches, or starts a new one.
use Rattle.std.proofs.Common.{◌∙◌, ap, length, arith, ◌++◌, ◌∷◌, []}
use Rattle.lsm_sorted.proofs.PackLemmas.{placed_in, placed_behind, permutes_in, permutes_behind}
use Rattle.lsm_sorted.proofs.PackLemmas.{not_empty_in, not_empty_behind}
use Rattle.lsm_sorted.proofs.version.optimize.place.Goals as goal

pub returns-in_ok-insert_in_order-clause-ok : goal.returns-in_ok-insert_in_order-clause-ok
returns-in_ok-insert_in_order-clause-ok g c =
    let long = ap length c.deref.ensures.value in
    placed_in g.T.Ranged.range c.args.table c.deref.result.now c.args.packed.now.items c.key_range.result.now c.count_to_last_touched-level.result
    c.index_mut.result.now c.insert_in_order.new.self c.deref.ensures.value c.key_range.ensures c.count_to_last_touched-level.ensures.value
    (omega (arith, long, c.deref.ensures.len)) c.index_mut.ensures.value c.in_ok-insert_in_order.ensures.sorted

pub returns-in_ok-push-2-clause-ok : goal.returns-in_ok-push-2-clause-ok
returns-in_ok-push-2-clause-ok g c =
    let long = ap length c.deref.ensures.value in
    placed_behind g.T.Ranged.range c.args.table c.deref.result.now c.args.packed.now.items c.push-else-level-len.new.self.items c.key_range.result.now
    c.count_to_last_touched-level.result c.of_tables.result c.deref.ensures.value c.key_range.ensures c.count_to_last_touched-level.ensures.value
    (omega (arith, long, c.deref.ensures.len)) (c.of_tables.ensures ∙ c.in_ok-push.ensures.items ∙ ap (λ l. l ++ c.args.table ∷ []) c.new-tables.ensures.items) c.in_ok-push-2.ensures.items

pub returns-in_ok-insert_in_order-clause-permutation : goal.returns-in_ok-insert_in_order-clause-permutation
returns-in_ok-insert_in_order-clause-permutation g c =
    let long = ap length c.deref.ensures.value in
    permutes_in c.args.table c.args.packed.now.items c.count_to_last_touched-level.result c.index_mut.result.now c.insert_in_order.new.self
    (omega (arith, long, c.deref.ensures.len)) c.index_mut.ensures.value c.in_ok-insert_in_order.ensures.permutation

pub returns-in_ok-insert_in_order-clause-some : goal.returns-in_ok-insert_in_order-clause-some
returns-in_ok-insert_in_order-clause-some g c =
    not_empty_in c.args.table c.args.packed.now.items c.count_to_last_touched-level.result c.index_mut.result.now c.insert_in_order.new.self
    c.in_ok-insert_in_order.ensures.permutation

pub returns-in_ok-push-2-clause-permutation : goal.returns-in_ok-push-2-clause-permutation
returns-in_ok-push-2-clause-permutation g c =
    permutes_behind c.args.table c.args.packed.now.items c.push-else-level-len.new.self.items c.of_tables.result
    (c.of_tables.ensures ∙ c.in_ok-push.ensures.items ∙ ap (λ l. l ++ c.args.table ∷ []) c.new-tables.ensures.items) c.in_ok-push-2.ensures.items

pub returns-in_ok-push-2-clause-some : goal.returns-in_ok-push-2-clause-some
returns-in_ok-push-2-clause-some g c =
    not_empty_behind c.args.table c.args.packed.now.items c.push-else-level-len.new.self.items c.of_tables.result
    (c.of_tables.ensures ∙ c.in_ok-push.ensures.items ∙ ap (λ l. l ++ c.args.table ∷ []) c.new-tables.ensures.items) c.in_ok-push-2.ensures.items
