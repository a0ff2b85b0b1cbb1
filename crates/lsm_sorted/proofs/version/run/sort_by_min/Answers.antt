-- The closure compares the least keys.
use Rattle.std.proofs.Common.{rules}
use Rattle.std.specs.Cmp.Lexicographic.{nat_list_cmp_total}
use Rattle.std.proofs.lemmas.List.Sorted.{ranks_by, answers_always}
use Rattle.lsm_sorted.proofs.RunLemmas.{on_ok}
use Rattle.lsm_sorted.proofs.version.run.sort_by_min.Goals as goal

pub returns-clause-sorted : goal.returns-clause-sorted
returns-clause-sorted g c =
    let ranks = ranks_by nat_list_cmp_total (λ (t : g.row.T.Denot). (g.T.Ranged.range t).min) in
    on_ok c.sort_by.result (λ says. says _ ranks (answers_always _ _ _ (λ f a r f' k. search rules))) c.sort_by.ensures.sorted

pub returns-clause-stable : goal.returns-clause-stable
returns-clause-stable g c =
    let ranks = ranks_by nat_list_cmp_total (λ (t : g.row.T.Denot). (g.T.Ranged.range t).min) in
    c.sort_by.ensures.stable _ ranks (answers_always _ _ _ (λ f a r f' k. search rules))
