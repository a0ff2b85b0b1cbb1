use Rattle.std.proofs.Common.{rules}
use Rattle.std.proofs.lemmas.List.Sorted.{answers_always, ranks_by}
use Rattle.sst_entries.proofs.OrderLemmas.{number_total}
use Rattle.sst_tool.specs.declared.make.entries.Numbered.{Numbered}
use Rattle.sst_tool.proofs.Sorting.{sorted_rows}
use Rattle.sst_tool.proofs.make.entries.sort_rows.Goals as goal

pub returns-clause-order : goal.returns-clause-order
returns-clause-order g c =
    let ranks = ranks_by number_total (λ (row : Numbered g.row.A.Denot). row.entry) in
    let compares = answers_always _ _ _ (λ f a r f' k. search rules) in
    sorted_rows c.args.rows.now.items c.sort_by.new.self.items c.sort_by.result _ c.sort_by.ensures.permutation
    (λ says. says _ ranks compares) c.sort_by.ensures.sorted (c.sort_by.ensures.stable _ ranks compares)
