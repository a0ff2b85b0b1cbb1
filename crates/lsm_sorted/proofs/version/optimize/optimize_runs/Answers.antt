-- What holds of the tables of the runs once they were put in one after the other.
use Rattle.std.proofs.Common.{◌∙◌, sym, ap, subst, [], length, rules}
use Rattle.lsm_sorted.specs.version.Packing.{holders, tables_in, ArePacked, ArePlaced, IsLeastSize}
use Rattle.lsm_sorted.proofs.PlaceLemmas.{placed_by_rule}
use Rattle.lsm_sorted.proofs.PackLemmas.{put_all_holders, put_all_packed, if_ok}
use Rattle.lsm_sorted.proofs.PackSize.{least_size, least_single}
use Rattle.lsm_sorted.proofs.version.optimize.optimize_runs.Goals as goal

pub returns-then-len-le1-clause-least : goal.returns-then-len-le1-clause-least
returns-then-len-le1-clause-least g c = least_single g.T.Ranged.range c.args.runs.items (search rules)

pub returns-clause-holders : goal.returns-clause-holders
returns-clause-holders g c =
    let range = g.T.Ranged.range in
    if_ok c.pack.result
    (λ packed says formed k. ap (λ rs. holders range rs k) (says formed) ∙ put_all_holders range k (tables_in c.args.runs.items) [])
    c.pack.ensures.ok

pub returns-clause-ordered : goal.returns-clause-ordered
returns-clause-ordered g c =
    let range = g.T.Ranged.range in
    if_ok c.pack.result
    (λ packed says formed many. subst (ArePacked range) (sym (says formed)) (put_all_packed range (tables_in c.args.runs.items) [] formed tt))
    c.pack.ensures.ok

pub returns-clause-placed : goal.returns-clause-placed
returns-clause-placed g c =
    let range = g.T.Ranged.range in
    if_ok c.pack.result
    (λ packed says formed many. subst (ArePlaced range (tables_in c.args.runs.items)) (sym (says formed)) (placed_by_rule range (tables_in c.args.runs.items)))
    c.pack.ensures.ok

pub returns-clause-least : goal.returns-clause-least
returns-clause-least g c =
    let range = g.T.Ranged.range in
    if_ok c.pack.result
    (λ packed says are_disjoint. subst (λ rs. IsLeastSize range c.args.runs.items (length rs)) (sym (says are_disjoint.formed)) (least_size range c.args.runs.items are_disjoint))
    c.pack.ensures.ok
