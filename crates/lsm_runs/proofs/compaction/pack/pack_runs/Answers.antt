use Rattle.std.specs.Prelude.{map}
use Rattle.std.specs.Arc.{arc_value}
use Rattle.lsm_runs.proofs.PackedAble.{result_able, result_one}
use Rattle.lsm_runs.proofs.PackingResult.{result_holders, result_least, result_list, result_ordered}
use Rattle.lsm_runs.proofs.PackingResult.{result_placed, result_tables}
use Rattle.lsm_runs.proofs.compaction.pack.pack_runs.Goals as goal

pub returns-clause-tables : goal.returns-clause-tables
returns-clause-tables g c =
    result_tables (λ v. v.items) (map arc_value c.args.runs.now) c.in_ok-shared.shared c.in_ok-shared.ensures.runs c.optimize_runs.result c.optimize_runs.ensures.tables

pub returns-clause-holders : goal.returns-clause-holders
returns-clause-holders g c =
    result_holders (λ v. v.items) (map arc_value c.args.runs.now) c.in_ok-shared.shared c.in_ok-shared.ensures.runs c.optimize_runs.result c.optimize_runs.ensures.holders

pub returns-clause-ordered : goal.returns-clause-ordered
returns-clause-ordered g c =
    result_ordered (λ v. v.items) (map arc_value c.args.runs.now) c.in_ok-shared.shared c.in_ok-shared.ensures.runs c.optimize_runs.result c.optimize_runs.ensures.one c.optimize_runs.ensures.ordered

pub returns-clause-placed : goal.returns-clause-placed
returns-clause-placed g c =
    result_placed (λ v. v.items) (map arc_value c.args.runs.now) c.in_ok-shared.shared c.in_ok-shared.ensures.runs c.optimize_runs.result c.optimize_runs.ensures.placed

pub returns-clause-least : goal.returns-clause-least
returns-clause-least g c =
    result_least (λ v. v.items) (map arc_value c.args.runs.now) c.in_ok-shared.shared c.in_ok-shared.ensures.runs c.optimize_runs.result c.optimize_runs.ensures.least

pub returns-clause-list : goal.returns-clause-list
returns-clause-list g c = result_list (λ v. v.items) (map arc_value c.args.runs.now) c.optimize_runs.result (returns-clause-tables g c) (returns-clause-holders g c) (returns-clause-ordered g c)

pub returns-clause-able : goal.returns-clause-able
returns-clause-able g c = result_able (λ v. v.items) (map arc_value c.args.runs.now) c.optimize_runs.result (returns-clause-list g c) (returns-clause-tables g c) (returns-clause-ordered g c)

pub returns-clause-one : goal.returns-clause-one
returns-clause-one g c = result_one (λ v. v.items) c.in_ok-shared.shared _ c.in_ok-shared.ensures.runs c.optimize_runs.result c.optimize_runs.ensures.one
