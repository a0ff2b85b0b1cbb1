use Rattle.std.proofs.Common.{[], ◌∷◌}
use Rattle.sst_c.proofs.Placing.{found_added}
use Rattle.sst_c.proofs.runs.add_table.Goals as goal

-- what was found stays
pub returns-in-Runs-clause-found : goal.returns-in-Runs-clause-found
returns-in-Runs-clause-found c =
    found_added c.args.held.now.found c.settle.new.self c.args.held.now.what c.in-Runs.runs
    c.add_table_to.new.runs ((c.args.table.now ∷ []) ∷ []) c.in-Runs.is c.settle.ensures
    c.add_table_to.ensures.one
