use Rattle.sst_entries.specs.declared.stream.Direction.TheVariants.{Back, Front}
use Rattle.test_layers.proofs.Steps.{row_loaded}
use Rattle.test_layers.proofs.rows.RowsParts.load.Goals as goal

pub returns-in-Some : goal.returns-in-Some
returns-in-Some c =
    rw c.in-Front.is (row_loaded Front c.args.self.now (record { rows = c.pop_front.new.self }) c.in-Some.row c.in-Some.ensures.items)

pub returns-in-Some-pop_back : goal.returns-in-Some-pop_back
returns-in-Some-pop_back c =
    rw c.in-Back.is (row_loaded Back c.args.self.now (record { rows = c.pop_back.new.self }) c.in-Some-pop_back.row c.in-Some-pop_back.ensures.items)
