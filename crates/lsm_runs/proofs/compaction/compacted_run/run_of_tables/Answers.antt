use Rattle.lsm_runs.specs.compaction.Chain.{run_label}
use Rattle.lsm_runs.proofs.RunWriting.{all_fit, cut_put, ids_put, run_put, wants}
use Rattle.lsm_runs.proofs.compaction.compacted_run.run_of_tables.Goals as goal

pub returns-in_err-opened-clause-taken : goal.returns-in_err-opened-clause-taken
returns-in_err-opened-clause-taken g c ids target moment es left w small =
    wants c.from_residual.result c.in_err-opened.field-0.0 c.from_residual.ensures.1
    (c.in_err-opened.ensures.taken (run_label ids target moment) w.lists w.finished (all_fit ids target moment es c.args.tables.items left 0 w small))

pub returns-clause-run : goal.returns-clause-run
returns-clause-run g c ids target moment es left w =
    run_put ids target moment es c.args.tables.items left 0 c.in_ok-opened.opened.items w (c.in_ok-opened.ensures.opened (run_label ids target moment) w.lists w.finished) c.new.result c.new.ensures

pub returns-clause-cut : goal.returns-clause-cut
returns-clause-cut g c ids target moment es left w =
    cut_put ids target moment es c.args.tables.items left 0 c.in_ok-opened.opened.items w (c.in_ok-opened.ensures.opened (run_label ids target moment) w.lists w.finished) c.new.result c.new.ensures

pub returns-clause-ids : goal.returns-clause-ids
returns-clause-ids g c ids target moment es left w =
    ids_put ids target moment es c.args.tables.items left 0 c.in_ok-opened.opened.items w (c.in_ok-opened.ensures.opened (run_label ids target moment) w.lists w.finished) c.new.result c.new.ensures
