use Rattle.std.specs.Option.{option_map}
use Rattle.std.specs.Prelude.{map}
use Rattle.std.specs.Arc.{arc_value}
use Rattle.std.specs.Prelude.{None}
use Rattle.sst_blocks.specs.Opened.{none_opened}
use Rattle.sst_entries.specs.Lending.{entry_of_ref}
use Rattle.lsm_readers.proofs.ReadViews.{first_seen, ok_seen}
use Rattle.lsm_runs.specs.RunPlaces.{placed_in_runs}
use Rattle.lsm_runs.specs.SeveralRuns.{runs_read_by_age}
use Rattle.lsm_runs.proofs.RunPlaces.{lent_does, lent_gives}
use Rattle.lsm_runs.proofs.lent_gets.get_runs_ref_by_age.Goals as goal

pub returns-clause-returned : goal.returns-clause-returned
returns-clause-returned g c order = lent_gives (placed_in_runs (map arc_value c.args.runs.now)) c.place_in_runs_by_age_counted-found.result.0 c.borrowed.result c.borrowed.ensures _ (c.place_in_runs_by_age_counted-found.ensures.returned order)

pub returns-clause-list : goal.returns-clause-list
returns-clause-list g c lists held = lent_gives (placed_in_runs (map arc_value c.args.runs.now)) c.place_in_runs_by_age_counted-found.result.0 c.borrowed.result c.borrowed.ensures _ (c.place_in_runs_by_age_counted-found.ensures.list lists held)

pub returns-clause-early : goal.returns-clause-early
returns-clause-early g c order =
    let all = map arc_value c.args.runs.now in
    let returned = c.place_in_runs_by_age_counted-found.ensures in
    let read = runs_read_by_age c.args.key.now c.args.seqno None all in
    let does = lent_does (placed_in_runs all) c.place_in_runs_by_age_counted-found.result.0 c.borrowed.result c.borrowed.ensures read none_opened c.place_in_runs_by_age_counted-found.result.1 (returned.returned order) (returned.early order) (returned.opened order) (returned.calm order) in
    first_seen (option_map entry_of_ref) c.borrowed.result read.early (does.early tt)

pub returns-clause-calm : goal.returns-clause-calm
returns-clause-calm g c order none =
    let all = map arc_value c.args.runs.now in
    let returned = c.place_in_runs_by_age_counted-found.ensures in
    let read = runs_read_by_age c.args.key.now c.args.seqno None all in
    let does = lent_does (placed_in_runs all) c.place_in_runs_by_age_counted-found.result.0 c.borrowed.result c.borrowed.ensures read none_opened c.place_in_runs_by_age_counted-found.result.1 (returned.returned order) (returned.early order) (returned.opened order) (returned.calm order) in
    ok_seen (option_map entry_of_ref) c.borrowed.result (does.calm none)
