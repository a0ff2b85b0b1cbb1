use Rattle.std.proofs.Common.{◌∙◌, ap}
use Rattle.sst_tool.proofs.Modes.{modes_kept}
use Rattle.sst_tool.proofs.Steps.{names_unwritten, none_left, put_names, put_placed, put_refused}
use Rattle.sst_tool.proofs.Steps.{stop_writing}
use Rattle.sst_tool.specs.files.Placed.{removing}
use Rattle.sst_tool.specs.files.Standing.{standing_in}
use Rattle.sst_tool.specs.files.Steps.{then_done}
use Rattle.sst_tool.proofs.files.write.place_files.Goals as goal

pub returns-in-Ok-clause-refused : goal.returns-in-Ok-clause-refused
returns-in-Ok-clause-refused g c =
    put_refused c.put_all.result (g.P.Place.there c.args.place.now) (g.P.Place.done c.args.place.now) (g.P.Place.done c.write_each.new.place) (g.P.Place.done c.put_all.new.place) c.args.wanted.now c.write_each.new.written.items c.deref.result.now c.in-Ok.ensures.all c.deref.ensures.value c.in-Ok.ensures.done c.put_all.ensures.refused

pub returns-in-Ok-clause-named : goal.returns-in-Ok-clause-named
returns-in-Ok-clause-named g c =
    put_names c.put_all.result (g.P.Place.done c.write_each.new.place) (g.P.Place.done c.put_all.new.place) c.args.wanted.now c.write_each.new.written.items c.deref.result.now c.in-Ok.ensures.all c.deref.ensures.value c.put_all.ensures.refused

pub returns-in-Ok-clause-kept : goal.returns-in-Ok-clause-kept
returns-in-Ok-clause-kept g c =
    modes_kept c.put_all.result (g.P.Place.modes c.args.place.now) (g.P.Place.done c.args.place.now) (g.P.Place.done c.write_each.new.place) (g.P.Place.done c.put_all.new.place) (standing_in c.write_each.new.written.items) c.args.wanted.now c.in-Ok.ensures.all c.in-Ok.ensures.kept c.in-Ok.ensures.done
    (rw c.deref.ensures.value at c.put_all.ensures.all)

pub returns-in-Ok-clause-left : goal.returns-in-Ok-clause-left
returns-in-Ok-clause-left g c =
    none_left c.put_all.result (g.P.Place.there c.args.place.now) (g.P.Place.done c.args.place.now)
    (g.P.Place.done c.put_all.new.place) c.args.wanted.now
    (put_refused c.put_all.result (g.P.Place.there c.args.place.now)
    (g.P.Place.done c.args.place.now) (g.P.Place.done c.write_each.new.place)
    (g.P.Place.done c.put_all.new.place) c.args.wanted.now c.write_each.new.written.items
    c.deref.result.now c.in-Ok.ensures.all c.deref.ensures.value c.in-Ok.ensures.done
    c.put_all.ensures.refused)

pub returns-in-Ok-clause-placed : goal.returns-in-Ok-clause-placed
returns-in-Ok-clause-placed g c =
    put_placed c.put_all.result (g.P.Place.done c.args.place.now)
    (g.P.Place.done c.write_each.new.place) (g.P.Place.done c.put_all.new.place)
    c.args.wanted.now c.write_each.new.written.items c.deref.result.now c.in-Ok.ensures.all
    c.deref.ensures.value c.in-Ok.ensures.done c.put_all.ensures.all

pub returns-clause-refused : goal.returns-clause-refused
returns-clause-refused g c =
    let now = g.P.Place.done c.write_each.new.place in
    stop_writing (g.P.Place.there c.args.place.now) (g.P.Place.done c.args.place.now) now
    (g.P.Place.done c.remove_all.new.place) c.args.wanted.now
    (standing_in c.write_each.new.written.items) c.in-Err.error c.in-Err.ensures.refused
    c.in-Err.ensures.done
    (c.remove_all.ensures
    ∙ ap (λ bs. then_done now (removing (standing_in bs))) c.deref-in-Err.ensures.value)

pub returns-clause-named : goal.returns-clause-named
returns-clause-named g c =
    names_unwritten (g.P.Place.there c.args.place.now) c.args.wanted.now
    (standing_in c.write_each.new.written.items) c.in-Err.error c.in-Err.ensures.refused
