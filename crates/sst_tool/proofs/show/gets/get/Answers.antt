use Rattle.sst_tool.proofs.Gets.{gets}
use Rattle.sst_tool.proofs.show.gets.get.Goals as goal

pub returns-clause-returned : goal.returns-clause-returned
returns-clause-returned g c known =
    gets c.args.options.now (g.P.Place.content c.args.place.now) c.args.paths.now
    c.in_ok-found.found c.is_some.result (c.in_ok-found.ensures.found known) c.is_some.ensures
