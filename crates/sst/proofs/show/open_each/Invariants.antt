use Rattle.std.proofs.Common.{take}
use Rattle.sst.specs.Showing.{AreNamed}
use Rattle.sst.proofs.show.open_each.Given as goal

abbrev pub invariant-loop-name : goal.invariant-loop-name
invariant-loop-name g l =
    AreNamed (g.P.Place.content l.place) (take l.name-index l.names) l.tables.items
