use Rattle.std.proofs.Common.{take}
use Rattle.sst.specs.Showing.{DumpsEach}
use Rattle.sst.proofs.show.dump_each.Given as goal

-- The files so far are read, and so many entries more may be.
abbrev pub invariant-loop-name : goal.invariant-loop-name
invariant-loop-name g l =
    DumpsEach l.options (g.P.Place.content l.place) (take l.name-index l.names) l.initial.left l.left
