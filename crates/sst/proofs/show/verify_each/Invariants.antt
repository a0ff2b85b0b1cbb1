use Rattle.std.proofs.Common.{◌≡◌, ◌<◌, take}
use Rattle.sst.specs.Verified.{AreSoundFiles, HaveFaulty}
use Rattle.sst.proofs.show.verify_each.Given as goal

-- Where no fault is counted, the files so far are sound, and else one is at fault.
abbrev pub invariant-loop-name : goal.invariant-loop-name
invariant-loop-name g l =
    (l.faults ≡ 0 → AreSoundFiles (g.P.Place.content l.place) (take l.name-index l.names))
    × (0 < l.faults → HaveFaulty (g.P.Place.content l.place) l.names)
