use Rattle.std.proofs.Common.{◌≡◌, take}
use Rattle.sst_tool.specs.files.Placed.{AreBeside, SameButBeside, writing}
use Rattle.sst_tool.specs.files.Standing.{HaveModesKept, standing_in}
use Rattle.sst_tool.specs.files.Steps.{then_done}
use Rattle.sst_tool.proofs.files.write.write_each.Given as goal

abbrev pub invariant-loop-file : goal.invariant-loop-file
invariant-loop-file g l = record {
  are : AreBeside (take l.file-index l.wanted) (standing_in l.written.items);
  done : g.P.Place.done l.place
      ≡ then_done (g.P.Place.done l.fn.place) (writing (standing_in l.written.items));
  same : SameButBeside (standing_in l.written.items) (g.P.Place.there l.fn.place)
      (g.P.Place.there l.place);
  left : SameButBeside (standing_in l.written.items) (g.P.Place.modes l.fn.place)
      (g.P.Place.modes l.place);
  kept : HaveModesKept (g.P.Place.modes l.fn.place) (standing_in l.written.items)
      (standing_in l.written.items);
}
