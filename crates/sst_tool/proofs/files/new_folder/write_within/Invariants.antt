use Rattle.std.proofs.Common.{take}
use Rattle.std.specs.Prelude.{map, string_bytes}
use Rattle.sst_tool.specs.files.NewFolders.{LiesWithin, numbered_within}
use Rattle.sst_tool.specs.files.There.{SameButBehind}
use Rattle.sst_tool.proofs.files.new_folder.write_within.Given as goal

abbrev pub invariant-loop-at : goal.invariant-loop-at
invariant-loop-at g l =
    record {
      files : LiesWithin (numbered_within l.beside (map (λ t. t.bytes) (take l.at l.tables)))
          (map string_bytes l.written.items) (g.P.Place.done l.fn.place) (g.P.Place.done l.place);
      same : SameButBehind l.beside (g.P.Place.there l.fn.place) (g.P.Place.there l.place);
    }
