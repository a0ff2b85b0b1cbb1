use Rattle.std.proofs.Common.{◌≡◌, length, take}
use Rattle.std.specs.List.{AllByRecursion}
use Rattle.lsm_readers.specs.point.Table.{OpenTable}
use Rattle.sst_tool.specs.files.Opened.{AreOpenedFrom, IsToldByBytes}
use Rattle.sst_tool.proofs.files.open.open_tables.Given as goal

abbrev pub invariant-loop-path : goal.invariant-loop-path
invariant-loop-path g l = record {
  many : length l.tables.items ≡ l.path-index;
  numbers : AllByRecursion (λ (t : OpenTable). t.global_seqno ≡ 0) l.tables.items;
  recovered : AllByRecursion (IsToldByBytes l.pinned) l.tables.items;
  opened : AreOpenedFrom l.pinned (g.P.Place.content l.place) (take l.path-index l.paths)
      l.tables.items;
}
