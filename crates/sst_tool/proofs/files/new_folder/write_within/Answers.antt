use Rattle.std.proofs.Common.{ap, rules}
use Rattle.std.specs.Prelude.{map, string_bytes}
use Rattle.sst_tool.proofs.NewFolders.{behind_more, stops_writing, within_taken, wrote_within}
use Rattle.std.proofs.Common.{refl}
use Rattle.sst_tool.proofs.files.new_folder.write_within.Goals as goal

pub returns-in-Err-clause-refused : goal.returns-in-Err-clause-refused
returns-in-Err-clause-refused g c =
    stops_writing (λ t. t.bytes) c.args.folder.now c.args.beside.now c.args.tables.now c.loop-at.at c.saturating_add-number.result _ _ (g.P.Place.done c.args.place.now) (g.P.Place.done c.loop-at.place) (g.P.Place.done c.add_within.new.place) _ c.loop-at-test.true c.loop-at.invariant.files (ap (map string_bytes) c.in-Err.ensures.kept) c.in-Err.ensures.nothing (search rules) refl c.in-Err.ensures.fault

pub returns-in-Err-clause-taken : goal.returns-in-Err-clause-taken
returns-in-Err-clause-taken g c =
    within_taken c.args.folder.now c.saturating_add-number.result c.in-Err.fault (g.P.Place.there c.args.place.now c.args.folder.now)

pub loop-at-preserved : goal.loop-at-preserved
loop-at-preserved g c = record {
  files = wrote_within (λ t. t.bytes) c.args.beside.now c.args.tables.now c.loop-at.at c.index-tables-at.result c.saturating_add-number.result c.as_slice-bytes.result.now _ _ (g.P.Place.done c.args.place.now) (g.P.Place.done c.loop-at.place) (g.P.Place.done c.add_within.new.place) c.loop-at-test.true c.index-tables-at.is (search rules) c.as_slice-bytes.ensures c.loop-at.invariant.files c.in_default.ensures.added c.in_default.ensures.done;
  same = behind_more c.args.beside.now (g.P.Place.there c.args.place.now) (g.P.Place.there c.loop-at.place) (g.P.Place.there c.add_within.new.place) c.loop-at.invariant.same c.in_default.ensures.elsewhere;
}
