use Rattle.std.proofs.Common.{refl}
use Rattle.std.proofs.lemmas.List.{get_or_default}
use Rattle.sst_tool.proofs.Steps.{beside_more, kept_more, left_more, same_more, stopped_before}
use Rattle.sst_tool.proofs.Steps.{written_more}
use Rattle.sst_tool.proofs.files.write.write_each.Goals as goal

pub returns-in-Err-clause-refused : goal.returns-in-Err-clause-refused
returns-in-Err-clause-refused g c =
    stopped_before (g.P.Place.there c.args.place.now) (g.P.Place.there c.loop-file.place) c.args.wanted.now c.loop-file.file-index _ c.loop-file.written.items c.add_beside.new.written.items _ c.loop-file-test.true c.loop-file.invariant.are c.in-Err.ensures.kept refl c.in-Err.ensures.early c.loop-file.invariant.same c.in-Err.ensures.taken

pub loop-file-preserved : goal.loop-file-preserved
loop-file-preserved g c =
    let wanted = c.args.wanted.now in
    let at = c.loop-file.file-index in
    let old = c.loop-file.written.items in
    let new = c.add_beside.new.written.items in
    let there = g.P.Place.there c.loop-file.place in
    let by_then = g.P.Place.there c.add_beside.new.place in
    let modes = g.P.Place.modes c.loop-file.place in
    let last = g.P.Place.modes c.add_beside.new.place in
    let now = g.P.Place.done c.loop-file.place in
    let after = g.P.Place.done c.add_beside.new.place in
    let h = c.loop-file.invariant in
    record {
      are = beside_more wanted at _ old new there by_then modes last now after c.loop-file-test.true
          (get_or_default wanted at _ _ c.loop-file-test.true) h.are c.in_default.ensures.added;
      done = written_more _ old new there by_then modes last (g.P.Place.done c.args.place.now) now after h.done
          c.in_default.ensures.added;
      same = same_more _ old new (g.P.Place.there c.args.place.now) there by_then modes last now after h.same
          c.in_default.ensures.added;
      left = left_more _ old new there by_then (g.P.Place.modes c.args.place.now) modes last now after h.left
          c.in_default.ensures.added;
      kept = kept_more _ old new there by_then (g.P.Place.modes c.args.place.now) modes last now after h.kept h.left
          c.in_default.ensures.added;
    }
