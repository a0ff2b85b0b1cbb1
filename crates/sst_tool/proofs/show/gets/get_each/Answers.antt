use Rattle.sst_tool.proofs.Gets.{reads_all, reads_more, reads_none, stops_get}
use Rattle.sst_tool.proofs.show.gets.get_each.Goals as goal

pub loop-path-init : goal.loop-path-init
loop-path-init g c known = reads_none c.args.options.now (g.P.Place.content c.args.place.now)

pub loop-path-preserved : goal.loop-path-preserved
loop-path-preserved g c known =
    rw c.leading-found.ensures
    (reads_more c.args.options.now (g.P.Place.content c.args.place.now) c.args.paths.now
    c.loop-path.path-index _ c.loop-path.found c.in_ok-next.next c.loop-path-test.true
    (c.loop-path.invariant known) (c.in_ok-next.ensures.found known))

pub returns-in_err-next-clause-named : goal.returns-in_err-next-clause-named
returns-in_err-next-clause-named g c known =
    stops_get g.P.File.ReadAt.reads c.args.options.now (g.P.Place.content c.args.place.now)
    c.from_residual.result c.args.paths.now c.loop-path.path-index _ c.loop-path.found
    c.in_err-next.field-0.0 c.loop-path-test.true (c.loop-path.invariant known)
    (c.in_err-next.ensures.fault known) c.from_residual.ensures.1

pub returns-clause-found : goal.returns-clause-found
returns-clause-found g c known =
    reads_all c.args.options.now (g.P.Place.content c.args.place.now) c.args.paths.now
    c.loop-path.path-index c.loop-path.found c.loop-path-test.false (c.loop-path.invariant known)
