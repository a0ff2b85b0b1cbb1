use Rattle.sst.proofs.Named.{dumps_all, dumps_enough, dumps_more}
use Rattle.sst.proofs.show.dump_each.Goals as goal

pub returns-then-left-eq0 : goal.returns-then-left-eq0
returns-then-left-eq0 g c = (
  c.loop-name.left,
  dumps_enough c.args.options.now (g.P.Place.content c.args.place.now) c.args.names.now
      c.loop-name.name-index c.args.left c.loop-name.left c.loop-name.invariant
      c.if-left-eq0.true,
)

pub loop-name-preserved : goal.loop-name-preserved
loop-name-preserved g c =
    dumps_more c.args.options.now (g.P.Place.content c.args.place.now) c.args.names.now
    c.loop-name.name-index _ c.in_ok-file.file.table c.args.left c.loop-name.left c.in_ok-left.left
    c.loop-name-test.true c.loop-name.invariant c.if-left-eq0.false c.in_ok-file.ensures.returned
    c.in_ok-file.ensures.content c.in_ok-left.ensures.returned c.in_ok-left.ensures.rest

pub returns : goal.returns
returns g c = (
  c.loop-name.left,
  dumps_all c.args.options.now (g.P.Place.content c.args.place.now) c.args.names.now
      c.loop-name.name-index c.args.left c.loop-name.left c.loop-name.invariant
      c.loop-name-test.false,
)
