use Rattle.sst.proofs.Named.{named_more}
use Rattle.sst.proofs.show.open_each.Goals as goal

pub loop-name-preserved : goal.loop-name-preserved
loop-name-preserved g c =
    let file = c.in_ok-open_named.ensures in
    rw c.in_ok-push.ensures.items
    (named_more (g.P.Place.content c.args.place.now) c.args.names.now c.loop-name.name-index _
    c.loop-name.tables.items c.in_ok-open_named.field-0 c.loop-name-test.true c.loop-name.invariant
    file.name file.returned file.content)
