use Rattle.sst_tool.proofs.show.facts.collect_places.Goals as goal

pub loop-handle-smaller : goal.loop-handle-smaller
loop-handle-smaller g c = (c.in-Some.ensures.goes.on tt).2
