use Rattle.lsm_iters.proofs.TwoLevels.{no_part, part_taken}
use Rattle.lsm_iters.proofs.block_index.partitions.PartitionsParts.load.Goals as goal

pub returns-in-Some : goal.returns-in-Some
returns-in-Some g c =
    let step = rw c.in-Some.is at c.take_place.ensures in
    let load = c.load_handles.ensures in
    part_taken c.args.at c.args.self.now c.take_place.new.self step.list step.rest c.load_handles.new.opened c.in-Some.top c.load_handles.result step.returned load.ok load.err load.first load.counted

pub returns-in-None : goal.returns-in-None
returns-in-None g c = no_part c.args.at c.args.self.now c.take_place.new.self c.in-None.ensures.list c.in-None.ensures.rest c.in-None.ensures.returned
