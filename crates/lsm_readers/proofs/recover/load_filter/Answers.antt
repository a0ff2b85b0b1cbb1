use Rattle.lsm_readers.proofs.recover.load_filter.Goals as goal

pub new-requires : goal.new-requires
new-requires g c = c.in_ok-block.ensures.kind
