use Rattle.lsm_readers.proofs.pinned.PinnedBlockIndex.load.Goals as goal

pub returns : goal.returns
returns g c = rw c.new.ensures.source at (c.load_index.ensures.returned tt)
