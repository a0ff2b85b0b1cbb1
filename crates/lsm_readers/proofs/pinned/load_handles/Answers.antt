use Rattle.lsm_readers.proofs.pinned.load_handles.Goals as goal

pub returns-clause-returned : goal.returns-clause-returned
returns-clause-returned g c = rw c.new.ensures.source at (c.load_handles_in.ensures.returned tt)

pub returns-clause-early : goal.returns-clause-early
returns-clause-early g c = rw c.new.ensures.source at (c.load_handles_in.ensures.early tt)
