use Rattle.lsm_readers.proofs.meta.ParsedMeta.load_with_handle.Goals as goal

pub returns-clause-returned : goal.returns-clause-returned
returns-clause-returned g c = rw c.new.ensures.source at (c.load_meta.ensures.returned tt)

pub returns-clause-early : goal.returns-clause-early
returns-clause-early g c = rw c.new.ensures.source at (c.load_meta.ensures.early tt)
