use Rattle.std.proofs.Common.{ap}
use Rattle.sst_blocks.specs.Sections.{body_of}
use Rattle.lsm_readers.proofs.table.recover_inner.Goals as goal

pub returns-clause-returned : goal.returns-clause-returned
returns-clause-returned g c = c.recover_in.ensures.returned tt c.args.source.now c.toc-toc.ensures.toc (ap body_of c.new.ensures.source)

pub returns-clause-early : goal.returns-clause-early
returns-clause-early g c = c.recover_in.ensures.early tt c.args.source.now c.toc-toc.ensures.toc (ap body_of c.new.ensures.source)
