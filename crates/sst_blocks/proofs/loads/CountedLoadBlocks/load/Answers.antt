use Rattle.sst_blocks.specs.Sections.{body_of}
use Rattle.sst_blocks.proofs.LoadLemmas.{kind_given}
use Rattle.sst_blocks.proofs.loads.CountedLoadBlocks.load.Goals as goal

pub returns-clause-kind : goal.returns-clause-kind
returns-clause-kind g c = kind_given (body_of c.self.inside.source.now) c.args.handle.now.offset c.args.handle.now.size c.args.kind c.load.result c.load.ensures.returned
