use Rattle.std.proofs.Common.{sym}
use Rattle.sst_blocks.proofs.TrailerLemmas.{body_length}
use Rattle.sst_blocks.proofs.toc.Toc.of.Goals as goal

pub returns-clause-toc : goal.returns-clause-toc
returns-clause-toc c = c.of_trailer.ensures.toc c.args.bytes.now (sym c.split_at.ensures.back) (body_length c.args.bytes.now)

pub returns-clause-fault : goal.returns-clause-fault
returns-clause-fault c = c.of_trailer.ensures.fault c.args.bytes.now (sym c.split_at.ensures.back) (body_length c.args.bytes.now)
