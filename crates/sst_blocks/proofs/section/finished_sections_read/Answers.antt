use Rattle.sst_blocks.proofs.SectionLaws.{finished_reads}
use Rattle.sst_blocks.proofs.section.finished_sections_read.Goals as goal

pub returns : goal.returns
returns c w ascending short = finished_reads w short ascending
