use Rattle.sst_tool.proofs.LinesLaw.{lines_read}
use Rattle.sst_tool.proofs.make.laws.lines_law.Goals as goal

pub returns : goal.returns
returns c = lines_read
