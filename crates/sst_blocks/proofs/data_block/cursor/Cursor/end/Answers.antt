use Rattle.std.proofs.Common.{[], arith, unwrap_or}
use Rattle.sst_blocks.specs.Reading.{entries_in}
use Rattle.sst_blocks.proofs.Cursors.{over_is}
use Rattle.sst_blocks.proofs.data_block.cursor.Cursor.end.Goals as goal

pub returns : goal.returns
returns g c = over_is (unwrap_or (entries_in c.self.inside.version c.self.inside.payload) []) c.self.inside.from 0 (omega arith)
