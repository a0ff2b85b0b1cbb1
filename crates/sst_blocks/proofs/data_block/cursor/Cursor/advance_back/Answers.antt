use Rattle.std.proofs.Common.{[], ap, unwrap_or}
use Rattle.sst_blocks.specs.Cursor.{Cursor}
use Rattle.sst_blocks.specs.EntryPlace.{entry_placed}
use Rattle.sst_blocks.specs.Reading.{entries_in}
use Rattle.sst_blocks.proofs.Cursors.{last_at, over_back}
use Rattle.sst_blocks.proofs.data_block.cursor.Cursor.advance_back.Goals as goal

pub returns-then-self-clause-goes : goal.returns-then-self-clause-goes
returns-then-self-clause-goes g c =
    let s = c.self.inside in
    over_back c.args.self.now (unwrap_or (entries_in s.version s.payload) []) s.from s.to (ap (λ (k : Cursor). k.behind) c.self.view_is) c.if-self.true

pub returns-clause-goes : goal.returns-clause-goes
returns-clause-goes g c =
    let s = c.self.inside in
    last_at c.args.self.now (unwrap_or (entries_in s.version s.payload) []) s.from s.to (entry_placed s.payload c.place_at.result) (ap (λ (k : Cursor). k.behind) c.self.view_is) c.if-self.false c.place_at.ensures.found
