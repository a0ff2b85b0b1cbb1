use Rattle.std.proofs.Common.{◌≡◌}
use Rattle.std.specs.Prelude.{Some, Err}
use Rattle.std.proofs.lemmas.Result.{err_from_is_err_and}
use Rattle.sst_blocks.specs.Block.{load_result, place_fault}
use Rattle.sst_blocks.specs.Sections.{body_of}
use Rattle.sst_blocks.proofs.MarkLemmas.{range_there}
use Rattle.sst_blocks.proofs.source.BlockSource.payload_of.Goals as goal

pub returns-in_err-range-clause-returned : goal.returns-in_err-range-clause-returned
returns-in_err-range-clause-returned g c =
    let p = err_from_is_err_and c.from_residual.result c.from_residual.ensures.1 in
    let same : load_result (body_of c.args.self.now) c.args.handle.now.offset c.args.handle.now.size c.args.kind ≡ Err c.in_err-range.field-0.0 = rw (c.body.ensures.body, c.offset.ensures, c.size-size.ensures) at c.in_err-range.ensures.returned in
    rw (p.1, p.2) same

pub returns-in_err-range-clause-first : goal.returns-in_err-range-clause-first
returns-in_err-range-clause-first g c =
    let p = err_from_is_err_and c.from_residual.result c.from_residual.ensures.1 in
    let same : place_fault (body_of c.args.self.now) c.args.handle.now.offset c.args.handle.now.size c.args.kind ≡ Some c.in_err-range.field-0.0 = rw (c.body.ensures.body, c.offset.ensures, c.size-size.ensures) at c.in_err-range.ensures.first in
    rw (p.1, p.2) same

pub returns-clause-returned : goal.returns-clause-returned
returns-clause-returned g c = rw (c.body.ensures.body, c.offset.ensures, c.size-size.ensures) at c.in_ok-range.ensures.returned

pub returns-clause-first : goal.returns-clause-first
returns-clause-first g c = rw (c.body.ensures.body, c.offset.ensures, c.size-size.ensures) at c.in_ok-range.ensures.first

pub returns-clause-placed : goal.returns-clause-placed
returns-clause-placed g c =
    let at = rw (c.body.ensures.body, c.offset.ensures) at c.in_ok-range.ensures.range in
    range_there c.args.self.now c.args.handle.now.offset c.args.kind c.in_ok-range.range c.is_cached.result at c.is_cached.ensures
