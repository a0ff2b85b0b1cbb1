use Rattle.sst_blocks.specs.Block.{Loaded}
use Rattle.std.proofs.Common.{subst, sym}
use Rattle.sst_blocks.specs.Sections.{body_of}
use Rattle.lsm_readers.specs.point.Keeping.{IsLoaded}
use Rattle.lsm_readers.proofs.BatchReads.{is_loaded, kept_as}
use Rattle.lsm_readers.proofs.keeping.load_kept.Goals as goal

pub returns-clause-kept : goal.returns-clause-kept
returns-clause-kept g c =
    let body = body_of c.args.source.now in
    let place = c.args.handle.now in
    let is = kept_as body place c.args.kind c.in_ok-block.block (is_loaded body place c.args.kind c.in_ok-block.block c.in_ok-block.ensures.returned c.in_ok-block.ensures.first) in
    subst (λ (b : Loaded). IsLoaded body place b.kind b) (sym c.in_ok-again.ensures.cases) is
