use Rattle.std.specs.Prelude.{None}
use Rattle.std.proofs.Common.{ap, ◌∙◌}
use Rattle.lsm_iters.specs.block_index.Index.{two_level}
use Rattle.lsm_iters.specs.block_index.Left.{TwoLevel}
use Rattle.lsm_iters.proofs.KindLaws.{levels_new}
use Rattle.lsm_iters.proofs.Laws.{levels_yields}
use Rattle.lsm_iters.proofs.Refusals.{handed_on, handed_on_always, refused_alike}
use Rattle.lsm_iters.proofs.block_index.two_level.TwoLevelBlockIndex.forward_reader.Goals as goal

pub returns-clause-sought : goal.returns-clause-sought
returns-clause-sought g c =
    handed_on _ _ _ _ c.and.ensures (c.seek_lower-sought.ensures.sought None (levels_new c.in_ok-iter.iter c.args.self.now.0 c.args.self.now.1 c.in_ok-iter.ensures.unsought))

pub returns-clause-between : goal.returns-clause-between
returns-clause-between g c =
    handed_on _ _ _ _ c.and.ensures (c.seek_lower-sought.ensures.between None (levels_new c.in_ok-iter.iter c.args.self.now.0 c.args.self.now.1 c.in_ok-iter.ensures.unsought))

pub returns-clause-index : goal.returns-clause-index
returns-clause-index g c =
    handed_on_always _ _ _ _ c.and.ensures (c.seek_lower-sought.ensures.index ∙ ap (λ (x : TwoLevel). two_level x.body x.whole) c.in_ok-iter.ensures.unsought)

pub returns-clause-opened : goal.returns-clause-opened
returns-clause-opened g c =
    handed_on_always _ _ _ _ c.and.ensures (c.seek_lower-sought.ensures.opened ∙ ap (λ (x : TwoLevel). x.opened) c.in_ok-iter.ensures.unsought)

pub returns-clause-yields : goal.returns-clause-yields
returns-clause-yields g c = handed_on_always _ _ _ _ c.and.ensures (levels_yields _)

pub returns-clause-err : goal.returns-clause-err
returns-clause-err g c = refused_alike _ _ _ _ c.and.ensures c.seek_lower-sought.ensures.err
