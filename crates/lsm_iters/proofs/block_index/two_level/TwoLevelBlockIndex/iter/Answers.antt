use Rattle.std.specs.Prelude.{None}
use Rattle.std.proofs.Common.{ap, ◌∙◌}
use Rattle.sst_blocks.specs.Sections.{body_of}
use Rattle.sst_blocks.specs.Seeking.{whole_span}
use Rattle.lsm_iters.proofs.KindLaws.{levels_new}
use Rattle.lsm_iters.proofs.Laws.{levels_between, levels_yields}
use Rattle.lsm_iters.proofs.TwoLevels.{none_yielded}
use Rattle.lsm_iters.proofs.block_index.two_level.TwoLevelBlockIndex.iter.Goals as goal

pub returns-clause-unsought : goal.returns-clause-unsought
returns-clause-unsought g c =
    none_yielded c.new-3.result _ c.args.self.now.0 c.args.self.now.1 c.new-3.ensures
    (ap body_of c.in_ok-source.ensures.cases ∙ ap (λ x. x.0) c.self.view_is)
    (c.new.ensures.whole ∙ ap whole_span (c.in_ok-tops.ensures.cases ∙ ap (λ x. x.1) c.self.view_is))
    c.new-2.ensures c.none.ensures

pub returns-clause-between : goal.returns-clause-between
returns-clause-between g c =
    levels_between _ None None (levels_new _ c.args.self.now.0 c.args.self.now.1 (returns-clause-unsought g c))

pub returns-clause-yields : goal.returns-clause-yields
returns-clause-yields g c = levels_yields _
