-- Some table overlaps where those that overlap are not none.
use Rattle.std.proofs.Common.{◌∙◌, ap, length}
use Rattle.std.specs.Prelude.{not, ◌==◌}
use Rattle.lsm_sorted.specs.version.KeyRange.{overlaps}
use Rattle.lsm_sorted.proofs.PackLemmas.{any_filter}
use Rattle.lsm_sorted.proofs.version.optimize.has_overlap.Goals as goal

pub returns : goal.returns
returns g c ordered =
    ap not c.is_empty.ensures
    ∙ ap (λ found. not (length found == 0)) (c.get_overlapping.ensures.found ordered)
    ∙ any_filter (λ t. overlaps (g.T.Ranged.range t) c.args.range.now) c.args.run.now
