-- A writer that is made has no keys.
use Rattle.std.proofs.Common.{ap, ◌∙◌}
use Rattle.lsm_writers.specs.section.Given.{no_keys}
use Rattle.lsm_writers.specs.section.Held.{CutParts}
use Rattle.lsm_writers.proofs.Filtered.{full_has_none, parts_have_none}
use Rattle.lsm_writers.proofs.writer.filter.filter_writer_of.Goals as goal
use Rattle.lsm_writers.proofs.writer.filter.filter_writer_of.Goals.{in-Full, in-Partitioned+in_ok-new-in-Partitioned}

pub returns-clause-ok : goal.returns-clause-ok
returns-clause-ok g c = elim c.match-options.branch [
  | in-Full w ↦ full_has_none _ _ _ w.new.result w.in-Full.is w.result-is w.new.ensures.value w.new.ensures.holds
  | in-Partitioned+in_ok-new-in-Partitioned w ↦
      let made = w.in_ok-new-in-Partitioned in
      let sized = w.use_partition_size in
      parts_have_none _ _ w.in-Partitioned.size _ sized.result w.in-Partitioned.is w.result-is sized.ensures.kind
      (sized.ensures.policy ∙ ap (λ (x : CutParts). x.policy) made.ensures.value)
      (sized.ensures.failed ∙ ap (λ (x : CutParts). x.failed) made.ensures.value) (sized.ensures.holds no_keys made.ensures.holds)
]
