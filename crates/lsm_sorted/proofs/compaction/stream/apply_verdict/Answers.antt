use Rattle.std.proofs.Common.{refl, ap}
use Rattle.std.specs.Prelude.{Ok}
use Rattle.sst_entries.specs.Entry.{Entry}
use Rattle.lsm_sorted.specs.Compaction.{replace, told_by}
use Rattle.lsm_sorted.proofs.compaction.stream.apply_verdict.Goals as goal

pub returns-in-Replace-clause-returned : goal.returns-in-Replace-clause-returned
returns-in-Replace-clause-returned g c = rw c.in-Replace.is (ap (λ (h : Entry). told_by h (Ok (replace c.in-Replace.kind c.in-Replace.value))) c.head.view_is)

pub returns-in-Replace-clause-reports : goal.returns-in-Replace-clause-reports
returns-in-Replace-clause-reports g c = rw c.in-Replace.is (_, c.on_dropped.ensures, refl)

pub returns-in-Drop-clause-reports : goal.returns-in-Drop-clause-reports
returns-in-Drop-clause-reports g c = rw c.in-Drop.is (_, c.on_dropped-in-Drop.ensures, refl)
