use Rattle.sst_entries.proofs.Refusals.{faults_refusal}
use Rattle.lsm_runs.proofs.FilteredCame.{memory_faults}
use Rattle.lsm_runs.proofs.Scanners.{scan_asked}
use Rattle.lsm_runs.proofs.Together.{all_of}
use Rattle.lsm_runs.proofs.compaction.compact.kept_of.Goals as goal

pub returns-clause-can : goal.returns-clause-can
returns-clause-can g c =
    let scanners = c.in_ok-scanners.scanners.items in
    c.kept_from.ensures.can (all_of _ scan_asked scanners)

pub returns-clause-list : goal.returns-clause-list
returns-clause-list g c able = c.kept_from.ensures.list able.lists (c.in_ok-scanners.ensures.list able)

pub returns-clause-any : goal.returns-clause-any
returns-clause-any g c ascend = c.kept_from.ensures.any _ c.in_ok-scanners.ensures.any ascend

pub returns-in_err-scanners-clause-opens : goal.returns-in_err-scanners-clause-opens
returns-in_err-scanners-clause-opens g c =
    faults_refusal c.from_residual-in_err-scanners.result c.in_err-scanners.field-0.0 _ c.from_residual-in_err-scanners.ensures.1 c.in_err-scanners.ensures.opens

pub returns-clause-opens : goal.returns-clause-opens
returns-clause-opens g c = memory_faults c.kept_from.result _ c.in_ok-scanners.ensures.opens c.kept_from.ensures.err
