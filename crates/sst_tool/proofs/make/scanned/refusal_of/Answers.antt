use Rattle.std.proofs.Common.{◌≡◌, sym}
use Rattle.std.specs.Prelude.{None, Some}
use Rattle.sst_entries.specs.Stream.{ok_results}
use Rattle.lsm_readers.specs.point.Answer.{lift}
use Rattle.lsm_runs.specs.RunScan.{table_scan}
use Rattle.sst_tool.proofs.Scanning.{only_memory, refused_first, scan_refused}
use Rattle.sst_tool.proofs.make.scanned.refusal_of.Goals as goal

pub returns-in-Ok-clause-first : goal.returns-in-Ok-clause-first
returns-in-Ok-clause-first g c =
    c.first_refusal-refusal.ensures.first (table_scan c.args.table.now) c.in-Ok.ensures.lends

pub returns-in-Ok-clause-list : goal.returns-in-Ok-clause-list
returns-in-Ok-clause-list g c = λ es stored some.
    let lifted = lift es c.args.table.now.global_seqno in
    only_memory lifted c.first_refusal-refusal.result (c.first_refusal-refusal.ensures.first (ok_results lifted) (c.in-Ok.ensures.lends_list es stored))

pub returns-in-Err-clause-first : goal.returns-in-Err-clause-first
returns-in-Err-clause-first g c = λ other.
    let t = c.args.table.now in
    refused_first (table_scan t) c.in-Err.error (scan_refused t c.in-Err.error (c.in-Err.ensures.refused other))

pub returns-in-Ok-clause-early : goal.returns-in-Ok-clause-early
returns-in-Ok-clause-early g c = λ e early.
    let none : Some e ≡ None = c.in-Ok.ensures.early e early in absurd cc

pub returns-in-Err-clause-early : goal.returns-in-Err-clause-early
returns-in-Err-clause-early g c = λ e early. sym (c.in-Err.ensures.early e early)
