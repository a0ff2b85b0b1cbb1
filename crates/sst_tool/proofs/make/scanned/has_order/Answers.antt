use Rattle.std.proofs.Common.{◌≡◌}
use Rattle.std.specs.Prelude.{None, Some}
use Rattle.sst_entries.specs.Stream.{ok_results}
use Rattle.lsm_readers.specs.point.Answer.{lift}
use Rattle.lsm_runs.specs.RunScan.{table_scan}
use Rattle.sst_tool.proofs.Scanning.{early_fine, order_told, refused_order, stored_strict}
use Rattle.sst_tool.proofs.make.scanned.has_order.Goals as goal

pub returns-in-Ok-clause-order : goal.returns-in-Ok-clause-order
returns-in-Ok-clause-order g c =
    c.is_in_order-returned.ensures.order (table_scan c.args.table.now) c.in-Ok.ensures.lends

pub returns-in-Ok-clause-list : goal.returns-in-Ok-clause-list
returns-in-Ok-clause-list g c = λ es stored.
    let t = c.args.table.now in
    let lifted = lift es t.global_seqno in
    order_told c.is_in_order-returned.result lifted (stored_strict t.bytes es t.global_seqno stored) (c.is_in_order-returned.ensures.order (ok_results lifted) (c.in-Ok.ensures.lends_list es stored))

pub returns-in-Err-clause-order : goal.returns-in-Err-clause-order
returns-in-Err-clause-order g c =
    refused_order c.args.table.now c.in-Err.error c.ended_by.result c.ended_by.ensures.fault c.ended_by.ensures.order c.in-Err.ensures.refused

pub returns-in-Ok-clause-early : goal.returns-in-Ok-clause-early
returns-in-Ok-clause-early g c = λ e early.
    let none : Some e ≡ None = c.in-Ok.ensures.early e early in absurd cc

pub returns-in-Err-clause-early : goal.returns-in-Err-clause-early
returns-in-Err-clause-early g c = λ e early.
    c.ended_by.ensures.known (early_fine c.args.table.now e c.in-Err.error early (c.in-Err.ensures.early e early))
