use Rattle.std.proofs.Common.{rules}
use Rattle.std.specs.Prelude.{IfOk}
use Rattle.lsm_runs.specs.RunScan.{table_scan}
use Rattle.sst_c.specs.Scans.{IsBegunScan}
use Rattle.sst_c.proofs.Scanning.{all_scans, all_yielded, list_yielded, list_refused}
use Rattle.sst_c.proofs.scans.scan_of.Goals as goal

pub returns-clause-scans : goal.returns-clause-scans
returns-clause-scans c =
    let t = c.args.table.now in
    let r = c.scan.result in
    let begun : IfOk r (IsBegunScan t) = search rules in
    all_scans t r begun (all_yielded r (table_scan t) c.scan.ensures.yields c.scan.ensures.lends)
    (λ es stores. list_yielded r es t.global_seqno (c.scan.ensures.list es stores) (c.scan.ensures.lends_list es stores))

pub returns-clause-fine : goal.returns-clause-fine
returns-clause-fine c es stores some =
    list_refused c.scan.result es c.args.table.now.global_seqno (c.scan.ensures.list es stores) some
