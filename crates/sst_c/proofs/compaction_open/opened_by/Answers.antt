use Rattle.std.proofs.Common.{sym}
use Rattle.sst_c.proofs.compaction_open.opened_by.Goals as goal

pub returns-clause-starts : goal.returns-clause-starts
returns-clause-starts c =
    rw (c.new.ensures, sym c.as_slice.ensures.runs)
    (record {
      lists = c.in_ok-compact_each.ensures.starts;
      any = c.in_ok-compact_each.ensures.any;
      ids = c.in_ok-compact_each.ensures.ids;
    })
