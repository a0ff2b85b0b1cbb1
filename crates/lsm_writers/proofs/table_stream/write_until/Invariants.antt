use Rattle.std.proofs.Common.{◌≤◌, Bool, List}
use Rattle.std.specs.Prelude.{Result}
use Rattle.sst_entries.specs.Entry.{Entry}
use Rattle.sst_entries.specs.declared.error.Error.{Error}
use Rattle.lsm_writers.specs.declared.writer.FinishedTable.{FinishedTable}
use Rattle.lsm_writers.specs.Streamed.{CanTake, TookFrom}
use Rattle.lsm_writers.specs.Tables.{TablesWriting}
use Rattle.lsm_writers.proofs.table_stream.write_until.Given as goal

abbrev pub invariant-loop-source : goal.invariant-loop-source
invariant-loop-source g l = record {
  can : CanTake g.L.Lending.advances g.L.Lending.can_advance l.source l.writer;
  took : (stops : Error → Bool) (w : TablesWriting) (rs : List (Result Entry Error))
      (gs : List (FinishedTable g.row.A.Denot))
      → TookFrom stops g.L.Lending.advances w rs gs l.fn.source l.fn.writer
      → TookFrom stops g.L.Lending.advances w rs gs l.source l.writer;
  lowers : g.L.Lending.left l.source ≤ g.L.Lending.left l.fn.source;
}

abbrev pub decreases-loop-source : goal.decreases-loop-source
decreases-loop-source g l = g.L.Lending.left l.source
