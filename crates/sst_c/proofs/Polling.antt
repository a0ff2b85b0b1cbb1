-- A stream of tables that may be polled may be polled on. Assumes `Logic`.
use Rattle.std.proofs.Common.{◌≡◌, Option, Some, None, Result, subst, sym}
use Rattle.std.specs.Prelude.{MatchOption, IfSome}
use Rattle.sst_entries.specs.Entry.{Entry}
use Rattle.sst_entries.specs.declared.error.Error.{Error}
use Rattle.lsm_writers.specs.Streamed.{CanPoll, YieldsNextTable}
use Rattle.lsm_writers.specs.Tables.{TablesWriting}
use Rattle.lsm_writers.specs.declared.table_stream.TableStream.{TableStream}
use Rattle.lsm_writers.specs.declared.table_stream.TableStreamError.{TableStreamError}
use Rattle.lsm_writers.specs.declared.writer.FinishedTable.{FinishedTable}

no_writer : (w : Option TablesWriting) (F : TablesWriting → Type 0) → w ≡ None
    → MatchOption w (Unit {0}) F
no_writer w F is = subst (λ (v : Option TablesWriting). MatchOption v (Unit {0}) F) (sym is) tt

-- after a table or an error it may; after `None` it has no writer left
pub polls_on : {S A : Type 0} (next : S → Option (Result Entry Error) → S → Type 0) (can : S → Type 0)
    (s : TableStream S A) (r : Option (Result (FinishedTable A) TableStreamError)) (t : TableStream S A)
    → YieldsNextTable next s r t → IfSome r (λ _. CanPoll next can t) → CanPoll next can t
polls_on next can s (Some x) t gives goes = goes
polls_on next can s None t gives goes = no_writer t.writer _ gives.ends.0
