-- Point reads of one key as reported to C.
use Rattle.std.specs.Prelude.{◌≡◌, ℕ, List, [], Option, None, Ok}
use Rattle.sst_entries.specs.Entry.{Entry}
use Rattle.sst_entries.specs.Point.{point}
use Rattle.lsm_iters.specs.Lift.{lift}
use Rattle.lsm_readers.specs.point.Answer.{table_answer}
use Rattle.lsm_readers.specs.point.Table.{OpenTable}
use Rattle.lsm_readers.specs.Stored.{StoresList}
use Rattle.lsm_runs.specs.RunLists.{RunsHoldLists}
use Rattle.lsm_runs.specs.SeveralRuns.{runs_read, runs_result, union_in}
use Rattle.sst_c.specs.Codes.{ReportsFirst}
use Rattle.sst_c.specs.Reported.{AnswersRead}

-- a point read of a table returns a code and finds an entry
pub record GetsFromTable (t : OpenTable) (key : List ℕ) (seqno code : ℕ) (found : Option Entry)
    : Type 0 where
  -- for any bytes, it is the result of the table
  pub returned : AnswersRead code found (table_answer t key seqno).returned
  -- a fault of the first loaded block that is found without allocating takes precedence over
  -- `OutOfMemory`
  pub early : ReportsFirst code (table_answer t key seqno).early
  -- if no block is loaded, it does not fail
  pub calm : (table_answer t key seqno).loads ≡ [] → code ≡ 0
  -- for bytes that store a list, it is the first match in the list, global sequence number applied
  pub list : (es : List Entry) → StoresList t.bytes es
      → AnswersRead code found (Ok (point (lift es t.global_seqno) key seqno))

-- a point read of runs returns a code and finds an entry
pub record GetsFromRuns (runs : List (List OpenTable)) (key : List ℕ) (seqno code : ℕ)
    (found : Option Entry) : Type 0 where
  -- for any bytes, it is the result of the tables
  pub returned : AnswersRead code found (runs_result key seqno None runs)
  -- a fault of the first loaded block that is found without allocating takes precedence over
  -- `OutOfMemory`
  pub early : ReportsFirst code (runs_read key seqno None runs).early
  -- if no block is loaded, it does not fail
  pub calm : (runs_read key seqno None runs).loads ≡ [] → code ≡ 0
  -- for tables of lists, it is the first match in all entries together, global sequence numbers
  -- applied
  pub list : (lists : List (List (List Entry))) → RunsHoldLists runs lists
      → AnswersRead code found (Ok (point (union_in lists) key seqno))
