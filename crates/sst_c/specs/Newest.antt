-- The newest versions in several runs, as a handle holds them.
use Rattle.std.specs.Prelude.{Option, Result}
use Rattle.std.specs.Global.{Global}
use Rattle.sst_entries.specs.Entry.{Entry}
use Rattle.sst_entries.specs.declared.error.Error.{Error}
use Rattle.lsm_sorted.specs.lending.Lent.{lent_first}
use Rattle.lsm_sorted.specs.lending.LentNewest.{lent_newest}
use Rattle.lsm_sorted.specs.declared.lending_merger.LendingMerger.{LendingMerger}
use Rattle.lsm_sorted.specs.declared.lending_newest.LendingNewest.{LendingNewest}
use Rattle.lsm_sorted.specs.declared.merge.Merger.{Merger}
use Rattle.lsm_runs.specs.RunRange.{RunRange, lent_of_reader}
use Rattle.lsm_sorted.specs.LentBelow.{lent_below}
use Rattle.lsm_sorted.specs.declared.below.Below.{Below}
use Rattle.lsm_sorted.specs.declared.mvcc_stream.MvccStream.{MvccStream}

-- a stream of the newest versions of several runs below a sequence number, between two calls
abbrev pub NewestAt : Type 0
NewestAt = MvccStream (Merger (Below (RunRange Global)) Global) (Result Entry Error)

-- the same as a lending iterator
abbrev pub LentNewestAt : Type 0
LentNewestAt = LendingNewest (LendingMerger (Below (RunRange Global)) Global) Global

-- the entry that it borrows
abbrev pub newest_lent : LentNewestAt → Option Entry
newest_lent = lent_newest (lent_first (lent_below (λ (r : RunRange Global). lent_of_reader r.front)))
