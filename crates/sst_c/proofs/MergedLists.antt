-- What reads of several runs within equal bounds yield. Assumes `Logic`.
use Rattle.std.proofs.Common.{◌≡◌, ℕ, List, Option, Result, subst}
use Rattle.std.specs.Prelude.{IfOk}
use Rattle.std.specs.Global.{Global}
use Rattle.std.specs.declared.ops.Bound.{Bound}
use Rattle.sst_entries.specs.Entry.{Entry}
use Rattle.sst_entries.specs.declared.error.Error.{Error}
use Rattle.lsm_sorted.specs.declared.below.Below.{Below}
use Rattle.lsm_readers.specs.Words.{OpenTable}
use Rattle.lsm_runs.specs.RunRange.{RunRange}
use Rattle.sst_c.specs.Newest.{LentNewestAt, NewestAt}
use Rattle.sst_c.specs.RunsWithin.{RangesRuns, ScansRuns}

module _ (seqno : ℕ) (runs : List (List OpenTable)) (from to low high : Bound (List ℕ))
    (lower : from ≡ low) (upper : to ≡ high) where
  pub scans_same : (advances : LentNewestAt → Option (Result Entry Error) → LentNewestAt → Type 0)
      (r : Result LentNewestAt Error) → IfOk r (ScansRuns advances from to seqno runs)
      → IfOk r (ScansRuns advances low high seqno runs)
  scans_same advances r scans =
      subst (λ (a : Bound (List ℕ)). IfOk r (ScansRuns advances a high seqno runs)) lower
      (subst (λ (b : Bound (List ℕ)). IfOk r (ScansRuns advances from b seqno runs)) upper scans)

  pub ranges_same : (reads reads_back : Below (RunRange Global) → Option (Result Entry Error)
      → Below (RunRange Global) → Type 0)
      (gives back_gives : NewestAt → Option (Result Entry Error) → NewestAt → Type 0)
      (r : Result NewestAt Error)
      → IfOk r (RangesRuns reads reads_back gives back_gives from to seqno runs)
      → IfOk r (RangesRuns reads reads_back gives back_gives low high seqno runs)
  ranges_same reads reads_back gives back_gives r ranges =
      subst (λ (a : Bound (List ℕ)). IfOk r (RangesRuns reads reads_back gives back_gives a high seqno runs)) lower
      (subst (λ (b : Bound (List ℕ)). IfOk r (RangesRuns reads reads_back gives back_gives from b seqno runs)) upper
      ranges)
