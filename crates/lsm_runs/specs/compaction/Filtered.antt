-- The result of a compaction with a filter and a callback.
use Rattle.std.specs.Prelude.{◌≡◌, ◌⊎◌, Bool, false, List, [], ◌∷◌, ◌++◌, Option, Some, None}
use Rattle.std.specs.Prelude.{IfOk, MatchResult, Result, Ok, Err, ℕ}
use Rattle.std.specs.Iterator.{Yields}
use Rattle.std.specs.List.{AllByRecursion}
use Rattle.sst_entries.specs.Entry.{Entry}
use Rattle.sst_entries.specs.Error.{is_memory}
use Rattle.sst_entries.specs.Stream.{ok_results, result_stops}
use Rattle.sst_entries.specs.declared.error.Error.{Error}
use Rattle.sst_entries.specs.declared.error.Error.TheVariants.{OutOfMemory}
use Rattle.lsm_sorted.specs.merge.Ends.{R}
use Rattle.lsm_sorted.specs.merge.Union.{entries_among}
use Rattle.lsm_sorted.specs.declared.compaction.Rules.{Rules}
use Rattle.lsm_sorted.specs.Compaction.{Judged, Verdict, entries, kept}
use Rattle.lsm_sorted.specs.Compacting.{Compacted}
use Rattle.lsm_sorted.specs.lending.LentCompaction.{CompactedLent, CompactedPart, lent_outs}
use Rattle.lsm_sorted.specs.lending.LentCompaction.{lent_callback, lent_filter, past_hidden}
use Rattle.lsm_sorted.specs.declared.compaction.lending.LendingCompaction.{LendingCompaction}
use Rattle.lsm_writers.specs.declared.writer.FinishedTable.{FinishedTable}
use Rattle.lsm_writers.specs.Streamed.{took_each}
use Rattle.lsm_writers.specs.Tables.{TablesWriting}
use Rattle.lsm_writers.specs.Writing.{may_be_written}
use Rattle.lsm_readers.specs.point.Table.{OpenTable}
use Rattle.lsm_runs.specs.compaction.AnyRuns.{AreTaken, BeginsWith, MayCome, results_fault}
use Rattle.lsm_runs.specs.compaction.Chain.{writes_fault}
use Rattle.lsm_runs.specs.compaction.Compacted.{AreWrittenBy, FitsBy}
use Rattle.lsm_runs.specs.compaction.Observed.{NotifiedOfPart, WasNotifiedAt, WasNotifiedOf}
use Rattle.lsm_runs.specs.declared.compaction.any_runs.CompactionOutcome.{CompactionOutcome}
use Rattle.lsm_runs.specs.declared.compaction.any_runs.CompactionOutcome.TheVariants.{OutOfOrder}
use Rattle.lsm_runs.specs.declared.compaction.any_runs.CompactionOutcome.TheVariants.{Stopped}
use Rattle.lsm_runs.specs.declared.compaction.any_runs.CompactionOutcome.TheVariants.{Tables}
use Rattle.lsm_runs.specs.declared.compaction.any_runs.Ending.{Ending}
use Rattle.lsm_runs.specs.declared.compaction.any_runs.Ending.TheVariants.{AtDisorder, AtEnd}
use Rattle.lsm_runs.specs.declared.compaction.any_runs.Ending.TheVariants.{AtStop}
use Rattle.lsm_runs.specs.declared.compaction.observer.CompactionProgress.{CompactionProgress}

-- ---- a stream whose entries are written

module _ {S : Type 0} (next : S → Option R → S → Type 0) (w : TablesWriting) (s : S) where
  -- how a stream ends after these entries, by the outcome: with `None`, no error, and finished
  -- tables of these; with an entry that may not follow; or without another call
  abbrev pub EndsAs : {A : Type 0} → List Entry → S → CompactionOutcome A → S → Type 0
  EndsAs list led (Tables tables left) u =
      next led None u × (writes_fault w list ≡ None) × AreWrittenBy w list tables.items left
  EndsAs list led OutOfOrder u =
      (e : Entry) × next led (Some (Ok e)) u × (may_be_written list e.user_key e.seqno ≡ false)
  EndsAs list led Stopped u = led ≡ u

  -- the same, by how their writing ended
  abbrev pub EndsAt : List Entry → S → Ending → S → Type 0
  EndsAt list led AtEnd u = next led None u
  EndsAt list led AtDisorder u =
      (e : Entry) × next led (Some (Ok e)) u × (may_be_written list e.user_key e.seqno ≡ false)
  EndsAt list led AtStop u = led ≡ u

  -- the next result is this error, which is not `OutOfMemory`, or an entry that may follow and for
  -- which the writer, after the list, fails with it
  pub record FailsAt (list : List Entry) (led : S) (e : Error) : Type 0 where
    pub last : R
    pub comes : MayCome list last
    pub fine : result_stops is_memory last ≡ false
    pub then : S
    pub one : next led (Some last) then
    pub fault : results_fault (took_each w list) (last ∷ []) ≡ Some e

  -- nothing is left, and finishing the writer fails with this error
  pub record FailsToEnd (list : List Entry) (led : S) (e : Error) : Type 0 where
    pub then : S
    pub ended : next led None then
    pub fault : writes_fault w list ≡ Some e

  module _ {O : Type 0} (says : O → CompactionProgress → Bool → O → Type 0) (o : O) where
    -- a stream yielded these entries, which were written, and ended so; the observer was called for
    -- them
    pub record IsWritten {A : Type 0} (outcome : CompactionOutcome A) (u : S) (q : O) : Type 0 where
      pub list : List Entry
      pub taken : AreTaken w list
      pub led : S
      pub gave : Yields next s (ok_results list) led
      pub ends : EndsAs list led outcome u
      pub returned : WasNotifiedOf says w list outcome o q

    -- it yielded these, and their writing ended so; the observer was called for them
    pub record WroteUntil (list : List Entry) (ending : Ending) (u : S) (q : O) : Type 0 where
      pub led : S
      pub gave : Yields next s (ok_results list) led
      pub ends : EndsAt list led ending u
      pub returned : WasNotifiedAt says w list ending o q

    -- it yielded these, which were written, and the observer was called for them; then, except for
    -- `OutOfMemory`, it or the writer failed with this error
    pub record RefusesWritten (e : Error) (q : O) : Type 0 where
      pub list : List Entry
      pub taken : AreTaken w list
      pub led : S
      pub gave : Yields next s (ok_results list) led
      pub fails : is_memory e ≡ false → FailsAt list led e ⊎ FailsToEnd list led e
      pub returned : NotifiedOfPart says w list o q

-- ---- a list that is compacted

-- for any verdicts of a filter on a list, the entries that are kept fit as tables
abbrev pub FitsKept : TablesWriting → Rules → List Entry → Type 0
FitsKept w rules es = (js : List Judged) → entries js ≡ es → FitsBy w (kept rules js)

-- a filter fails with `OutOfMemory` only
abbrev pub RefusesForMemory : {F : Type 0} → (F → Entry → Result Verdict Error → F → Type 0)
    → Type 0
RefusesForMemory {F} gives =
    (f g : F) (x : Entry) (e : Error) → gives f x (Err e) g → e ≡ OutOfMemory

module _ {F C : Type 0} (gives : F → Entry → Result Verdict Error → F → Type 0)
    (gets : C → Entry → C → Type 0) (rules : Rules) (f : F) (c : C) where
  -- a source that compacts these results: calls up to the first `None` yield, filter and report as
  -- a compaction of all does, any calls as one of a part
  pub record CompactsAs {T : Type 0} (xs : List R) (next : T → Option R → T → Type 0) (s : T)
      (filter_in : T → F) (callback_in : T → C) : Type 0 where
    pub whole : (gave : List R) (t u : T)
        → AllByRecursion (λ r. result_stops is_memory r ≡ false) gave → Yields next s gave t
        → next t None u
        → CompactedLent gives gets rules f c xs gave (filter_in u) (callback_in u)
    pub part : (gave : List R) (t : T)
        → AllByRecursion (λ r. result_stops is_memory r ≡ false) gave → Yields next s gave t
        → CompactedPart gives gets rules f c xs gave (filter_in t) (callback_in t)

  -- a call returned a lending compaction of these results
  abbrev pub CompactsAll : {S A : Type 0} → List R
      → (LendingCompaction S F C A → Option R → LendingCompaction S F C A → Type 0)
      → Result (LendingCompaction S F C A) Error → Type 0
  CompactsAll xs next r = IfOk r (λ s. CompactsAs xs next s lent_filter lent_callback)

  module _ (es : List Entry) (w : TablesWriting) where
    -- at each point of the list, the entries kept so far and those that the rules keep of the rest
    -- without a filter fit as tables
    abbrev pub FitsThroughout : Type 0
    FitsThroughout = (gave : List R) (g : F) (d : C)
        (p : CompactedPart gives gets rules f c (ok_results es) gave g d)
        → FitsBy w (entries_among (gave ++ lent_outs rules (past_hidden p.key p.left)))

    -- finished tables are those of the entries that a compaction of the list keeps
    pub record KeepsAll {A : Type 0} (fs : List (FinishedTable A)) (left : Option ℕ) (d : C)
        : Type 0 where
      pub kept : List Entry
      pub filter : F
      pub compacted : Compacted gives gets rules f c (ok_results es) (ok_results kept) filter d
      pub written : AreWrittenBy w kept fs left

    -- a compaction of the list yielded some of the entries that it keeps
    pub record KeepsPart (d : C) : Type 0 where
      pub kept : List Entry
      pub filter : F
      pub part : CompactedPart gives gets rules f c (ok_results es) (ok_results kept) filter d

    -- the outcome of a compaction of the list, and its callback then; entries come in order
    abbrev pub CameTo : {A : Type 0} → CompactionOutcome A → C → Type 0
    CameTo (Tables tables left) d = KeepsAll tables.items left d
    CameTo OutOfOrder d = ⊥
    CameTo Stopped d = KeepsPart d

  module _ (xs : List R) (w : TablesWriting) where
    -- calls of a compaction of the results yielded these, and its callback is then this
    pub record KeepsSome (gave : List R) (d : C) : Type 0 where
      pub filter : F
      pub part : CompactedPart gives gets rules f c xs gave filter d

    -- how such a compaction ends after these, by the outcome: with `None`, no error, and finished
    -- tables of these; with an entry that may not follow; or without another call
    abbrev pub KeepsThen : {A : Type 0} → List Entry → CompactionOutcome A → C → Type 0
    KeepsThen kept (Tables tables left) d =
        (g : F) × CompactedLent gives gets rules f c xs (ok_results kept) g d
        × (writes_fault w kept ≡ None) × AreWrittenBy w kept tables.items left
    KeepsThen kept OutOfOrder d =
        (e : Entry) × KeepsSome (ok_results (kept ++ e ∷ [])) d
        × (may_be_written kept e.user_key e.seqno ≡ false)
    KeepsThen kept Stopped d = KeepsSome (ok_results kept) d

    -- the next result is this error, or an entry that may follow and for which the writer fails
    -- with it; or nothing is left, and finishing fails with it
    abbrev pub KeepsFault : List Entry → Error → Type 0
    KeepsFault kept e =
        ((last : R) × (d : C) × KeepsSome (ok_results kept ++ last ∷ []) d × MayCome kept last
        × (results_fault (took_each w kept) (last ∷ []) ≡ Some e))
        ⊎ ((g : F) × (d : C) × CompactedLent gives gets rules f c xs (ok_results kept) g d
        × (writes_fault w kept ≡ Some e))

    -- the first error, of the source, the filter or the writer, after entries that the compaction
    -- keeps and the writer takes
    pub record RefusesBy (e : Error) : Type 0 where
      pub kept : List Entry
      pub taken : AreTaken w kept
      pub fails : KeepsFault kept e

    module _ {O : Type 0} (says : O → CompactionProgress → Bool → O → Type 0) (o : O) where
      -- the outcome of a compaction of any results, with its callback and observer then: these
      -- entries were kept and written, and it ended so
      pub record CameUpTo {A : Type 0} (outcome : CompactionOutcome A) (d : C) (q : O)
          : Type 0 where
        pub kept : List Entry
        pub taken : AreTaken w kept
        pub came : KeepsThen kept outcome d
        pub returned : WasNotifiedOf says w kept outcome o q

      -- these were kept and written; then, except for `OutOfMemory`, it failed with this error
      pub record CameUntil (e : Error) (q : O) : Type 0 where
        pub kept : List Entry
        pub taken : AreTaken w kept
        pub callback : C
        pub given : KeepsSome (ok_results kept) callback
        pub fails : is_memory e ≡ false → KeepsFault kept e
        pub returned : NotifiedOfPart says w kept o q

      -- the result of a compaction of these results: such an outcome; or an error, with which it
      -- failed so, or with which the scan of one of these runs begins
      abbrev pub CameFrom : {A : Type 0} → List (List OpenTable)
          → Result (CompactionOutcome A × C) Error → O → Type 0
      CameFrom runs r q = MatchResult r (λ x. CameUpTo x.0 x.1 q)
          (λ e. CameUntil e q ⊎ BeginsWith runs e)
