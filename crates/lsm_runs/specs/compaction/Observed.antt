-- A compaction with an observer: its progress at the end of each table that another one follows.
use Rattle.std.specs.Prelude.{◌≡◌, ◌⊎◌, ℕ, ◌-◌, ◌^◌, min, Bool, true, false, List, [], ◌∷◌}
use Rattle.std.specs.Prelude.{◌++◌, length}
use Rattle.sst_entries.specs.Entry.{Entry}
use Rattle.sst_entries.specs.Stream.{but_last}
use Rattle.sst_blocks.specs.table.Chunks.{joined}
use Rattle.lsm_writers.specs.declared.writer.FinishedTable.{FinishedTable}
use Rattle.lsm_writers.specs.Tables.{AreFinished, AreTables, TablesWriting, all_written}
use Rattle.lsm_writers.specs.Writing.{written}
use Rattle.lsm_runs.specs.compaction.Compacted.{first_written}
use Rattle.lsm_runs.specs.declared.compaction.any_runs.CompactionOutcome.{CompactionOutcome}
use Rattle.lsm_runs.specs.declared.compaction.any_runs.CompactionOutcome.TheVariants.{OutOfOrder}
use Rattle.lsm_runs.specs.declared.compaction.any_runs.CompactionOutcome.TheVariants.{Stopped}
use Rattle.lsm_runs.specs.declared.compaction.any_runs.CompactionOutcome.TheVariants.{Tables}
use Rattle.lsm_runs.specs.declared.compaction.any_runs.Ending.{Ending}
use Rattle.lsm_runs.specs.declared.compaction.any_runs.Ending.TheVariants.{AtDisorder, AtEnd}
use Rattle.lsm_runs.specs.declared.compaction.any_runs.Ending.TheVariants.{AtStop}
use Rattle.lsm_runs.specs.declared.compaction.observer.CompactionProgress.{CompactionProgress}

-- a count, at most the largest number
abbrev pub steps_count : ℕ → ℕ
steps_count n = min n (2 ^ 64 - 1)

-- the progress of a compaction that has finished these tables
abbrev pub progress_at : List (List Entry) → CompactionProgress
progress_at ts =
    record { tables = steps_count (length ts); entries = steps_count (length (joined ts)) }

-- a compaction counts what its writer has taken
abbrev pub IsCounted : CompactionProgress → TablesWriting → Type 0
IsCounted progress m = progress ≡ record {
  tables = steps_count (length m.tables);
  entries = steps_count (length (all_written m));
}

-- no table is finished before the present one has an entry
abbrev pub HasBegun : TablesWriting → Type 0
HasBegun m = written m.present ≡ [] → m.tables ≡ []

-- the progress reported as these tables are finished one after another, after others
abbrev pub steps_after : List (List Entry) → List (List Entry) → List CompactionProgress
steps_after before [] = []
steps_after before (t ∷ ts) =
    progress_at (before ++ t ∷ []) ∷ steps_after (before ++ t ∷ []) ts

-- the progress reported as these tables are finished one after another, from the first on
abbrev pub progress_steps : List (List Entry) → List CompactionProgress
progress_steps ts = steps_after [] ts

module _ {O : Type 0} (says : O → CompactionProgress → Bool → O → Type 0) where
  -- an observer was called with these in order, and returned each time to go on
  abbrev pub GoesOnAt : O → List CompactionProgress → O → Type 0
  GoesOnAt o [] q = o ≡ q
  GoesOnAt o (m ∷ ms) q = (r : O) × says o m true r × GoesOnAt r ms q

  -- it was called with these, and returned at the last one to stop
  pub record StopsAtLast (o : O) (ms : List CompactionProgress) (q : O) : Type 0 where
    pub before : List CompactionProgress
    pub last : CompactionProgress
    pub are : ms ≡ before ++ last ∷ []
    pub then : O
    pub went_on : GoesOnAt o before then
    pub stopped : says then last false q

  -- an entry was written: if that finished a table, the observer was called
  abbrev pub NotifiesNext : TablesWriting → TablesWriting → O → Bool → O → Type 0
  NotifiesNext m n o goes q =
      ((n.tables ≡ m.tables) × (goes ≡ true) × (o ≡ q))
      ⊎ ((t : List Entry) × (n.tables ≡ m.tables ++ t ∷ []) × says o (progress_at n.tables) goes q)

  -- a list was written, cut into tables by the writer: the observer was called for all but the
  -- last, and went on each time
  pub record NotifiedOfPart (w : TablesWriting) (list : List Entry) (o q : O) : Type 0 where
    pub tables : List (List Entry)
    pub cut : AreTables w.present.options.data_block_size w.target list tables
    pub returned : GoesOnAt o (progress_steps (but_last tables)) q

  -- it was called for all but the last, and stopped at the last of these: nothing was written after
  -- the entry that began the next table
  pub record StoppedAt (w : TablesWriting) (list : List Entry) (o q : O) : Type 0 where
    pub tables : List (List Entry)
    pub next : Entry
    pub cut : AreTables w.present.options.data_block_size w.target list
        (tables ++ (next ∷ []) ∷ [])
    pub returned : StopsAtLast o (progress_steps tables) q

  -- it was called for all but the last of these finished tables, and went on each time
  pub record NotifiedOfAll {A : Type 0} (w : TablesWriting) (fs : List (FinishedTable A)) (o q : O)
      : Type 0 where
    pub tables : List (List Entry)
    pub finished : AreFinished w.present.options (first_written w) tables fs
    pub returned : GoesOnAt o (progress_steps (but_last tables)) q

  -- the calls of an observer for a list that was written, by the outcome: a compaction stops
  -- exactly when the observer returns so, and at once
  abbrev pub WasNotifiedOf : {A : Type 0} → TablesWriting → List Entry → CompactionOutcome A → O → O
      → Type 0
  WasNotifiedOf w list (Tables tables left) o q = NotifiedOfPart w list o q
  WasNotifiedOf w list OutOfOrder o q = NotifiedOfPart w list o q
  WasNotifiedOf w list Stopped o q = StoppedAt w list o q

  -- the same, by how the writing of the list ended
  abbrev pub WasNotifiedAt : TablesWriting → List Entry → Ending → O → O → Type 0
  WasNotifiedAt w list AtEnd o q = NotifiedOfPart w list o q
  WasNotifiedAt w list AtDisorder o q = NotifiedOfPart w list o q
  WasNotifiedAt w list AtStop o q = StoppedAt w list o q

  -- the same, whatever was written
  abbrev pub WasNotified : {A : Type 0} → TablesWriting → CompactionOutcome A → O → O → Type 0
  WasNotified w (Tables tables left) o q = NotifiedOfAll w tables.items o q
  WasNotified w OutOfOrder o q = (list : List Entry) × NotifiedOfPart w list o q
  WasNotified w Stopped o q = (list : List Entry) × StoppedAt w list o q

  -- the calls of an observer until a compaction failed, whatever was written
  abbrev pub WasNotifiedUntil : TablesWriting → O → O → Type 0
  WasNotifiedUntil w o q = (list : List Entry) × NotifiedOfPart w list o q
