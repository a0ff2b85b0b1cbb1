-- A compaction that hands out its tables one by one, as C sees it.
use Rattle.std.specs.Prelude.{◌≡◌, ◌≢◌, ◌∷◌, ◌⊎◌, [], ℕ, false, true, IsSomeAnd, None, Option, Some}
use Rattle.std.specs.Prelude.{Result, Ok, Err, unwrap_or}
use Rattle.std.specs.Global.{Global}
use Rattle.sst_entries.specs.Entry.{Entry}
use Rattle.sst_entries.specs.declared.error.Error.{Error}
use Rattle.lsm_sorted.specs.declared.compaction.Rules.{Rules}
use Rattle.lsm_writers.specs.declared.table_stream.TableStreamError.{TableStreamError}
use Rattle.lsm_writers.specs.declared.writer.FinishedTable.{FinishedTable}
use Rattle.lsm_runs.specs.compaction.Words.{AreMergeable, first_blocks_fault}
use Rattle.sst_c.specs.Compact.{decode_compactor}
use Rattle.sst_c.specs.Compacting.{Compacting, KeptEntries, StartsCompaction, Taken, TakesNext}
use Rattle.sst_c.specs.Options.{are_usable}
use Rattle.sst_c.specs.Reported.{found_by}
use Rattle.sst_c.specs.What.{HoldsFiles, IsCompactionAs, IsCompactionWhere, are_runs, is_compaction}
use Rattle.sst_c.specs.What.{runs_held}
use Rattle.sst_c.specs.Writing.{FaultReported}
use Rattle.sst_c.specs.declared.held.Held.{Held}
use Rattle.sst_c.specs.declared.held.What.{What}
use Rattle.sst_c.specs.declared.held.What.TheVariants.{Compaction}
use Rattle.sst_c.specs.declared.options.TableOptions.{TableOptions}

-- the call opens a compaction of the runs in the object into tables of a target size
pub record OpensCompaction
    (advances : KeptEntries → Option (Result Entry Error) → KeptEntries → Type 0)
    (options : TableOptions) (rules : Rules) (target : ℕ) (w : What) (code : ℕ) (after : Option Held)
    : Type 0 where
  -- the code is 105 if the options are out of range
  pub unusable : are_runs w ≡ true → are_usable options ≡ false → code ≡ 105
  -- else it is the fault of the first run whose first data block cannot be loaded
  pub codes : are_runs w ≡ true → are_usable options ≡ true →
      FaultReported code (first_blocks_fault (runs_held w))
  -- there is none if the tables store lists with entries
  pub memory : are_runs w ≡ true → are_usable options ≡ true → AreMergeable (runs_held w) →
      (code ≡ 0) ⊎ (code ≡ 1)
  pub starts : are_usable options ≡ true → code ≡ 0 → IsSomeAnd after (λ k. IsCompactionWhere
      (StartsCompaction advances (runs_held w) rules (decode_compactor options target)) k.what)

-- the call reports the table, which the handle then holds alone, and the first unused id, or 0 if none
-- is left; else the code
abbrev pub ReportsTable : ℕ → Option Held → ℕ → Taken → Type 0
ReportsTable code held next (Ok r) = (code ≡ 1) ⊎ ((code ≡ 0)
    × IsSomeAnd held (λ h. (found_by h ≡ None) × HoldsFiles (r.0 ∷ []) h.what)
    × (next ≡ unwrap_or r.1 0))
ReportsTable code held next (Err c) = code ≡ c

-- one call of a compaction, whose result is reported. It leaves the compaction after the call, or none
-- at the end and after an error
pub record HandsOut
    (gives : Compacting → Option (Result (FinishedTable Global) TableStreamError) → Compacting → Type 0)
    (s : Compacting) (code : ℕ) (files : Option Held) (next : ℕ) (left : Option Compacting) : Type 0
  where
    pub taken : Taken
    pub after : Compacting
    pub call : TakesNext gives s taken after
    pub reports : ReportsTable code files next taken
    pub goes : code ≡ 0 → left ≡ Some after
    pub ends : code ≢ 0 → left ≡ None

-- the next table of the object w is handed out, which leads to the object v
pub record StepsCompaction
    (gives : Compacting → Option (Result (FinishedTable Global) TableStreamError) → Compacting → Type 0)
    (w : What) (code : ℕ) (files : Option Held) (next : ℕ) (v : What) : Type 0 where
  pub other : is_compaction w ≡ false → (code ≡ 102) × (v ≡ w)
  -- after the end and after an error, nothing is left
  pub over : w ≡ Compaction None → (code ≡ 106) × (v ≡ w)
  -- it is one call of the library's compaction
  pub steps : (s : Compacting) → w ≡ Compaction (Some s) →
      IsCompactionAs (HandsOut gives s code files next) v

-- if the files' handle is closed and the other holds an object, its next table is handed out
abbrev pub StepsHeld :
    (Compacting → Option (Result (FinishedTable Global) TableStreamError) → Compacting → Type 0)
    → (compaction after files made : Option Held) (code next : ℕ) → Type 0
StepsHeld gives compaction after files made code next = (h : Held) → files ≡ None
    → compaction ≡ Some h → IsSomeAnd after (λ k. StepsCompaction gives h.what code made next k.what)
