-- Compactions as reported to C.
use Rattle.std.specs.Prelude.{◌≡◌, ◌⊎◌, ℕ, false, true, IsSomeAnd, None, Option, Some}
use Rattle.std.specs.Prelude.{Result, Ok, Err, unwrap_or}
use Rattle.std.specs.Global.{Global}
use Rattle.sst_entries.specs.Error.{number_of}
use Rattle.sst_entries.specs.declared.error.Error.{Error}
use Rattle.lsm_sorted.specs.declared.compaction.Rules.{Rules}
use Rattle.lsm_writers.specs.Tables.{TablesWriting, new_tables, with_options}
use Rattle.lsm_runs.specs.compaction.Unfiltered.{IsUnfiltered}
use Rattle.lsm_runs.specs.declared.compaction.any_runs.CompactionOutcome.{CompactionOutcome}
use Rattle.lsm_runs.specs.declared.compaction.any_runs.CompactionOutcome.TheVariants.{Tables}
use Rattle.lsm_runs.specs.declared.compaction.any_runs.CompactionOutcome.TheVariants.{OutOfOrder}
use Rattle.lsm_runs.specs.declared.compaction.any_runs.CompactionOutcome.TheVariants.{Stopped}
use Rattle.sst_c.specs.Options.{are_usable, decode_options}
use Rattle.sst_c.specs.Reported.{found_by}
use Rattle.sst_c.specs.What.{HoldsFiles, are_runs, runs_held}
use Rattle.sst_c.specs.declared.held.Held.{Held}
use Rattle.sst_c.specs.declared.held.What.{What}
use Rattle.sst_c.specs.declared.options.TableOptions.{TableOptions}

-- a writer of tables that has written nothing, with ids counting up from that of the options
abbrev pub decode_compactor : TableOptions → ℕ → TablesWriting
decode_compactor o target =
    with_options (new_tables (Some o.id) target o.level o.created_at) (decode_options o)

-- the call reports the tables, which the handle then holds, and the first unused id, or 0 if none
-- is left. It reports 104 for entries out of order, else the error code
unfoldable pub ReportsOutcome : ℕ → Option Held → ℕ → Result (CompactionOutcome Global) Error → Type 0
ReportsOutcome code held next (Ok (Tables tables left)) = (code ≡ 1) ⊎ ((code ≡ 0)
    × IsSomeAnd held (λ h. (found_by h ≡ None) × HoldsFiles tables.items h.what)
    × (next ≡ unwrap_or left 0))
ReportsOutcome code held next (Ok OutOfOrder) = code ≡ 104
ReportsOutcome code held next (Ok Stopped) = ⊥
ReportsOutcome code held next (Err e) = code ≡ number_of e

-- the call reports some result that satisfies this predicate
abbrev pub IsReportedOf : (Result (CompactionOutcome Global) Error → Type 0) → ℕ → Option Held → ℕ
    → Type 0
IsReportedOf holds code held next = (came : Result (CompactionOutcome Global) Error) × holds came
    × ReportsOutcome code held next came

-- the call compacts the runs in the object into tables of a target size, and reports the result. The
-- code is 105 if the options are out of range
pub record CompactsHeld (options : TableOptions) (rules : Rules) (target : ℕ) (w : What) (code : ℕ)
    (after : Option Held) (next : ℕ) : Type 0 where
  pub unusable : are_runs w ≡ true → are_usable options ≡ false → code ≡ 105
  -- else it is the result of the library's compaction of any tables
  pub returned : are_runs w ≡ true → are_usable options ≡ true → IsReportedOf
      (IsUnfiltered (runs_held w) rules (decode_compactor options target)) code after next
