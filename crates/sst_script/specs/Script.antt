-- The effects of a script's commands on its runs.
use Rattle.std.specs.Prelude.{◌≡◌, ℕ, Bool, IsTrue, List, [], ◌∷◌, ◌++◌, length, Option, Some, None}
use Rattle.std.specs.Prelude.{Result, MatchResult, ◌⊎◌, if◌then◌else◌, map}
use Rattle.std.specs.Arc.{arc_value}
use Rattle.std.specs.Option.{option_map}
use Rattle.sst_entries.specs.declared.error.Error.{Error}
use Rattle.sst_entries.specs.declared.error.Error.TheVariants.{OutOfMemory}
use Rattle.sst_entries.specs.Entry.{Entry, entry}
use Rattle.sst_entries.specs.Point.{point}
use Rattle.lsm_sorted.specs.version.Packing.{ArePacked, IsLeastSize, SameHolders, SameTables}
use Rattle.lsm_sorted.specs.Compaction.{kept, unfiltered}
use Rattle.lsm_runs.specs.compaction.Chain.{AreCutOf, ids_behind, run_label, tables_fault}
use Rattle.lsm_runs.specs.compaction.Compacted.{rules_by}
use Rattle.lsm_run_parts.specs.RunParts.{range_of}
use Rattle.lsm_writers.specs.Writing.{may_be_written}
use Rattle.sst_script.specs.declared.command.Command.{Command}
use Rattle.sst_script.specs.declared.command.Command.TheVariants.{Entry as Add, Table, Get, Range}
use Rattle.sst_script.specs.declared.command.Command.TheVariants.{Compact, Pack}
use Rattle.sst_script.specs.declared.print.Answer.{Answer}
use Rattle.sst_script.specs.declared.print.Answer.TheVariants.{Silent, Tables, Runs as PackedInto}
use Rattle.sst_script.specs.declared.print.Answer.TheVariants.{Lines}
use Rattle.sst_script.specs.declared.script.Script.{Script}
use Rattle.sst_script.specs.declared.stop.Failure.{Failure}
use Rattle.sst_script.specs.declared.stop.Failure.TheVariants.{BadLine, Refused}
use Rattle.sst_script.specs.Answer.{entry_lines, found_line}
use Rattle.sst_script.specs.Runs.{ForRuns, HasRuns, Run, newest_between, repeats, run_tables, union}

-- the state of a script: the entries of the next run, the runs, newest first, and the next id
pub record Store : Type 0 where
  pub pending : List Entry
  pub runs : List Run
  pub next_id : Option ℕ

abbrev pub store : List Entry → List Run → Option ℕ → Store
store pending runs id = record { pending = pending; runs = runs; next_id = id }

-- a script goes from one state to another so: for all runs of its tables before, its tables after
-- are those of some runs
abbrev pub ChangesStore : {A : Type 0} → (old new : Script A) → (Store → Store → Type 0) → Type 0
ChangesStore old new P = ForRuns (map arc_value old.runs.items) (λ before.
    HasRuns (map arc_value new.runs.items) (λ after.
    P (store old.pending before old.ids) (store new.pending after new.ids)))

-- the target size of a table in bytes of data blocks
abbrev pub target_size : ℕ
target_size = 65536

-- the error of writing pending entries: none if there are none, or else that no id is left, or the
-- first error of writing them
abbrev pub pending_fault : Option ℕ → List Entry → Option Error
pending_fault ids [] = None
pending_fault ids (e ∷ es) = tables_fault ids target_size 0 (e ∷ es)

-- why pending entries become no run: a run holds one of them, or else writing them fails
abbrev pub adding_fault : Store → Option Failure
adding_fault s =
    if repeats s.runs s.pending then Some BadLine
    else option_map Refused (pending_fault s.next_id s.pending)

-- the pending entries became a run before the others, cut by the target into so many tables with
-- consecutive ids; or there were none
abbrev pub AddsRun : Store → ℕ → Store → Type 0
AddsRun old count new =
    ((count ≡ 0) × (old.pending ≡ []) × (new ≡ store [] old.runs old.next_id))
    ⊎ ((run : Run) × (run.list ≡ old.pending) × (count ≡ length run.tables)
    × AreCutOf (run_label old.next_id target_size 0) target_size run.list 0 run.tables
    × (new ≡ store [] (run ∷ old.runs) (ids_behind old.next_id target_size count)))

-- the pending entries had no fault, and were written
abbrev pub Writes : Store → ℕ → Store → Type 0
Writes old count new = (adding_fault old ≡ None) × AddsRun old count new

-- the pending entries were dropped for their fault, or for `OutOfMemory`
abbrev pub GivesUp : Store → Failure → Store → Type 0
GivesUp old e new =
    ((e ≡ Refused OutOfMemory) ⊎ (adding_fault old ≡ Some e))
    × (new ≡ store [] old.runs old.next_id)

-- the result of writing the pending entries
abbrev pub WritesPending : Store → Result ℕ Failure → Store → Type 0
WritesPending old r new = MatchResult r (λ count. Writes old count new) (λ e. GivesUp old e new)

-- the entries that a compaction keeps of the sorted entries of the runs' lists
abbrev pub kept_by : ℕ → Bool → Bool → List Run → List Entry
kept_by watermark evict zero runs = kept (rules_by watermark evict zero) (unfiltered (union runs))

-- the kept entries became the only run, cut by the target into so many tables with consecutive ids;
-- or there were none, and no run is left
abbrev pub LeavesRun : Store → List Entry → ℕ → Store → Type 0
LeavesRun old left count new =
    ((count ≡ 0) × (left ≡ [])
    × (new ≡ store old.pending [] (ids_behind old.next_id target_size count)))
    ⊎ ((run : Run) × (run.list ≡ left) × (count ≡ length run.tables)
    × AreCutOf (run_label old.next_id target_size 0) target_size run.list 0 run.tables
    × (new ≡ store old.pending (run ∷ []) (ids_behind old.next_id target_size count)))

-- why kept entries become no run: writing them fails
abbrev pub kept_fault : Store → List Entry → Option Failure
kept_fault s left = option_map Refused (tables_fault s.next_id target_size 0 left)

-- the kept entries had no fault, and were written
abbrev pub CompactsTo : Store → List Entry → ℕ → Store → Type 0
CompactsTo old left count new = (kept_fault old left ≡ None) × LeavesRun old left count new

-- nothing changed, because of the kept entries' fault, or of `OutOfMemory`
abbrev pub FailsToCompact : Store → List Entry → Failure → Store → Type 0
FailsToCompact old left e new =
    ((e ≡ Refused OutOfMemory) ⊎ (kept_fault old left ≡ Some e)) × (new ≡ old)

-- the result of compacting the runs to kept entries
abbrev pub CompactsRuns : Store → List Entry → Result ℕ Failure → Store → Type 0
CompactsRuns old left r new =
    MatchResult r (λ count. CompactsTo old left count new) (λ e. FailsToCompact old left e new)

-- the same tables in other runs, with the same sorted entries: each key has its tables in the same
-- order, and the runs, in order, are as few as possible
pub record ArePackedRuns (old new : List Run) : Type 0 where
  pub tables : SameTables (run_tables old) (run_tables new)
  pub holders : SameHolders range_of (run_tables old) (run_tables new)
  pub ordered : ArePacked range_of (run_tables new)
  pub least : IsLeastSize range_of (run_tables old) (length new)
  pub union_is : union new ≡ union old

-- so many packed runs replace the runs
abbrev pub Packs : Store → ℕ → Store → Type 0
Packs old count new = (count ≡ length new.runs) × ArePackedRuns old.runs new.runs
    × (new ≡ store old.pending new.runs old.next_id)

-- nothing changed, because of `OutOfMemory`
abbrev pub WantsMemory : Store → Failure → Store → Type 0
WantsMemory old e new = (e ≡ Refused OutOfMemory) × (new ≡ old)

-- the result of packing the runs
abbrev pub PacksRuns : Store → Result ℕ Failure → Store → Type 0
PacksRuns old r new =
    MatchResult r (λ count. Packs old count new) (λ e. WantsMemory old e new)

-- why an entry is not added: it may not follow the pending ones, or else `OutOfMemory`
abbrev pub entry_failure : List Entry → List ℕ → ℕ → Failure
entry_failure es key seqno = if may_be_written es key seqno then Refused OutOfMemory else BadLine

-- a result is this text
abbrev pub IsText : {A : Type 0} → List ℕ → Answer A → Type 0
IsText text (Lines v) = v.items ≡ text
IsText text answer = ⊥

-- a command's result, and the state after it
abbrev pub Executes : {A : Type 0} → Command → Store → Result (Answer A) Failure → Store → Type 0
Executes (Add key seqno kind value) old r new = MatchResult r
    (λ a. (a ≡ Silent) × IsTrue (may_be_written old.pending key.now seqno)
    × (new ≡ record old { pending = old.pending ++ entry key.now value.now seqno kind ∷ [] }))
    (λ e. (e ≡ entry_failure old.pending key.now seqno) × (new ≡ old))
Executes Table old r new = MatchResult r
    (λ a. (count : ℕ) × (a ≡ Tables count) × Writes old count new)
    (λ e. GivesUp old e new)
Executes (Get key bound) old r new = (new ≡ old) × MatchResult r
    (λ a. IsText (found_line (point (union old.runs) key.now bound)) a)
    (λ e. e ≡ Refused OutOfMemory)
Executes (Range low high) old r new =
    let found = newest_between low high old.runs in
    (new ≡ old) × MatchResult r (λ a. IsText (entry_lines found) a) (λ e. e ≡ Refused OutOfMemory)
Executes (Compact watermark evict zero) old r new =
    let left = kept_by watermark evict zero old.runs in MatchResult r
    (λ a. (count : ℕ) × (a ≡ Tables count) × CompactsTo old left count new)
    (λ e. FailsToCompact old left e new)
Executes Pack old r new = MatchResult r
    (λ a. (count : ℕ) × (a ≡ PackedInto count) × Packs old count new)
    (λ e. WantsMemory old e new)
