-- The results of tasks and command lines.
use Rattle.std.specs.Prelude.{◌≡◌, ◌≤◌, ◌⊎◌, ℕ, Bool, List, Option, None, IfErr, IfOk, Result, Ok, Err}
use Rattle.lsm_files.specs.Reads.{ByteAccess, unknown}
use Rattle.sst_tool.specs.files.Steps.{Step}
use Rattle.sst_tool.specs.declared.files.error.ToolError.{ToolError}
use Rattle.sst_tool.specs.declared.files.made.Made.{Made}
use Rattle.sst_tool.specs.show.Failures.{NamesNone}
use Rattle.tool_options.specs.declared.tasks.Task.{Task}
use Rattle.tool_options.specs.declared.tasks.Task.TheVariants as task
use Rattle.tool_options.specs.Asks.{AsksFrom}
use Rattle.tool_options.specs.declared.words.Parsed.{Parsed}
use Rattle.tool_options.specs.declared.words.Parsed.TheVariants as parsed
use Rattle.sst.specs.Making.{CompactsTables, RefusesCompact, RefusesPack, RefusesWrite}
use Rattle.sst.specs.Making.{WritesTables}
use Rattle.sst.specs.Showing.{DoesDump, DoesGet}
use Rattle.sst.specs.Statuses.{status_of_answer, status_of_failure}
use Rattle.sst.specs.Verified.{AreSoundFiles, HaveFaulty}

-- The task succeeds with this status, for this input and these files, and does exactly this. The
-- bytes of a file that is read at an offset are known or not.
abbrev pub DoesTask : ByteAccess → Task → Option (List ℕ) → (List ℕ → Option (List ℕ))
    → (List ℕ → Option Bool) → (known new : Option (List Step)) → (status : ℕ) → Type 0
DoesTask reads (task.Write t) input content there known new status =
    (status ≡ 0) × ((made : Made) × WritesTables t input there made known new)
DoesTask reads (task.Compact t) input content there known new status =
    (status ≡ 0) × ((made : Made) × CompactsTables t content made known new)
DoesTask reads (task.Pack t) input content there known new status = (status ≡ 0) × (new ≡ known)
DoesTask reads (task.Verify t) input content there known new status = (new ≡ known)
    × (status ≡ 0 → AreSoundFiles content t.files.items)
    × (status ≡ 1 → HaveFaulty content t.files.items)
DoesTask reads (task.Get t) input content there known new status = (new ≡ known)
    × ((found : Bool) × (status ≡ status_of_answer found) × DoesGet reads t content found)
DoesTask reads (task.Dump t) input content there known new status =
    (status ≡ 0) × (new ≡ known) × DoesDump t content
DoesTask reads (task.Stat t) input content there known new status = (status ≡ 0) × (new ≡ known)

-- The task fails with this error, and does exactly this. Tasks that write no files do nothing to
-- them.
abbrev pub RefusesTask : Task → Option (List ℕ) → (List ℕ → Option (List ℕ))
    → (List ℕ → Option Bool) → (known : Option (List Step)) → ToolError
    → (new : Option (List Step)) → Type 0
RefusesTask (task.Write t) input content there known e new = RefusesWrite t input there known e new
RefusesTask (task.Compact t) input content there known e new =
    RefusesCompact t content there known e new
RefusesTask (task.Pack t) input content there known e new =
    (new ≡ known) × RefusesPack t content e
RefusesTask (task.Verify t) input content there known e new = (new ≡ known) × NamesNone e
RefusesTask t input content there known e new = new ≡ known

-- The status of a result.
abbrev pub status_of_done : Result ℕ ToolError → ℕ
status_of_done (Ok status) = status
status_of_done (Err e) = status_of_failure e

-- The program runs the task, and its status is that of the result; or it prints a text, and its
-- status says whether that worked; or the words are wrong.
abbrev pub RunsAs : Parsed → Option (List ℕ) → (status : ℕ) → Type 0
RunsAs (parsed.Task t) input status = (done : Result ℕ ToolError)
    × IfOk done (λ s. DoesTask unknown t input (λ _. None) (λ _. None) None None s)
    × IfErr done (λ e. RefusesTask t input (λ _. None) (λ _. None) None e None)
    × (status ≡ status_of_done done)
RunsAs (parsed.Shown shown) input status = status ≤ 1
RunsAs (parsed.Mistaken shown) input status = status ≡ 2

-- The program runs the command of its words, unless memory runs out reading them.
abbrev pub Runs : List (List ℕ) → Option (List ℕ) → (status : ℕ) → Type 0
Runs words input status =
    ((p : Parsed) × AsksFrom words p × RunsAs p input status) ⊎ (status ≡ 1)
