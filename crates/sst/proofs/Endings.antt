-- How the program ends.
use Rattle.std.proofs.Common.{◌≡◌, refl, subst, sym, ℕ, ◌≤◌, Bool, List, inl, inr}
use Rattle.std.specs.Prelude.{IfErr, IfOk, MatchResult, None, Option, Result, Ok, Err}
use Rattle.std.specs.declared.io.Error.{Error}
use Rattle.lsm_files.specs.Reads.{ByteAccess, unknown}
use Rattle.sst_tool.specs.files.Steps.{Step}
use Rattle.sst_tool.specs.declared.files.error.ToolError.{ToolError}
use Rattle.sst_tool.specs.declared.files.error.ToolError.TheVariants as error
use Rattle.tool_options.specs.Asks.{AsksFrom}
use Rattle.tool_options.specs.declared.tasks.Task.{Task}
use Rattle.tool_options.specs.declared.tasks.Task.TheVariants as task
use Rattle.tool_options.specs.declared.words.Parsed.{Parsed}
use Rattle.tool_options.specs.declared.words.Parsed.TheVariants as parsed
use Rattle.sst.specs.Statuses.{status_of_failure}
use Rattle.sst.specs.Tasks.{DoesTask, RefusesTask, Runs, RunsAs, status_of_done}

-- a task was done, and the output does not pass on what was printed
pub not_passed_on : (reads : ByteAccess) (t : Task) (input : Option (List ℕ))
    (content : List ℕ → Option (List ℕ)) (there : List ℕ → Option Bool)
    (known new : Option (List Step)) (status : ℕ) (e : Error)
    → DoesTask reads t input content there known new status
    → RefusesTask t input content there known (error.Output e) new
not_passed_on reads (task.Write t) input content there known new status e does = inr (tt, does.1)
not_passed_on reads (task.Compact t) input content there known new status e does = inr (tt, does.1)
not_passed_on reads (task.Pack t) input content there known new status e does = (does.1, inr tt)
not_passed_on reads (task.Verify t) input content there known new status e does = (does.0, tt)
not_passed_on reads (task.Get t) input content there known new status e does = does.0
not_passed_on reads (task.Dump t) input content there known new status e does = does.1
not_passed_on reads (task.Stat t) input content there known new status e does = does.1

-- the status stays
pub status_stays : (P : ℕ → Type 0) (r : Result ℕ ToolError) (status : ℕ)
    → IfOk r (λ s. s ≡ status) → P status → IfOk r P
status_stays P (Ok s) status same p = subst P (sym same) p
status_stays P (Err e) status same p = tt

-- the error is one of the output
pub output_fails : (P : ToolError → Type 0) (r : Result ℕ ToolError)
    → IfErr r (λ e. (o : Error) × (e ≡ error.Output o)) → ((o : Error) → P (error.Output o))
    → IfErr r P
output_fails P (Ok s) is all = tt
output_fails P (Err e) is all = subst P (sym is.1) (all is.0)

-- what a report answers is the status of what was done
ended : (done : Result ℕ ToolError) (status : ℕ)
    → MatchResult done (λ s. status ≡ s) (λ e. status ≡ status_of_failure e)
    → status ≡ status_of_done done
ended (Ok s) status returned = returned
ended (Err e) status returned = returned

-- what the words ask for
pub runs_as : {E : Type 0} (words : List (List ℕ)) (input : Option (List ℕ))
    (asked : Result Parsed E) (p : Parsed) (status : ℕ) → IfOk asked (AsksFrom words)
    → asked ≡ Ok p → RunsAs p input status → Runs words input status
runs_as {E} words input asked p status asks is runs =
    inl (p, subst (λ (r : Result Parsed E). IfOk r (AsksFrom words)) is asks, runs)

pub runs_task : {E : Type 0} (words : List (List ℕ)) (input : Option (List ℕ))
    (asked : Result Parsed E) (t : Task) (done : Result ℕ ToolError) (status : ℕ)
    → IfOk asked (AsksFrom words) → asked ≡ Ok (parsed.Task t)
    → IfOk done (λ s. DoesTask unknown t input (λ _. None) (λ _. None) None None s)
    → IfErr done (λ e. RefusesTask t input (λ _. None) (λ _. None) None e None)
    → MatchResult done (λ s. status ≡ s) (λ e. status ≡ status_of_failure e)
    → Runs words input status
runs_task words input asked t done status asks is does refused returned =
    runs_as words input asked (parsed.Task t) status asks is
    (done, does, refused, ended done status returned)
