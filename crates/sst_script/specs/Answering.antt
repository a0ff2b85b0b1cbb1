-- The output for the lines of a script.
use Rattle.std.specs.Prelude.{◌≡◌, ◌<◌, ℕ, ◌+◌, List, [], ◌∷◌, ◌++◌, length, Option, Some, None}
use Rattle.std.specs.Prelude.{Result, Ok, Err, MatchResult, ◌⊎◌, ⊤}
use Rattle.std.specs.Io.KnownBytes.{Appends, Keeps}
use Rattle.sst_entries.specs.Error.{number_of}
use Rattle.sst_script.specs.declared.command.Command.{Command}
use Rattle.sst_script.specs.declared.print.Answer.{Answer}
use Rattle.sst_script.specs.declared.stop.Failure.{Failure}
use Rattle.sst_script.specs.declared.stop.Failure.TheVariants.{BadLine, Refused}
use Rattle.sst_script.specs.declared.stop.Stop.{Stop}
use Rattle.sst_script.specs.declared.stop.Stop.TheVariants.{Line, Input, Output}
use Rattle.sst_script.specs.Answer.{answer_lines, refusal_line}
use Rattle.sst_script.specs.Command.{words_of, AskFor}
use Rattle.sst_script.specs.Shown.{AppendsFront}
use Rattle.sst_script.specs.Stop.{stop_line}
use Rattle.sst_script.specs.Lines.{HasLines}
use Rattle.sst_script.specs.Script.{Store, store, Executes}

-- the text of a command's result; none if the line is at fault
abbrev pub outcome_text : {A : Type 0} → Result (Answer A) Failure → Option (List ℕ)
outcome_text (Ok answer) = Some (answer_lines answer)
outcome_text (Err (Refused error)) = Some (refusal_line (number_of error))
outcome_text (Err BadLine) = None

-- the text was printed; or the output failed after a prefix of it; or there was no text, and the
-- line with this number ended the script
abbrev pub PrintEnds : {X : Type 0} → ℕ → Option (List ℕ) → Option (List ℕ) → Option (List ℕ)
    → Result X Stop → Type 0
PrintEnds number None before after r = (r ≡ Err (Line number)) × (after ≡ before)
PrintEnds number (Some text) before after r =
    MatchResult r (λ _. Appends before after text)
    (λ stop. (stop ≡ Output) × AppendsFront before after text)

-- a line is a command, and this is its execution
abbrev pub Does : (A : Type 0) → List ℕ → Store → Result (Answer A) Failure → Store → Type 0
Does A line old r new =
    (command : Command) × AskFor (words_of line) command × Executes command old r new

-- the result of a line's command is printed as a text
abbrev pub Prints : (A : Type 0) → List ℕ → Store → List ℕ → Store → Type 0
Prints A line old text new =
    (r : Result (Answer A) Failure) × Does A line old r new × (outcome_text r ≡ Some text)

-- a line is no command, or one that finds the line at fault
abbrev pub IsAtFault : (A : Type 0) → List ℕ → Store → Type 0
IsAtFault A line old =
    ((command : Command) → ¬ AskFor (words_of line) command)
    ⊎ ((new : Store) × Does A line old (Err BadLine) new)

-- the text of a line and its effect: an empty line has no text, and changes nothing
abbrev pub AnswersLine : (A : Type 0) → List ℕ → Store → List ℕ → Store → Type 0
AnswersLine A [] old text new = (text ≡ []) × (new ≡ old)
AnswersLine A (b ∷ bs) old text new = Prints A (b ∷ bs) old text new

-- the line with this number was executed, or ended the script
abbrev pub LineEnds : {X : Type 0} → (A : Type 0) → ℕ → List ℕ → Store → Store → Option (List ℕ)
    → Option (List ℕ) → Result X Stop → Type 0
LineEnds A number line old new before after (Ok x) =
    (text : List ℕ) × AnswersLine A line old text new × Appends before after text
LineEnds A number line old new before after (Err (Line n)) =
    (n ≡ number) × (0 < length line) × IsAtFault A line old × (after ≡ before)
LineEnds A number line old new before after (Err Input) = ⊥
LineEnds A number line old new before after (Err Output) =
    (text : List ℕ) × Prints A line old text new × AppendsFront before after text

-- lines are executed one after another, each on the result of the one before it, and have this text
-- together
abbrev pub AnswersAll : (A : Type 0) → List (List ℕ) → Store → List ℕ → Store → Type 0
AnswersAll A [] old text new = (text ≡ []) × (new ≡ old)
AnswersAll A (line ∷ lines) old text new =
    (between : Store) × (first : List ℕ) × (rest : List ℕ)
    × AnswersLine A line old first between × AnswersAll A lines between rest new
    × (text ≡ first ++ rest)

-- the first lines of an input were executed from the start on, and have this text; others follow
pub record HasAnswered (A : Type 0) (input : Option (List ℕ)) (front rest : List (List ℕ))
    (text : List ℕ) (now : Store) : Type 0 where
  pub lines : HasLines input front rest
  pub answers : AnswersAll A front (store [] [] (Some 1)) text now

-- known bytes grow by a text, and then by a prefix of a second one
pub record AppendsBehind (before after : Option (List ℕ)) (text shown : List ℕ) : Type 0 where
  pub front : List ℕ
  pub rest : List ℕ
  pub is : shown ≡ front ++ rest
  pub appends : Appends before after (text ++ front)

-- a script ran to its end; or it stopped at a line at fault, or because its input or its output
-- failed. Each line before that was executed, and the output has their text. If the output failed,
-- it may have a prefix of the next line's text.
abbrev pub ScriptEnds : {X : Type 0} → (A : Type 0) → Option (List ℕ) → Option (List ℕ)
    → Option (List ℕ) → Result X Stop → Type 0
ScriptEnds A input before after (Ok x) =
    (lines : List (List ℕ)) × (text : List ℕ) × (now : Store)
    × HasAnswered A input lines [] text now × Appends before after text
ScriptEnds A input before after (Err (Line n)) =
    (front : List (List ℕ)) × (line : List ℕ) × (rest : List (List ℕ)) × (text : List ℕ)
    × (now : Store)
    × HasAnswered A input front (line ∷ rest) text now × Appends before after text
    × (n ≡ length front + 1) × (0 < length line) × IsAtFault A line now
ScriptEnds A input before after (Err Input) =
    (front : List (List ℕ)) × (rest : List (List ℕ)) × (text : List ℕ) × (now : Store)
    × HasAnswered A input front rest text now × Appends before after text
ScriptEnds A input before after (Err Output) =
    (front : List (List ℕ)) × (line : List ℕ) × (rest : List (List ℕ)) × (text : List ℕ)
    × (now : Store)
    × HasAnswered A input front (line ∷ rest) text now
    × ((shown : List ℕ) × (new : Store) × Prints A line now shown new
    × AppendsBehind before after text shown)

-- the exit status of a script that ended so
abbrev pub status_of : {X : Type 0} → Result X Stop → ℕ
status_of (Ok x) = 0
status_of (Err stop) = 2

-- nothing was reported of a script that ran to its end; of one that stopped, the line of its stop
-- or a prefix of it, and nothing else
abbrev pub Reports : {X : Type 0} → Option (List ℕ) → Option (List ℕ) → Result X Stop → Type 0
Reports before after (Ok x) = Keeps before after
Reports before after (Err stop) = AppendsFront before after (stop_line stop)

-- a script ended in some way, which its status, its output and its report tell
abbrev pub ScriptReturns : (A : Type 0) → Option (List ℕ) → Option (List ℕ) → Option (List ℕ)
    → Option (List ℕ) → Option (List ℕ) → ℕ → Type 0
ScriptReturns A input before after unreported reported status = (ended : Result ⊤ Stop)
    × (status ≡ status_of ended) × ScriptEnds A input before after ended
    × Reports unreported reported ended
