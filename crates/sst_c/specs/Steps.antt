-- Steps of a range as C sees them.
use Rattle.std.specs.Prelude.{◌≡◌, ℕ, Option, Some, None, Result, Ok, Err}
use Rattle.sst_entries.specs.Entry.{Entry}
use Rattle.sst_entries.specs.declared.error.Error.{Error}
use Rattle.sst_c.specs.Codes.{result_code}
use Rattle.sst_c.specs.Reported.{found_of, outcome_of}

-- a step takes a range from s to t, and yields a result with this code and entry
abbrev pub StepsBy : {S : Type 0} → (S → Option (Result Entry Error) → S → Type 0)
    → S → ℕ → Option Entry → S → Type 0
StepsBy gives s code found t =
    (answer : Option (Result Entry Error)) × gives s answer t
    × (code ≡ result_code (outcome_of answer)) × (found ≡ found_of (outcome_of answer))

-- the source that is kept after a step: none after an error
abbrev pub left_behind : {S : Type 0} → Result (Option Entry) Error → S → Option S
left_behind (Ok found) t = Some t
left_behind (Err e) t = None

-- the same for a source that is dropped after an error
abbrev pub StepsUntil : {S : Type 0} → (S → Option (Result Entry Error) → S → Type 0)
    → S → Result (Option Entry) Error → Option S → Type 0
StepsUntil {S} gives s outcome left =
    (answer : Option (Result Entry Error)) × (t : S) × gives s answer t
    × (outcome ≡ outcome_of answer) × (left ≡ left_behind outcome t)

-- the same in terms of the code and the entry
abbrev pub StepsAs : {S : Type 0} → (S → Option (Result Entry Error) → S → Type 0)
    → S → ℕ → Option Entry → Option S → Type 0
StepsAs {S} gives s code found left =
    (outcome : Result (Option Entry) Error) × StepsUntil gives s outcome left
    × (code ≡ result_code outcome) × (found ≡ found_of outcome)
