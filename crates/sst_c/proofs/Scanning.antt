-- A scan of a table, and one step of it. Assumes `Logic`.
use Rattle.std.proofs.Common.{◌≡◌, ℕ, ◌<◌, Bool, true, false, List, [], length, refl, sym, ◌∙◌}
use Rattle.std.proofs.Common.{ap, inl, subst}
use Rattle.std.specs.Prelude.{IfErr, IfOk, IsSomeAnd, Option, Some, None, Result, Ok, Err}
use Rattle.sst_entries.specs.Entry.{Entry}
use Rattle.sst_entries.specs.Stream.{YieldsExactly, answer_stops, nowhere, ok_results}
use Rattle.sst_entries.specs.declared.error.Error.{Error}
use Rattle.sst_entries.specs.declared.error.Error.TheVariants.{OutOfMemory}
use Rattle.lsm_readers.specs.point.Answer.{lift}
use Rattle.lsm_readers.specs.Scan.{IsEndedScan, LendsList, Scan, ScansLent, ScansList, ScansNext}
use Rattle.lsm_readers.specs.Words.{OpenTable, StoresList}
use Rattle.lsm_runs.specs.RunScan.{table_scan}
use Rattle.lsm_readers.proofs.Scans.{ended_left}
use Rattle.sst_c.specs.Codes.{result_code}
use Rattle.sst_c.specs.Scans.{IsBegunScan, ScansHeld, ScansTable, YieldsScan}
use Rattle.sst_c.specs.Steps.{StepsBy}
use Rattle.sst_entries.specs.Error.{number_of}
use Rattle.sst_entries.specs.Lending.{came}
use Rattle.sst_c.specs.Reported.{found_of, outcome_of}
use Rattle.sst_c.specs.What.{IsScanWhere}
use Rattle.sst_c.specs.declared.held.Held.{Held}
use Rattle.sst_c.specs.declared.held.What.{What}
use Rattle.sst_c.specs.declared.held.What.TheVariants.{Scan as ScanOf, Table}
use Rattle.sst_c.proofs.Verifying.{same_table}

-- a scan of a table deals what its blocks have
pub all_yielded : (r : Result Scan Error) (rs : List (Result Entry Error))
    → ((stops : Error → Bool) → stops OutOfMemory ≡ true →
    IfOk r (λ s. YieldsExactly (answer_stops stops) ScansNext nowhere s rs))
    → ((stops : Error → Bool) → stops OutOfMemory ≡ true →
    IfOk r (λ s. YieldsExactly (answer_stops stops) ScansLent nowhere s rs)) → IfOk r (YieldsScan rs)
unfolding YieldsScan
all_yielded (Ok s) rs yields lends = λ stops memory. (yields stops memory, lends stops memory)
all_yielded (Err e) rs yields lends = tt

-- of a list it deals the list
pub list_yielded : (r : Result Scan Error) (es : List Entry) (g : ℕ) → ScansList r es g
    → LendsList r es g → IfOk r (YieldsScan (ok_results (lift es g)))
unfolding YieldsScan
list_yielded (Ok s) es g yields lends = λ stops memory. (yields stops memory, lends stops memory)
list_yielded (Err e) es g yields lends = tt

pub all_scans : (t : OpenTable) (r : Result Scan Error) → IfOk r (IsBegunScan t)
    → IfOk r (YieldsScan (table_scan t))
    → ((es : List Entry) → StoresList t.bytes es → IfOk r (YieldsScan (ok_results (lift es t.global_seqno))))
    → IfOk r (ScansTable t)
all_scans t (Ok s) begun yields list = record { begun = begun; yields = yields; list = list }
all_scans t (Err e) begun yields list = tt

-- a scan of the table that a handle holds
pub scan_held : (o : Option Held) (w : What) (u : OpenTable) → w ≡ Table u
    → IsSomeAnd o (λ k. IsScanWhere (ScansTable u) k.what) → IsSomeAnd o (λ k. ScansHeld w k.what)
scan_held (Some k) w u is scans = record {
  scan = λ t same. subst (λ (x : OpenTable). IsScanWhere (ScansTable x) k.what) (same_table w u t is same) scans;
}
scan_held None w u is scans = absurd scans

-- and is refused for want of memory alone, where it has an entry
pub list_refused : (r : Result Scan Error) (es : List Entry) (g : ℕ) → ScansList r es g
    → 0 < length es → IfErr r (λ e. e ≡ OutOfMemory)
list_refused (Ok s) es g is some = tt
list_refused (Err e) es g is some = is some

-- what a step that finds nothing leaves is at its end
ended_behind : (s t : Scan) (answer : Option (Result Entry Error)) → ScansNext s answer t
    → found_of (outcome_of answer) ≡ None → IsEndedScan t
ended_behind s t None next none = next.ends
ended_behind s t (Some (Ok e)) next none = absurd (let no : ⊥ = cc in no)
ended_behind s t (Some (Err e)) next none = next.ends

pub ends_by : (s t : Scan) (code : ℕ) (found : Option Entry) → StepsBy ScansLent s code found t
    → found ≡ None → IsEndedScan t
ends_by s t code found is none = ended_behind s t is.0 is.1.next (sym is.3 ∙ none)

never_stops : (answer : Option (Result Entry Error)) → answer_stops (λ _. false) answer ≡ false
never_stops None = refl
never_stops (Some (Ok e)) = refl
never_stops (Some (Err e)) = refl

none_comes : (s t : Scan) (answer : Option (Result Entry Error)) → ScansNext s answer t
    → IsEndedScan s → answer ≡ None
none_comes s t answer next over =
    (next.answers.gives (λ _. false) [] (sym (ended_left s over), inl over) (never_stops answer)).0

-- a step of a scan that is at its end finds nothing, and is not refused
pub over_by : (s t : Scan) (code : ℕ) (found : Option Entry) → StepsBy ScansLent s code found t
    → IsEndedScan s → (code ≡ 0) × (found ≡ None)
over_by s t code found is over =
    let none = none_comes s t is.0 is.1.next over in (
      is.2 ∙ ap (λ (r : Option (Result Entry Error)). result_code (outcome_of r)) none,
      is.3 ∙ ap (λ (r : Option (Result Entry Error)). found_of (outcome_of r)) none,
    )

abbrev scan_or : Scan → What → Scan
scan_or s (ScanOf u) = u
scan_or s _ = s

-- a handle holds one scan
pub same_scan : (w : What) (u s : Scan) → w ≡ ScanOf u → w ≡ ScanOf s → u ≡ s
same_scan w u s is same = ap (scan_or s) (sym is) ∙ ap (scan_or s) same

-- what comes of a step that succeeds is what is lent
pub lent_comes : (lent : Option Entry) (more : Bool)
    → (0 ≡ result_code (outcome_of (came (Ok more) lent)))
    × (lent ≡ found_of (outcome_of (came (Ok more) lent)))
lent_comes None more = (refl, refl)
lent_comes (Some e) more = (refl, refl)

-- what is lent behind a step is what the step found
pub step_lent : (s t : Scan) (more : Bool) (lent : Option Entry) → ScansLent s (came (Ok more) lent) t
    → StepsBy ScansLent s 0 lent t
step_lent s t more lent step =
    let comes = lent_comes lent more in
    (came (Ok more) lent, step, comes.0, comes.1)

pub step_refused : (s t : Scan) (e : Error) (lent : Option Entry) → ScansLent s (came (Err e) lent) t
    → lent ≡ None → StepsBy ScansLent s (number_of e) lent t
step_refused s t e lent step none = (Some (Err e), step, refl, none)

pub ruleset steps = (step_lent, step_refused)
