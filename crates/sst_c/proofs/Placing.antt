-- What a read finds whose entry is kept by its position. Assumes `Logic`.
use Rattle.std.proofs.Common.{◌≡◌, ℕ, zero, suc, ◌⊎◌, ◌++◌, List, [], ◌∷◌, Bool, true, false, refl, sym, ap, ◌∙◌, inl, inr, subst, append-nil}
use Rattle.std.specs.Prelude.{Option, Some, None, Result, Ok, Err, IfOk, IfSome, is_some, slice_get}
use Rattle.std.specs.Option.{option_and_then, option_map}
use Rattle.sst_entries.specs.Entry.{Entry}
use Rattle.sst_entries.specs.Error.{Gives}
use Rattle.sst_entries.specs.declared.error.Error.{Error}
use Rattle.sst_blocks.specs.EntryPlace.{IsPlacedIn, entry_placed}
use Rattle.sst_blocks.specs.declared.entry_place.EntryPlace.{EntryPlace}
use Rattle.lsm_readers.proofs.LentReads.{placed_there}
use Rattle.lsm_readers.specs.point.Table.{OpenTable}
use Rattle.lsm_runs.specs.RunPlaces.{placed_in_run, placed_in_runs}
use Rattle.lsm_runs.specs.declared.lent_gets.RunPlace.{RunPlace}
use Rattle.sst_c.proofs.Answering.{answers}
use Rattle.sst_c.proofs.Verifying.{same_table}
use Rattle.sst_c.specs.Codes.{result_code}
use Rattle.sst_c.specs.Reported.{AnswersRead, found_at, is_settled, kept_in_runs, kept_in_table}
use Rattle.sst_c.specs.What.{runs_held}
use Rattle.sst_c.specs.declared.held.FoundEntry.{FoundEntry}
use Rattle.sst_c.specs.declared.held.FoundEntry.TheVariants.{InRuns, InTable, Kept, Lent}
use Rattle.sst_c.specs.declared.held.What.{What}
use Rattle.sst_c.specs.declared.held.What.TheVariants.{Runs, Table}

-- a read whose position is kept answers what is told
kept_answers : (t : OpenTable) (r : Result (Option EntryPlace) Error) (returned : Result (Option Entry) Error)
    → Gives (option_map (entry_placed t.bytes)) r returned → IfOk r (λ o. IfSome o (IsPlacedIn t.bytes))
    → AnswersRead (result_code r) (found_at (kept_in_table r) (Table t)) returned
kept_answers t (Ok None) returned gives within = answers (Ok None) returned gives
kept_answers t (Ok (Some p)) returned gives within =
    subst (λ (o : Option Entry). AnswersRead 0 o returned) (sym (placed_there t.bytes p within))
    (answers (Ok (Some (entry_placed t.bytes p))) returned gives)
kept_answers t (Err e) returned fails within = answers (Err e) returned fails

pub place_answers : (t : OpenTable) (r : Result (Option EntryPlace) Error) (returned : Result (Option Entry) Error)
    (code : ℕ) (found : FoundEntry) → code ≡ result_code r → found ≡ kept_in_table r
    → Gives (option_map (entry_placed t.bytes)) r returned → IfOk r (λ o. IfSome o (IsPlacedIn t.bytes))
    → AnswersRead code (found_at found (Table t)) returned
place_answers t r returned code found same is gives within =
    subst (λ (n : ℕ). AnswersRead n (found_at found (Table t)) returned) (sym same)
    (subst (λ (f : FoundEntry). AnswersRead (result_code r) (found_at f (Table t)) returned) (sym is)
    (kept_answers t r returned gives within))

-- what holds of a table holds of what holds the table
pub at_table : (P : What → OpenTable → Type 0) (w : What) (table t : OpenTable) → w ≡ Table table
    → w ≡ Table t → P (Table table) table → P w t
at_table P w table t is same holds =
    subst (P w) (same_table w table t is same) (subst (λ (v : What). P v table) (sym is) holds)

-- so it is of a read of runs
kept_answers_of : (rs : List (List OpenTable)) (r : Result (Option RunPlace) Error)
    (returned : Result (Option Entry) Error) → Gives (option_and_then (placed_in_runs rs)) r returned
    → AnswersRead (result_code r) (found_at (kept_in_runs r) (Runs rs)) returned
kept_answers_of rs (Ok None) returned gives = answers (Ok None) returned gives
kept_answers_of rs (Ok (Some p)) returned gives = answers (Ok (placed_in_runs rs p)) returned gives
kept_answers_of rs (Err e) returned fails = answers (Err e) returned fails

pub run_place_answers : (rs : List (List OpenTable)) (r : Result (Option RunPlace) Error)
    (returned : Result (Option Entry) Error) (code : ℕ) (found : FoundEntry) → code ≡ result_code r
    → found ≡ kept_in_runs r → Gives (option_and_then (placed_in_runs rs)) r returned
    → AnswersRead code (found_at found (Runs rs)) returned
run_place_answers rs r returned code found same is gives =
    subst (λ (n : ℕ). AnswersRead n (found_at found (Runs rs)) returned) (sym same)
    (subst (λ (f : FoundEntry). AnswersRead (result_code r) (found_at f (Runs rs)) returned) (sym is)
    (kept_answers_of rs r returned gives))

-- what holds of runs holds of what holds the runs
pub at_runs : (P : What → List (List OpenTable) → Type 0) (w : What) (rs : List (List OpenTable))
    → w ≡ Runs rs → P (Runs rs) rs → P w (runs_held w)
at_runs P w rs is holds = subst (λ (v : What). P v (runs_held v)) (sym is) holds

-- where runs have an entry, the same runs and more have it
stays_at : (f : List OpenTable → Option Entry) (rs more : List (List OpenTable)) (i : ℕ)
    → is_some (option_and_then f (slice_get rs i)) ≡ true
    → option_and_then f (slice_get (rs ++ more) i) ≡ option_and_then f (slice_get rs i)
stays_at f [] more i some = absurd (let no : ⊥ = cc in no)
stays_at f (r ∷ rs) more zero some = refl
stays_at f (r ∷ rs) more (suc i) some = stays_at f rs more i some

pub settled_stays : (f : FoundEntry) (rs more : List (List OpenTable)) → is_settled f rs ≡ true
    → found_at f (Runs (rs ++ more)) ≡ found_at f (Runs rs)
settled_stays (Kept x) rs more is = refl
settled_stays Lent rs more is = refl
settled_stays (InTable p) rs more is = refl
settled_stays (InRuns p) rs more is = stays_at (λ tables. placed_in_run tables p) rs more p.run is

none_there : (o : Option Entry) → is_some o ≡ false → None ≡ o
none_there None none = refl
none_there (Some e) none = absurd (let no : ⊥ = cc in no)

pub unsettled_none : (f : FoundEntry) (rs : List (List OpenTable)) → is_settled f rs ≡ false
    → None ≡ found_at f (Runs rs)
unsettled_none (Kept x) rs is = absurd (let no : ⊥ = cc in no)
unsettled_none Lent rs is = absurd (let no : ⊥ = cc in no)
unsettled_none (InTable p) rs is = absurd (let no : ⊥ = cc in no)
unsettled_none (InRuns p) rs is = none_there (placed_in_runs rs p) is

pub ruleset settled = (settled_stays, unsettled_none)

-- what was found stays, whether a run was added or not
pub found_added : (f g : FoundEntry) (w : What) (rs now more : List (List OpenTable)) → w ≡ Runs rs
    → ((m : List (List OpenTable)) → found_at g (Runs (rs ++ m)) ≡ found_at f (Runs rs))
    → (now ≡ rs) ⊎ (now ≡ rs ++ more) → found_at g (Runs now) ≡ found_at f w
found_added f g w rs now more is stays one =
    let seen : List (List OpenTable) → Option Entry = λ l. found_at g (Runs l) in
    let before : found_at f (Runs rs) ≡ found_at f w = ap (found_at f) (sym is) in
    elim one [
      | inl same ↦ ap seen (same ∙ sym (append-nil rs)) ∙ stays [] ∙ before
      | inr same ↦ ap seen same ∙ stays more ∙ before
    ]
