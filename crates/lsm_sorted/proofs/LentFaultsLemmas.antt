-- A stream that lends: the errors of its source, and its end.
use Rattle.std.proofs.Common.{◌≡◌, inl, inr, refl, sym, ◌∙◌, ap, subst, Bool, true, false}
use Rattle.std.proofs.Common.{List, [], ◌∷◌, ◌++◌, append_assoc}
use Rattle.std.specs.Prelude.{Option, Some, None, Ok, Err}
use Rattle.sst_entries.specs.Stream.{answer_stops}
use Rattle.sst_entries.specs.declared.error.Error.{Error}
use Rattle.sst_entries.specs.declared.error.Error.TheVariants.{OutOfMemory}
use Rattle.lsm_sorted.specs.merge.Ends.{R}
use Rattle.lsm_sorted.specs.merge.MergeLaws.{every_error}
use Rattle.lsm_sorted.specs.Hears.{GaveEach}
use Rattle.lsm_sorted.specs.lending.LentFaults.{AllOver, AlwaysReports, CallReports, EndsIn}
use Rattle.lsm_sorted.specs.lending.LentFaults.{GaveInCalls}
use Rattle.lsm_sorted.specs.lending.LentFaults.{NextIdles, NoFaults, NothingCame, Passes, Passing}
use Rattle.lsm_sorted.specs.lending.LentFaults.{PassesAll, StaysOver, WantsItself}
use Rattle.lsm_sorted.proofs.HearsLemmas.{none_stop_append}

-- ---- answers of the source

pub no_faults_append : (ps qs : List (Option R)) → NoFaults ps → NoFaults qs → NoFaults (ps ++ qs)
no_faults_append ps qs h k = none_stop_append (answer_stops every_error) ps qs h k

pub ends_append : (r : Option R) (ps qs : List (Option R)) → NoFaults ps → EndsIn r qs
    → EndsIn r (ps ++ qs)
ends_append r ps qs none ends = (
  ps ++ ends.0,
  no_faults_append ps ends.0 none ends.1,
  ap (λ (zs : List (Option R)). ps ++ zs) ends.2 ∙ sym (append_assoc ps ends.0 (r ∷ [])),
)

pub ends_only : (r : Option R) → EndsIn r (r ∷ [])
ends_only r = ([], tt, refl)

pub came_before : (ps qs : List (Option R)) → NothingCame (ps ++ qs) → NothingCame ps
came_before [] qs h = tt
came_before (p ∷ ps) qs h = (h.0, came_before ps qs h.1)

pub came_after : (ps qs : List (Option R)) → NothingCame (ps ++ qs) → NothingCame qs
came_after [] qs h = h
came_after (p ∷ ps) qs h = came_after ps qs h.1

pub last_came : (r : Option R) (before : List (Option R)) → NothingCame (before ++ r ∷ [])
    → r ≡ None
last_came r [] h = h.0
last_came r (b ∷ before) h = last_came r before h.1

-- an error that came is not nothing
pub fault_comes : (e : Error) (answers : List (Option R)) → EndsIn (Some (Err e)) answers
    → NothingCame answers → ⊥
fault_comes e answers ends none =
    let no : Some (Err e) ≡ None = last_came (Some (Err e)) ends.0 (subst NothingCame ends.2 none)
    in absurd cc

last_fault : (e : Error) (before : List (Option R)) → NoFaults (before ++ Some (Err e) ∷ []) → ⊥
last_fault e [] h = let no : true ≡ false = h.0 in absurd cc
last_fault e (b ∷ before) h = last_fault e before h.1

-- a step on behind answers without errors
pub passing_after : (r : Option R) (ps qs : List (Option R)) → NoFaults ps → Passing r qs
    → Passing r (ps ++ qs)
passing_after None ps qs none h = no_faults_append ps qs none h
passing_after (Some (Ok x)) ps qs none h = no_faults_append ps qs none h
passing_after (Some (Err e)) ps qs none h = ends_append (Some (Err e)) ps qs none h

pub wants_after : (r : Option R) (ps qs : List (Option R)) → NoFaults ps → WantsItself r qs
    → WantsItself r (ps ++ qs)
wants_after r ps qs none h = (h.0, no_faults_append ps qs none h.1)

pub nothing_wanted : {P : Type 0} (answers : List (Option R)) → WantsItself None answers → P
nothing_wanted answers wants = let no : None ≡ Some (Err OutOfMemory) = wants.0 in absurd cc

pub live_over : {b : Bool} → b ≡ false → b ≡ true → ⊥
live_over live over = let no : false ≡ true = sym live ∙ over in absurd cc

-- no error that is passed on is the stream's own
pub passes_or_wants : (r : Option R) (answers : List (Option R)) → Passes r answers
    → WantsItself r answers → ⊥
passes_or_wants None answers passes wants = let no : None ≡ Some (Err OutOfMemory) = wants.0 in
    absurd cc
passes_or_wants (Some (Ok x)) answers passes wants =
    let no : Some (Ok x) ≡ Some (Err OutOfMemory) = wants.0 in absurd cc
passes_or_wants (Some (Err e)) answers passes wants =
    last_fault e passes.0 (subst NoFaults passes.2 wants.1)

-- ---- however often it is asked

module _ {S T : Type 0} (advances : S → Option R → S → Type 0) (source_of : T → S) (over : T → Bool)
    (quiet : T → Bool) (next : T → Option R → T → Type 0)
    (states : (s : T) (r : Option R) (t : T) → next s r t
    → CallReports advances source_of over quiet s r t) where
  abbrev Meanwhile : T → T → List (List (Option R)) → Type 0
  Meanwhile s u calls = GaveInCalls advances (source_of s) calls (source_of u)

  stays_nothing : (r : Option R) (answers : List (Option R)) (rs : List (Option R))
      (calls : List (List (Option R))) → r ≡ None → WantsItself r answers → AllOver rs calls
  stays_nothing r answers rs calls none wants =
      let no : None ≡ Some (Err OutOfMemory) = sym none ∙ wants.0 in absurd cc

  next_over : (rs : List (Option R)) (calls : List (List (Option R))) → StaysOver rs calls
      → AllOver rs calls → NextIdles rs calls
  next_over [] calls stays over = tt
  next_over (r ∷ rs) [] stays over = stays
  next_over (r ∷ rs) (answers ∷ calls) stays over = λ none. over.0.0

  all_over : (rs : List (Option R)) (s u : T) → over s ≡ true → GaveEach next s rs u
      → (calls : List (List (Option R))) × Meanwhile s u calls × AllOver rs calls
      × StaysOver rs calls
  all_over [] s u o each = ([], ap source_of each, (tt, tt), tt)
  all_over (r ∷ rs) s u o each =
      let call = (states s r each.0 each.1).ended o in
      let more = all_over rs each.0 u call.1 each.2 in (
        [] ∷ more.0,
        (source_of each.0, sym call.2, more.1),
        ((call.0, more.2.0), (refl, more.2.1)),
        (
          stays_nothing r [] rs more.0 call.0,
          λ none. next_over rs more.0 more.3 more.2,
          more.3,
        ),
      )

  all_result : (rs : List (Option R)) (s u : T) → over s ≡ false → GaveEach next s rs u
      → (calls : List (List (Option R))) × Meanwhile s u calls × PassesAll rs calls
      × StaysOver rs calls × (quiet s ≡ true → NextIdles rs calls)
  all_result [] s u o each = ([], ap source_of each, tt, tt, λ h. tt)
  all_result (r ∷ rs) s u o each =
      let call = (states s r each.0 each.1).live o in elim call.returned [
        | inl passes ↦
            let more = all_result rs each.0 u passes.1 each.2 in (
              call.answers ∷ more.0,
              (source_of each.0, call.gave, more.1),
              inl (passes.0, more.2),
              (
                λ wants. absurd (passes_or_wants r call.answers passes.0 wants),
                λ none. more.4 (call.rests none),
                more.3,
              ),
              call.idle,
            )
        | inr wants ↦
            let more = all_over rs each.0 u wants.1 each.2 in (
              call.answers ∷ more.0,
              (source_of each.0, call.gave, more.1),
              inr (wants.0, more.2),
              (
                λ w. more.2,
                λ none. next_over rs more.0 more.3 more.2,
                more.3,
              ),
              call.idle,
            )
      ]

  module _ (s : T) (live : over s ≡ false) where
    pub always_passes : AlwaysReports PassesAll advances (source_of s) source_of next s
    always_passes = record {
      of = λ rs u each. let all = all_result rs s u live each in (all.0, all.1, all.2);
    }

    pub always_stays : AlwaysReports StaysOver advances (source_of s) source_of next s
    always_stays = record {
      of = λ rs u each. let all = all_result rs s u live each in (all.0, all.1, all.3);
    }
