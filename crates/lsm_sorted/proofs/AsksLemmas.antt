-- What the asks of a merger's call mean for the lists that its sources deal.
use Rattle.std.proofs.Common.{◌≡◌, inl, inr, refl, sym, ◌∙◌, ap, subst, ℕ, zero, suc, ◌+◌, Bool}
use Rattle.std.proofs.Common.{true, false, List, [], map, length, arith}
use Rattle.std.specs.Prelude.{Option, Some, None, Result, Ok, Err, Contains, MatchResult}
use Rattle.sst_entries.specs.Entry.{Entry}
use Rattle.sst_entries.specs.declared.stream.Direction.{Direction}
use Rattle.sst_entries.specs.declared.stream.Direction.TheVariants.{Front, Back}
use Rattle.sst_entries.specs.Stream.{but_first, but_last, front_of, back_of, answer_stops}
use Rattle.sst_entries.specs.Stream.{YieldsFirst, YieldsLast}
use Rattle.sst_entries.specs.declared.error.Error.{Error}
use Rattle.lsm_sorted.specs.declared.heap.ends.Ends.{Ends}
use Rattle.lsm_sorted.specs.declared.merge.Merger.{Merger}
use Rattle.lsm_sorted.specs.merge.Ends.{R, Left, Asked, YieldsAt}
use Rattle.lsm_sorted.specs.merge.Union.{all_errors}
use Rattle.lsm_sorted.specs.merge.Merge.{entry_of, is_ready, SameRoom}
use Rattle.lsm_sorted.proofs.Kept.{Kept, whole, taken, Ready, Stands, Merging, Leaves, Took, Filled}
use Rattle.lsm_sorted.proofs.Kept.{MergeAnswer, opposite}
use Rattle.lsm_sorted.specs.merge.Asks.{Leads, Puts, error_result, entry_result, answer_result, ended_at}
use Rattle.lsm_sorted.specs.merge.Asks.{AsksSource, AsksEach, FillsIf, Fills, HoldsNone, TakesLead}
use Rattle.lsm_sorted.specs.merge.Asks.{TakesLeadIf, TakesStep, AnswersCall}
use Rattle.lsm_sorted.proofs.ReadyLemmas.{same_room, same_twice, ready_same, made_sources}
use Rattle.lsm_sorted.proofs.ReadyLemmas.{made_heap}
use Rattle.lsm_sorted.proofs.ReadyLemmas.{made_now, made_other, made_failed}
use Rattle.lsm_sorted.proofs.EndsLemmas.{none_first}
use Rattle.lsm_sorted.proofs.TakeLemmas.{none_last, front_ok, front_none, front_err, back_ok}
use Rattle.lsm_sorted.proofs.TakeLemmas.{back_none, back_err}
use Rattle.lsm_sorted.proofs.FillLemmas.{filled_none, filled_more, merging_filled}
use Rattle.lsm_sorted.proofs.StepLemmas.{none_left, others, front_stands, front_free, front_errors}
use Rattle.lsm_sorted.proofs.StepLemmas.{front_gives, back_stands, back_free, back_errors}
use Rattle.lsm_sorted.proofs.StepLemmas.{back_gives, leaves_merging, merging_leaves, leaves_nothing}

-- ---- what stays

pub each_same : {S A : Type 0} (ask : S → Option R → S → Type 0) (end : Direction) (i : ℕ)
    (s t : Merger S A) → AsksEach ask end i s t → SameRoom s t
each_same ask end zero s t e = rw e (same_room s)
each_same ask end (suc i) s t e = same_twice s e.0 t (each_same ask end i s e.0 e.1) e.2.same

pub fills_ready : {S A : Type 0} (ask : S → Option R → S → Type 0) (end : Direction) (u : Unit {0})
    (s t : Merger S A) → Fills ask end s (Ok u) t → is_ready end t ≡ true
fills_ready ask end u s t f = go (is_ready end s) refl f.fill
  where
    go : (b : Bool) → is_ready end s ≡ b → FillsIf ask end b s (Ok u) t → is_ready end t ≡ true
    go true e k = ap (is_ready end) k.1 ∙ e
    go false e k = ap (is_ready end) k.ready ∙ made_now end k.last

pub fills_other : {S A : Type 0} (ask : S → Option R → S → Type 0) (end : Direction) (u : Unit {0})
    (s t : Merger S A) → Fills ask end s (Ok u) t
    → is_ready (opposite end) t ≡ is_ready (opposite end) s
fills_other ask end u s t f = go (is_ready end s) refl f.fill
  where
    go : (b : Bool) → is_ready end s ≡ b → FillsIf ask end b s (Ok u) t
        → is_ready (opposite end) t ≡ is_ready (opposite end) s
    go true e k = ap (is_ready (opposite end)) k.1
    go false e k = ap (is_ready (opposite end)) k.ready ∙ made_other end k.last
        ∙ ready_same (opposite end) s k.last (each_same ask end
        (length s.sources.items) s k.last k.each)

fills_failed : {S A : Type 0} (ask : S → Option R → S → Type 0) (end : Direction)
    (r : Result (Unit {0}) Error) (s t : Merger S A) → Fills ask end s r t → t.failed ≡ s.failed
fills_failed {S = S} {A = A} ask end r s t f = go (is_ready end s) r f.fill
  where
    go : (b : Bool) (q : Result (Unit {0}) Error) → FillsIf ask end b s q t → t.failed ≡ s.failed
    go true q k = ap (λ (m : Merger S A). m.failed) k.1
    go false (Ok u) k = ap (λ (m : Merger S A). m.failed) k.ready ∙ made_failed end k.last
        ∙ (each_same ask end (length s.sources.items) s k.last k.each).failed
    go false (Err e) k = k.fails.same.failed ∙ (each_same ask end k.place s k.before k.each).failed

pub steps_failed : {S A : Type 0} (ask : S → Option R → S → Type 0) (end : Direction)
    (r : Result (Option Entry) Error) (s t : Merger S A) → TakesStep ask end s r t
    → t.failed ≡ s.failed
steps_failed {S = S} {A = A} ask end r s t k = go k.fill k.turns
    ∙ fills_failed ask end k.fill s k.filled k.fills
  where
    go : (q : Result (Unit {0}) Error) → TakesLeadIf ask end q k.filled r t
        → t.failed ≡ k.filled.failed
    go (Ok u) turns = elim turns [
      | inl none ↦ none.1.same.failed
      | inr turn ↦ turn.asks.same.failed
          ∙ turn.pops.same.failed
    ]
    go (Err e) turns = ap (λ (m : Merger S A). m.failed) turns.1

-- ---- what is dealt

abbrev pub end_of : Direction → List Entry → Option Entry × List Entry
end_of Front = front_of
end_of Back = back_of

pub ended_end : (b : Direction) → (end_of b []).0 ≡ None
ended_end Front = refl
ended_end Back = refl

over_at : (b : Direction) (xs : List Entry) → None ≡ (end_of b xs).0
    → (xs ≡ []) × ((end_of b xs).1 ≡ [])
over_at Front xs e = let none = none_first xs e in (none, ap but_first none)
over_at Back xs e = let none = none_last xs e in (none, ap but_last none)

module _ {S A : Type 0} (stops : Error → Bool) (front back : S → Option R → S → Type 0) where
  module _ (ask : S → Option R → S → Type 0) (end : Direction)
      (means : (s : Ends S) (r : Option R) (t : Ends S) → Asked ask s r t
      → YieldsAt end stops (Left stops front back) s r t) where
    abbrev TookOr : ℕ → List Kept → Result (Unit {0}) Error → Merger S A → Type 0
    TookOr i ks r t = MatchResult r (λ _. Took stops front back end i ks t)
        (λ e. stops e ≡ false → Contains (all_errors (map whole ks)) e)

    -- an ask takes the entry of the end, or tells an error that is to come
    pub asks_took : (i : ℕ) (s t : Merger S A) (r : Result (Unit {0}) Error)
        → AsksSource ask end i s r t → (ks : List Kept) → Stands stops front back s ks
        → taken ks i end ≡ None → TookOr i ks r t
    asks_took i s t r a ks stands free = subst (λ (q : Result (Unit {0}) Error). TookOr i ks q t)
        (sym a.returned) (by_end end (means a.was a.answer a.is a.asked) a.puts free)
      where
        at_front : (o : Option R) → YieldsFirst stops (Left stops front back) a.was o a.is
            → Puts Front i o s.heap.items t.heap.items → taken ks i Front ≡ None
            → MatchResult (error_result o) (λ _. Took stops front back Front i ks t)
            (λ e. stops e ≡ false → Contains (all_errors (map whole ks)) e)
        at_front None d p none = front_none stops front back s i a.within a.was a.is a.found ks
            stands t a.written d p
        at_front (Some (Ok x)) d p none = front_ok stops front back s i a.within a.was a.is a.found
            ks stands t a.written x p.0 d p.4 p.1 p.2 p.3 none
        at_front (Some (Err e)) d p none = front_err stops front back s i a.within a.was a.is
            a.found ks stands e d

        at_back : (o : Option R) → YieldsLast stops (Left stops front back) a.was o a.is
            → Puts Back i o s.heap.items t.heap.items → taken ks i Back ≡ None
            → MatchResult (error_result o) (λ _. Took stops front back Back i ks t)
            (λ e. stops e ≡ false → Contains (all_errors (map whole ks)) e)
        at_back None d p none = back_none stops front back s i a.within a.was a.is a.found ks stands
            t a.written d p
        at_back (Some (Ok x)) d p none = back_ok stops front back s i a.within a.was a.is a.found ks
            stands t a.written x p.0 d p.4 p.1 p.2 p.3 none
        at_back (Some (Err e)) d p none = back_err stops front back s i a.within a.was a.is a.found
            ks stands e d

        by_end : (b : Direction) → YieldsAt b stops (Left stops front back) a.was a.answer a.is
            → Puts b i a.answer s.heap.items t.heap.items → taken ks i b ≡ None
            → MatchResult (error_result a.answer) (λ _. Took stops front back b i ks t)
            (λ e. stops e ≡ false → Contains (all_errors (map whole ks)) e)
        by_end Front d p none = at_front a.answer d p none
        by_end Back d p none = at_back a.answer d p none

    pub each_filled : (i : ℕ) (ks : List Kept) (s t : Merger S A) → AsksEach ask end i s t
        → Stands stops front back s ks → Ready false end ks → Filled stops front back end i ks t
    each_filled zero ks s t e stands none = rw e (filled_none stops front back end ks s stands none)
    each_filled (suc i) ks s t e stands none =
        let f = each_filled i ks s e.0 e.1 stands none in
        let more : i + 1 ≡ suc i = omega arith in
        subst (λ (n : ℕ). Filled stops front back end n ks t) more
        (filled_more stops front back end i ks e.0 t f
        (asks_took i e.0 t (Ok tt) e.2 f.kept f.stands (f.free i (omega arith))))

    abbrev MergingOr : List Entry → List Error → Result (Unit {0}) Error → Merger S A → Type 0
    MergingOr xs errors r t = MatchResult r (λ _. Merging stops front back t xs errors)
        (λ e. stops e ≡ false → Contains errors e)

    -- a fill changes nothing of what is dealt
    pub fills_merging : (s t : Merger S A) (r : Result (Unit {0}) Error) (xs : List Entry)
        (errors : List Error) → Fills ask end s r t → Merging stops front back s xs errors
        → MergingOr xs errors r t
    fills_merging s t r xs errors f was = go (is_ready end s) refl r f.fill
      where
        go : (b : Bool) → is_ready end s ≡ b → (q : Result (Unit {0}) Error)
            → FillsIf ask end b s q t → MergingOr xs errors q t
        go true e q k = rw (k.0, k.1) was
        go false e (Ok u) k =
            let none : Ready false end was.kept = subst (λ (f : Bool). Ready f end was.kept) e
            (was.ready end) in
            let same = each_same ask end (length s.sources.items) s k.last k.each in
            let filled = each_filled (length s.sources.items) was.kept s k.last k.each was.stands
            none in
            merging_filled stops front back end s k.last t xs errors was
            (length s.sources.items) filled (sym same.count)
            (ap (λ (m : Merger S A). m.sources) k.ready ∙ made_sources end k.last)
            (ap (λ (m : Merger S A). m.heap) k.ready ∙ made_heap end k.last)
            (ap (is_ready end) k.ready ∙ made_now end k.last)
            (ap (is_ready (opposite end)) k.ready ∙ made_other end k.last
            ∙ ready_same (opposite end) s k.last same)
        go false e (Err x) k =
            let none : Ready false end was.kept = subst (λ (f : Bool). Ready f end was.kept) e
            (was.ready end) in
            let filled = each_filled k.place was.kept s k.before k.each was.stands none in
            λ fine. subst (λ (es : List Error). Contains es x)
            (ap all_errors filled.wholes ∙ sym was.faults)
            (asks_took k.place k.before t (Err x) k.fails filled.kept filled.stands
            (filled.free k.place (omega arith)) fine)

    abbrev StepOr : List Entry → List Error → Result (Option Entry) Error → Merger S A → Type 0
    StepOr xs errors r t = MatchResult r (λ o. (o ≡ (end_of end xs).0)
        × Merging stops front back t (end_of end xs).1 errors × (o ≡ None → errors ≡ []))
        (λ e. stops e ≡ false → Contains errors e)

    none_steps : (s t : Merger S A) (r : Result (Option Entry) Error) (xs : List Entry)
        (errors : List Error) → is_ready end s ≡ true → (r ≡ Ok None) × HoldsNone s t
        → Merging stops front back s xs errors → StepOr xs errors r t
    none_steps s t r xs errors now h was =
        let none = none_left stops front back s t xs errors was end now h.1.was h.1.is
        h.1.same.sources h.1.same.front_ready h.1.same.back_ready in
        rw (h.0, none.0) (
          by_end end,
          subst (λ (p : Option Entry × List Entry). Merging stops front
              back t p.1 errors) (sym (nothing end)) none.2,
          λ _. none.1,
        )
      where
        by_end : (b : Direction) → None ≡ (end_of b []).0
        by_end Front = refl
        by_end Back = refl

        nothing : (b : Direction) → end_of b [] ≡ (None, [])
        nothing Front = refl
        nothing Back = refl

    module _ (s t : Merger S A) (r : Result (Option Entry) Error) (xs : List Entry)
        (errors : List Error) (k : TakesLead ask end s r t)
        (was : Merging stops front back s xs errors) where
      abbrev left : List Kept
      left = others stops front back s k.mid xs errors was k.lead k.pops.left k.pops.same.sources

      front_turn : end ≡ Front → Leads Front k.lead s.heap.items → s.front_ready ≡ true
          → (answer : Result (Unit {0}) Error) → TookOr k.lead.source left answer t
          → SameRoom k.mid t
          → MatchResult (entry_result (entry_of k.lead) answer)
          (λ o. (o ≡ (front_of xs).0) × Merging stops front back t (front_of xs).1 errors
          × (o ≡ None → errors ≡ [])) (λ e. stops e ≡ false → Contains errors e)
      front_turn is leads now (Ok u) took same =
          front_gives stops front back s k.mid xs errors was k.lead k.pops.left k.pops.same.sources
          leads now t (subst (λ (b : Direction). Took stops front back b k.lead.source left t)
          is took) (same.front_ready ∙ k.pops.same.front_ready ∙ now)
          (same.back_ready ∙ k.pops.same.back_ready)
      front_turn is leads now (Err e) took same =
          λ fine. subst (λ (es : List Error). Contains es e)
          (front_errors stops front back s k.mid xs errors was k.lead k.pops.left
          k.pops.same.sources leads now) (took fine)

      back_turn : end ≡ Back → Leads Back k.lead s.heap.items → s.back_ready ≡ true
          → (answer : Result (Unit {0}) Error) → TookOr k.lead.source left answer t
          → SameRoom k.mid t
          → MatchResult (entry_result (entry_of k.lead) answer)
          (λ o. (o ≡ (back_of xs).0) × Merging stops front back t (back_of xs).1 errors
          × (o ≡ None → errors ≡ [])) (λ e. stops e ≡ false → Contains errors e)
      back_turn is leads now (Ok u) took same =
          back_gives stops front back s k.mid xs errors was k.lead k.pops.left k.pops.same.sources
          leads now t (subst (λ (b : Direction). Took stops front back b k.lead.source left t)
          is took) (same.back_ready ∙ k.pops.same.back_ready ∙ now)
          (same.front_ready ∙ k.pops.same.front_ready)
      back_turn is leads now (Err e) took same = λ fine. subst (λ (es : List Error). Contains es e)
          (back_errors stops front back s k.mid xs errors was k.lead k.pops.left k.pops.same.sources
          leads now) (took fine)

      turn_steps : is_ready end s ≡ true → StepOr xs errors r t
      turn_steps now = subst (λ (q : Result (Option Entry) Error). StepOr xs errors q t)
          (sym k.returned) (go end refl)
        where
          go : (b : Direction) → end ≡ b → StepOr xs errors
              (entry_result (entry_of k.lead) k.answer) t
          go Front e =
              let leads : Leads Front k.lead s.heap.items =
              subst (λ (b : Direction). Leads b k.lead s.heap.items) e k.pops.leads in
              let ready : s.front_ready ≡ true = subst
              (λ (b : Direction). is_ready b s ≡ true) e now in
              let stand = front_stands stops front back s k.mid xs errors was k.lead k.pops.left
              k.pops.same.sources leads ready in
              let free : taken left k.lead.source end ≡ None =
              subst (λ (b : Direction). taken left k.lead.source b ≡ None) (sym e)
              (front_free stops front back s k.mid xs errors was k.lead k.pops.left
              k.pops.same.sources leads ready) in
              subst (λ (b : Direction). MatchResult (entry_result (entry_of k.lead) k.answer)
              (λ o. (o ≡ (end_of b xs).0) × Merging stops front back t (end_of b xs).1 errors
              × (o ≡ None → errors ≡ [])) (λ e. stops e ≡ false → Contains errors e)) (sym e)
              (front_turn e leads ready k.answer (asks_took k.lead.source k.mid t k.answer k.asks
              left stand free) k.asks.same)
          go Back e =
              let leads : Leads Back k.lead s.heap.items =
              subst (λ (b : Direction). Leads b k.lead s.heap.items) e k.pops.leads in
              let ready : s.back_ready ≡ true = subst
              (λ (b : Direction). is_ready b s ≡ true) e now in
              let stand = back_stands stops front back s k.mid xs errors was k.lead k.pops.left
              k.pops.same.sources leads ready in
              let free : taken left k.lead.source end ≡ None =
              subst (λ (b : Direction). taken left k.lead.source b ≡ None) (sym e)
              (back_free stops front back s k.mid xs errors was k.lead k.pops.left
              k.pops.same.sources leads ready) in
              subst (λ (b : Direction). MatchResult (entry_result (entry_of k.lead) k.answer)
              (λ o. (o ≡ (end_of b xs).0) × Merging stops front back t (end_of b xs).1 errors
              × (o ≡ None → errors ≡ [])) (λ e. stops e ≡ false → Contains errors e)) (sym e)
              (back_turn e leads ready k.answer (asks_took k.lead.source k.mid t k.answer k.asks
              left stand free) k.asks.same)

    -- a step gives the entry of the end and leaves the others
    pub steps_merging : (s t : Merger S A) (r : Result (Option Entry) Error) (xs : List Entry)
        (errors : List Error) → TakesStep ask end s r t → Merging stops front back s xs errors
        → StepOr xs errors r t
    steps_merging s t r xs errors k was = go k.fill k.fills k.turns
      where
        go : (q : Result (Unit {0}) Error) → Fills ask end s q k.filled
            → TakesLeadIf ask end q k.filled r t → StepOr xs errors r t
        go (Ok u) f turns =
            let now = fills_ready ask end u s k.filled f in
            let merging = fills_merging s k.filled (Ok u) xs errors f was in
            elim turns [
              | inl none ↦ none_steps k.filled t r xs errors now none merging
              | inr turn ↦ turn_steps k.filled t r xs errors turn merging now
            ]
        go (Err e) f turns = rw turns.0 (fills_merging s k.filled (Err e) xs errors f was)

    -- one call
    pub answers_leave : (s t : Merger S A) (r : Option R) (xs : List Entry) (errors : List Error)
        → s.failed ≡ false → AnswersCall ask end s r t → Leaves stops front back s xs errors
        → answer_stops stops r ≡ false → MergeAnswer (Leaves stops front back)
        (end_of end xs) errors r t
    answers_leave s t r xs errors fine k leaves ok =
        let step = steps_merging s k.led k.step xs errors k.steps
        (leaves_merging stops front back s fine xs errors leaves) in
        rw (k.answer, k.state) (go k.step step (rw (← k.answer) ok))
      where
        fine' : k.led.failed ≡ false
        fine' = steps_failed ask end k.step s k.led k.steps ∙ fine

        go : (q : Result (Option Entry) Error) → StepOr xs errors q k.led
            → answer_stops stops (answer_result q) ≡ false
            → MergeAnswer (Leaves stops front back) (end_of end xs) errors (answer_result q)
            (ended_at q k.led)
        go (Ok None) step ok =
            let over = over_at end xs step.0 in (
              sym step.0,
              step.2 refl,
              leaves_nothing stops front back k.led fine' xs
                  (end_of end xs).1 errors over.0 (over.1 ∙ sym over.0) (step.2 refl) step.1,
            )
        go (Ok (Some x)) step ok = (
          sym step.0,
          merging_leaves stops front back k.led fine'
              (end_of end xs).1 errors step.1,
        )
        go (Err e) step ok = (step ok, record { parts = (refl, refl) })
