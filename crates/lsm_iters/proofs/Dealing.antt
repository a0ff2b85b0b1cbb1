-- Whatever keeps what is left deals it, at any ends, up to the first error.
use Rattle.std.proofs.Common.{◌≡◌, false, List, [], ◌∷◌, map, refl, sym, subst, ap, ◌∙◌, ℕ, arith}
use Rattle.std.specs.Prelude.{Option, Some, None, Result, Ok, Err, MatchOption, MatchResult}
use Rattle.std.specs.List.{AllByRecursion}
use Rattle.sst_entries.specs.declared.error.Error.{Error}
use Rattle.sst_entries.specs.declared.stream.Direction.{Direction}
use Rattle.sst_entries.specs.declared.stream.Direction.TheVariants.{Front, Back}
use Rattle.sst_entries.specs.Error.{is_memory}
use Rattle.sst_entries.specs.Stream.{but_first, but_last, front_of, back_of, yield_each, answer_stops}
use Rattle.sst_entries.specs.Stream.{EndAtError, NoneStops, Runs}
use Rattle.sst_entries.proofs.StreamLemmas.{can_by}
use Rattle.lsm_iters.specs.block_index.Yielded.{YieldsEnding, ended_at_error}
use Rattle.lsm_iters.specs.block_index.Left.{CountsLoads, IsEnded, Left, LeftGives, StaysEnded}
use Rattle.lsm_iters.specs.block_index.Left.{with_index_loads}
use Rattle.lsm_iters.proofs.IndexAtEnds.{R, End}

-- an end of a list
abbrev EndOf : Type 0 → Type 0
EndOf Y = List Y → Option Y × List Y

-- an end deals nothing of nothing
abbrev EndsAtNone : {Y : Type 0} → EndOf Y → Type 0
EndsAtNone of = (of []).0 ≡ None

-- an answer at an end of what a state still deals, where one may tell that all is over
abbrev pub AnswersAt : {S X : Type 0} → (S → List (Result X Error)) → (S → Type 0)
    → (List (Result X Error) → Option (Result X Error) × List (Result X Error)) → S
    → Option (Result X Error) → S → Type 0
AnswersAt left Over end s None t = (left s ≡ []) × Over t
AnswersAt left Over end s (Some (Ok x)) t = end (left s) ≡ (Some (Ok x), left t)
AnswersAt left Over end s (Some (Err e)) t = (is_memory e ≡ false → (end (left s)).0 ≡ Some (Err e))
    × (Over s → ⊥)

-- one call at an end; an error ends all
pub record Ending {S X : Type 0} (left : S → List (Result X Error)) (Over : S → Type 0)
    (end : List (Result X Error) → Option (Result X Error) × List (Result X Error)) (s : S)
    (r : Option (Result X Error)) (t : S) : Type 0 where
  pub answer : AnswersAt left Over end s r t
  pub ends : MatchOption r (Unit {0}) (λ x. MatchResult x (λ _. Unit {0}) (λ _. Over t))

module _ {S X : Type 0} (left : S → List (Result X Error)) (Over : S → Type 0)
    (nothing : (s : S) → Over s → left s ≡ []) where
  -- once all is over, a call answers `None`, and all stays over
  over_step : (of : EndOf (Result X Error)) (s t : S) (r : Option (Result X Error)) → EndsAtNone of
      → Over s → Ending left Over of s r t → (r ≡ None) × Over t
  over_step of s t None none over step = (refl, step.answer.1)
  over_step of s t (Some (Ok h)) none over step =
      let wrong : Some (Ok h) ≡ None = sym (ap (λ (x : Option (Result X Error)
      × List (Result X Error)). x.0) step.answer)
      ∙ ap (λ (rs : List (Result X Error)). (of rs).0) (nothing s over) ∙ none in
      absurd cc
  over_step of s t (Some (Err e)) none over step = absurd (step.answer.1 over)

module _ {S X : Type 0} (left : S → List (Result X Error)) (Over : S → Type 0)
    (nothing : (s : S) → Over s → left s ≡ [])
    (front back : S → Option (Result X Error) → S → Type 0)
    (to_front : (s : S) (r : Option (Result X Error)) (t : S) → front s r t
    → Ending left Over front_of s r t)
    (to_back : (s : S) (r : Option (Result X Error)) (t : S) → back s r t
    → Ending left Over back_of s r t) where
  over_along : (ends : List Direction) (rs : List (Option (Result X Error))) (s t : S)
      (xs : List (Result X Error)) → Over s → Runs front back s ends rs t
      → rs ≡ map (λ _. None) (yield_each xs ends)
  over_along [] [] s t xs over runs = refl
  over_along [] (r ∷ rs) s t xs over runs = absurd runs
  over_along (e ∷ ends) [] s t xs over runs = absurd runs
  over_along (Front ∷ ends) (r ∷ rs) s t xs over runs =
      let one = over_step left Over nothing front_of s runs.0 r refl over
      (to_front s r runs.0 runs.1) in
      let more = over_along ends rs runs.0 t (but_first xs) one.1 runs.2 in
      cc (one.0, more)
  over_along (Back ∷ ends) (r ∷ rs) s t xs over runs =
      let one = over_step left Over nothing back_of s runs.0 r refl over
      (to_back s r runs.0 runs.1) in
      let more = over_along ends rs runs.0 t (but_last xs) one.1 runs.2 in
      cc (one.0, more)

  none_along : (ends : List Direction) (rs : List (Option (Result X Error))) (s t : S) → Over s
      → Runs front back s ends rs t → AllByRecursion (λ r. r ≡ None) rs
  none_along [] [] s t over runs = tt
  none_along [] (r ∷ rs) s t over runs = absurd runs
  none_along (e ∷ ends) [] s t over runs = absurd runs
  none_along (Front ∷ ends) (r ∷ rs) s t over runs =
      let one = over_step left Over nothing front_of s runs.0 r refl over
      (to_front s r runs.0 runs.1) in (one.0, none_along ends rs runs.0 t one.1 runs.2)
  none_along (Back ∷ ends) (r ∷ rs) s t over runs =
      let one = over_step left Over nothing back_of s runs.0 r refl over
      (to_back s r runs.0 runs.1) in (one.0, none_along ends rs runs.0 t one.1 runs.2)

  end_along : (ends : List Direction) (rs : List (Option (Result X Error))) (s t : S)
      → Runs front back s ends rs t → EndAtError rs
  end_along [] [] s t runs = tt
  end_along [] (r ∷ rs) s t runs = absurd runs
  end_along (e ∷ ends) [] s t runs = absurd runs
  end_along (e ∷ ends) (None ∷ rs) s t runs = end_along ends rs runs.0 t runs.2
  end_along (e ∷ ends) (Some (Ok x) ∷ rs) s t runs = end_along ends rs runs.0 t runs.2
  end_along (Front ∷ ends) (Some (Err e) ∷ rs) s t runs =
      none_along ends rs runs.0 t (to_front s (Some (Err e)) runs.0 runs.1).ends runs.2
  end_along (Back ∷ ends) (Some (Err e) ∷ rs) s t runs =
      none_along ends rs runs.0 t (to_back s (Some (Err e)) runs.0 runs.1).ends runs.2

  -- the answers are those that are dealt
  along : (ends : List Direction) (rs : List (Option (Result X Error))) (s t : S)
      → Runs front back s ends rs t → NoneStops (answer_stops is_memory) rs
      → rs ≡ ended_at_error (yield_each (left s) ends)
  along [] [] s t runs fine = refl
  along [] (r ∷ rs) s t runs fine = absurd runs
  along (e ∷ ends) [] s t runs fine = absurd runs
  along (Front ∷ ends) (None ∷ rs) s t runs fine =
      let step = to_front s None runs.0 runs.1 in
      let more : rs ≡ ended_at_error (yield_each [] ends) = along ends rs runs.0 t runs.2 fine.1
      ∙ ap (λ (zs : List (Result X Error)). ended_at_error (yield_each zs ends))
      (nothing runs.0 step.answer.1) in
      ap (λ (qs : List (Option (Result X Error))). None ∷ qs) more
      ∙ sym (ap (λ (zs : List (Result X Error)). ended_at_error (yield_each zs (Front ∷ ends)))
      step.answer.0)
  along (Front ∷ ends) (Some (Ok h) ∷ rs) s t runs fine =
      let step = to_front s (Some (Ok h)) runs.0 runs.1 in
      let more = along ends rs runs.0 t runs.2 fine.1 in
      ap (λ (qs : List (Option (Result X Error))). Some (Ok h) ∷ qs) more
      ∙ sym (ap (λ (x : Option (Result X Error) × List (Result X Error)). ended_at_error
      (x.0 ∷ yield_each x.1 ends)) step.answer)
  along (Front ∷ ends) (Some (Err e) ∷ rs) s t runs fine =
      let step = to_front s (Some (Err e)) runs.0 runs.1 in
      let xs = left s in
      let more = over_along ends rs runs.0 t (but_first xs) step.ends runs.2 in
      ap (λ (qs : List (Option (Result X Error))). Some (Err e) ∷ qs) more
      ∙ sym (ap (λ (r : Option (Result X Error)). ended_at_error (r ∷ yield_each (but_first xs) ends))
      (step.answer.0 fine.0))
  along (Back ∷ ends) (None ∷ rs) s t runs fine =
      let step = to_back s None runs.0 runs.1 in
      let more : rs ≡ ended_at_error (yield_each [] ends) = along ends rs runs.0 t runs.2 fine.1
      ∙ ap (λ (zs : List (Result X Error)). ended_at_error (yield_each zs ends))
      (nothing runs.0 step.answer.1) in
      ap (λ (qs : List (Option (Result X Error))). None ∷ qs) more
      ∙ sym (ap (λ (zs : List (Result X Error)). ended_at_error (yield_each zs (Back ∷ ends)))
      step.answer.0)
  along (Back ∷ ends) (Some (Ok h) ∷ rs) s t runs fine =
      let step = to_back s (Some (Ok h)) runs.0 runs.1 in
      let more = along ends rs runs.0 t runs.2 fine.1 in
      ap (λ (qs : List (Option (Result X Error))). Some (Ok h) ∷ qs) more
      ∙ sym (ap (λ (x : Option (Result X Error) × List (Result X Error)). ended_at_error
      (x.0 ∷ yield_each x.1 ends)) step.answer)
  along (Back ∷ ends) (Some (Err e) ∷ rs) s t runs fine =
      let step = to_back s (Some (Err e)) runs.0 runs.1 in
      let xs = left s in
      let more = over_along ends rs runs.0 t (but_last xs) step.ends runs.2 in
      ap (λ (qs : List (Option (Result X Error))). Some (Err e) ∷ qs) more
      ∙ sym (ap (λ (r : Option (Result X Error)). ended_at_error (r ∷ yield_each (but_last xs) ends))
      (step.answer.0 fine.0))

  pub yields_ending : (s : S) → YieldsEnding front back (λ _. Unit {0}) (λ _. Unit {0}) s (left s)
  yields_ending s = record {
    answers = λ ends rs t runs fine. along ends rs s t runs fine;
    can = can_by front back (λ _. Unit {0}) (λ _. Unit {0}) (λ _. Unit {0}) (λ s may. (tt, tt))
        (λ s r t may step. tt) (λ s r t may step. tt) s tt;
    ends = record { answers = λ ends rs t runs. end_along ends rs s t runs };
  }

-- the same of what an index iterator still deals
ends_by : {S : Type 0} (view : S → Left) (of : End) (s : S) (r : Option R) (t : S)
    → LeftGives of (view s) r (view t) → Ending (λ (u : S). (view u).results)
    (λ (u : S). IsEnded (view u)) of s r t
ends_by view of s None t step = record { answer = step.answer; ends = tt }
ends_by view of s (Some (Ok h)) t step = record { answer = step.answer; ends = tt }
ends_by view of s (Some (Err e)) t step = record { answer = step.answer; ends = step.ends }

module _ {S : Type 0} (view : S → Left) (front back : S → Option R → S → Type 0)
    (to_front : (s : S) (r : Option R) (t : S) → front s r t
    → LeftGives front_of (view s) r (view t))
    (to_back : (s : S) (r : Option R) (t : S) → back s r t → LeftGives back_of (view s) r (view t))
  where
    pub yields_left : (s : S) → YieldsEnding front back (λ _. Unit {0}) (λ _. Unit {0}) s
        (view s).results
    yields_left s =
        yields_ending (λ (u : S). (view u).results) (λ (u : S). IsEnded (view u))
        (λ u over. over.results) front back
        (λ u r t step. ends_by view front_of u r t (to_front u r t step))
        (λ u r t step. ends_by view back_of u r t (to_back u r t step)) s

    -- once all is over, a call answers `None` and loads nothing, and all stays over
    none_loaded : (l m : Left) → l.loads ≡ 0 → CountsLoads l m → m.opened ≡ l.opened
    none_loaded l m none loads =
        let zero_now : loads.count ≡ 0 = omega (arith, none, loads.within) in
        loads.counts ∙ ap (λ (n : ℕ). with_index_loads n l.opened) zero_now

    ended_along : (ends : List Direction) (rs : List (Option R)) (s t : S) → IsEnded (view s)
        → Runs front back s ends rs t → IsEnded (view t) × ((view t).opened ≡ (view s).opened)
    ended_along [] [] s t over runs = (
      subst (λ (u : S). IsEnded (view u)) runs over,
      ap
          (λ (u : S). (view u).opened) (sym runs),
    )
    ended_along [] (r ∷ rs) s t over runs = absurd runs
    ended_along (e ∷ ends) [] s t over runs = absurd runs
    ended_along (Front ∷ ends) (r ∷ rs) s t over runs =
        let step = to_front s r runs.0 runs.1 in
        let one = over_step (λ (u : S). (view u).results) (λ (u : S). IsEnded (view u))
        (λ u ended. ended.results) front_of s runs.0 r refl over
        (ends_by view front_of s r runs.0 step) in
        let more = ended_along ends rs runs.0 t one.1 runs.2 in
        (more.0, more.1 ∙ none_loaded (view s) (view runs.0) over.loads step.loads)
    ended_along (Back ∷ ends) (r ∷ rs) s t over runs =
        let step = to_back s r runs.0 runs.1 in
        let one = over_step (λ (u : S). (view u).results) (λ (u : S). IsEnded (view u))
        (λ u ended. ended.results) back_of s runs.0 r refl over
        (ends_by view back_of s r runs.0 step) in
        let more = ended_along ends rs runs.0 t one.1 runs.2 in
        (more.0, more.1 ∙ none_loaded (view s) (view runs.0) over.loads step.loads)

    pub stays_ended : (s : S) → IsEnded (view s) → StaysEnded front back view s
    stays_ended s over = record {
      answers = λ ends rs t runs.
          none_along (λ (u : S). (view u).results) (λ (u : S). IsEnded (view u))
          (λ u ended. ended.results) front back
          (λ u r v step. ends_by view front_of u r v (to_front u r v step))
          (λ u r v step. ends_by view back_of u r v (to_back u r v step)) ends rs s t over runs;
      ended = λ ends rs t runs. (ended_along ends rs s t over runs).0;
      opened = λ ends rs t runs. (ended_along ends rs s t over runs).1;
    }
