-- Where nothing else is left of a walk, the part at one end may as well stand at the other.
use Rattle.std.proofs.Common.{◌≡◌, List, [], ◌++◌, refl, sym, ap, ◌∙◌}
use Rattle.std.proofs.Common.{arith}
use Rattle.std.proofs.lemmas.List.{append-nil}
use Rattle.std.specs.Prelude.{Option, Some, None, Result, Ok, Err}
use Rattle.sst_entries.specs.declared.error.Error.{Error}
use Rattle.sst_entries.specs.declared.stream.Direction.{Direction}
use Rattle.sst_entries.specs.declared.stream.Direction.TheVariants.{Front, Back}
use Rattle.lsm_iters.specs.declared.walk.Walk.{Walk}
use Rattle.lsm_iters.specs.walk.Ends.{Remains, StepAnswers, remains_in}
use Rattle.lsm_iters.specs.walk.Parts.{Coming, IsDone, LoadGives, Loading, all_results}
use Rattle.lsm_iters.specs.walk.Walks.{WalkTakes, far, near, walk_left, with_far, with_near}
use Rattle.lsm_iters.proofs.Reaching.{rests_of}

abbrev pub moved_walk : {P T : Type 0} → Walk P T → Walk P T
moved_walk w = record { parts = w.parts; front = w.back; back = w.front }

module _ {P T X : Type 0} (left : T → Remains X) (coming : P → Coming X)
    (keeps : P → Option (Result (Loading X) Error) → P → Type 0) where
  abbrev moved : Walk P T → Walk P T
  moved w = moved_walk w

  same_results : (at : Direction) (v : Walk P T) → (remains_in left (near at v)).results ≡ []
      → IsDone (coming v.parts)
      → (walk_left left coming (moved v)).results ≡ (walk_left left coming v).results
  same_results Front v none done =
      let last : List (Result X Error) = (remains_in left v.back).results in
      ap (λ (ps : List (Result (Loading X) Error)). last
      ++ (all_results ps ++ (remains_in left v.front).results)) done.parts
      ∙ ap (λ (rs : List (Result X Error)). last ++ rs) none
      ∙ append-nil last
      ∙ sym (ap (λ (ps : List (Result (Loading X) Error)). (remains_in left v.front).results
      ++ (all_results ps ++ last)) done.parts
      ∙ ap (λ (rs : List (Result X Error)). rs ++ last) none)
  same_results Back v none done =
      let first : List (Result X Error) = (remains_in left v.front).results in
      ap (λ (ps : List (Result (Loading X) Error)). (remains_in left v.back).results
      ++ (all_results ps ++ first)) done.parts
      ∙ ap (λ (rs : List (Result X Error)). rs ++ first) none
      ∙ sym (append-nil first)
      ∙ sym (ap (λ (ps : List (Result (Loading X) Error)). first
      ++ (all_results ps ++ (remains_in left v.back).results)) done.parts
      ∙ ap (λ (rs : List (Result X Error)). first ++ rs) none)

  module _ (at : Direction) (s v : Walk P T) (none : (remains_in left (near at v)).results ≡ [])
      (done : IsDone (coming v.parts)) where
    answer_moved : (r : Option (Result X Error))
        → StepAnswers at (walk_left left coming s) r (walk_left left coming v)
        → StepAnswers at (walk_left left coming s) r (walk_left left coming (moved v))
    answer_moved None answer = (
      answer.0,
      record {
        results = same_results at v none done ∙ answer.1.results;
        loads = omega (arith, answer.1.loads);
      },
    )
    answer_moved (Some (Ok x)) answer =
        answer ∙ ap (λ (rs : List (Result X Error)). (Some (Ok x), rs))
        (sym (same_results at v none done))
    answer_moved (Some (Err e)) answer = answer

    pub takes_moved : (r : Option (Result X Error)) → WalkTakes left coming keeps at s r v
        → WalkTakes left coming keeps at s r (moved v)
    takes_moved r takes = record {
      answer = answer_moved r takes.answer;
      others = omega (arith, takes.others);
      named = takes.named;
      loads = takes.loads;
      within = takes.within;
      most = takes.most;
      some = takes.some;
      exact = takes.exact;
      first = takes.first;
    }

  -- none is to come behind a load that found none
  pub none_to_come : (at : Direction) (u t : P) → LoadGives left coming keeps at u None t
      → IsDone (coming t)
  none_to_come at u t gives = (rests_of left coming keeps at u t gives).done

-- ---- the other part, put to an end

module _ {P T : Type 0} where
  pub far_put : (at : Direction) (w : Walk P T) (o : Option T) → far at (with_far at w o) ≡ o
  far_put Front w o = refl
  far_put Back w o = refl

  pub near_stays : (at : Direction) (w : Walk P T) (o : Option T)
      → near at (with_far at w o) ≡ near at w
  near_stays Front w o = refl
  near_stays Back w o = refl

  pub parts_stay : (at : Direction) (w : Walk P T) (o : Option T) → (with_far at w o).parts ≡ w.parts
  parts_stay Front w o = refl
  parts_stay Back w o = refl

  pub put_moved : (at : Direction) (w : Walk P T) (o : Option T)
      → with_near at (moved_walk w) o ≡ moved_walk (with_far at w o)
  put_moved Front w o = refl
  put_moved Back w o = refl
