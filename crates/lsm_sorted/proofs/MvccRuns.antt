-- Runs of calls of a stream of newest versions.
use Rattle.std.proofs.Common.{◌≡◌, refl, sym, ◌∙◌, ap, subst, Bool, false, List, [], ◌∷◌}
use Rattle.std.specs.Prelude.{Option, None}
use Rattle.std.specs.Iterator.{Count, IsFinite}
use Rattle.sst_entries.specs.Entry.{Entry}
use Rattle.sst_entries.specs.declared.stream.Direction.{Direction}
use Rattle.sst_entries.specs.declared.stream.Direction.TheVariants.{Front, Back}
use Rattle.sst_entries.specs.Stream.{Runs, CanYield, ok_results}
use Rattle.sst_entries.specs.Stream.{yield_each, first, but_first, last, but_last, nowhere}
use Rattle.sst_entries.proofs.StreamLemmas.{can_by}
use Rattle.lsm_sorted.specs.merge.Ends.{R, Goes}
use Rattle.lsm_sorted.specs.declared.heap.ends.Ends.{Ends}
use Rattle.lsm_sorted.specs.merge.Union.{newest}
use Rattle.lsm_sorted.proofs.EndsLemmas.{goes_in_front}
use Rattle.lsm_sorted.specs.declared.peeked.Peeked.{Peeked}
use Rattle.lsm_sorted.specs.Peeked.{content, peeked_outlook}
use Rattle.lsm_sorted.specs.declared.mvcc_stream.MvccStream.{MvccStream}
use Rattle.lsm_sorted.specs.Newest.{front_step, back_step, newest_answers}
use Rattle.lsm_sorted.specs.Outlook.{Outlook, IsStep, before_any}
use Rattle.lsm_sorted.specs.Hears.{Hears}
use Rattle.lsm_sorted.specs.Mvcc.{mvcc_outlook, MayStep, StepsAt, AnswersSteps, YieldsSteps}
use Rattle.lsm_sorted.specs.Mvcc.{YieldsNewestOf, CanStep}
use Rattle.lsm_sorted.proofs.HeardLemmas.{HeardFrom, heard_none, heard_call, heard_all, heard_yielded}
use Rattle.lsm_sorted.proofs.HeardLemmas.{goes_on}
use Rattle.lsm_sorted.proofs.NewestLemmas.{KeysUp, keys_up, front_newest, back_newest}

-- the steps over sorted entries deal the newest of them
newest_yielded : (ends : List Direction) (es : List Entry) → KeysUp es
    → newest_answers (ok_results es) ends ≡ yield_each (ok_results (newest es)) ends
newest_yielded [] es up = refl
newest_yielded (Front ∷ ends) es up =
    let n = front_newest es up in
    let head : (front_step (ok_results es)).0 ≡ first (ok_results (newest es)) = n.answers in
    let tail : newest_answers (front_step (ok_results es)).1 ends
    ≡ yield_each (but_first (ok_results (newest es))) ends =
    ap (λ (xs : List R). newest_answers xs ends) n.leaves ∙ newest_yielded ends n.left n.up
    ∙ ap (λ (xs : List R). yield_each xs ends) (sym n.yielded) in
    cc (head, tail)
newest_yielded (Back ∷ ends) es up =
    let n = back_newest es up in
    let head : (back_step (ok_results es)).0 ≡ last (ok_results (newest es)) = n.answers in
    let tail : newest_answers (back_step (ok_results es)).1 ends
    ≡ yield_each (but_last (ok_results (newest es))) ends =
    ap (λ (xs : List R). newest_answers xs ends) n.leaves ∙ newest_yielded ends n.left n.up
    ∙ ap (λ (xs : List R). yield_each xs ends) (sym n.yielded) in
    cc (head, tail)

steps_on : (end : List R → Option R × List R) (r : Option R) (rs : List (Option R)) (xs ys : List R)
    (returned : List R → List (Option R)) → IsStep end r xs ys → rs ≡ returned ys
    → r ∷ rs ≡ (end xs).0 ∷ returned (end xs).1
steps_on end r rs xs ys returned h more =
    let head : r ≡ (end xs).0 = h.0 in
    let tail : rs ≡ returned (end xs).1 = more ∙ ap returned h.1 in
    cc (head, tail)

module _ {S : Type 0} (front back : S → Option R → S → Type 0)
    (next next_back : MvccStream S R → Option R → MvccStream S R → Type 0)
    (in_front : (s : MvccStream S R) (r : Option R) (t : MvccStream S R) → next s r t
    → Hears front Front r (IsStep front_step r) (mvcc_outlook s) (mvcc_outlook t))
    (behind : (s : MvccStream S R) (r : Option R) (t : MvccStream S R) → next_back s r t
    → Hears back Back r (IsStep back_step r) (mvcc_outlook s) (mvcc_outlook t)) where
  along : (ends : List Direction) (rs : List (Option R)) (s t : MvccStream S R)
      → Runs next next_back s ends rs t → HeardFrom front back (mvcc_outlook s) rs
      (λ xs. rs ≡ newest_answers xs ends)
  along [] [] s t runs = heard_none front back (mvcc_outlook s) (λ xs. [] ≡ newest_answers xs [])
      (λ xs. refl)
  along [] (r ∷ rs) s t runs = absurd runs
  along (e ∷ ends) [] s t runs = absurd runs
  along (Front ∷ ends) (r ∷ rs) s t runs =
      heard_call front back Front (mvcc_outlook s) (mvcc_outlook runs.0) r rs (IsStep front_step r)
      (λ xs. rs ≡ newest_answers xs ends) (λ xs. r ∷ rs ≡ newest_answers xs (Front ∷ ends))
      (in_front s r runs.0 runs.1) (along ends rs runs.0 t runs.2)
      (λ xs ys h more. steps_on front_step r rs xs ys
      (λ (zs : List R). newest_answers zs ends) h more)
  along (Back ∷ ends) (r ∷ rs) s t runs =
      heard_call front back Back (mvcc_outlook s) (mvcc_outlook runs.0) r rs (IsStep back_step r)
      (λ xs. rs ≡ newest_answers xs ends) (λ xs. r ∷ rs ≡ newest_answers xs (Back ∷ ends))
      (behind s r runs.0 runs.1) (along ends rs runs.0 t runs.2)
      (λ xs ys h more. steps_on back_step r rs xs ys
      (λ (zs : List R). newest_answers zs ends) h more)

  module _ (source : S) (t : MvccStream S R) (starts : mvcc_outlook t ≡ before_any source) where
    pub answers_steps : AnswersSteps front back source next next_back t
    answers_steps = record {
      heard = λ ends rs u runs. heard_all front back source
          (mvcc_outlook t) starts rs (λ xs. rs ≡ newest_answers xs ends) (along ends rs t u runs);
    }

    pub yields_steps : YieldsSteps front back source next next_back t
    yields_steps = record {
      answers = λ stops xs d ends rs u runs fine. heard_yielded front back source
          (mvcc_outlook t) starts rs (λ ys. rs ≡ newest_answers ys ends) stops xs
          (along ends rs t u runs) d fine;
    }

    pub yields_newest_of : YieldsNewestOf front back source next next_back t
    yields_newest_of = record {
      yields = λ stops xs up d. record {
        answers =
            λ ends rs u runs fine. yields_steps.answers stops (ok_results xs) d ends rs u runs fine
            ∙ newest_yielded ends xs (keys_up xs up);
      };
    }

module _ {S : Type 0} (front back : S → Option R → S → Type 0) (can can_back : S → Type 0)
    (left : S → Count) (source : S) (t : MvccStream S R)
    (starts : mvcc_outlook t ≡ before_any source) where
  pub may_start : CanYield front back can can_back source → IsFinite (left source)
      → MayStep front back can can_back left t
  may_start may ends = subst (λ (e : Ends S). Goes front back can can_back left e)
      (sym (ap (λ (o : Outlook S). o.source) starts)) (record { ready = (may, ends) })

-- before any call
pub starts_at : {S : Type 0} (p : Peeked S R) (source : S) → p.source.iter ≡ source
    → p.source.done ≡ false → p.front ≡ None → p.back ≡ None → peeked_outlook p ≡ before_any source
starts_at {S} p source iter fine front back =
    ap (λ (i : S). record {
      source = record { iter = i; done = p.source.done };
      ahead =
          content p.front;
      behind = content p.back;
    }) iter
    ∙ ap (λ (b : Bool). record {
      source = record { iter = source; done = b };
      ahead =
          content p.front;
      behind = content p.back;
    }) fine
    ∙ ap (λ (o : Option R). record {
      source = record { iter = source; done = false };
      ahead =
          content o;
      behind = content p.back;
    }) front
    ∙ ap (λ (o : Option R). record {
      source = record { iter = source; done = false };
      ahead =
          [];
      behind = content o;
    }) back

-- a stream that is taken from the front alone
module _ {S : Type 0} (front : S → Option R → S → Type 0) (can : S → Type 0) (left : S → Count)
    (source : S) (t : MvccStream S R) (starts : mvcc_outlook t ≡ before_any source) where
  abbrev May : MvccStream S R → Type 0
  May s = MayStep front nowhere can can left s

  pub can_step_in_front : CanStep front nowhere source
      (StepsAt May front Front front_step) nowhere t can can left May May
  can_step_in_front = record {
    asks = λ may ends. can_by (StepsAt May front Front front_step) nowhere May May May
        (λ s m. (m, m)) (λ s r u m step. step.may) (λ s r u m step. absurd step) t
        (may_start front nowhere can can left source t starts may ends);
  }

-- one that is taken from both ends
module _ {S : Type 0} (front back : S → Option R → S → Type 0) (can can_back : S → Type 0)
    (left : S → Count) (source : S) (t : MvccStream S R)
    (starts : mvcc_outlook t ≡ before_any source) where
  abbrev MayFront : MvccStream S R → Type 0
  MayFront s = MayStep front nowhere can can left s

  abbrev MayBoth : MvccStream S R → Type 0
  MayBoth s = MayStep front back can can_back left s

  pub can_step_both : CanStep front back source (StepsAt MayFront front Front front_step)
      (StepsAt MayBoth back Back back_step) t can can_back left MayFront MayBoth
  can_step_both = record {
    asks = λ may ends. can_by (StepsAt MayFront front Front front_step)
        (StepsAt MayBoth back Back back_step) MayFront MayBoth MayBoth
        (λ s m. (goes_in_front front back can can_back left s.inner.source m, m))
        (λ s r u m step. goes_on front back can can_back left s.inner.source u.inner.source
        step.hears.answers m step.hears.gave step.may)
        (λ s r u m step. step.may)
        t (may_start front back can can_back left source t starts may ends);
  }
