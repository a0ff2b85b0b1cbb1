-- One call of an `Ends` that isn't done.
use Rattle.std.proofs.Common.{◌≡◌, refl, sym, ◌∙◌, ap, subst, Bool, true, false, List, [], ◌∷◌}
use Rattle.std.proofs.Common.{reverse}
use Rattle.std.specs.Prelude.{Option, Some, None, is_none, not, cond, ◌<◌}
use Rattle.std.specs.Option.{is_some}
use Rattle.std.specs.Iterator.{Count, IsFinite, MakesProgress, size}
use Rattle.sst_entries.specs.declared.error.Error.{Error}
use Rattle.lsm_sorted.specs.declared.heap.ends.Ends.{Ends}
use Rattle.sst_entries.specs.Stream.{first, but_first, last, but_last, answer_stops, YieldsExactly, CanYield}
use Rattle.sst_entries.specs.Stream.{nowhere, YieldsFirst, YieldsLast, Steps, Lowers}
use Rattle.sst_entries.specs.declared.stream.Direction.{Direction}
use Rattle.sst_entries.specs.declared.stream.Direction.TheVariants.{Front, Back}
use Rattle.lsm_sorted.specs.merge.Ends.{R, LeftIf, Left, GoesIf, Goes, AskedIf, Asked, YieldsAt}
use Rattle.lsm_sorted.specs.merge.Ends.{ends_size}
use Rattle.sst_entries.proofs.FrontLemmas.{can_in_front}
use Rattle.sst_entries.proofs.StreamLemmas.{yields_front, yields_back, can_front, can_after_back}

pub none_first : {A : Type 0} (xs : List A) → None ≡ first xs → xs ≡ []
none_first [] e = refl
none_first (x ∷ xs) e = cc

module _ {S : Type 0} (stops : Error → Bool) (front back : S → Option R → S → Type 0) where
  yields_of : (s : Ends S) (xs : List R) → s.done ≡ false → Left stops front back s xs
      → YieldsExactly (answer_stops stops) front back s.iter xs
  yields_of s xs e h = subst (λ (b : Bool). LeftIf stops front back b s.iter xs) e h.lists

  pub some_yields : (s : Ends S) (x : R) (t : S) → s.done ≡ false → front s.iter (Some x) t
      → YieldsFirst stops (Left stops front back) s (Some x) (record { iter = t; done = s.done })
  some_yields s x t e step xs h fine =
      let d = yields_front (answer_stops stops) front back s.iter xs (Some x) t
      (yields_of s xs e h) step fine in (
        d.0,
        record {
          lists = subst (λ (b : Bool). LeftIf stops front back b t (but_first xs))
              (sym e) d.1;
        },
      )

  pub some_yields_back : (s : Ends S) (x : R) (t : S) → s.done ≡ false → back s.iter (Some x) t
      → YieldsLast stops (Left stops front back) s (Some x) (record { iter = t; done = s.done })
  some_yields_back s x t e step xs h fine =
      let d = yields_back (answer_stops stops) front back s.iter xs (Some x) t
      (yields_of s xs e h) step fine in (
        d.0,
        record {
          lists = subst (λ (b : Bool). LeftIf stops front back b t (but_last xs))
              (sym e) d.1;
        },
      )

  pub none_yields : (s : Ends S) (t : S) → s.done ≡ false → front s.iter None t
      → YieldsFirst stops (Left stops front back) s None (record { iter = t; done = true })
  none_yields s t e step xs h fine =
      let d = yields_front (answer_stops stops) front back s.iter xs None t
      (yields_of s xs e h) step fine in
      (d.0, record { lists = ap but_first (none_first xs d.0) })

  pub none_yields_back : (s : Ends S) (t : S) → s.done ≡ false → back s.iter None t
      → YieldsLast stops (Left stops front back) s None (record { iter = t; done = true })
  none_yields_back s t e step xs h fine =
      let d = yields_back (answer_stops stops) front back s.iter xs None t
      (yields_of s xs e h) step fine in (
        d.0,
        record {
          lists = ap (λ (ys : List R). reverse (but_first ys))
              (none_first (reverse xs) d.0);
        },
      )

  -- where it is done, nothing is left
  pub done_yields : (s : Ends S) → s.done ≡ true → YieldsFirst stops (Left stops front back) s None s
  done_yields s e xs h fine =
      let empty : xs ≡ [] = subst (λ (b : Bool). LeftIf stops front back b s.iter xs) e h.lists in (
        sym (ap first empty),
        record {
          lists = subst
              (λ (b : Bool). LeftIf stops front back b s.iter (but_first xs)) (sym e)
              (ap but_first empty);
        },
      )

  pub done_yields_back : (s : Ends S) → s.done ≡ true
      → YieldsLast stops (Left stops front back) s None s
  done_yields_back s e xs h fine =
      let empty : xs ≡ [] = subst (λ (b : Bool). LeftIf stops front back b s.iter xs) e h.lists in (
        sym (ap last empty),
        record {
          lists = subst
              (λ (b : Bool). LeftIf stops front back b s.iter (but_last xs)) (sym e)
              (ap but_last empty);
        },
      )

module _ {S : Type 0} (front back : S → Option R → S → Type 0) where
  module _ (can can_back : S → Type 0) (left : S → Count) where
    pub goes_ready : (s : Ends S) → s.done ≡ false → Goes front back can can_back left s
        → CanYield front back can can_back s.iter × IsFinite (left s.iter)
    goes_ready s e h = subst (λ (b : Bool). GoesIf front back can can_back left b s.iter) e h.ready

-- ---- a call by what it asks

module _ {S : Type 0} (ask : S → Option R → S → Type 0) (s : Ends S) where
  pub asked_now : (r : Option R) (t : S) (d : Bool) → s.done ≡ false → d ≡ is_none r
      → ask s.iter r t → Asked ask s r (record { iter = t; done = d })
  asked_now r t d e ends step = record {
    call =
        subst (λ (b : Bool). AskedIf ask b s r (record { iter = t; done = d })) (sym e)
        (step, ends);
  }

module _ {S : Type 0} (stops : Error → Bool) (front back : S → Option R → S → Type 0) where
  pub asked_first : (s : Ends S) (r : Option R) (t : Ends S) → Asked front s r t
      → YieldsFirst stops (Left stops front back) s r t
  asked_first s r t a = by_done s.done refl a.call
    where
      one : (r : Option R) → s.done ≡ false → front s.iter r t.iter → t.done ≡ is_none r
          → YieldsFirst stops (Left stops front back) s r t
      one None e step d = subst (λ (b : Bool). YieldsFirst stops (Left stops front back) s None
          (record { iter = t.iter; done = b })) (sym d)
          (none_yields stops front back s t.iter e step)
      one (Some x) e step d = subst (λ (b : Bool). YieldsFirst stops (Left stops front back) s
          (Some x) (record { iter = t.iter; done = b })) (e ∙ sym d)
          (some_yields stops front back s x t.iter e step)

      by_done : (b : Bool) → s.done ≡ b → AskedIf front b s r t
          → YieldsFirst stops (Left stops front back) s r t
      by_done true e c = rw (c.0, c.1) (done_yields stops front back s e)
      by_done false e c = one r e c.0 c.1

  pub asked_last : (s : Ends S) (r : Option R) (t : Ends S) → Asked back s r t
      → YieldsLast stops (Left stops front back) s r t
  asked_last s r t a = by_done s.done refl a.call
    where
      one : (r : Option R) → s.done ≡ false → back s.iter r t.iter → t.done ≡ is_none r
          → YieldsLast stops (Left stops front back) s r t
      one None e step d = subst (λ (b : Bool). YieldsLast stops (Left stops front back) s None
          (record { iter = t.iter; done = b })) (sym d)
          (none_yields_back stops front back s t.iter e step)
      one (Some x) e step d = subst (λ (b : Bool). YieldsLast stops (Left stops front back) s
          (Some x) (record { iter = t.iter; done = b })) (e ∙ sym d)
          (some_yields_back stops front back s x t.iter e step)

      by_done : (b : Bool) → s.done ≡ b → AskedIf back b s r t
          → YieldsLast stops (Left stops front back) s r t
      by_done true e c = rw (c.0, c.1) (done_yields_back stops front back s e)
      by_done false e c = one r e c.0 c.1

  pub asked_yields : (end : Direction) (s : Ends S) (r : Option R) (t : Ends S)
      → Asked (Steps front back end) s r t → YieldsAt end stops (Left stops front back) s r t
  asked_yields Front = asked_first
  asked_yields Back = asked_last

-- a call at the front or the back of an iterator that may be asked at both makes progress, and it
-- may be asked at both again
module _ {S X : Type 0} (front back : S → Option X → S → Type 0) (can can_back : S → Type 0)
    (left : S → Count) where
  progress : (may : S → Type 0) (s : S) (r : Option X) (t : S) → CanYield front back can can_back t
      → MakesProgress may left s r t → MakesProgress (CanYield front back can can_back) left s r t
  progress may s None t can p = record { on = λ ends. tt; keeps = tt; rests = p.rests }
  progress may s (Some x) t can p = record {
    on = λ ends. let q = p.on ends in
        (can, q.1, q.2);
    keeps = can;
    rests = p.rests;
  }

  pub progress_front : (s : S) (r : Option X) (t : S) → CanYield front back can can_back s
      → front s r t → MakesProgress can left s r t
      → MakesProgress (CanYield front back can can_back) left s r t
  progress_front s r t c step p = progress can s r t
      (can_front front back can can_back s r t c step) p

  pub progress_back : (s : S) (r : Option X) (t : S) → CanYield front back can can_back s
      → back s r t → MakesProgress can_back left s r t
      → MakesProgress (CanYield front back can can_back) left s r t
  progress_back s r t c step p = progress can_back s r t
      (can_after_back front back can can_back s r t c step) p

-- one that may be asked at both ends, asked at the front, may be asked at both ends again
module _ {S : Type 0} (front back : S → Option R → S → Type 0) (can can_back : S → Type 0)
    (left : S → Count) where
  pub goes_in_front : (s : Ends S) → Goes front back can can_back left s
      → Goes front nowhere can can left s
  goes_in_front s g = record { ready = by_done s.done g.ready }
    where
      by_done : (b : Bool) → GoesIf front back can can_back left b s.iter
          → GoesIf front nowhere can can left b s.iter
      by_done true h = tt
      by_done false h = (can_in_front front back can can_back s.iter h.0, h.1)

  pub goes_after_front : (s : Ends S) (r : Option R) (t : Ends S)
      → Goes front back can can_back left s → Asked front s r t → Goes front nowhere can can left t
      → Goes front back can can_back left t
  goes_after_front s r t g a more = by_done s.done refl a.call
    where
      ended : t.done ≡ true → Goes front back can can_back left t
      ended e = record {
        ready = subst (λ (b : Bool). GoesIf front back can can_back left b t.iter)
            (sym e) tt;
      }

      one : (r : Option R) → s.done ≡ false → front s.iter r t.iter → t.done ≡ is_none r
          → Goes front back can can_back left t
      one None e step d = ended d
      one (Some x) e step d = record {
        ready = subst (λ (b : Bool). GoesIf front back can can_back left b t.iter) (sym d) (
          can_front front back can can_back s.iter (Some x) t.iter
              (goes_ready front back can can_back left s e g).0 step,
          (goes_ready front nowhere can can left t d more).1,
        );
      }

      by_done : (b : Bool) → s.done ≡ b → AskedIf front b s r t
          → Goes front back can can_back left t
      by_done true e c = rw c.1 g
      by_done false e c = one r e c.0 c.1

pub ended_by : (r : Option R) (d : Bool) → is_some r ≡ not d → d ≡ is_none r
ended_by r true e = sym (ap not e)
ended_by r false e = sym (ap not e)

-- one that was asked, and has ended if the answer was `None`
module _ {S : Type 0} (front back : S → Option R → S → Type 0) (can can_back : S → Type 0)
    (left : S → Count) (s : Ends S) where
  pub goes_now : (r : Option R) (t : S) (d : Bool) → IsFinite (left s.iter) → d ≡ is_none r
      → MakesProgress (CanYield front back can can_back) left s.iter r t
      → Goes front back can can_back left (record { iter = t; done = d })
  goes_now None t d ends e p = record {
    ready =
        subst (λ (b : Bool). GoesIf front back can can_back left b t) (sym e) tt;
  }
  goes_now (Some x) t d ends e p = record {
    ready =
        subst (λ (b : Bool). GoesIf front back can can_back left b t) (sym e)
        (let q = p.on ends in (q.0, q.1));
  }

  pub lowers_now : (r : Option R) (t : S) (d : Bool) → s.done ≡ false → IsFinite (left s.iter)
      → d ≡ is_none r → MakesProgress (CanYield front back can can_back) left s.iter r t
      → Lowers r (ends_size left s) (ends_size left (record { iter = t; done = d }))
  lowers_now None t d was ends e p = subst (λ (b : Bool). cond b 0 (size (left t)) ≡ 0) (sym e) refl
  lowers_now (Some x) t d was ends e p =
      subst (λ (b : Bool). cond b 0 (size (left t)) < ends_size left s) (sym e)
      (subst (λ (b : Bool). size (left t) < cond b 0 (size (left s.iter))) (sym was) (p.on ends).2)
