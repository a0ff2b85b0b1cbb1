-- Iterators that yield a list, from the front.
use Rattle.std.proofs.Common.{◌≡◌, refl, ap, false, List, [], ◌∷◌}
use Rattle.std.specs.Prelude.{Option, Some, None, Result, Ok, Err}
use Rattle.sst_entries.specs.declared.error.Error.{Error}
use Rattle.sst_entries.specs.Entry.{Entry}
use Rattle.sst_entries.specs.Error.{is_memory}
use Rattle.sst_entries.specs.Stream.{answer_stops, first, ok_results}
use Rattle.sst_entries.proofs.StreamLemmas.{yields_front}
use Rattle.lsm_runs.specs.RunLists.{YieldsList}

module _ {S : Type 0} (front back : S → Option (Result Entry Error) → S → Type 0) (s t : S) where
  -- a call that does not run out of memory returns the next entry of the list
  returned : (es : List Entry) (r : Option (Result Entry Error)) → YieldsList front back es s
      → front s r t → answer_stops is_memory r ≡ false → r ≡ first (ok_results es)
  returned es r yields step fine = (yields_front (answer_stops is_memory) front back s (ok_results es) r t
      (yields is_memory refl) step fine).0

  pub next_yielded : (es : List Entry) (x : Entry) → YieldsList front back es s → front s (Some (Ok x)) t
      → (left : List Entry) × (es ≡ x ∷ left) × YieldsList front back left t
  next_yielded [] x yields step =
      let no : Some (Ok x) ≡ None = returned [] (Some (Ok x)) yields step refl in
      absurd cc
  next_yielded (e ∷ es) x yields step =
      let same : Some (Ok x) ≡ Some (Ok e) = returned (e ∷ es) (Some (Ok x)) yields step refl in
      let is : e ≡ x = cc in (
        es,
        ap (λ (y : Entry). y ∷ es) is,
        λ stops memory.
            (yields_front (answer_stops stops) front back s (ok_results (e ∷ es)) (Some (Ok x)) t
            (yields stops memory) step refl).1,
      )

  pub end_yielded : (es : List Entry) → YieldsList front back es s → front s None t → es ≡ []
  end_yielded [] yields step = refl
  end_yielded (e ∷ es) yields step =
      let no : None ≡ Some (Ok e) = returned (e ∷ es) None yields step refl in
      absurd cc

  -- an error is `OutOfMemory`
  pub error_yielded : (es : List Entry) (e : Error) → YieldsList front back es s → front s (Some (Err e)) t
      → is_memory e ≡ false → ⊥
  error_yielded [] e yields step fine =
      let no : Some (Err e) ≡ None = returned [] (Some (Err e)) yields step fine in
      absurd cc
  error_yielded (x ∷ es) e yields step fine =
      let no : Some (Err e) ≡ Some (Ok x) = returned (x ∷ es) (Some (Err e)) yields step fine in
      absurd cc
