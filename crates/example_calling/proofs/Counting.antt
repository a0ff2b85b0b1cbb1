-- A stream whose entries are counted one by one: what it still deals.
use Rattle.std.proofs.Common.{◌≡◌, refl, sym, ◌∙◌, ap, ℕ, ◌+◌, ◌-◌, ◌^◌, List, [], ◌∷◌, length}
use Rattle.std.proofs.Common.{arith, false, inl, inr}
use Rattle.std.specs.Prelude.{Option, Some, None, Result, Ok, Err, IfErr, IsErrAnd, min}
use Rattle.std.proofs.lemmas.Bool.{cases_Bool}
use Rattle.lsm_tables.specs.Words.{YieldsList, Entry, Error, OutOfMemory, answer_stops, is_memory}
use Rattle.lsm_tables.specs.Words.{ok_results}
use Rattle.lsm_tables.proofs.TableLaws.{yields_front, memory_is}

module _ {S : Type 0} (next back : S → Option (Result Entry Error) → S → Type 0) where
  -- a part of the list is counted, and the stream deals the rest
  pub record Counts (es : List Entry) (count : ℕ) (s : S) : Type 0 where
    pub passed : ℕ
    pub rest : List Entry
    pub whole : length es ≡ passed + length rest
    pub yields : YieldsList next back rest s
    pub counted : count ≡ min passed (2 ^ 64 - 1)

  pub none_counted : (es : List Entry) (s : S) → YieldsList next back es s → Counts es 0 s
  none_counted es s d = record
      { passed = 0; rest = es; whole = omega arith; yields = d; counted = refl }

  one_more : (rest : List Entry) (s t : S) (e : Entry) → YieldsList next back rest s
      → next s (Some (Ok e)) t
      → (more : List Entry) × (length rest ≡ 1 + length more) × YieldsList next back more t
  one_more [] s t e d step =
      let h = yields_front (answer_stops is_memory) next back s [] (Some (Ok e)) t
      (d is_memory refl) step refl in
      let no : Some (Ok e) ≡ None = h.0 in absurd cc
  one_more (x ∷ rest) s t e d step = (
    rest,
    omega arith,
    λ stops memory.
        (yields_front (answer_stops stops) next back s (ok_results (x ∷ rest)) (Some (Ok e)) t
        (d stops memory) step refl).1,
  )

  none_more : (rest : List Entry) (s t : S) → YieldsList next back rest s → next s None t
      → length rest ≡ 0
  none_more [] s t d step = refl
  none_more (x ∷ rest) s t d step =
      let h = yields_front (answer_stops is_memory) next back s (ok_results (x ∷ rest)) None t
      (d is_memory refl) step refl in
      let no : None ≡ Some (Ok x) = h.0 in absurd cc

  capped_more : (count passed after : ℕ) → count ≡ min passed (2 ^ 64 - 1)
      → after ≡ min (count + 1) (2 ^ 64 - 1) → after ≡ min (passed + 1) (2 ^ 64 - 1)
  capped_more count passed after is next_is = omega (arith, is, next_is)

  pub one_counted : (es : List Entry) (count after : ℕ) (s t : S) (e : Entry) → Counts es count s
      → next s (Some (Ok e)) t → after ≡ min (count + 1) (2 ^ 64 - 1) → Counts es after t
  one_counted es count after s t e h step is =
      let one = one_more h.rest s t e h.yields step in record {
        passed = h.passed + 1;
        rest = one.0;
        whole = omega (arith, h.whole, one.1);
        yields = one.2;
        counted = capped_more count h.passed after h.counted is;
      }

  pub all_counted : (es : List Entry) (count : ℕ) (s t : S) → Counts es count s → next s None t
      → count ≡ min (length es) (2 ^ 64 - 1)
  all_counted es count s t h step =
      let none = none_more h.rest s t h.yields step in
      let all : length es ≡ h.passed = omega (arith, h.whole, none) in
      h.counted ∙ ap (λ (n : ℕ). min n (2 ^ 64 - 1)) (sym all)

  -- a fault that it deals is want of memory
  pub fault_counted : {X : Type 0} (r : Result X Error) (es : List Entry) (count : ℕ) (s t : S)
      (e : Error) → Counts es count s → next s (Some (Err e)) t → IsErrAnd r (λ y. y ≡ e)
      → IfErr r (λ y. y ≡ OutOfMemory)
  fault_counted (Ok x) es count s t e h step is = tt
  fault_counted (Err y) es count s t e h step is =
      elim (cases_Bool (is_memory e)) [
        | inl memory ↦ is ∙ memory_is e memory
        | inr other ↦ absurd (none_other h.rest h.yields other)
      ]
    where
      none_other : (rest : List Entry) → YieldsList next back rest s → is_memory e ≡ false → ⊥
      none_other [] d fine =
          let m = yields_front (answer_stops is_memory) next back s [] (Some (Err e)) t
          (d is_memory refl) step fine in
          let no : Some (Err e) ≡ None = m.0 in absurd cc
      none_other (x ∷ rest) d fine =
          let m = yields_front (answer_stops is_memory) next back s (ok_results (x ∷ rest))
          (Some (Err e)) t (d is_memory refl) step fine in
          let no : Some (Err e) ≡ Some (Ok x) = m.0 in absurd cc
