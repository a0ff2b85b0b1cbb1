-- Whether the sorted entries of runs are in strict order, by one pass over all of them.
use Rattle.std.proofs.Common.{◌≡◌, refl, sym, ◌∙◌, ap, subst, ℕ, zero, suc, ◌+◌, ◌<◌, inl, inr}
use Rattle.std.proofs.Common.{true, false, List, [], ◌∷◌, ◌++◌, get_or, length, take, arith}
use Rattle.std.specs.Prelude.{Option, Some, None, Result, Ok, Err, IfErr, IsErrAnd, is_some, map}
use Rattle.std.specs.Option.{option_map}
use Rattle.std.specs.List.{AllByRecursion, AllZip}
use Rattle.std.proofs.lemmas.Bool.{cases_Bool}
use Rattle.std.proofs.lemmas.List.{map-append, take_more}
use Rattle.lsm_tables.specs.Words.{YieldsList, Entry, Error, HoldLists, IsStrict}
use Rattle.lsm_tables.specs.Words.{OpenTable, OutOfMemory, RunsHoldLists, answer_stops, is_memory}
use Rattle.lsm_tables.specs.Words.{joined, ok_results}
use Rattle.lsm_tables.specs.Words.{IsStrictAfter, read_place}
use Rattle.lsm_tables.proofs.TableLaws.{Ascends, YieldTogether, HaveEntries, RunScan, RunScansNext}
use Rattle.lsm_tables.proofs.TableLaws.{apart, ascends_of, yields_front, may_follow, memory_is}
use Rattle.lsm_tables.proofs.TableLaws.{nowhere}
use Rattle.lsm_tables.proofs.TableLaws.{run_strict, zip_push}

-- an error that can only be `OutOfMemory`
pub only_memory : {X : Type 0} (r : Result X Error) (e : Error) → IsErrAnd r (λ y. y ≡ e)
    → (is_memory e ≡ false → ⊥) → IfErr r (λ y. y ≡ OutOfMemory)
only_memory (Ok x) e is fine = tt
only_memory (Err y) e is fine =
    elim (cases_Bool (is_memory e)) [
      | inl memory ↦ is ∙ memory_is e memory
      | inr other ↦ absurd (fine other)
    ]

-- ---- an iterator whose entries are compared one by one

abbrev item : Entry → Result Entry Error
item e = Ok e

module _ {S : Type 0} (next : S → Option (Result Entry Error) → S → Type 0) where
  yielded_one : (rest : List Entry) (s t : S) (e : Entry) → YieldsList next nowhere rest s
      → next s (Some (Ok e)) t
      → (more : List Entry) × (rest ≡ e ∷ more) × YieldsList next nowhere more t
  yielded_one [] s t e d step =
      let h = yields_front (answer_stops is_memory) next nowhere s [] (Some (Ok e)) t
      (d is_memory refl) step refl in
      let no : Some (Ok e) ≡ None = h.0 in absurd cc
  yielded_one (x ∷ rest) s t e d step =
      let h = yields_front (answer_stops is_memory) next nowhere s (ok_results (x ∷ rest))
      (Some (Ok e)) t (d is_memory refl) step refl in
      let same : Some (Ok e) ≡ Some (Ok x) = h.0 in
      let is : x ≡ e = cc in (
        rest,
        ap (λ (y : Entry). y ∷ rest) is,
        λ stops memory.
            (yields_front (answer_stops stops) next nowhere s (ok_results (x ∷ rest)) (Some (Ok e)) t
            (d stops memory) step refl).1,
      )

  yielded_none : (rest : List Entry) (s t : S) → YieldsList next nowhere rest s → next s None t
      → rest ≡ []
  yielded_none [] s t d step = refl
  yielded_none (x ∷ rest) s t d step =
      let h = yields_front (answer_stops is_memory) next nowhere s (ok_results (x ∷ rest)) None t
      (d is_memory refl) step refl in
      let no : None ≡ Some (Ok x) = h.0 in absurd cc

  yielded_fine : (rest : List Entry) (s t : S) (e : Error) → YieldsList next nowhere rest s
      → next s (Some (Err e)) t → is_memory e ≡ false → ⊥
  yielded_fine [] s t e d step fine =
      let h = yields_front (answer_stops is_memory) next nowhere s [] (Some (Err e)) t
      (d is_memory refl) step fine in
      let no : Some (Err e) ≡ None = h.0 in absurd cc
  yielded_fine (x ∷ rest) s t e d step fine =
      let h = yields_front (answer_stops is_memory) next nowhere s (ok_results (x ∷ rest))
      (Some (Err e)) t (d is_memory refl) step fine in
      let no : Some (Err e) ≡ Some (Ok x) = h.0 in absurd cc

  -- the entries that remain are in order after the last one if and only if the list is in order
  pub record ComesOn (es : List Entry) (last : Option Entry) (s : S) : Type 0 where
    pub rest : List Entry
    pub yields : YieldsList next nowhere rest s
    pub there : IsStrict es → IsStrictAfter last rest
    pub back : IsStrictAfter last rest → IsStrict es

  pub comes_first : (es : List Entry) (last : Option Entry) (s : S) → last ≡ None
      → YieldsList next nowhere es s → ComesOn es last s
  comes_first es last s none d = record {
    rest = es;
    yields = d;
    there = λ strict. subst (λ (o : Option Entry). IsStrictAfter o es) (sym none) strict;
    back = λ strict. subst (λ (o : Option Entry). IsStrictAfter o es) none strict;
  }

  pub comes_next : (es : List Entry) (last : Option Entry) (s t : S) (e : Entry)
      → ComesOn es last s → next s (Some (Ok e)) t → may_follow last e ≡ true
      → ComesOn es (Some e) t
  unfolding IsStrictAfter
  comes_next es last s t e h step follows =
      let one = yielded_one h.rest s t e h.yields step in
      record {
        rest = one.0;
        yields = one.2;
        there = λ strict. (subst (IsStrictAfter last) one.1 (h.there strict)).1;
        back = λ strict. h.back (subst (IsStrictAfter last) (sym one.1) (follows, strict));
      }

  pub comes_out : (es : List Entry) (last : Option Entry) (s t : S) (e : Entry)
      → ComesOn es last s → next s (Some (Ok e)) t → may_follow last e ≡ false → IsStrict es → ⊥
  unfolding IsStrictAfter
  comes_out es last s t e h step other strict =
      let one = yielded_one h.rest s t e h.yields step in
      apart (may_follow last e) (subst (IsStrictAfter last) one.1 (h.there strict)).0 other

  -- a step that lends an entry, or nothing
  pub lent_step : (s t : S) (e : Entry) (lent : Option Entry) → Some e ≡ lent
      → next s (option_map item lent) t → next s (Some (Ok e)) t
  lent_step s t e lent found goes =
      subst (λ (o : Option Entry). next s (option_map item o) t) (sym found) goes

  pub none_step : (s t : S) (lent : Option Entry) → is_some lent ≡ false
      → next s (option_map item lent) t → next s None t
  none_step s t None none goes = goes
  none_step s t (Some e) none goes = absurd cc

  -- the same of the last entry's key and seqno alone
  at_place : (e : Entry) (rest : List Entry) → IsStrictAfter (Some e) rest
      → IsStrictAfter (Some (read_place e.user_key e.seqno)) rest
  unfolding IsStrictAfter
  at_place e [] h = h
  at_place e (x ∷ xs) h = h

  from_place : (e : Entry) (rest : List Entry)
      → IsStrictAfter (Some (read_place e.user_key e.seqno)) rest → IsStrictAfter (Some e) rest
  unfolding IsStrictAfter
  from_place e [] h = h
  from_place e (x ∷ xs) h = h

  pub comes_by_place : (es : List Entry) (s : S) (e : Entry) → ComesOn es (Some e) s
      → ComesOn es (Some (read_place e.user_key e.seqno)) s
  comes_by_place es s e h = record {
    rest = h.rest;
    yields = h.yields;
    there = λ strict. at_place e h.rest (h.there strict);
    back = λ strict. h.back (from_place e h.rest strict);
  }

  pub comes_last : (es : List Entry) (last : Option Entry) (s t : S) → ComesOn es last s
      → next s None t → IsStrict es
  unfolding IsStrictAfter
  comes_last es last s t h step =
      h.back (subst (IsStrictAfter last) (sym (yielded_none h.rest s t h.yields step)) tt)

  pub comes_fine : (es : List Entry) (last : Option Entry) (s t : S) (e : Error)
      → ComesOn es last s → next s (Some (Err e)) t → is_memory e ≡ false → ⊥
  comes_fine es last s t e h step = yielded_fine h.rest s t e h.yields step

-- ---- a scanner of each run

-- it yields the lists that the tables of its run hold
abbrev pub ScansRun : RunScan → List OpenTable → Type 0
ScansRun s tables =
    (ls : List (List Entry)) → HoldLists tables ls → HaveEntries ls
    → YieldsList RunScansNext nowhere (joined ls) s

pub scan_more : {X S : Type 0} (f : X → List OpenTable) (Q : S → List OpenTable → Type 0)
    (xs : List X) (i : ℕ) (x : X) (made : List S) (s : S) → AllZip Q made (map f (take i xs))
    → i < length xs → x ≡ get_or xs i x → Q s (f x)
    → AllZip Q (made ++ s ∷ []) (map f (take (i + 1) xs))
scan_more {X} {S} f Q xs i x made s so_far less is one =
    subst (AllZip Q (made ++ s ∷ [])) (sym (ap (map f) (take_more xs i x less)
    ∙ map-append f (take i xs) (get_or xs i x ∷ [])))
    (zip_push Q made (map f (take i xs)) s (f (get_or xs i x)) so_far
    (subst (λ (y : X). Q s (f y)) is one))

-- they yield together the entries of the runs
pub scans_together : (scans : List RunScan) (runs : List (List OpenTable))
    (lists : List (List (List Entry))) → AllZip ScansRun scans runs → RunsHoldLists runs lists
    → AllByRecursion HaveEntries lists
    → YieldTogether RunScansNext nowhere scans (map joined lists)
scans_together scans runs lists scan hold some = record {
  yielded = map joined lists;
  same = refl;
  ascend = up runs lists hold;
  yield_each = yield_each scans runs lists scan hold some;
}
  where
    up : (runs : List (List OpenTable)) (lists : List (List (List Entry)))
        → RunsHoldLists runs lists → AllByRecursion Ascends (map joined lists)
    up [] [] h = tt
    up [] (ls ∷ lists) h = absurd h
    up (ts ∷ runs) [] h = absurd h
    up (ts ∷ runs) (ls ∷ lists) h =
        (ascends_of (joined ls) (run_strict ts ls h.0.1 h.0.0), up runs lists h.1)

    yield_each : (scans : List RunScan) (runs : List (List OpenTable))
        (lists : List (List (List Entry))) → AllZip ScansRun scans runs → RunsHoldLists runs lists
        → AllByRecursion HaveEntries lists
        → AllZip (λ s es. YieldsList RunScansNext nowhere es s) scans (map joined lists)
    yield_each [] [] [] scan hold some = tt
    yield_each [] [] (ls ∷ lists) scan hold some = absurd hold
    yield_each [] (ts ∷ runs) lists scan hold some = absurd scan
    yield_each (s ∷ scans) [] lists scan hold some = absurd scan
    yield_each (s ∷ scans) (ts ∷ runs) [] scan hold some = absurd hold
    yield_each (s ∷ scans) (ts ∷ runs) (ls ∷ lists) scan hold some =
        (scan.0 ls hold.0.1 some.0, yield_each scans runs lists scan.1 hold.1 some.1)

-- the lists of the run at an index
pub lists_at_place : {X : Type 0} (f : X → List OpenTable) (xs : List X)
    (lists : List (List (List Entry))) (i : ℕ) (x : X) → RunsHoldLists (map f xs) lists
    → AllByRecursion HaveEntries lists → i < length xs → x ≡ get_or xs i x
    → (ls : List (List Entry)) × HoldLists (f x) ls × HaveEntries ls
lists_at_place f [] lists i x hold some less is = absurd (omega (arith, less))
lists_at_place f (y ∷ ys) [] i x hold some less is = absurd hold
lists_at_place {X} f (y ∷ ys) (ls ∷ lists) zero x hold some less is =
    (ls, subst (λ (z : X). HoldLists (f z) ls) (sym is) hold.0.1, some.0)
lists_at_place f (y ∷ ys) (ls ∷ lists) (suc i) x hold some less is =
    lists_at_place f ys lists i x hold.1 some.1 (omega (arith, less)) is
