-- A loop over runs that makes the readers of their spans.
use Rattle.std.proofs.Common.{◌≡◌, sym, ◌∙◌, ap, subst, ℕ, ◌+◌, ◌<◌, ◌≤◌, List, [], ◌∷◌, ◌++◌}
use Rattle.std.proofs.Common.{get_or, length, take, append-nil}
use Rattle.std.specs.Prelude.{Option, Some, None, map}
use Rattle.std.specs.List.{AllByRecursion, AllZip, flat_map}
use Rattle.std.specs.declared.ops.Bound.{Bound}
use Rattle.std.proofs.lemmas.List.{map-append, take_all, take_more}
use Rattle.std.proofs.lemmas.List.Concat.{flat_map-append}
use Rattle.lsm_sorted.specs.version.Run.{IsInOrder, overlap_indexes}
use Rattle.lsm_readers.specs.point.Table.{OpenTable}
use Rattle.lsm_run_parts.specs.RunParts.{RunSpan, range_of, ranges_of, span_of}
use Rattle.lsm_runs.specs.RunRange.{IsRunOf, RunRange}
use Rattle.lsm_runs.specs.SpansRead.{span_at, spans_within}
use Rattle.lsm_runs.proofs.RunLoops.{all_at}
use Rattle.lsm_runs.proofs.Together.{zip_push}

module _ {A X : Type 0} (f : X → List OpenTable) (low high : Bound (List ℕ)) (xs : List X) where
  abbrev Reads : RunRange A → List OpenTable × RunSpan → Type 0
  Reads reader run = IsRunOf run.0 run.1 reader

  -- the runs up to a place have their readers
  abbrev pub SpannedSoFar : List (RunRange A) → ℕ → Type 0
  SpannedSoFar readers i = AllByRecursion (IsInOrder range_of) (map f xs)
      → AllZip (λ reader run. IsRunOf run.0 run.1 reader) readers
      (spans_within low high (map f (take i xs)))

  pub all_spanned : (readers : List (RunRange A)) (i : ℕ) → SpannedSoFar readers i → length xs ≤ i
      → AllByRecursion (IsInOrder range_of) (map f xs)
      → AllZip (λ reader run. IsRunOf run.0 run.1 reader) readers (spans_within low high (map f xs))
  all_spanned readers i so_far past order = subst
      (λ (ys : List X). AllZip Reads readers (spans_within low high (map f ys)))
      (take_all i xs past) (so_far order)

  module _ (i : ℕ) (x : X) (less : i < length xs) (is : x ≡ get_or xs i x)
      (readers : List (RunRange A)) (so_far : SpannedSoFar readers i) where
    abbrev found : Option (ℕ × ℕ)
    found = overlap_indexes low high (ranges_of (f x))

    abbrev before : List (List OpenTable × RunSpan)
    before = spans_within low high (map f (take i xs))

    abbrev one : List OpenTable → List (List OpenTable × RunSpan)
    one tables = span_at tables low high (overlap_indexes low high (ranges_of tables))

    next : spans_within low high (map f (take (i + 1) xs)) ≡ before ++ span_at (f x) low high found
    next =
        ap (λ (ys : List X). spans_within low high (map f ys)) (take_more xs i x less)
        ∙ ap (spans_within low high) (map-append f (take i xs) (get_or xs i x ∷ []))
        ∙ flat_map-append one (map f (take i xs)) (f (get_or xs i x) ∷ [])
        ∙ ap (λ (us : List (List OpenTable × RunSpan)). before ++ us)
        (append-nil (one (f (get_or xs i x))))
        ∙ ap (λ (y : X). before ++ one (f y)) (sym is)

    pub more_spanned : (reader : RunRange A)
        → (IsInOrder range_of (f x) → (ends : ℕ × ℕ) × (found ≡ Some ends)
        × IsRunOf (f x) (span_of ends low high) reader) → SpannedSoFar (readers ++ reader ∷ [])
        (i + 1)
    more_spanned reader reads order =
        let own = reads (all_at f (IsInOrder range_of) xs i x order less is) in
        subst (AllZip Reads (readers ++ reader ∷ []))
        (sym (next ∙ ap (λ (o : Option (ℕ × ℕ)). before ++ span_at (f x) low high o) own.1))
        (zip_push Reads readers before reader (f x, span_of own.0 low high) (so_far order) own.2)

    pub same_spanned : (IsInOrder range_of (f x) → found ≡ None) → SpannedSoFar readers (i + 1)
    same_spanned none order =
        let own = none (all_at f (IsInOrder range_of) xs i x order less is) in
        subst (AllZip Reads readers) (sym (next ∙ ap
        (λ (o : Option (ℕ × ℕ)). before ++ span_at (f x) low high o) own ∙ append-nil before))
        (so_far order)
