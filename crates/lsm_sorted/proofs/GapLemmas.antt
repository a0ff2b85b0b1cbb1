-- What a source deals that ends at its first error.
use Rattle.std.proofs.Common.{◌≡◌, ◌⊎◌, inl, inr, refl, sym, ◌∙◌, ap, subst, Bool, true, false}
use Rattle.std.proofs.Common.{List, [], ◌∷◌, ◌++◌, reverse, append_assoc}
use Rattle.std.specs.Prelude.{Option, Some, None, Ok, Err, Contains}
use Rattle.std.specs.List.{AllByRecursion}
use Rattle.std.proofs.lemmas.List.{append-nil, reverse-append, reverse-reverse}
use Rattle.sst_entries.specs.Entry.{Entry}
use Rattle.sst_entries.specs.declared.error.Error.{Error}
use Rattle.sst_entries.specs.declared.stream.Direction.{Direction}
use Rattle.sst_entries.specs.declared.stream.Direction.TheVariants.{Front, Back}
use Rattle.sst_entries.specs.Stream.{Runs, YieldsExactly, answer_stops, ok_results, yield_each, first, but_first}
use Rattle.sst_entries.specs.Stream.{last, but_last, EndsAtError}
use Rattle.sst_entries.proofs.StreamLemmas.{yields_front, yields_back, map_append, map_reverse}
use Rattle.lsm_sorted.specs.merge.Ends.{R}
use Rattle.lsm_sorted.specs.merge.Union.{all_errors, union_of}
use Rattle.lsm_sorted.specs.merge.Merge.{Follows, YieldsUntil}
use Rattle.lsm_sorted.specs.merge.MergeLaws.{YieldsBeforeErrors, YieldsUntilError, every_error}
use Rattle.lsm_sorted.specs.Outlook.{StopsAtNone}
use Rattle.lsm_sorted.specs.Gap.{IsUpToGap, MergesUpToGap}
use Rattle.lsm_sorted.proofs.PeekedLemmas.{last_of, others_of}

-- the first entry of several, and the last
ok_first : (es : List Entry) (x : Entry) → Some (Ok x) ≡ first (ok_results es)
    → (ys : List Entry) × (es ≡ x ∷ ys)
ok_first [] x e = absurd cc
ok_first (y ∷ ys) x e = (ys, cc e)

ok_last : (es : List Entry) (x : Entry) → Some (Ok x) ≡ last (ok_results es)
    → (ys : List Entry) × (es ≡ ys ++ x ∷ [])
ok_last es x e =
    let w = ok_first (reverse es) x (e ∙ ap first (map_reverse es)) in
    (reverse w.0, sym (reverse-reverse es) ∙ ap reverse w.1 ∙ reverse-append (x ∷ []) w.0)

module _ (stops : Error → Bool) (errors : List Error) where
  before_gap : (x : Entry) (es : List Entry) (xs : List R) → IsUpToGap stops es errors xs
      → IsUpToGap stops (x ∷ es) errors (Ok x ∷ xs)
  before_gap x es xs (inl e) = inl (ap (λ (ys : List R). Ok x ∷ ys) e)
  before_gap x es xs (inr h) = inr (
    h.0,
    record {
      before = x ∷ h.1.before;
      gap = h.1.gap;
      behind = h.1.behind;
      parts = ap (λ (ys : List Entry). x ∷ ys) h.1.parts;
      is = ap (λ (ys : List R). Ok x ∷ ys) h.1.is;
    },
    h.2,
  )

  behind_gap : (x : Entry) (es : List Entry) (xs : List R) → IsUpToGap stops es errors xs
      → IsUpToGap stops (es ++ x ∷ []) errors (xs ++ Ok x ∷ [])
  behind_gap x es xs (inl e) = inl (ap (λ (ys : List R). ys ++ Ok x ∷ []) e
      ∙ sym (map_append es (x ∷ [])))
  behind_gap x es xs (inr h) =
      let g = h.1 in
      inr (
        h.0,
        record {
          before = g.before;
          gap = g.gap;
          behind = g.behind ++ x ∷ [];
          parts = ap (λ (ys : List Entry). ys ++ x ∷ []) g.parts
              ∙ append_assoc g.before (g.gap ++ g.behind) (x ∷ [])
              ∙ ap (λ (ys : List Entry). g.before ++ ys) (append_assoc g.gap g.behind (x ∷ []));
          is = ap (λ (ys : List R). ys ++ Ok x ∷ []) g.is
              ∙ append_assoc (ok_results g.before) (Err h.0 ∷ ok_results g.behind) (Ok x ∷ [])
              ∙ ap (λ (ys : List R). ok_results g.before ++ Err h.0 ∷ ys)
              (sym (map_append g.behind (x ∷ [])));
        },
        h.2,
      )

  -- all entries are in the gap
  all_gap : (e : Error) (es : List Entry) → (stops e ≡ true) ⊎ Contains errors e
      → IsUpToGap stops es errors (Err e ∷ [])
  all_gap e es h = inr (
    e,
    record {
      before = [];
      gap = es;
      behind = [];
      parts =
          sym (append-nil es);
      is = refl;
    },
    h,
  )

  module _ {T : Type 0} (next next_back : T → Option R → T → Type 0) where
    -- a source that has met no error yet
    pub record Unfailed (t : T) (es : List Entry) : Type 0 where
      pub yields : YieldsExactly (answer_stops every_error) next next_back t (ok_results es)
      pub until : YieldsUntil stops next next_back t es errors
      pub ends : EndsAtError next next_back t

    none_left : (ds : List Direction) (rs : List (Option R)) (t u : T)
        → Runs next next_back t ds rs u → AllByRecursion (λ r. r ≡ None) rs → rs ≡ yield_each [] ds
    none_left [] [] t u runs h = refl
    none_left [] (r ∷ rs) t u runs h = absurd runs
    none_left (d ∷ ds) [] t u runs h = absurd runs
    none_left (Front ∷ ds) (r ∷ rs) t u runs h = let one = h.0 in let more =
        none_left ds rs runs.0 u runs.2 h.1 in cc (one, more)
    none_left (Back ∷ ds) (r ∷ rs) t u runs h = let one = h.0 in let more =
        none_left ds rs runs.0 u runs.2 h.1 in cc (one, more)

    no_ends : (ds : List Direction) (rs : List (Option R)) (t u : T) → Runs next next_back t ds rs u
        → rs ≡ [] → ds ≡ []
    no_ends [] rs t u runs e = refl
    no_ends (d ∷ ds) [] t u runs e = absurd runs
    no_ends (d ∷ ds) (r ∷ rs) t u runs e = absurd cc

    -- what the list is for calls that gave these answers
    abbrev pub Reported : List Entry → List Direction → List (Option R) → Type 0
    Reported es ds rs = (xs : List R) × IsUpToGap stops es errors xs × (rs ≡ yield_each xs ds)

    at_front : (x : Entry) (es : List Entry) (ds : List Direction) (rs : List (Option R))
        → Reported es ds rs → Reported (x ∷ es) (Front ∷ ds) (Some (Ok x) ∷ rs)
    at_front x es ds rs h = (
      Ok x ∷ h.0,
      before_gap x es h.0 h.1,
      ap
          (λ (qs : List (Option R)). Some (Ok x) ∷ qs) h.2,
    )

    at_back : (x : Entry) (es : List Entry) (ds : List Direction) (rs : List (Option R))
        → Reported es ds rs → Reported (es ++ x ∷ []) (Back ∷ ds) (Some (Ok x) ∷ rs)
    at_back x es ds rs h =
        let xs = h.0 ++ Ok x ∷ [] in
        let one : Some (Ok x) ≡ last xs = last_of xs h.0 (Ok x) refl in
        let more : rs ≡ yield_each (but_last xs) ds = h.2
        ∙ ap (λ (ys : List R). yield_each ys ds) (sym (others_of xs h.0 (Ok x) refl)) in
        (xs, behind_gap x es h.0 h.1, cc (one, more))

    whose : (e : Error) (end : Direction) (t v : T) (es : List Entry) → Unfailed t es
        → Runs next next_back t (end ∷ []) (Some (Err e) ∷ []) v
        → (stops e ≡ true) ⊎ Contains errors e
    whose e end t v es g runs = elim (stops e) as
        (λ b. stops e ≡ b → (stops e ≡ true) ⊎ Contains errors e)
        [ true ↦ λ h. inl h | false ↦ λ h. inr (returned end runs h) ] refl
      where
        returned : (end : Direction) → Runs next next_back t (end ∷ []) (Some (Err e) ∷ []) v
            → stops e ≡ false → Contains errors e
        returned Front runs h = (g.until.answers (Front ∷ []) (Some (Err e) ∷ []) v runs (h, tt)).0
        returned Back runs h = (g.until.answers (Back ∷ []) (Some (Err e) ∷ []) v runs (h, tt)).0

    pub reported_up_to_gap : (ds : List Direction) (rs : List (Option R)) (t u : T) (es : List Entry)
        → Unfailed t es → Runs next next_back t ds rs u → StopsAtNone false rs → Reported es ds rs
    reported_up_to_gap [] [] t u es g runs once = (ok_results es, inl refl, refl)
    reported_up_to_gap [] (r ∷ rs) t u es g runs once = absurd runs
    reported_up_to_gap (d ∷ ds) [] t u es g runs once = absurd runs
    reported_up_to_gap (Front ∷ ds) (None ∷ rs) t u es g runs once =
        let one = (yields_front (answer_stops every_error) next next_back t
        (ok_results es) None runs.0 g.yields runs.1 refl).0 in
        let none : ds ≡ [] = no_ends ds rs runs.0 u runs.2 once in
        let more : rs ≡ yield_each (but_first (ok_results es)) ds = once
        ∙ ap (yield_each (but_first (ok_results es))) (sym none) in
        (ok_results es, inl refl, cc (one, more))
    reported_up_to_gap (Back ∷ ds) (None ∷ rs) t u es g runs once =
        let one = (yields_back (answer_stops every_error) next next_back t
        (ok_results es) None runs.0 g.yields runs.1 refl).0 in
        let none : ds ≡ [] = no_ends ds rs runs.0 u runs.2 once in
        let more : rs ≡ yield_each (but_last (ok_results es)) ds = once
        ∙ ap (yield_each (but_last (ok_results es))) (sym none) in
        (ok_results es, inl refl, cc (one, more))
    reported_up_to_gap (Front ∷ ds) (Some (Err e) ∷ rs) t u es g runs once =
        let more = none_left ds rs runs.0 u runs.2
        (g.ends.answers (Front ∷ ds) (Some (Err e) ∷ rs) u runs) in (
          Err e ∷ [],
          all_gap e es (whose e Front t runs.0 es g (runs.0, runs.1, refl)),
          ap
              (λ (qs : List (Option R)). Some (Err e) ∷ qs) more,
        )
    reported_up_to_gap (Back ∷ ds) (Some (Err e) ∷ rs) t u es g runs once =
        let more = none_left ds rs runs.0 u runs.2
        (g.ends.answers (Back ∷ ds) (Some (Err e) ∷ rs) u runs) in (
          Err e ∷ [],
          all_gap e es (whose e Back t runs.0 es g (runs.0, runs.1, refl)),
          ap
              (λ (qs : List (Option R)). Some (Err e) ∷ qs) more,
        )
    reported_up_to_gap (Front ∷ ds) (Some (Ok x) ∷ rs) t u es g runs once =
        let one = yields_front (answer_stops every_error) next next_back t (ok_results es)
        (Some (Ok x)) runs.0 g.yields runs.1 refl in
        let w = ok_first es x one.0 in
        let h : Unfailed t (x ∷ w.0) = subst (Unfailed t) w.1 g in
        let left : YieldsExactly (answer_stops every_error) next next_back runs.0 (ok_results w.0) =
        (yields_front (answer_stops every_error) next next_back t (ok_results (x ∷ w.0))
        (Some (Ok x)) runs.0 h.yields runs.1 refl).1 in
        let still : Unfailed runs.0 w.0 = record {
          yields = left;
          until = record {
            answers = λ es qs v more fine.
                (h.until.answers (Front ∷ es) (Some (Ok x) ∷ qs) v (runs.0, runs.1, more)
                (refl, fine)).1;
          };
          ends = record {
            answers = λ es qs v more. h.ends.answers (Front ∷ es) (Some (Ok x) ∷ qs) v
                (runs.0, runs.1, more);
          };
        } in
        subst (λ (ys : List Entry). Reported ys (Front ∷ ds) (Some (Ok x) ∷ rs)) (sym w.1)
        (at_front x w.0 ds rs (reported_up_to_gap ds rs runs.0 u w.0 still runs.2 once))
    reported_up_to_gap (Back ∷ ds) (Some (Ok x) ∷ rs) t u es g runs once =
        let one = yields_back (answer_stops every_error) next next_back t (ok_results es)
        (Some (Ok x)) runs.0 g.yields runs.1 refl in
        let w = ok_last es x one.0 in
        let h : Unfailed t (w.0 ++ x ∷ []) = subst (Unfailed t) w.1 g in
        let others : but_last (ok_results (w.0 ++ x ∷ [])) ≡ ok_results w.0 =
        others_of (ok_results (w.0 ++ x ∷ [])) (ok_results w.0) (Ok x)
        (map_append w.0 (x ∷ [])) in
        let left : YieldsExactly (answer_stops every_error) next next_back runs.0 (ok_results w.0) =
        subst (YieldsExactly (answer_stops every_error) next next_back runs.0) others
        (yields_back (answer_stops every_error) next next_back t (ok_results (w.0 ++ x ∷ []))
        (Some (Ok x)) runs.0 h.yields runs.1 refl).1 in
        let still : Unfailed runs.0 w.0 = record {
          yields = left;
          until = record {
            answers = λ es qs v more fine. subst
                (λ (ys : List R). Follows errors (yield_each ys es) qs) others
                (h.until.answers (Back ∷ es) (Some (Ok x) ∷ qs) v (runs.0, runs.1, more)
                (refl, fine)).1;
          };
          ends = record {
            answers = λ es qs v more. h.ends.answers (Back ∷ es) (Some (Ok x) ∷ qs) v
                (runs.0, runs.1, more);
          };
        } in
        subst (λ (ys : List Entry). Reported ys (Back ∷ ds) (Some (Ok x) ∷ rs)) (sym w.1)
        (at_back x w.0 ds rs (reported_up_to_gap ds rs runs.0 u w.0 still runs.2 once))

-- of a merger, from what it deals up to an error
pub merges_up_to_gap : {S T : Type 0} (front back : S → Option R → S → Type 0) (its : List S)
    (next next_back : T → Option R → T → Type 0) (t : T)
    → YieldsBeforeErrors front back its next next_back t
    → YieldsUntilError front back its next next_back t → EndsAtError next next_back t
    → MergesUpToGap front back its next next_back t
merges_up_to_gap front back its next next_back t before until ends = record {
  yields = λ stops lists sorted. record {
    answers = λ ds rs u runs once. reported_up_to_gap stops (all_errors lists) next next_back ds rs t u
        (union_of lists)
        (record {
          yields = before.yields stops lists sorted;
          until =
              until.yields stops lists sorted;
          ends = ends;
        }) runs once;
  };
}
