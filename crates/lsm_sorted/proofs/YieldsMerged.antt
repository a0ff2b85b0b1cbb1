-- A merger of fresh sources deals what they have together.
use Rattle.std.proofs.Common.{◌≡◌, refl, sym, ◌∙◌, ap, subst, ℕ, zero, suc, ◌+◌, ◌<◌, ◌≤◌, Bool}
use Rattle.std.proofs.Common.{false, List, [], ◌∷◌, map, length, reverse, arith}
use Rattle.std.specs.Prelude.{◌==◌, Option, Some, None, Ok, Err, All, count_by}
use Rattle.std.specs.Option.{option_map}
use Rattle.std.specs.List.{AllZip, AllByRecursion}
use Rattle.std.specs.Iterator.{Count, IsFinite}
use Rattle.std.proofs.lemmas.List.{append-nil, length-map}
use Rattle.std.proofs.lemmas.List.Elements.{recursion_from_All, All-from_recursion, All-nil}
use Rattle.sst_entries.specs.Entry.{Entry}
use Rattle.sst_entries.specs.Stream.{YieldsExactly, CanYield, answer_stops, NoneStops, Runs, first}
use Rattle.sst_entries.specs.Stream.{but_first, last, but_last, yield_each, ok_results, front_of, back_of}
use Rattle.sst_entries.specs.Stream.{EndAtError, EndsAtError}
use Rattle.sst_entries.specs.declared.error.Error.{Error}
use Rattle.sst_entries.specs.declared.stream.Direction.{Direction}
use Rattle.sst_entries.specs.declared.stream.Direction.TheVariants.{Front, Back}
use Rattle.sst_entries.proofs.StreamLemmas.{yields_by, map_reverse}
use Rattle.lsm_sorted.specs.declared.heap.ends.Ends.{Ends}
use Rattle.lsm_sorted.specs.declared.merge.HeapItem.{HeapItem}
use Rattle.lsm_sorted.specs.declared.merge.Merger.{Merger}
use Rattle.lsm_sorted.specs.merge.Ends.{R, Left, Goes, new_ends}
use Rattle.lsm_sorted.specs.merge.Union.{Ascends, entries_among, all_errors, union_of}
use Rattle.lsm_sorted.specs.merge.Merge.{entry_of, is_ready, MayMerge, Follows, YieldsUntil, held_of}
use Rattle.lsm_sorted.proofs.Kept.{count_of, Ready, LeavesIf, Kept, whole, taken, HeapHolds, Stands}
use Rattle.lsm_sorted.proofs.Kept.{Leaves, MergeAnswer, Merges}
use Rattle.lsm_sorted.proofs.RoomLemmas.{may_merge}

-- ---- a new merger

abbrev pub untouched : List R → Kept
untouched rs = record { front = None; rest = rs; back = None }

pub none_taken : (lists : List (List R)) (k : ℕ) (b : Direction)
    → taken (map untouched lists) k b ≡ None
none_taken [] k Back = refl
none_taken [] k Front = refl
none_taken (rs ∷ lists) zero Back = refl
none_taken (rs ∷ lists) zero Front = refl
none_taken (rs ∷ lists) (suc k) b = none_taken lists k b

pub all_whole : (lists : List (List R)) → map whole (map untouched lists) ≡ lists
all_whole [] = refl
all_whole (rs ∷ lists) = ap (λ (qs : List R). qs ∷ map whole (map untouched lists)) (append-nil rs)
    ∙ ap (λ (ls : List (List R)). rs ∷ ls) (all_whole lists)

pub all_sorted : (lists : List (List R)) → AllByRecursion (λ rs. Ascends (entries_among rs)) lists
    → AllByRecursion (λ k. Ascends (entries_among (whole k))) (map untouched lists)
all_sorted [] h = tt
all_sorted (rs ∷ lists) h = (
  subst (λ (qs : List R). Ascends (entries_among qs))
      (sym (append-nil rs)) h.0,
  all_sorted lists h.1,
)

module _ {S A : Type 0} (front back : S → Option R → S → Type 0) (m : Merger S A) (its : List S)
    (sources : m.sources.items ≡ map new_ends its) (empty : m.heap.items ≡ [])
    (no_front : m.front_ready ≡ false) (no_back : m.back_ready ≡ false) where
  zip_fresh : (stops : Error → Bool) (ss : List S) (lists : List (List R))
      → AllZip (YieldsExactly (answer_stops stops) front back) ss lists
      → AllZip (λ s k. Left stops front back s k.rest) (map new_ends ss) (map untouched lists)
  zip_fresh stops [] [] h = tt
  zip_fresh stops [] (rs ∷ lists) h = absurd h
  zip_fresh stops (s ∷ ss) [] h = absurd h
  zip_fresh stops (s ∷ ss) (rs ∷ lists) h = (record { lists = h.0 }, zip_fresh stops ss lists h.1)

  -- nothing is held yet
  pub new_merging : (stops : Error → Bool) (lists : List (List R))
      → AllZip (YieldsExactly (answer_stops stops) front back) its lists
      → AllByRecursion (λ rs. Ascends (entries_among rs)) lists
      → Stands stops front back m (map untouched lists)
      × ((b : Direction) → Ready (is_ready b m) b (map untouched lists))
  new_merging stops lists zip up = (
    record {
      sources = subst (λ (ss : List (Ends S)). AllZip (λ s k. Left stops front back s k.rest) ss
          (map untouched lists)) (sym sources) (zip_fresh stops its lists zip);
      sorted = all_sorted lists up;
      heap = subst (λ (hs : List (HeapItem A)). HeapHolds hs (map untouched lists)) (sym empty)
          (record {
            each = All-nil (λ h. taken (map untouched lists) h.source h.end ≡ Some (entry_of h));
            once = λ k b. sym (ap count_of (none_taken lists k b));
          });
    },
    λ b. subst (λ (f : Bool). Ready f b (map untouched lists)) (sym (not_ready b))
        (λ k. none_taken lists k b),
  )
    where
      not_ready : (b : Direction) → is_ready b m ≡ false
      not_ready Back = no_back
      not_ready Front = no_front

  module _ (fine : m.failed ≡ false) where
    pub new_leaves : (stops : Error → Bool) (lists : List (List R))
        → AllZip (YieldsExactly (answer_stops stops) front back) its lists
        → AllByRecursion (λ rs. Ascends (entries_among rs)) lists
        → Leaves stops front back m (union_of lists) (all_errors lists)
    new_leaves stops lists zip up =
        let new = new_merging stops lists zip up in
        record {
          parts = subst (λ (b : Bool). LeavesIf stops front back b m (union_of lists)
              (all_errors lists)) (sym fine) (record {
                kept = map untouched lists;
                stands = new.0;
                ready = new.1;
                entries = ap union_of (sym (all_whole lists));
                faults = ap all_errors (sym (all_whole lists));
              });
        }

    module _ (can can_back : S → Type 0) (left : S → Count) where
      all_fresh : (ss : List S) → AllByRecursion (CanYield front back can can_back) ss
          → AllByRecursion (λ s. IsFinite (left s)) ss
          → AllByRecursion (Goes front back can can_back left) (map new_ends ss)
      all_fresh [] c f = tt
      all_fresh (s ∷ ss) c f = (record { ready = (c.0, f.0) }, all_fresh ss c.1 f.1)

      pub new_may : length its + length its ≤ m.heap.room
          → All (CanYield front back can can_back) its → All (λ s. IsFinite (left s)) its
          → MayMerge front back can can_back left m
      new_may space c ends = may_merge front back can can_back left m fine (record {
        sources = subst (All (Goes front back can can_back left)) (sym sources)
            (All-from_recursion (Goes front back can can_back left) (map new_ends its)
            (all_fresh its (recursion_from_All (CanYield front back can can_back) its c)
            (recursion_from_All (λ s. IsFinite (left s)) its ends)));
        known = subst (All (λ h. h.source < length m.sources.items)) (sym empty)
            (All-nil (λ h. h.source < length m.sources.items));
        space = let n : length m.sources.items ≡ length its = ap length sources
            ∙ length-map its new_ends in omega arith;
        few = let n : length m.heap.items ≡ 0 = ap length empty in omega arith;
        each = λ k. let n : held_of k m ≡ 0 = ap (count_by (λ h. h.source == k)) empty in
            omega arith;
      })

-- ---- whole runs

all_first : (xs : List Entry) → first (ok_results xs) ≡ option_map (λ x. Ok x) (first xs)
all_first [] = refl
all_first (x ∷ xs) = refl

all_but_first : (xs : List Entry) → but_first (ok_results xs) ≡ ok_results (but_first xs)
all_but_first [] = refl
all_but_first (x ∷ xs) = refl

all_last : (xs : List Entry) → last (ok_results xs) ≡ option_map (λ x. Ok x) (last xs)
all_last xs = ap first (map_reverse xs) ∙ all_first (reverse xs)

all_but_last : (xs : List Entry) → but_last (ok_results xs) ≡ ok_results (but_last xs)
all_but_last xs = ap (λ (rs : List R). reverse (but_first rs)) (map_reverse xs)
    ∙ ap reverse (all_but_first (reverse xs)) ∙ map_reverse (but_first (reverse xs))

module _ {T : Type 0} (May Ended : T → Type 0)
    (Has : (Error → Bool) → T → List Entry → List Error → Type 0) where
  abbrev Forth : T → Option R → T → Type 0
  Forth = Merges May Ended Has front_of

  abbrev Behind : T → Option R → T → Type 0
  Behind = Merges May Ended Has back_of

  module _ (stops : Error → Bool) where
    abbrev Yielded : T → List R → Type 0
    Yielded t rs = (xs : List Entry) × (rs ≡ ok_results xs) × Has stops t xs []

    -- without errors to come, one call gives the entry of its end
    one_yielded : (step : Option Entry × List Entry) (returned : Option R) (others : List R)
        → returned ≡ option_map (λ x. Ok x) step.0 → others ≡ ok_results step.1
        → (step.0 ≡ None → step.1 ≡ []) → (r : Option R) (t : T)
        → MergeAnswer (Has stops) step [] r t → (r ≡ returned) × Yielded t others
    one_yielded step returned others states leaves ends None t a = (
      sym (states ∙ ap (option_map (λ x. Ok x)) a.0),
      ([], leaves ∙ ap ok_results (ends a.0), a.2),
    )
    one_yielded step returned others states leaves ends (Some (Ok x)) t a =
        (sym (states ∙ ap (option_map (λ y. Ok y)) a.0), (step.1, leaves, a.1))
    one_yielded step returned others states leaves ends (Some (Err e)) t a = absurd (omega (arith, a.0.1))

    none_left : (xs : List Entry) → first xs ≡ None → but_first xs ≡ []
    none_left [] e = refl
    none_left (x ∷ xs) e = absurd cc

    pub yields_merged : (s : T) (xs : List Entry) (errors : List Error) → errors ≡ []
        → Has stops s xs errors → YieldsExactly (answer_stops stops) Forth Behind s (ok_results xs)
    yields_merged s xs errors none has = yields_by (answer_stops stops) Forth Behind Yielded
        (λ s rs r t was step fine. one_yielded (front_of was.0) (first rs) (but_first rs)
        (ap first was.1 ∙ all_first was.0) (ap but_first was.1 ∙ all_but_first was.0)
        (none_left was.0) r t (step.gives stops was.0 [] was.2 fine))
        (λ s rs r t was step fine. one_yielded (back_of was.0) (last rs) (but_last rs)
        (ap last was.1 ∙ all_last was.0) (ap but_last was.1 ∙ all_but_last was.0)
        (λ e. ap reverse (none_left (reverse was.0) e)) r t
        (step.gives stops was.0 [] was.2 fine))
        s (ok_results xs) (xs, refl, subst (Has stops s xs) none has)

    one_nothing : (rs : List (Option R)) (q : Option R) (t : T)
        → MergeAnswer (Has stops) (None, []) [] q t
        → (Has stops t [] [] → AllByRecursion (λ r. r ≡ None) rs)
        → (q ≡ None) × AllByRecursion (λ r. r ≡ None) rs
    one_nothing rs None t a more = (refl, more a.2)
    one_nothing rs (Some (Ok x)) t a more = absurd cc
    one_nothing rs (Some (Err f)) t a more = absurd (omega (arith, a.0.1))

    -- where nothing is left, `None` is given
    pub nothing_more : (ends : List Direction) (rs : List (Option R)) (s t : T) → Has stops s [] []
        → Runs Forth Behind s ends rs t → NoneStops (answer_stops stops) rs
        → AllByRecursion (λ r. r ≡ None) rs
    nothing_more [] [] s t has runs fine = tt
    nothing_more [] (r ∷ rs) s t has runs fine = absurd runs
    nothing_more (e ∷ ends) [] s t has runs fine = absurd runs
    nothing_more (Front ∷ ends) (r ∷ rs) s t has runs fine =
        one_nothing rs r runs.0 (runs.1.gives stops [] [] has fine.0)
        (λ h. nothing_more ends rs runs.0 t h runs.2 fine.1)
    nothing_more (Back ∷ ends) (r ∷ rs) s t has runs fine =
        one_nothing rs r runs.0 (runs.1.gives stops [] [] has fine.0)
        (λ h. nothing_more ends rs runs.0 t h runs.2 fine.1)

    -- one answer, and those after it
    one_followed : (errors : List Error) (step : Option Entry × List Entry) (returned : Option R)
        (others : List (Option R)) → returned ≡ option_map (λ x. Ok x) step.0
        → (step.0 ≡ None → step.1 ≡ []) → (r : Option R) (rs : List (Option R)) (t : T)
        → MergeAnswer (Has stops) step errors r t
        → (Has stops t step.1 errors → Follows errors others rs)
        → (Has stops t [] [] → AllByRecursion (λ q. q ≡ None) rs)
        → Follows errors (returned ∷ others) (r ∷ rs)
    one_followed errors step returned others states ends None rs t a more nothing = (
      states ∙ ap (option_map (λ x. Ok x)) a.0,
      a.1,
      more
          (subst (λ (es : List Error). Has stops t step.1 es) (sym a.1)
          (subst (λ (xs : List Entry). Has stops t xs []) (sym (ends a.0)) a.2)),
    )
    one_followed errors step returned others states ends (Some (Ok x)) rs t a more nothing =
        (states ∙ ap (option_map (λ y. Ok y)) a.0, more a.1)
    one_followed errors step returned others states ends (Some (Err e)) rs t a more nothing =
        (a.0, nothing a.1)

    follows : (errors : List Error) (ends : List Direction) (rs : List (Option R)) (s t : T)
        (xs : List Entry) → Has stops s xs errors → Runs Forth Behind s ends rs t
        → NoneStops (answer_stops stops) rs → Follows errors (yield_each (ok_results xs) ends) rs
    follows errors [] [] s t xs has runs fine = refl
    follows errors [] (r ∷ rs) s t xs has runs fine = absurd runs
    follows errors (e ∷ ends) [] s t xs has runs fine = absurd runs
    follows errors (Front ∷ ends) (r ∷ rs) s t xs has runs fine =
        one_followed errors (front_of xs) (first (ok_results xs))
        (yield_each (but_first (ok_results xs)) ends) (all_first xs) (none_left xs) r rs runs.0
        (runs.1.gives stops xs errors has fine.0)
        (λ h. subst (λ (qs : List R). Follows errors (yield_each qs ends) rs) (sym (all_but_first xs))
        (follows errors ends rs runs.0 t (but_first xs) h runs.2 fine.1))
        (λ h. nothing_more ends rs runs.0 t h runs.2 fine.1)
    follows errors (Back ∷ ends) (r ∷ rs) s t xs has runs fine =
        one_followed errors (back_of xs) (last (ok_results xs))
        (yield_each (but_last (ok_results xs)) ends) (all_last xs)
        (λ e. ap reverse (none_left (reverse xs) e)) r rs runs.0
        (runs.1.gives stops xs errors has fine.0)
        (λ h. subst (λ (qs : List R). Follows errors (yield_each qs ends) rs) (sym (all_but_last xs))
        (follows errors ends rs runs.0 t (but_last xs) h runs.2 fine.1))
        (λ h. nothing_more ends rs runs.0 t h runs.2 fine.1)

    pub yields_until : (s : T) (xs : List Entry) (errors : List Error) → Has stops s xs errors
        → YieldsUntil stops Forth Behind s xs errors
    yields_until s xs errors has = record {
      answers =
          λ ends rs t runs fine. follows errors ends rs s t xs has runs fine;
    }

  -- once it has ended, it gives `None`
  ended_more : (ends : List Direction) (rs : List (Option R)) (s t : T) → Ended s
      → Runs Forth Behind s ends rs t → AllByRecursion (λ r. r ≡ None) rs
  ended_more [] [] s t over runs = tt
  ended_more [] (r ∷ rs) s t over runs = absurd runs
  ended_more (e ∷ ends) [] s t over runs = absurd runs
  ended_more (Front ∷ ends) (r ∷ rs) s t over runs = let one = runs.1.ended over in
      (one.0, ended_more ends rs runs.0 t one.1 runs.2)
  ended_more (Back ∷ ends) (r ∷ rs) s t over runs = let one = runs.1.ended over in
      (one.0, ended_more ends rs runs.0 t one.1 runs.2)

  one_ends : (r : Option R) (rs : List (Option R))
      → ((e : Error) → r ≡ Some (Err e) → AllByRecursion (λ q. q ≡ None) rs) → EndAtError rs
      → EndAtError (r ∷ rs)
  one_ends None rs over more = more
  one_ends (Some (Ok x)) rs over more = more
  one_ends (Some (Err e)) rs over more = over e refl

  nothing_after : (ends : List Direction) (rs : List (Option R)) (s t : T)
      → Runs Forth Behind s ends rs t → EndAtError rs
  nothing_after [] [] s t runs = tt
  nothing_after [] (r ∷ rs) s t runs = absurd runs
  nothing_after (e ∷ ends) [] s t runs = absurd runs
  nothing_after (Front ∷ ends) (r ∷ rs) s t runs =
      one_ends r rs (λ e is. ended_more ends rs runs.0 t (runs.1.ends e is) runs.2)
      (nothing_after ends rs runs.0 t runs.2)
  nothing_after (Back ∷ ends) (r ∷ rs) s t runs =
      one_ends r rs (λ e is. ended_more ends rs runs.0 t (runs.1.ends e is) runs.2)
      (nothing_after ends rs runs.0 t runs.2)

  pub ends_at_error : (s : T) → EndsAtError Forth Behind s
  ends_at_error s = record { answers = λ ends rs t runs. nothing_after ends rs s t runs }
