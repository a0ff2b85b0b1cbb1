-- Readers of runs and further sources as one: what they deal together.
use Rattle.std.proofs.Common.{◌≡◌, refl, sym, ◌∙◌, ap, subst, ℕ, Bool, false, List, [], ◌∷◌, ◌++◌}
use Rattle.std.proofs.Common.{get_or}
use Rattle.std.specs.Iterator.{Count, IsFinite}
use Rattle.std.specs.Prelude.{All, Option, ◌&&◌, map}
use Rattle.std.specs.List.{AllByRecursion, AllZip}
use Rattle.std.specs.declared.ops.Bound.{Bound}
use Rattle.std.proofs.lemmas.List.{append-nil, map-append}
use Rattle.std.proofs.lemmas.List.Elements.{All-append, All-map}
use Rattle.either.specs.Either.{MatchEither, either}
use Rattle.either.specs.Iterator.{either_steps}
use Rattle.either.specs.declared.Either.{Either}
use Rattle.either.specs.declared.Either.TheVariants.{Left, Right}
use Rattle.sst_entries.specs.declared.error.Error.{Error}
use Rattle.sst_entries.specs.Entry.{Entry}
use Rattle.sst_entries.specs.Point.{is_from, is_to, within}
use Rattle.sst_entries.specs.Stream.{CanYield, YieldsExactly, answer_stops, but_first, but_last, first, last}
use Rattle.sst_entries.specs.Stream.{ok_results}
use Rattle.sst_entries.proofs.Lists.{all_append}
use Rattle.sst_entries.proofs.StreamLemmas.{can_after_back, can_by, can_front, can_now}
use Rattle.sst_entries.proofs.StreamLemmas.{can_now_back}
use Rattle.sst_entries.proofs.StreamLemmas.{yields_back, yields_by, yields_front}
use Rattle.sst_blocks.specs.table.Chunks.{joined}
use Rattle.lsm_sorted.specs.merge.Ends.{R}
use Rattle.lsm_sorted.specs.merge.Union.{Ascends}
use Rattle.lsm_sorted.specs.Below.{GivesBelow, below_of}
use Rattle.lsm_sorted.specs.declared.below.Below.{Below}
use Rattle.lsm_sorted.proofs.BelowLemmas.{MayBoth, MayFront, can_below}
use Rattle.lsm_runs.specs.RunLists.{YieldTogether, YieldWithin, YieldsList, single}
use Rattle.lsm_runs.proofs.Together.{cut, join}
use Rattle.lsm_runs.proofs.Unions.{filter_ascends}

-- ---- one of two

module _ {S T : Type 0} (front back : S → Option R → S → Type 0)
    (front_too back_too : T → Option R → T → Type 0) where
  abbrev pub InFront : Either S T → Option R → Either S T → Type 0
  InFront = either_steps front front_too

  abbrev pub Behind : Either S T → Option R → Either S T → Type 0
  Behind = either_steps back back_too

  module _ (stops : Error → Bool) where
    abbrev pub Has : S → List R → Type 0
    Has = YieldsExactly (answer_stops stops) front back

    abbrev pub HasToo : T → List R → Type 0
    HasToo = YieldsExactly (answer_stops stops) front_too back_too

    abbrev pub Either_has : Either S T → List R → Type 0
    Either_has s xs = MatchEither s (λ x. Has x xs) (λ y. HasToo y xs)

    at_front : (s : Either S T) (xs : List R) (r : Option R) (t : Either S T) → Either_has s xs
        → InFront s r t → answer_stops stops r ≡ false
        → (r ≡ first xs) × Either_has t (but_first xs)
    at_front (Left x) xs r (Left y) has step fine =
        yields_front (answer_stops stops) front back x xs r y has step fine
    at_front (Left x) xs r (Right y) has step fine = absurd step
    at_front (Right x) xs r (Left y) has step fine = absurd step
    at_front (Right x) xs r (Right y) has step fine =
        yields_front (answer_stops stops) front_too back_too x xs r y has step fine

    at_back : (s : Either S T) (xs : List R) (r : Option R) (t : Either S T) → Either_has s xs
        → Behind s r t → answer_stops stops r ≡ false → (r ≡ last xs) × Either_has t (but_last xs)
    at_back (Left x) xs r (Left y) has step fine =
        yields_back (answer_stops stops) front back x xs r y has step fine
    at_back (Left x) xs r (Right y) has step fine = absurd step
    at_back (Right x) xs r (Left y) has step fine = absurd step
    at_back (Right x) xs r (Right y) has step fine =
        yields_back (answer_stops stops) front_too back_too x xs r y has step fine

    pub one_yields : (s : Either S T) (xs : List R) → Either_has s xs
        → YieldsExactly (answer_stops stops) InFront Behind s xs
    one_yields s xs has =
        yields_by (answer_stops stops) InFront Behind Either_has at_front at_back s xs has

  -- ---- where it may be asked

  module _ (can can_back : S → Type 0) (can_too can_back_too : T → Type 0) where
    abbrev May : Either S T → Type 0
    May s = MatchEither s (CanYield front back can can_back)
        (CanYield front_too back_too can_too can_back_too)

    ready : (s : Either S T) → May s
        → MatchEither s can can_too × MatchEither s can_back can_back_too
    ready (Left x) may =
        (can_now front back can can_back x may, can_now_back front back can can_back x may)
    ready (Right x) may = (
      can_now front_too back_too can_too can_back_too x may,
      can_now_back front_too back_too can_too can_back_too x may,
    )

    may_front : (s : Either S T) (r : Option R) (t : Either S T) → May s → InFront s r t → May t
    may_front (Left x) r (Left y) may step = can_front front back can can_back x r y may step
    may_front (Left x) r (Right y) may step = absurd step
    may_front (Right x) r (Left y) may step = absurd step
    may_front (Right x) r (Right y) may step =
        can_front front_too back_too can_too can_back_too x r y may step

    may_behind : (s : Either S T) (r : Option R) (t : Either S T) → May s → Behind s r t → May t
    may_behind (Left x) r (Left y) may step = can_after_back front back can can_back x r y may step
    may_behind (Left x) r (Right y) may step = absurd step
    may_behind (Right x) r (Left y) may step = absurd step
    may_behind (Right x) r (Right y) may step =
        can_after_back front_too back_too can_too can_back_too x r y may step

    pub one_asked : (s : Either S T) → May s
        → CanYield InFront Behind (λ e. MatchEither e can can_too)
        (λ e. MatchEither e can_back can_back_too) s
    one_asked s may =
        can_by InFront Behind (λ e. MatchEither e can can_too)
        (λ e. MatchEither e can_back can_back_too) May ready may_front may_behind s may

  -- ---- several together

  lefts : (sources : List S) (yielded : List (List Entry))
      → AllZip (λ (s : S) (es : List Entry). YieldsList front back es s) sources yielded
      → AllZip (λ (s : Either S T) (es : List Entry). YieldsList InFront Behind es s)
      (map (λ (x : S). Left x) sources) yielded
  lefts [] [] all = tt
  lefts [] (es ∷ yielded) all = absurd all
  lefts (s ∷ sources) [] all = absurd all
  lefts (s ∷ sources) (es ∷ yielded) all = (
    λ stops memory. one_yields stops (Left s) (ok_results es) (all.0 stops memory),
    lefts sources yielded all.1,
  )

  module _ (low high : Bound (List ℕ)) where
    -- of the further sources what lies within the bounds
    rights : (sources : List T) (lists : List (List Entry))
        → AllZip (λ (s : T) (es : List Entry). YieldsList front_too back_too (within low high es) s)
        sources lists
        → AllZip (λ (s : Either S T) (es : List Entry). YieldsList InFront Behind es s)
        (map (λ (y : T). Right y) sources) (map (within low high) lists)
    rights [] [] all = tt
    rights [] (es ∷ lists) all = absurd all
    rights (s ∷ sources) [] all = absurd all
    rights (s ∷ sources) (es ∷ lists) all = (
      λ stops memory. one_yields stops (Right s) (ok_results (within low high es))
          (all.0 stops memory),
      rights sources lists all.1,
    )

    each_ascends : (lists : List (List Entry)) → AllByRecursion Ascends lists
        → AllByRecursion Ascends (map (within low high) lists)
    each_ascends [] up = tt
    each_ascends (es ∷ lists) up = (
      filter_ascends (λ (e : Entry). is_from low e.user_key && is_to high e.user_key) es up.0,
      each_ascends lists up.1,
    )

    single_cut : (lists : List (List Entry)) → map (cut low high) (map single lists)
        ≡ map (within low high) lists
    single_cut [] = refl
    single_cut (es ∷ lists) =
        ap (λ (us : List Entry). within low high us ∷ map (cut low high) (map single lists))
        (append-nil es)
        ∙ ap (λ (ls : List (List Entry)). within low high es ∷ ls) (single_cut lists)

    zip_append : (xs ys : List (Either S T)) (ls ms : List (List Entry))
        → AllZip (λ (s : Either S T) (es : List Entry). YieldsList InFront Behind es s) xs ls
        → AllZip (λ (s : Either S T) (es : List Entry). YieldsList InFront Behind es s) ys ms
        → AllZip (λ (s : Either S T) (es : List Entry). YieldsList InFront Behind es s) (xs ++ ys)
        (ls ++ ms)
    zip_append [] ys [] ms h k = k
    zip_append [] ys (es ∷ ls) ms h k = absurd h
    zip_append (x ∷ xs) ys [] ms h k = absurd h
    zip_append (x ∷ xs) ys (es ∷ ls) ms h k = (h.0, zip_append xs ys ls ms h.1 k)

    pub together_all : (readers : List S) (sources : List T) (lists : List (List (List Entry)))
        (further : List (List Entry)) → YieldTogether front back readers (map (cut low high) lists)
        → YieldWithin front_too back_too low high sources further
        → YieldTogether InFront Behind
        (map (λ (y : T). Right y) sources ++ map (λ (x : S). Left x) readers)
        (map (cut low high) (map single further ++ lists))
    together_all readers sources lists further d w =
        subst (λ (found : List (List Entry)). YieldTogether InFront Behind
        (map (λ (y : T). Right y) sources ++ map (λ (x : S). Left x) readers) found)
        (ap (λ (ls : List (List Entry)). ls ++ map (cut low high) lists)
        (sym (single_cut further))
        ∙ sym (map-append (cut low high) (map single further) lists))
        (record {
          yielded = map (within low high) further ++ d.yielded;
          same = join (map (within low high) further) d.yielded
              ∙ ap (λ (es : List Entry). joined (map (within low high) further) ++ es) d.same
              ∙ sym (join (map (within low high) further) (map (cut low high) lists));
          ascend = all_append Ascends (map (within low high) further) d.yielded
              (each_ascends further w.ascend) d.ascend;
          yield_each = zip_append (map (λ (y : T). Right y) sources) (map (λ (x : S). Left x) readers)
              (map (within low high) further) d.yielded (rights sources further w.yield_each)
              (lefts readers d.yielded d.yield_each);
        })

-- what holds of the parts holds of all
pub all_both : {S T : Type 0} (P : Either S T → Type 0) (readers : List S) (sources : List T)
    → All (λ (x : S). P (Left x)) readers → All (λ (y : T). P (Right y)) sources
    → All P (map (λ (y : T). Right y) sources ++ map (λ (x : S). Left x) readers)
all_both {S} {T} P readers sources h k =
    All-append P (map (λ (y : T). Right y) sources) (map (λ (x : S). Left x) readers)
    (All-map P (λ (y : T). Right y) sources k) (All-map P (λ (x : S). Left x) readers h)

-- ---- where all may be asked, below a bound

module _ {S T : Type 0} (front back : S → Option R → S → Type 0)
    (front_too back_too : T → Option R → T → Type 0) (can can_back : S → Type 0)
    (can_too can_back_too : T → Type 0) (left : S → Count) (left_too : T → Count) (bound : ℕ) where
  abbrev pub AllFront : Either S T → Option R → Either S T → Type 0
  AllFront = InFront front back front_too back_too

  abbrev pub AllBehind : Either S T → Option R → Either S T → Type 0
  AllBehind = Behind front back front_too back_too

  abbrev pub Can : Either S T → Type 0
  Can e = MatchEither e can can_too

  abbrev pub CanBack : Either S T → Type 0
  CanBack e = MatchEither e can_back can_back_too

  abbrev pub all_left : Either S T → Count
  all_left = either left left_too

  abbrev pub IsAsked : Below (Either S T) → Type 0
  IsAsked = CanYield (GivesBelow (MayFront AllFront AllBehind Can CanBack all_left) AllFront)
      (GivesBelow (MayBoth AllFront AllBehind Can CanBack all_left) AllBehind)
      (MayFront AllFront AllBehind Can CanBack all_left)
      (MayBoth AllFront AllBehind Can CanBack all_left)

  abbrev pub Ends : Below (Either S T) → Type 0
  Ends b = IsFinite (all_left b.iter)

  asked_below : (e : Either S T)
      → MatchEither e (CanYield front back can can_back)
      (CanYield front_too back_too can_too can_back_too) → IsFinite (all_left e)
      → IsAsked (below_of bound e)
  asked_below e may ends =
      can_below AllFront AllBehind Can CanBack all_left (below_of bound e) (record {
        asks = one_asked front back front_too back_too can can_back can_too can_back_too e may;
        ends = ends;
      })

  module _ (readers : List S) (sources : List T) where
    abbrev pub all_of_them : List (Either S T)
    all_of_them = map (λ (y : T). Right y) sources ++ map (λ (x : S). Left x) readers

    pub each_asked : All (CanYield front back can can_back) readers
        → All (λ (x : S). IsFinite (left x)) readers
        → All (CanYield front_too back_too can_too can_back_too) sources
        → All (λ (y : T). IsFinite (left_too y)) sources
        → All IsAsked (map (below_of bound) all_of_them)
    each_asked may ends may_too ends_too =
        All-map IsAsked (below_of bound) all_of_them
        (all_both (λ (e : Either S T). IsAsked (below_of bound e)) readers sources
        (λ k d less. asked_below (Left (get_or readers k d)) (may k d less) (ends k d less))
        (λ k d less. asked_below (Right (get_or sources k d)) (may_too k d less)
        (ends_too k d less)))

    pub each_ends : All (λ (x : S). IsFinite (left x)) readers
        → All (λ (y : T). IsFinite (left_too y)) sources
        → All Ends (map (below_of bound) all_of_them)
    each_ends ends ends_too =
        All-map Ends (below_of bound) all_of_them
        (all_both (λ (e : Either S T). IsFinite (all_left e)) readers sources ends ends_too)
