-- Calls of a merger at one end alone meet an error of a source only once all entries before it,
-- seen from there, were given, but for the farthest.
use Rattle.std.proofs.Common.{◌≡◌, inl, inr, refl, sym, ◌∙◌, ap, subst, ℕ, zero, suc, ◌+◌, ◌<◌, ◌≤◌}
use Rattle.std.proofs.Common.{Bool, true, false, List, [], ◌∷◌, ◌++◌, map, length, reverse, arith}
use Rattle.std.proofs.Common.{slice_index_or, slice_set}
use Rattle.std.specs.Prelude.{Option, Some, None, Result, Ok, Err, MatchResult, MatchOption}
use Rattle.std.specs.Prelude.{count_by}
use Rattle.std.specs.List.{AllByRecursion}
use Rattle.std.proofs.lemmas.Bool.{cases_eq}
use Rattle.std.proofs.lemmas.List.{append_assoc, append-nil, reverse-append, reverse-reverse}
use Rattle.std.proofs.lemmas.List.{get_or-set_same, get_or-set_other, length-map}
use Rattle.std.proofs.Math.ListN.{get_or-map}
use Rattle.sst_entries.specs.Entry.{Entry}
use Rattle.sst_entries.specs.Stream.{first, but_first, last, but_last, ok_results, answer_stops}
use Rattle.sst_entries.specs.Stream.{NoneStops}
use Rattle.sst_entries.specs.declared.error.Error.{Error}
use Rattle.sst_entries.specs.declared.stream.Direction.{Direction}
use Rattle.sst_entries.specs.declared.stream.Direction.TheVariants.{Front, Back}
use Rattle.sst_entries.proofs.StreamLemmas.{map_append}
use Rattle.lsm_sorted.specs.declared.heap.ends.Ends.{Ends}
use Rattle.lsm_sorted.specs.declared.merge.Merger.{Merger}
use Rattle.lsm_sorted.specs.merge.Ends.{R, Left, Asked, YieldsAt}
use Rattle.lsm_sorted.specs.merge.Union.{all_errors, union_of}
use Rattle.lsm_sorted.specs.merge.Merge.{entry_of, is_ready}
use Rattle.lsm_sorted.proofs.Kept.{Kept, one, whole, taken_at, kept_at, taken, Ready, Stands}
use Rattle.lsm_sorted.proofs.Kept.{Merging, Leaves, MergeAnswer, opposite}
use Rattle.lsm_sorted.specs.merge.Asks.{error_result, entry_result, answer_result, ended_at, SameSources}
use Rattle.lsm_sorted.specs.merge.Asks.{AsksSource, FillsIf, Fills, TakesLead, TakesLeadIf}
use Rattle.lsm_sorted.specs.merge.Asks.{TakesStep}
use Rattle.lsm_sorted.specs.merge.Asks.{CallsIf, Calls, IsMergerOf}
use Rattle.lsm_sorted.specs.merge.MergeLaws.{YieldSorted, IsWithinBag, join_at, but_farthest}
use Rattle.lsm_sorted.specs.merge.MergeLaws.{ComesLate}
use Rattle.lsm_sorted.specs.merge.MergeLaws.{ErrorsComeLate, RunsAt, MeetsErrorsLate}
use Rattle.lsm_sorted.proofs.EndsLemmas.{asked_first, asked_last}
use Rattle.lsm_sorted.proofs.HeldLemmas.{weight, count_cons}
use Rattle.lsm_sorted.proofs.PopLemmas.{cleared, rewritten}
use Rattle.lsm_sorted.proofs.TakeLemmas.{zip_length, last_of, front_err_first, back_err_last}
use Rattle.lsm_sorted.proofs.FillLemmas.{stands_same, ready_filled}
use Rattle.lsm_sorted.proofs.StepLemmas.{others, end_ready, end_stands, end_free, end_spent}
use Rattle.lsm_sorted.proofs.StepLemmas.{end_joined, ready_turned}
use Rattle.lsm_sorted.proofs.AsksLemmas.{end_of, each_filled, each_same, asks_took, fills_ready}
use Rattle.lsm_sorted.proofs.AsksLemmas.{steps_failed, ended_end}
use Rattle.lsm_sorted.proofs.ReadyLemmas.{ready_same, made_sources, made_heap, made_now, made_other}
use Rattle.lsm_sorted.proofs.YieldsMerged.{untouched, all_whole, new_merging, new_leaves}
use Rattle.lsm_sorted.proofs.CallsMerged.{calls_merge}

-- ---- lists

count_push : (p : Entry → Bool) (xs : List Entry) (x : Entry)
    → count_by p (xs ++ x ∷ []) ≡ count_by p xs + weight (p x)
count_push p [] x = let one = count_cons p x [] in omega (arith, one)
count_push p (y ∷ xs) x = omega (
  arith,
  count_push p xs x,
  count_cons p y xs,
  count_cons p y
      (xs ++ x ∷ []),
)

but_last_push : (xs : List Entry) (x : Entry) → but_last (xs ++ x ∷ []) ≡ xs
but_last_push xs x = ap (λ (ys : List Entry). reverse (but_first ys)) (reverse-append xs (x ∷ []))
    ∙ reverse-reverse xs

count_but_last : (p : Entry → Bool) (xs : List Entry) → count_by p (but_last xs) ≤ count_by p xs
count_but_last p xs = go (reverse xs) refl
  where
    go : (ys : List Entry) → reverse xs ≡ ys → count_by p (but_last xs) ≤ count_by p xs
    go [] e = let none : count_by p (but_last xs) ≡ 0 =
        ap (λ (zs : List Entry). count_by p (reverse (but_first zs))) e in omega (arith, none)
    go (y ∷ ys) e =
        let parts : xs ≡ reverse ys ++ y ∷ [] = sym (reverse-reverse xs) ∙ ap reverse e
        ∙ reverse-append (y ∷ []) ys in
        let whole_count : count_by p xs ≡ count_by p (reverse ys ++ y ∷ []) =
        ap (count_by p) parts in
        let less : count_by p (but_last xs) ≡ count_by p (reverse ys) =
        ap (λ (zs : List Entry). count_by p (reverse (but_first zs))) e in
        omega (arith, whole_count, less, count_push p (reverse ys) y)

-- ---- seen from an end

join_none : {A : Type 0} (end : Direction) (xs : List A) → join_at end [] xs ≡ xs
join_none Front xs = refl
join_none Back xs = append-nil xs

join_assoc : {A : Type 0} (end : Direction) (xs ys zs : List A)
    → join_at end (join_at end xs ys) zs ≡ join_at end xs (join_at end ys zs)
join_assoc Front xs ys zs = append_assoc xs ys zs
join_assoc Back xs ys zs = sym (append_assoc zs ys xs)

join_results : (end : Direction) (xs ys : List Entry)
    → ok_results (join_at end xs ys) ≡ join_at end (ok_results xs) (ok_results ys)
join_results Front xs ys = map_append xs ys
join_results Back xs ys = map_append ys xs

count_farther : (end : Direction) (p : Entry → Bool) (xs : List Entry) (x : Entry)
    → count_by p (join_at end xs (x ∷ [])) ≡ count_by p xs + weight (p x)
count_farther Front p xs x = count_push p xs x
count_farther Back p xs x = let one = count_cons p x xs in omega (arith, one)

but_farther : (end : Direction) (xs : List Entry) (x : Entry)
    → but_farthest end (join_at end xs (x ∷ [])) ≡ xs
but_farther Front xs x = but_last_push xs x
but_farther Back xs x = refl

count_but_first : (p : Entry → Bool) (xs : List Entry) → count_by p (but_first xs) ≤ count_by p xs
count_but_first p [] = omega arith
count_but_first p (x ∷ xs) = let one = count_cons p x xs in omega (arith, one)

count_but_farthest : (end : Direction) (p : Entry → Bool) (xs : List Entry)
    → count_by p (but_farthest end xs) ≤ count_by p xs
count_but_farthest Front = count_but_last
count_but_farthest Back = count_but_first

-- the nearest to this end
abbrev nearest : Direction → List R → Option R
nearest Front = first
nearest Back = last

-- of list k these entries are gone, each of which was given
record GoneAt (end : Direction) (lists left : List (List R)) (given : List Entry)
    (k : ℕ) : Type 0 where
  pub gone : List Entry
  pub parts : slice_index_or lists k [] ≡ join_at end (ok_results gone) (slice_index_or left k [])
  pub bag : IsWithinBag gone given

record Gone (end : Direction) (lists left : List (List R)) (given : List Entry) : Type 0 where
  pub count : length left ≡ length lists
  pub at : (k : ℕ) → k < length lists → GoneAt end lists left given k

gone_none : (end : Direction) (lists : List (List R)) → Gone end lists lists []
gone_none end lists = record {
  count = refl;
  at = λ k lt. record {
    gone = [];
    parts = sym (join_none end (slice_index_or lists k []));
    bag =
        record { count = λ p. omega arith };
  };
}

-- the nearest of list i is given
gone_one : (end : Direction) (lists left : List (List R)) (given : List Entry) (i : ℕ) (x : Entry)
    (rs : List R) → Gone end lists left given → i < length lists
    → slice_index_or left i [] ≡ join_at end (Ok x ∷ []) rs
    → (ys : List Entry) × (slice_index_or lists i []
    ≡ join_at end (ok_results (join_at end ys (x ∷ [])))
    (slice_index_or (slice_set left i rs) i [])) × IsWithinBag ys given
gone_one end lists left given i x rs g lt head =
    let was = g.at i lt in
    let now : slice_index_or (slice_set left i rs) i [] ≡ rs =
    get_or-set_same left i rs [] (omega (arith, lt, g.count)) in (
      was.gone,
      was.parts ∙ ap (λ (qs : List R). join_at end (ok_results was.gone) qs) head
          ∙ sym (join_assoc end (ok_results was.gone) (Ok x ∷ []) rs)
          ∙ ap (λ (qs : List R). join_at end qs rs) (sym (join_results end was.gone (x ∷ [])))
          ∙ ap (λ (qs : List R). join_at end (ok_results (join_at end was.gone (x ∷ []))) qs)
          (sym now),
      was.bag,
    )

length_set : (left : List (List R)) (i : ℕ) (rs : List R)
    → length (slice_set left i rs) ≡ length left
length_set [] i rs = refl
length_set (l ∷ left) zero rs = refl
length_set (l ∷ left) (suc i) rs = let more = length_set left i rs in omega (arith, more)

gone_more : (end : Direction) (lists left : List (List R)) (given : List Entry) (i : ℕ) (x : Entry)
    (rs : List R) → Gone end lists left given → i < length lists
    → slice_index_or left i [] ≡ join_at end (Ok x ∷ []) rs
    → Gone end lists (slice_set left i rs) (x ∷ given)
gone_more end lists left given i x rs g lt head = record {
  count = length_set left i rs ∙ g.count;
  at = λ k within. elim (cases_eq k i) [
    | inl e ↦
        let o = gone_one end lists left given i x rs g lt head in
        subst (GoneAt end lists (slice_set left i rs) (x ∷ given)) (sym e) (record {
          gone = join_at end o.0 (x ∷ []);
          parts = o.1;
          bag = record {
            count = λ p. let few : count_by p o.0 ≤ count_by p given = o.2.count p in
                omega (arith, few, count_farther end p o.0 x, count_cons p x given);
          };
        })
    | inr off ↦
        let was = g.at k within in record {
          gone = was.gone;
          parts = was.parts ∙ ap (λ (qs : List R). join_at end (ok_results was.gone) qs)
              (sym (get_or-set_other left i k rs [] off));
          bag = record {
            count = λ p. let few : count_by p was.gone ≤ count_by p given =
                was.bag.count p in omega (arith, few, count_cons p x given);
          };
        }
  ];
}

-- an error is the next of a source of which nothing is held at this end
err_whole : (end : Direction) (s : Kept) (e : Error) → taken_at end s ≡ None
    → Some (Err e) ≡ nearest end s.rest → (zs : List R) × (whole s ≡ join_at end (Err e ∷ []) zs)
err_whole Front s e none is = go s.rest refl
  where
    go : (rs : List R) → s.rest ≡ rs → (zs : List R) × (whole s ≡ Err e ∷ zs)
    go [] now = let no : Some (Err e) ≡ None = is ∙ ap first now in absurd cc
    go (r ∷ rs) now =
        let same : Some (Err e) ≡ Some r = is ∙ ap first now in
        let r_is : r ≡ Err e = cc in (
          rs ++ one s.back,
          ap (λ (f : Option Entry). one f ++ (s.rest ++ one s.back)) none
              ∙ ap (λ (qs : List R). qs ++ one s.back) now
              ∙ ap (λ (q : R). q ∷ (rs ++ one s.back)) r_is,
        )
err_whole Back s e none is = (
  one s.front ++ but_last s.rest,
  ap (λ (b : Option Entry). one s.front ++ (s.rest ++ one b)) none
      ∙ ap (λ (qs : List R). one s.front ++ qs) (append-nil s.rest ∙ last_of s.rest (Err e) is)
      ∙ sym (append_assoc (one s.front) (but_last s.rest) (Err e ∷ [])),
)

abbrev Late : Direction → (Error → Bool) → List (List R) → List Entry → Error → Type 0
Late end stops lists given e = stops e ≡ false → ComesLate end lists given e

-- where all answers are `None`, none is an error
none_late : (end : Direction) (lists : List (List R)) (given : List Entry) (rs : List (Option R))
    → AllByRecursion (λ r. r ≡ None) rs → ErrorsComeLate end lists given rs
none_late end lists given [] h = tt
none_late end lists given (r ∷ rs) h = rw h.0 (none_late end lists given rs h.1)

-- ---- calls at one end

-- calls one after another
abbrev Repeats : {T X : Type 0} → (T → Option X → T → Type 0) → T → List (Option X) → T → Type 0
Repeats call s [] t = s ≡ t
Repeats {T = T} call s (r ∷ rs) t = (j : T) × call s r j × Repeats call j rs t

repeats_in_front : {T X : Type 0} (call : T → Option X → T → Type 0) (ends : List Direction)
    (rs : List (Option X)) (s t : T) → RunsAt Front call s ends rs t → Repeats call s rs t
repeats_in_front call [] [] s t runs = runs
repeats_in_front call [] (r ∷ rs) s t runs = absurd runs
repeats_in_front call (e ∷ ends) [] s t runs = absurd runs
repeats_in_front call (Front ∷ ends) (r ∷ rs) s t runs =
    (runs.0, runs.1, repeats_in_front call ends rs runs.0 t runs.2)
repeats_in_front call (Back ∷ ends) (r ∷ rs) s t runs = absurd runs.1

repeats_behind : {T X : Type 0} (call : T → Option X → T → Type 0) (ends : List Direction)
    (rs : List (Option X)) (s t : T) → RunsAt Back call s ends rs t → Repeats call s rs t
repeats_behind call [] [] s t runs = runs
repeats_behind call [] (r ∷ rs) s t runs = absurd runs
repeats_behind call (e ∷ ends) [] s t runs = absurd runs
repeats_behind call (Front ∷ ends) (r ∷ rs) s t runs = absurd runs.1
repeats_behind call (Back ∷ ends) (r ∷ rs) s t runs =
    (runs.0, runs.1, repeats_behind call ends rs runs.0 t runs.2)

repeats : {T X : Type 0} (call : T → Option X → T → Type 0) (end : Direction)
    (ends : List Direction) (rs : List (Option X)) (s t : T) → RunsAt end call s ends rs t
    → Repeats call s rs t
repeats call Front = repeats_in_front call
repeats call Back = repeats_behind call

still_ready : {S A : Type 0} (end : Direction) (s m : Merger S A) → SameSources s m
    → is_ready end m ≡ is_ready end s
still_ready Front s m same = same.front_ready
still_ready Back s m same = same.back_ready

module _ {S A : Type 0} (front back : S → Option R → S → Type 0) (ask : S → Option R → S → Type 0)
    (end : Direction)
    (means : (stops : Error → Bool) (s : Ends S) (r : Option R) (t : Ends S) → Asked ask s r t
    → YieldsAt end stops (Left stops front back) s r t) (stops : Error → Bool)
    (lists : List (List R)) where
  -- a merger that stands for what is left of the lists
  record Along (given : List Entry) (m : Merger S A) : Type 0 where
    pub kept : List Kept
    pub stands : Stands stops front back m kept
    pub ready : (b : Direction) → Ready (is_ready b m) b kept
    pub gone : Gone end lists (map whole kept) given

  -- an ask that told an error found it next in its source
  asks_err : (i : ℕ) (s t : Merger S A) (e : Error) → AsksSource ask end i s (Err e) t
      → (ks : List Kept) → Stands stops front back s ks → stops e ≡ false
      → Some (Err e) ≡ nearest end (kept_at ks i).rest
  asks_err i s t e a ks stands fine = go end a.answer a.returned
      (means stops a.was a.answer a.is a.asked)
    where
      go : (b : Direction) (o : Option R) → Err e ≡ error_result o
          → YieldsAt b stops (Left stops front back) a.was o a.is
          → Some (Err e) ≡ nearest b (kept_at ks i).rest
      go Front None returned d = absurd cc
      go Front (Some (Ok x)) returned d = absurd cc
      go Front (Some (Err f)) returned d =
          let same : f ≡ e = cc in
          front_err_first stops front back s i a.within a.was a.is a.found ks stands e
          (subst (λ (g : Error). YieldsAt Front stops (Left stops front back) a.was
          (Some (Err g)) a.is) same d) fine
      go Back None returned d = absurd cc
      go Back (Some (Ok x)) returned d = absurd cc
      go Back (Some (Err f)) returned d =
          let same : f ≡ e = cc in
          back_err_last stops front back s i a.within a.was a.is a.found ks stands e
          (subst (λ (g : Error). YieldsAt Back stops (Left stops front back) a.was
          (Some (Err g)) a.is) same d) fine

  fill_along : (given : List Entry) (s t : Merger S A) (r : Result (Unit {0}) Error)
      → Fills ask end s r t → Along given s → MatchResult r (λ _. Along given t)
      (Late end stops lists given)
  fill_along given s t r f was = go (is_ready end s) refl r f.fill
    where
      go : (b : Bool) → is_ready end s ≡ b → (q : Result (Unit {0}) Error) → FillsIf ask end b s q t
          → MatchResult q (λ _. Along given t) (Late end stops lists given)
      go true e q k = rw (k.0, k.1) was
      go false e (Ok u) k =
          let none : Ready false end was.kept = subst (λ (f : Bool). Ready f end was.kept) e
          (was.ready end) in
          let same = each_same ask end (length s.sources.items) s k.last k.each in
          let filled = each_filled stops front back ask end (means stops)
          (length s.sources.items) was.kept s k.last k.each was.stands none in
          record {
            kept = filled.kept;
            stands = stands_same stops front back k.last t filled.kept
                (ap (λ (m : Merger S A). m.sources) k.ready ∙ made_sources end k.last)
                (ap (λ (m : Merger S A). m.heap) k.ready ∙ made_heap end k.last) filled.stands;
            ready = ready_filled stops front back end s k.last t was.kept was.ready
                (length s.sources.items) filled (sym same.count)
                (ap (is_ready end) k.ready ∙ made_now end k.last)
                (ap (is_ready (opposite end)) k.ready ∙ made_other end k.last
                ∙ ready_same (opposite end) s k.last same);
            gone = subst (λ (ls : List (List R)). Gone end lists ls given)
                (sym filled.wholes) was.gone;
          }
      go false e (Err x) k =
          let none : Ready false end was.kept = subst (λ (f : Bool). Ready f end was.kept) e
          (was.ready end) in
          let filled = each_filled stops front back ask end
          (means stops) k.place was.kept s k.before k.each was.stands none in
          λ fine.
          let head = err_whole end (kept_at filled.kept k.place) x
          (filled.free k.place (omega arith)) (asks_err k.place k.before t x k.fails filled.kept
          filled.stands fine) in
          let left : Gone end lists (map whole filled.kept) given =
          subst (λ (ls : List (List R)). Gone end lists ls given)
          (sym filled.wholes) was.gone in
          let within : k.place < length lists = omega (
            arith,
            left.count,
            length-map filled.kept whole,
            zip_length _ k.before.sources.items
                filled.kept filled.stands.sources,
            k.fails.within,
          ) in
          let g = left.at k.place within in
          record {
            place = k.place;
            within = within;
            passed = g.gone;
            beyond = head.0;
            stands = g.parts ∙ ap (λ (rs : List R). join_at end (ok_results g.gone) rs)
                (get_or-map whole filled.kept k.place _ ∙ head.1);
            gave = record {
              count = λ p. let few : count_by p g.gone ≤ count_by p given =
                  g.bag.count p in omega (arith, few, count_but_farthest end p g.gone);
            };
          }

  module _ (given : List Entry) (s t : Merger S A) (r : Result (Option Entry) Error)
      (k : TakesLead ask end s r t) (was : Along given s) (now : is_ready end s ≡ true) where
    abbrev merging : Merging stops front back s (union_of (map whole was.kept))
        (all_errors (map whole was.kept))
    merging = record {
      kept = was.kept;
      stands = was.stands;
      ready = was.ready;
      entries =
          refl;
      faults = refl;
    }

    abbrev entries : List Entry
    entries = union_of (map whole was.kept)

    abbrev faults : List Error
    faults = all_errors (map whole was.kept)

    abbrev after : List Kept
    after = others stops front back s k.mid entries faults merging k.lead k.pops.left
        k.pops.same.sources

    abbrev rest : List R
    rest = whole (cleared k.lead.end (kept_at was.kept k.lead.source))

    wholes : map whole after ≡ slice_set (map whole was.kept) k.lead.source rest
    wholes = rewritten s.heap.items k.mid.heap.items k.lead was.kept was.stands.sorted
        was.stands.heap k.pops.left

    head : slice_index_or (map whole was.kept) k.lead.source []
        ≡ join_at end (Ok (entry_of k.lead) ∷ []) rest
    head = get_or-map whole was.kept k.lead.source _
        ∙ end_joined stops front back s k.mid entries faults merging k.lead k.pops.left
        k.pops.same.sources end k.pops.leads now

    within : k.lead.source < length lists
    within =
        let sources : length k.mid.sources.items ≡ length s.sources.items =
        ap (λ v. length v.items) k.pops.same.sources in
        omega (
          arith,
          was.gone.count,
          length-map was.kept whole,
          zip_length _ s.sources.items
              was.kept was.stands.sources,
          k.asks.within,
          sources,
        )

    stand : Stands stops front back k.mid after
    stand = end_stands stops front back s k.mid entries faults merging k.lead k.pops.left
        k.pops.same.sources end k.pops.leads now

    free : taken after k.lead.source end ≡ None
    free = end_free stops front back s k.mid entries faults merging k.lead k.pops.left
        k.pops.same.sources end k.pops.leads now

    turn_along : MatchResult r (λ o. MatchOption o (Unit {0}) (λ x. Along (x ∷ given) t))
        (Late end stops lists given)
    turn_along = subst (λ (q : Result (Option Entry) Error). MatchResult q
        (λ o. MatchOption o (Unit {0}) (λ x. Along (x ∷ given) t)) (Late end stops lists given))
        (sym k.returned) (go k.answer k.asks)
      where
        go : (q : Result (Unit {0}) Error) → AsksSource ask end k.lead.source k.mid q t
            → MatchResult (entry_result (entry_of k.lead) q)
            (λ o. MatchOption o (Unit {0}) (λ x. Along (x ∷ given) t)) (Late end stops lists given)
        go (Ok u) a =
            let took = asks_took stops front back ask end (means stops) k.lead.source k.mid t
            (Ok u) a after stand free in
            record {
              kept = took.kept;
              stands = took.stands;
              ready = ready_turned stops front back s k.mid entries faults merging k.lead
                  k.pops.left k.pops.same.sources end t
                  (end_ready stops front back s k.mid entries faults merging k.lead k.pops.left
                  k.pops.same.sources end k.pops.leads now)
                  (end_spent stops front back s k.mid entries faults merging k.lead k.pops.left
                  k.pops.same.sources end k.pops.leads now) took
                  (ready_same end k.mid t a.same ∙ still_ready end s k.mid k.pops.same ∙ now)
                  (ready_same (opposite end) k.mid t a.same
                  ∙ still_ready (opposite end) s k.mid k.pops.same);
              gone = subst (λ (ls : List (List R)). Gone end lists ls (entry_of k.lead ∷ given))
                  (sym (took.wholes ∙ wholes)) (gone_more end lists
                  (map whole was.kept) given k.lead.source
                  (entry_of k.lead) rest was.gone within head);
            }
        go (Err e) a = λ fine.
            let o = gone_one end lists (map whole was.kept) given k.lead.source
            (entry_of k.lead) rest was.gone within head in
            let returned = err_whole end (kept_at after k.lead.source) e free
            (asks_err k.lead.source k.mid t e a after stand fine) in
            record {
              place = k.lead.source;
              within = within;
              passed = join_at end o.0 (entry_of k.lead ∷ []);
              beyond = returned.0;
              stands = o.1
                  ∙ ap (λ (rs : List R). join_at end (ok_results
                  (join_at end o.0 (entry_of k.lead ∷ []))) rs)
                  (ap (λ (ls : List (List R)). slice_index_or ls k.lead.source []) (sym wholes)
                  ∙ get_or-map whole after k.lead.source _ ∙ returned.1);
              gave = subst (λ (ys : List Entry). IsWithinBag ys given)
                  (sym (but_farther end o.0 (entry_of k.lead))) o.2;
            }

  step_along : (given : List Entry) (s t : Merger S A) (r : Result (Option Entry) Error)
      → TakesStep ask end s r t → Along given s → MatchResult r
      (λ o. MatchOption o (Unit {0}) (λ x. Along (x ∷ given) t)) (Late end stops lists given)
  step_along given s t r k was = go k.fill k.fills k.turns
    where
      go : (q : Result (Unit {0}) Error) → Fills ask end s q k.filled
          → TakesLeadIf ask end q k.filled r t → MatchResult r
          (λ o. MatchOption o (Unit {0}) (λ x. Along (x ∷ given) t)) (Late end stops lists given)
      go (Ok u) f turns = elim turns [
        | inl none ↦ rw none.0 tt
        | inr turn ↦ turn_along given k.filled t r turn (fill_along given s k.filled (Ok u) f was)
            (fills_ready ask end u s k.filled f)
      ]
      go (Err e) f turns = rw turns.0 (fill_along given s k.filled (Err e) f was)

  module _ (May : Merger S A → Type 0) where
    -- what a call gives
    answer : (s : Merger S A) (r : Option R) (t : Merger S A) (xs : List Entry)
        (errors : List Error) → Calls ask end May s r t → Leaves stops front back s xs errors
        → answer_stops stops r ≡ false → MergeAnswer (Leaves stops front back)
        (end_of end xs) errors r t
    answer s r t xs errors call has ok = (calls_merge front back ask end means May s t r call).gives
        stops xs errors has ok

    -- after `None`
    over : (rs : List (Option R)) (s t : Merger S A) → Leaves stops front back s [] []
        → Repeats (Calls ask end May) s rs t → NoneStops (answer_stops stops) rs
        → AllByRecursion (λ r. r ≡ None) rs
    over [] s t has runs fine = tt
    over (None ∷ rs) s t has runs fine = (
      refl,
      over rs runs.0 t
          (answer s None runs.0 [] [] runs.1 has fine.0).2 runs.2 fine.1,
    )
    over (Some (Ok x) ∷ rs) s t has runs fine =
        let a = answer s (Some (Ok x)) runs.0 [] [] runs.1 has fine.0 in
        let no : None ≡ Some x = sym (ended_end end) ∙ a.0 in absurd cc
    over (Some (Err e) ∷ rs) s t has runs fine =
        let a = answer s (Some (Err e)) runs.0 [] [] runs.1 has fine.0 in
        let no = a.0.1 in absurd (omega (arith, no))

    late : (given : List Entry) (rs : List (Option R)) (s t : Merger S A) (xs : List Entry)
        (errors : List Error) → s.failed ≡ false → Along given s
        → Leaves stops front back s xs errors
        → Repeats (Calls ask end May) s rs t → NoneStops (answer_stops stops) rs
        → ErrorsComeLate end lists given rs
    late given [] s t xs errors on was has runs fine = tt
    late given (r ∷ rs) s t xs errors on was has runs fine =
        let j = runs.0 in
        let call = subst (λ (b : Bool). CallsIf ask end b s r j) on runs.1.call in
        go r call.step call.answer call.steps call.state
        (λ x more leaves on. late (x ∷ given) rs j t
        (end_of end xs).1 errors on more leaves runs.2 fine.1) fine.0
        (answer s r j xs errors runs.1 has fine.0)
      where
        go : (r : Option R) (q : Result (Option Entry) Error) {led : Merger S A} → r ≡ answer_result q
            → TakesStep ask end s q led → runs.0 ≡ ended_at q led
            → ((x : Entry) → Along (x ∷ given) runs.0
            → Leaves stops front back runs.0 (end_of end xs).1 errors → runs.0.failed ≡ false
            → ErrorsComeLate end lists (x ∷ given) rs) → answer_stops stops r ≡ false
            → MergeAnswer (Leaves stops front back) (end_of end xs) errors r runs.0
            → ErrorsComeLate end lists given (r ∷ rs)
        go None q is steps led more ok a = none_late end lists given rs
            (over rs runs.0 t a.2 runs.2 fine.1)
        go (Some (Ok x)) (Ok (Some y)) {led = l} is steps led more ok a =
            let same : y ≡ x = cc in
            let next : Along (x ∷ given) l = subst (λ (z : Entry). Along (z ∷ given) l) same
            (step_along given s l (Ok (Some y)) steps was) in
            more x (subst (Along (x ∷ given)) (sym led) next) a.1
            (ap (λ (m : Merger S A). m.failed) led
            ∙ steps_failed ask end (Ok (Some y)) s l steps ∙ on)
        go (Some (Ok x)) (Ok None) is steps led more ok a = absurd cc
        go (Some (Ok x)) (Err f) is steps led more ok a = absurd cc
        go (Some (Err e)) (Ok None) is steps led more ok a = absurd cc
        go (Some (Err e)) (Ok (Some y)) is steps led more ok a = absurd cc
        go (Some (Err e)) (Err f) {led = l} is steps led more ok a =
            let same : f ≡ e = cc in
            subst (λ (g : Error). ComesLate end lists given g) same
            (step_along given s l (Err f) steps was
            (subst (λ (g : Error). stops g ≡ false) (sym same) ok))

module _ {S A : Type 0} (front back : S → Option R → S → Type 0) (May : Merger S A → Type 0)
    (its : List S) (m : Merger S A) (of : IsMergerOf its m) where
  module _ (ask : S → Option R → S → Type 0) (end : Direction)
      (means : (stops : Error → Bool) (s : Ends S) (r : Option R) (t : Ends S) → Asked ask s r t
      → YieldsAt end stops (Left stops front back) s r t) where
    starts_along : (stops : Error → Bool) (lists : List (List R))
        → YieldSorted front back stops its lists → Along front back ask end means stops lists [] m
    starts_along stops lists sorted =
        let new = new_merging front back m its of.sources of.empty of.no_front of.no_back stops
        lists sorted.yield_each sorted.ascend in
        record {
          kept = map untouched lists;
          stands = new.0;
          ready = new.1;
          gone = subst (λ (ls : List (List R)). Gone end lists ls []) (sym (all_whole lists))
              (gone_none end lists);
        }

    late_at : MeetsErrorsLate front back its end (Calls ask end May) m
    late_at = record {
      meets = λ stops lists sorted ends rs t runs fine.
          late front back ask end means stops lists May [] rs m t (union_of lists)
          (all_errors lists) of.fine (starts_along stops lists sorted)
          (new_leaves front back m its of.sources of.empty of.no_front of.no_back of.fine stops
          lists sorted.yield_each sorted.ascend) (repeats (Calls ask end May) end ends rs m t runs)
          fine;
    }

  pub merger_late : MeetsErrorsLate front back its Front (Calls front Front May) m
  merger_late = late_at front Front (λ stops. asked_first stops front back)

  pub merger_late_back : MeetsErrorsLate front back its Back (Calls back Back May) m
  merger_late_back = late_at back Back (λ stops. asked_last stops front back)
