-- Whole runs of calls of a merger, from what each call asks of the sources.
use Rattle.std.proofs.Common.{◌≡◌, inl, inr, refl, sym, ◌∙◌, ap, subst, ℕ, zero, suc, ◌+◌, ◌≤◌}
use Rattle.std.proofs.Common.{Bool, true, false, nat_lt, List, [], ◌∷◌, length, arith}
use Rattle.std.proofs.Common.{slice_index_or}
use Rattle.std.specs.Prelude.{◌==◌, Option, Some, None, Result, Ok, Err, All, count_by, is_none}
use Rattle.std.specs.Iterator.{Count}
use Rattle.std.proofs.lemmas.Bool.Decides.{nat_tests}
use Rattle.std.proofs.lemmas.List.Elements.{All-set}
use Rattle.sst_entries.specs.Entry.{Entry}
use Rattle.sst_entries.specs.Stream.{CanYield, answer_stops, Runs, nowhere, front_of, back_of}
use Rattle.sst_entries.specs.Stream.{EndsAtError}
use Rattle.sst_entries.specs.declared.error.Error.{Error}
use Rattle.sst_entries.specs.declared.stream.Direction.{Direction}
use Rattle.sst_entries.specs.declared.stream.Direction.TheVariants.{Front, Back}
use Rattle.sst_entries.proofs.StreamLemmas.{can_by, can_front}
use Rattle.lsm_sorted.specs.declared.heap.ends.Ends.{Ends}
use Rattle.lsm_sorted.specs.declared.merge.HeapItem.{HeapItem}
use Rattle.lsm_sorted.specs.declared.merge.Merger.{Merger}
use Rattle.lsm_sorted.specs.merge.Ends.{R, Left, Goes, GoesIf, AskedIf, Asked, YieldsAt}
use Rattle.lsm_sorted.specs.merge.Union.{all_errors, union_of}
use Rattle.lsm_sorted.specs.merge.Merge.{held_of, is_ready, HasPlacesIf, MayMerge, HoldsAtMost}
use Rattle.lsm_sorted.proofs.Kept.{Leaves, LeavesIf, Failed, MergeAnswer, Merges, opposite}
use Rattle.lsm_sorted.specs.merge.Asks.{Puts, made_ready, answer_result, ended_at, AsksSource}
use Rattle.lsm_sorted.specs.merge.Asks.{AsksEach}
use Rattle.lsm_sorted.specs.merge.Asks.{FillsIf, Fills, TakesLead, TakesLeadIf, TakesStep, CallsIf}
use Rattle.lsm_sorted.specs.merge.Asks.{Calls}
use Rattle.lsm_sorted.specs.merge.Asks.{IsMergerOf}
use Rattle.lsm_sorted.specs.merge.MergeLaws.{YieldSorted, YieldsMerged, YieldsUntilError}
use Rattle.lsm_sorted.proofs.EndsLemmas.{asked_first, asked_last, goes_in_front}
use Rattle.lsm_sorted.proofs.HeldLemmas.{weight, weight_true, weight_false, count_cons}
use Rattle.lsm_sorted.proofs.RoomLemmas.{one_if, of_source, count_perm}
use Rattle.lsm_sorted.proofs.AsksLemmas.{end_of, answers_leave, steps_failed, fills_ready}
use Rattle.lsm_sorted.proofs.AsksLemmas.{ended_end}
use Rattle.lsm_sorted.proofs.AsksLemmas.{fills_other, each_same}
use Rattle.lsm_sorted.proofs.YieldsMerged.{new_leaves, yields_merged, yields_until, ends_at_error}

-- ---- runs of a relation within another

module _ {T X : Type 0} (next back next' back' : T → Option X → T → Type 0)
    (in_front : (s : T) (r : Option X) (t : T) → next s r t → next' s r t)
    (behind : (s : T) (r : Option X) (t : T) → back s r t → back' s r t) where
  pub runs_within : (ends : List Direction) (rs : List (Option X)) (s t : T)
      → Runs next back s ends rs t → Runs next' back' s ends rs t
  runs_within [] [] s t runs = runs
  runs_within [] (r ∷ rs) s t runs = absurd runs
  runs_within (e ∷ ends) [] s t runs = absurd runs
  runs_within (Front ∷ ends) (r ∷ rs) s t runs =
      (runs.0, in_front s r runs.0 runs.1, runs_within ends rs runs.0 t runs.2)
  runs_within (Back ∷ ends) (r ∷ rs) s t runs =
      (runs.0, behind s r runs.0 runs.1, runs_within ends rs runs.0 t runs.2)

-- ---- what is dealt

module _ {S A : Type 0} (front back : S → Option R → S → Type 0) where
  abbrev Has : (Error → Bool) → Merger S A → List Entry → List Error → Type 0
  Has stops = Leaves stops front back

  abbrev Any : Merger S A → Type 0
  Any m = Unit {0}

  module _ (ask : S → Option R → S → Type 0) (end : Direction)
      (means : (stops : Error → Bool) (s : Ends S) (r : Option R) (t : Ends S) → Asked ask s r t
      → YieldsAt end stops (Left stops front back) s r t) (May : Merger S A → Type 0)
      (s t : Merger S A) (r : Option R) (call : Calls ask end May s r t) where
    call_if : (b : Bool) → s.failed ≡ b → CallsIf ask end b s r t
    call_if b e = subst (λ (f : Bool). CallsIf ask end f s r t) e call.call

    gives : (stops : Error → Bool) (xs : List Entry) (errors : List Error) → Has stops s xs errors
        → answer_stops stops r ≡ false → MergeAnswer (Has stops) (end_of end xs) errors r t
    gives stops xs errors has ok = go s.failed refl
      where
        go : (b : Bool) → s.failed ≡ b → MergeAnswer (Has stops) (end_of end xs) errors r t
        go true e =
            let k = call_if true e in
            let none = subst (λ (f : Bool). LeavesIf stops front back f s xs errors) e has.parts in
            rw (k.0, none.0, none.1) (
              ended_end end,
              refl,
              rw k.1
                  (record {
                    parts = subst (λ (f : Bool). LeavesIf stops front back f s [] []) (sym e)
                        (refl, refl);
                  }),
            )
        go false e = answers_leave stops front back ask end (means stops) s t r xs errors e
            (call_if false e) has ok

    failing : (q : Result (Option Entry) Error) (led : Merger S A) (e : Error)
        → answer_result q ≡ Some (Err e) → Failed (ended_at q led)
    failing (Ok None) led e is = absurd cc
    failing (Ok (Some x)) led e is = absurd cc
    failing (Err f) led e is = refl

    pub calls_merge : Merges Any Failed Has (end_of end) s r t
    calls_merge = record {
      may = tt;
      gives = gives;
      ends = λ e is. elim s.failed as (λ b. s.failed ≡ b → Failed t) [
        | true ↦ λ over. let k = call_if true over in let no : Some (Err e) ≡ None = sym is ∙ k.0 in
            absurd cc
        | false ↦ λ fine. let k = call_if false fine in
            rw k.state (failing k.step k.led e (sym k.answer ∙ is))
      ] refl;
      ended = λ over. let k = call_if true over in (k.0, rw k.1 over);
    }

  pub front_merges : (May : Merger S A → Type 0) (s : Merger S A) (r : Option R) (t : Merger S A)
      → Calls front Front May s r t → Merges Any Failed Has front_of s r t
  front_merges May s r t call = calls_merge front Front
      (λ stops. asked_first stops front back) May s t r call

  pub back_merges : (May : Merger S A → Type 0) (s : Merger S A) (r : Option R) (t : Merger S A)
      → Calls back Back May s r t → Merges Any Failed Has back_of s r t
  back_merges May s r t call = calls_merge back Back
      (λ stops. asked_last stops front back) May s t r call

  module _ (next next_back : Merger S A → Option R → Merger S A → Type 0)
      (in_front : (s : Merger S A) (r : Option R) (t : Merger S A) → next s r t
      → Merges Any Failed Has front_of s r t)
      (behind : (s : Merger S A) (r : Option R) (t : Merger S A) → next_back s r t
      → Merges Any Failed Has back_of s r t) where
    within : (ends : List Direction) (rs : List (Option R)) (s t : Merger S A)
        → Runs next next_back s ends rs t → Runs (Merges Any Failed Has front_of)
        (Merges Any Failed Has back_of) s ends rs t
    within = runs_within next next_back (Merges Any Failed Has front_of)
        (Merges Any Failed Has back_of) in_front behind

    pub ends_at : (m : Merger S A) → EndsAtError next next_back m
    ends_at m = record {
      answers = λ ends rs t runs.
          (ends_at_error Any Failed Has m).answers ends rs t (within ends rs m t runs);
    }

    module _ (its : List S) (m : Merger S A) (of : IsMergerOf its m) where
      starts : (stops : Error → Bool) (lists : List (List R))
          → YieldSorted front back stops its lists → Leaves stops front back m (union_of lists)
          (all_errors lists)
      starts stops lists sorted = new_leaves front back m its of.sources of.empty of.no_front
          of.no_back of.fine stops lists sorted.yield_each sorted.ascend

      pub merger_yields : YieldsMerged front back its next next_back m
      merger_yields = record {
        yields = λ stops lists sorted none.
            let d = yields_merged Any Failed Has stops m (union_of lists) (all_errors lists) none
            (starts stops lists sorted) in
            record {
              answers = λ ends rs t runs fine. d.answers ends rs t
                  (within ends rs m t runs) fine;
            };
      }

      pub merger_until : YieldsUntilError front back its next next_back m
      merger_until = record {
        yields = λ stops lists sorted.
            let d = yields_until Any Failed Has stops m (union_of lists) (all_errors lists)
            (starts stops lists sorted) in
            record {
              answers = λ ends rs t runs fine. d.answers ends rs t
                  (within ends rs m t runs) fine;
            };
      }

-- ---- what may be asked

module _ {S : Type 0} (front back : S → Option R → S → Type 0) (can can_back : S → Type 0) where
  abbrev CanIf : Bool → S → Type 0
  CanIf true s = Unit {0}
  CanIf false s = CanYield front back can can_back s

  record CanEnd (s : Ends S) : Type 0 where
    pub at : CanIf s.done s.iter

  can_asked : (s : Ends S) (r : Option R) (t : Ends S) → CanEnd s → Asked front s r t → CanEnd t
  can_asked s r t c a = by_done s.done refl a.call
    where
      one : (q : Option R) → s.done ≡ false → front s.iter q t.iter → t.done ≡ is_none q → CanEnd t
      one None e step d = record { at = subst (λ (b : Bool). CanIf b t.iter) (sym d) tt }
      one (Some x) e step d = record {
        at = subst (λ (b : Bool). CanIf b t.iter) (sym d)
            (can_front front back can can_back s.iter (Some x) t.iter
            (subst (λ (b : Bool). CanIf b s.iter) e c.at) step);
      }

      by_done : (b : Bool) → s.done ≡ b → AskedIf front b s r t → CanEnd t
      by_done true e k = rw k.1 c
      by_done false e k = one r e k.0 k.1

  goes_can : (left : S → Count) (s : Ends S) → Goes front back can can_back left s → CanEnd s
  goes_can left s g = record { at = go s.done g.ready }
    where
      go : (b : Bool) → GoesIf front back can can_back left b s.iter → CanIf b s.iter
      go true h = tt
      go false h = h.0

  can_goes : (left : S → Count) (s : Ends S) → CanEnd s → Goes front nowhere can can left s
      → Goes front back can can_back left s
  can_goes left s c g = record { ready = go s.done c.at g.ready }
    where
      go : (b : Bool) → CanIf b s.iter → GoesIf front nowhere can can left b s.iter
          → GoesIf front back can can_back left b s.iter
      go true c h = tt
      go false c h = (c, h.1)

module _ {S A : Type 0} (front back : S → Option R → S → Type 0) (can can_back : S → Type 0)
    (left : S → Count) where
  abbrev AllCan : Merger S A → Type 0
  AllCan m = All (CanEnd front back can can_back) m.sources.items

  asks_can : (end : Direction) (i : ℕ) (s t : Merger S A) (r : Result (Unit {0}) Error)
      → AsksSource front end i s r t → AllCan s → AllCan t
  asks_can end i s t r a all =
      let was : CanEnd front back can can_back a.was =
      subst (CanEnd front back can can_back) (sym a.found) (all i a.was a.within) in
      subst (All (CanEnd front back can can_back)) (sym a.written)
      (All-set (CanEnd front back can can_back) s.sources.items i a.is
      (can_asked front back can can_back a.was a.answer a.is was a.asked) all)

  each_can : (end : Direction) (i : ℕ) (s t : Merger S A) → AsksEach front end i s t → AllCan s
      → AllCan t
  each_can end zero s t e all = rw e all
  each_can end (suc i) s t e all = asks_can end i e.0 t (Ok tt) e.2 (each_can end i s e.0 e.1 all)

  made_can : (end : Direction) (m t : Merger S A) → t.sources ≡ m.sources → AllCan m → AllCan t
  made_can end m t e all = subst (λ v. All (CanEnd front back can can_back) v.items) (sym e) all

  fills_can : (s t : Merger S A) (r : Result (Unit {0}) Error) → Fills front Front s r t → AllCan s
      → AllCan t
  fills_can s t r f all = go s.front_ready r f.fill
    where
      go : (b : Bool) (q : Result (Unit {0}) Error) → FillsIf front Front b s q t → AllCan t
      go true q k = rw k.1 all
      go false (Ok u) k = made_can Front k.last t (ap (λ (m : Merger S A). m.sources) k.ready)
          (each_can Front (length s.sources.items) s k.last k.each all)
      go false (Err e) k = asks_can Front k.place k.before t (Err e) k.fails
          (each_can Front k.place s k.before k.each all)

  steps_can : (s t : Merger S A) (r : Result (Option Entry) Error) → TakesStep front Front s r t
      → AllCan s → AllCan t
  steps_can s t r k all = go k.fill k.turns
    where
      filled : AllCan k.filled
      filled = fills_can s k.filled k.fill k.fills all

      go : (q : Result (Unit {0}) Error) → TakesLeadIf front Front q k.filled r t → AllCan t
      go (Ok u) turns = elim turns [
        | inl none ↦ made_can Front k.filled t none.1.same.sources filled
        | inr turn ↦ asks_can Front turn.lead.source turn.mid t turn.answer turn.asks
            (made_can Front k.filled turn.mid turn.pops.same.sources filled)
      ]
      go (Err e) turns = rw turns.1 filled

  ended_can : (q : Result (Option Entry) Error) (m : Merger S A) → AllCan m → AllCan (ended_at q m)
  ended_can (Ok o) m all = all
  ended_can (Err e) m all = all

  abbrev MayBoth : Merger S A → Type 0
  MayBoth = MayMerge front back can can_back left

  abbrev MayFront : Merger S A → Type 0
  MayFront = MayMerge front nowhere can can left

  may_front : (m : Merger S A) → MayBoth m → MayFront m
  may_front m may = record { fits = go m.failed may.fits }
    where
      go : (b : Bool) → HasPlacesIf front back can can_back left b m
          → HasPlacesIf front nowhere can can left b m
      go true h = tt
      go false h = record {
        sources = λ k d lt. goes_in_front front back can can_back left
            (slice_index_or m.sources.items k d) (h.sources k d lt);
        known = h.known;
        space = h.space;
        few = h.few;
        each = h.each;
      }

  may_again : (s : Merger S A) (r : Option R) (t : Merger S A) → MayBoth s
      → Calls front Front MayFront s r t → MayBoth t
  may_again s r t may call = go s.failed refl call.call
    where
      both : All (CanEnd front back can can_back) t.sources.items → (b : Bool)
          → HasPlacesIf front nowhere can can left b t
          → HasPlacesIf front back can can_back left b t
      both all true h = tt
      both all false h = record {
        sources = λ k d lt. can_goes front back can can_back left
            (slice_index_or t.sources.items k d) (all k d lt) (h.sources k d lt);
        known = h.known;
        space = h.space;
        few = h.few;
        each = h.each;
      }

      go : (b : Bool) → s.failed ≡ b → CallsIf front Front b s r t → MayBoth t
      go true e k = rw k.1 may
      go false e k =
          let fits = subst (λ (f : Bool). HasPlacesIf front back can can_back left f s) e
          may.fits in
          let was : AllCan s = λ j d lt. goes_can front back can can_back left
          (slice_index_or s.sources.items j d) (fits.sources j d lt) in
          let all : AllCan t = subst AllCan (sym k.state)
          (ended_can k.step k.led (steps_can s k.led k.step k.steps was)) in
          record { fits = both all t.failed call.may.fits }

  pub can_both : (m : Merger S A) → MayBoth m → CanYield (Calls front Front MayFront)
      (Calls back Back MayBoth) MayFront MayBoth m
  can_both m may = can_by (Calls front Front MayFront)
      (Calls back Back MayBoth) MayFront MayBoth MayBoth (λ s m. (may_front s m, m)) may_again
      (λ s r t m step. step.may) m may

  pub can_in_front : (m : Merger S A) → MayFront m
      → CanYield (Calls front Front MayFront) nowhere MayFront MayFront m
  can_in_front m may = can_by (Calls front Front MayFront) nowhere MayFront MayFront MayFront
      (λ s m. (m, m)) (λ s r t m step. step.may) (λ s r t m step. absurd step) m may

-- ---- how many entries are held

puts_count : {A : Type 0} (k : ℕ) (end : Direction) (i : ℕ) (o : Option R)
    (old new : List (HeapItem A)) → Puts end i o old new
    → count_by (of_source k) new ≤ count_by (of_source k) old + weight (i == k)
puts_count k end i None old new p = let e : count_by (of_source k) new
    ≡ count_by (of_source k) old = ap (count_by (of_source k)) p in omega (arith, e)
puts_count k end i (Some (Err x)) old new p =
    let e : count_by (of_source k) new ≡ count_by (of_source k) old =
    ap (count_by (of_source k)) p in omega (arith, e)
puts_count k end i (Some (Ok x)) old new p =
    let here : weight (p.0.source == k) ≡ weight (i == k) = ap (λ (j : ℕ). weight (j == k)) p.2 in
    omega (arith, here, count_cons (of_source k) p.0 old, count_perm k (p.0 ∷ old) new p.4)

weight_is : (b : Bool) → weight b ≡ one_if b
weight_is true = weight_true
weight_is false = weight_false

before_next : (k i : ℕ) → one_if (nat_lt k i) + one_if (i == k) ≤ one_if (nat_lt k (suc i))
before_next k i = grind (arith, nat_tests)

at_most_one : (k i : ℕ) → one_if (nat_lt k i) + one_if (i == k) ≤ 1
at_most_one k i = grind (arith, nat_tests)

lt_one : (k i : ℕ) → one_if (nat_lt k i) ≤ 1
lt_one k i = grind (arith, nat_tests)

module _ {S A : Type 0} (ask : S → Option R → S → Type 0) (end : Direction) (k : ℕ) where
  each_count : (i : ℕ) (s t : Merger S A) → AsksEach ask end i s t
      → held_of k t ≤ held_of k s + one_if (nat_lt k i)
  each_count zero s t e = let same : held_of k t ≡ held_of k s = ap (held_of k) e in
      omega (arith, same)
  each_count (suc i) s t e =
      omega (
        arith,
        each_count i s e.0 e.1,
        puts_count k end i e.2.answer e.0.heap.items
            t.heap.items e.2.puts,
        before_next k i,
        weight_is (i == k),
      )

  counts_same : (s t : Merger S A) → t.heap ≡ s.heap → held_of k t ≡ held_of k s
  counts_same s t e = ap (λ h. count_by (of_source k) h.items) e

  made_heap : (e : Direction) (m : Merger S A) → (made_ready e m).heap ≡ m.heap
  made_heap Front m = refl
  made_heap Back m = refl

  -- a fill takes at most one of a source
  fills_count : (s t : Merger S A) (r : Result (Unit {0}) Error) → Fills ask end s r t
      → held_of k t + one_if (is_ready end s) ≤ held_of k s + 1
  fills_count s t r f = go (is_ready end s) r f.fill
    where
      go : (b : Bool) (q : Result (Unit {0}) Error) → FillsIf ask end b s q t
          → held_of k t + one_if b ≤ held_of k s + 1
      go true q c = let same : held_of k t ≡ held_of k s = ap (held_of k) c.1 in omega (arith, same)
      go false (Ok u) c =
          let same : held_of k t ≡ held_of k c.last =
          counts_same c.last t (ap (λ (m : Merger S A). m.heap) c.ready
          ∙ made_heap end c.last) in
          omega (
            arith,
            same,
            each_count (length s.sources.items) s c.last c.each,
            lt_one k
                (length s.sources.items),
          )
      go false (Err e) c = omega (
        arith,
        each_count c.place s c.before c.each,
        puts_count k end
            c.place c.fails.answer c.before.heap.items t.heap.items c.fails.puts,
        at_most_one k
            c.place,
        weight_is (c.place == k),
      )

  -- a turn takes one and puts at most one of the same source in its place
  turn_count : (s t : Merger S A) (r : Result (Option Entry) Error) → TakesLead ask end s r t
      → held_of k t ≤ held_of k s
  turn_count s t r c =
      omega (
        arith,
        puts_count k end c.lead.source c.asks.answer c.mid.heap.items t.heap.items
            c.asks.puts,
        count_cons (of_source k) c.lead c.mid.heap.items,
        count_perm k s.heap.items
            (c.lead ∷ c.mid.heap.items) c.pops.left,
      )

  none_count : (hs : List (HeapItem A)) → hs ≡ [] → count_by (of_source k) hs ≡ 0
  none_count hs e = ap (count_by (of_source k)) e

  pub step_count : (s t : Merger S A) (r : Result (Option Entry) Error) → TakesStep ask end s r t
      → held_of k t + one_if (is_ready end s) ≤ held_of k s + 1
  step_count s t r c = go c.fill c.turns
    where
      filled : held_of k c.filled + one_if (is_ready end s) ≤ held_of k s + 1
      filled = fills_count s c.filled c.fill c.fills

      go : (q : Result (Unit {0}) Error) → TakesLeadIf ask end q c.filled r t
          → held_of k t + one_if (is_ready end s) ≤ held_of k s + 1
      go (Ok u) turns = elim turns [
        | inl none ↦ omega (arith, filled, none_count t.heap.items none.1.is)
        | inr turn ↦ omega (arith, filled, turn_count c.filled t r turn)
      ]
      go (Err e) turns = let same : held_of k t ≡ held_of k c.filled = ap (held_of k) turns.1 in
          omega (arith, same, filled)

-- ends are ready once a step gave no error
module _ {S A : Type 0} (ask : S → Option R → S → Type 0) (end : Direction) where
  same_flag : (b : Direction) (s t : Merger S A) → t.front_ready ≡ s.front_ready
      → t.back_ready ≡ s.back_ready → is_ready b t ≡ is_ready b s
  same_flag Back s t first second = second
  same_flag Front s t first second = first

  step_flags : (o : Option Entry) (s t : Merger S A) → TakesStep ask end s (Ok o) t
      → (is_ready end t ≡ true) × (is_ready (opposite end) t ≡ is_ready (opposite end) s)
  step_flags o s t c = go c.fill c.fills c.turns
    where
      go : (q : Result (Unit {0}) Error) → Fills ask end s q c.filled
          → TakesLeadIf ask end q c.filled (Ok o) t
          → (is_ready end t ≡ true) × (is_ready (opposite end) t ≡ is_ready (opposite end) s)
      go (Ok u) f turns =
          let flags : (b : Direction) → is_ready b t ≡ is_ready b c.filled = λ b. elim turns [
            | inl none ↦ same_flag b c.filled t none.1.same.front_ready none.1.same.back_ready
            | inr turn ↦ same_flag b turn.mid t turn.asks.same.front_ready turn.asks.same.back_ready
                ∙ same_flag b c.filled turn.mid turn.pops.same.front_ready turn.pops.same.back_ready
          ] in (
            flags end ∙ fills_ready ask end u s c.filled f,
            flags (opposite end)
                ∙ fills_other ask end u s c.filled f,
          )
      go (Err e) f turns = let no : Ok o ≡ Err e = turns.0 in absurd cc

-- what is held of each source, and while no source failed at most one for each end that is ready
record Few {S A : Type 0} (most : ℕ) (m : Merger S A) : Type 0 where
  pub all : (k : ℕ) → held_of k m ≤ most
  pub now : m.failed ≡ false → (k : ℕ) → held_of k m ≤ one_if (is_ready Back m)
      + one_if (is_ready Front m)

both_flags : {S A : Type 0} (end : Direction) (m : Merger S A)
    → one_if (is_ready Back m) + one_if (is_ready Front m)
    ≡ one_if (is_ready end m) + one_if (is_ready (opposite end) m)
both_flags Back m = refl
both_flags Front m = omega arith

call_few : {S A : Type 0} (ask : S → Option R → S → Type 0) (end : Direction)
    (May : Merger S A → Type 0) (most : ℕ) (s t : Merger S A) (r : Option R)
    → one_if (is_ready (opposite end) s) + 1 ≤ most → Few most s → Calls ask end May s r t
    → Few most t
call_few {S} {A} ask end May most s t r room few call = go s.failed refl call.call
  where
    ended : (q : Result (Option Entry) Error) (led : Merger S A) → led.failed ≡ false
        → ((k : ℕ) → held_of k led + one_if (is_ready end s) ≤ held_of k s + 1)
        → TakesStep ask end s q led → s.failed ≡ false → Few most (ended_at q led)
    ended (Ok o) led fine counts steps was =
        let flags = step_flags ask end o s led steps in
        let here : one_if (is_ready end led) ≡ 1 = ap one_if flags.0 in
        let there : one_if (is_ready (opposite end) led) ≡ one_if (is_ready (opposite end) s) =
        ap one_if flags.1 in
        record {
          all = λ k. omega (arith, counts k, few.now was k, both_flags end s, room);
          now = λ _ k. omega (
            arith,
            counts k,
            few.now was k,
            both_flags end s,
            both_flags end led,
            here,
            there,
          );
        }
    ended (Err e) led fine counts steps was = record {
      all = λ k. omega (arith, counts k, few.now was k, both_flags end s, room);
      now = λ no. let never : true ≡ false = no in absurd cc;
    }

    go : (b : Bool) → s.failed ≡ b → CallsIf ask end b s r t → Few most t
    go true e c = rw c.1 few
    go false e c = rw c.state (ended c.step c.led (steps_failed ask end c.step s c.led c.steps ∙ e)
        (λ k. step_count ask end k s c.led c.step c.steps) c.steps e)

few_new : {S A : Type 0} (most : ℕ) (its : List S) (m : Merger S A) → IsMergerOf its m → Few most m
few_new most its m of =
    let none : (k : ℕ) → held_of k m ≡ 0 = λ k. ap (count_by (of_source k)) of.empty in
    record { all = λ k. omega (arith, none k); now = λ _ k. omega (arith, none k) }

module _ {S A : Type 0} (front back : S → Option R → S → Type 0)
    (May MayBack : Merger S A → Type 0) where
  one_at_most : (b : Bool) → one_if b + 1 ≤ 2
  one_at_most true = omega arith
  one_at_most false = omega arith

  few_along : (ends : List Direction) (rs : List (Option R)) (s t : Merger S A) → Few 2 s
      → Runs (Calls front Front May) (Calls back Back MayBack) s ends rs t → Few 2 t
  few_along [] [] s t few runs = subst (Few 2) runs few
  few_along [] (r ∷ rs) s t few runs = absurd runs
  few_along (e ∷ ends) [] s t few runs = absurd runs
  few_along (Front ∷ ends) (r ∷ rs) s t few runs =
      few_along ends rs runs.0 t (call_few front Front May 2 s runs.0 r
      (one_at_most s.back_ready) few runs.1) runs.2
  few_along (Back ∷ ends) (r ∷ rs) s t few runs =
      few_along ends rs runs.0 t (call_few back Back MayBack 2 s runs.0 r
      (one_at_most s.front_ready) few runs.1) runs.2

  pub holds_two : (its : List S) (m : Merger S A) → IsMergerOf its m
      → HoldsAtMost 2 (Calls front Front May) (Calls back Back MayBack) m
  holds_two its m of = record {
    at = λ ends rs t runs.
        (few_along ends rs m t (few_new 2 its m of) runs).all;
  }

module _ {S A : Type 0} (front : S → Option R → S → Type 0) (May : Merger S A → Type 0) where
  -- a call at the front leaves the back as it was
  call_back : (s t : Merger S A) (r : Option R) → Calls front Front May s r t → s.back_ready ≡ false
      → t.back_ready ≡ false
  call_back s t r call none = go s.failed call.call
    where
      asked : (i : ℕ) (m n : Merger S A) → AsksEach front Front i m n → n.back_ready ≡ m.back_ready
      asked i m n e = (each_same front Front i m n e).back_ready

      filled : (m n : Merger S A) (q : Result (Unit {0}) Error) → Fills front Front m q n
          → n.back_ready ≡ m.back_ready
      filled m n q f = by_ready m.front_ready q f.fill
        where
          by_ready : (b : Bool) (q : Result (Unit {0}) Error) → FillsIf front Front b m q n
              → n.back_ready ≡ m.back_ready
          by_ready true q c = ap (λ (u : Merger S A). u.back_ready) c.1
          by_ready false (Ok u) c = ap (λ (u : Merger S A). u.back_ready) c.ready
              ∙ asked (length m.sources.items) m c.last c.each
          by_ready false (Err e) c = c.fails.same.back_ready ∙ asked c.place m c.before c.each

      turned : (m n : Merger S A) (q : Result (Unit {0}) Error) (a : Result (Option Entry) Error)
          → TakesLeadIf front Front q m a n → n.back_ready ≡ m.back_ready
      turned m n (Ok u) a turns = elim turns [
        | inl none ↦ none.1.same.back_ready
        | inr turn ↦
            turn.asks.same.back_ready ∙ turn.pops.same.back_ready
      ]
      turned m n (Err e) a turns = ap (λ (u : Merger S A). u.back_ready) turns.1

      ended : (q : Result (Option Entry) Error) (m : Merger S A)
          → (ended_at q m).back_ready ≡ m.back_ready
      ended (Ok o) m = refl
      ended (Err e) m = refl

      go : (b : Bool) → CallsIf front Front b s r t → t.back_ready ≡ false
      go true c = ap (λ (u : Merger S A). u.back_ready) c.1 ∙ none
      go false c = ap (λ (u : Merger S A). u.back_ready) c.state ∙ ended c.step c.led
          ∙ turned c.steps.filled c.led c.steps.fill c.step c.steps.turns
          ∙ filled s c.steps.filled c.steps.fill c.steps.fills ∙ none

  one_along : (ends : List Direction) (rs : List (Option R)) (s t : Merger S A) → Few 1 s
      → s.back_ready ≡ false → Runs (Calls front Front May) nowhere s ends rs t → Few 1 t
  one_along [] [] s t few free runs = subst (Few 1) runs few
  one_along [] (r ∷ rs) s t few free runs = absurd runs
  one_along (e ∷ ends) [] s t few free runs = absurd runs
  one_along (Front ∷ ends) (r ∷ rs) s t few free runs =
      let none : one_if s.back_ready ≡ 0 = ap one_if free in
      one_along ends rs runs.0 t (call_few front Front May 1 s runs.0 r
      (omega (arith, none)) few runs.1) (call_back s runs.0 r runs.1 free) runs.2
  one_along (Back ∷ ends) (r ∷ rs) s t few free runs = absurd runs.1

  pub holds_one : (its : List S) (m : Merger S A) → IsMergerOf its m
      → HoldsAtMost 1 (Calls front Front May) nowhere m
  holds_one its m of = record {
    at = λ ends rs t runs.
        (one_along ends rs m t (few_new 1 its m of) of.no_back runs).all;
  }
