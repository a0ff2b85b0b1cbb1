-- A source of a lending merger goes on.
use Rattle.std.proofs.Common.{◌≡◌, refl, sym, ◌∙◌, ap, subst, ℕ, zero, suc, ◌<◌, Bool}
use Rattle.std.proofs.Common.{true, false, List, [], ◌∷◌, length, arith, slice_index_or}
use Rattle.std.proofs.Common.{slice_set}
use Rattle.std.specs.Prelude.{Option, Some, None, Ok, Err, is_some, ◌==◌, ◌&&◌, ◌||◌, not}
use Rattle.std.specs.List.{AllByRecursion, insert}
use Rattle.std.proofs.lemmas.Bool.{eqb-true, eq-eqb}
use Rattle.std.proofs.lemmas.Bool.Decides.{nat_tests}
use Rattle.sst_entries.specs.Entry.{Entry}
use Rattle.sst_entries.specs.Lending.{came}
use Rattle.sst_entries.specs.Stream.{answer_stops, but_first, first, nowhere}
use Rattle.sst_entries.specs.declared.error.Error.{Error}
use Rattle.sst_entries.proofs.StreamLemmas.{yields_front}
use Rattle.lsm_sorted.specs.merge.Ends.{R}
use Rattle.lsm_sorted.specs.lending.Lent.{goes_before, lent_of, IsQueue, is_queued, Has, RestIf}
use Rattle.lsm_sorted.specs.lending.Lent.{Rests}
use Rattle.lsm_sorted.proofs.QueueLemmas.{among_itself, among_put}

-- ---- one of several

module _ {S : Type 0} where
  pub set_length : (ss : List S) (i : ℕ) (t : S) → length (slice_set ss i t) ≡ length ss
  set_length [] i t = refl
  set_length (s ∷ ss) zero t = refl
  set_length (s ∷ ss) (suc i) t = ap suc (set_length ss i t)

  pub set_other : (ss : List S) (i j : ℕ) (t d : S) → (i ≡ j → ⊥)
      → slice_index_or (slice_set ss i t) j d ≡ slice_index_or ss j d
  set_other [] i j t d apart = refl
  set_other (s ∷ ss) zero zero t d apart = absurd (apart refl)
  set_other (s ∷ ss) zero (suc j) t d apart = refl
  set_other (s ∷ ss) (suc i) zero t d apart = refl
  set_other (s ∷ ss) (suc i) (suc j) t d apart = set_other ss i j t d (λ e. apart (ap suc e))

  pub set_own : (ss : List S) (i : ℕ) (t d : S) → i < length ss
      → slice_index_or (slice_set ss i t) i d ≡ t
  set_own [] i t d lt = absurd (omega arith)
  set_own (s ∷ ss) zero t d lt = refl
  set_own (s ∷ ss) (suc i) t d lt = set_own ss i t d (omega arith)

  module _ (lent : S → Option Entry) where
    pub lent_other : (ss : List S) (i j : ℕ) (t : S) → (i ≡ j → ⊥)
        → lent_of lent (slice_set ss i t) j ≡ lent_of lent ss j
    lent_other [] i j t apart = refl
    lent_other (s ∷ ss) zero zero t apart = absurd (apart refl)
    lent_other (s ∷ ss) zero (suc j) t apart = refl
    lent_other (s ∷ ss) (suc i) zero t apart = refl
    lent_other (s ∷ ss) (suc i) (suc j) t apart = lent_other ss i j t (λ e. apart (ap suc e))

    pub lent_own : (ss : List S) (i : ℕ) (t : S) → i < length ss
        → lent_of lent (slice_set ss i t) i ≡ lent t
    lent_own [] i t lt = absurd (omega arith)
    lent_own (s ∷ ss) zero t lt = refl
    lent_own (s ∷ ss) (suc i) t lt = lent_own ss i t (omega arith)

    -- what source j lends
    pub lent_is : (ss : List S) (j : ℕ) (s : S) → j < length ss
        → lent_of lent ss j ≡ lent (slice_index_or ss j s)
    lent_is [] j s lt = absurd (omega arith)
    lent_is (r ∷ ss) zero s lt = refl
    lent_is (r ∷ ss) (suc j) s lt = lent_is ss j s (omega arith)

-- ---- the queue

module _ (at at' : ℕ → Option Entry) where
  -- the same entries stand in the same order
  queue_same : (qs : List ℕ) → ((j : ℕ) → is_queued j qs ≡ true → at' j ≡ at j) → IsQueue at qs
      → IsQueue at' qs
  queue_same [] same h = tt
  queue_same (q ∷ qs) same h =
      let own : at' q ≡ at q = same q (among_itself q qs) in
      let later : (j : ℕ) → is_queued j qs ≡ true → at' j ≡ at j =
      λ j e. same j (or_more (q == j) e) in (
        ap is_some own ∙ h.0,
        all_same q own qs later h.1,
        queue_same qs later h.2,
      )
    where
      or_more : (b : Bool) {c : Bool} → c ≡ true → (b || c) ≡ true
      or_more true e = refl
      or_more false e = e

      all_same : (q : ℕ) → at' q ≡ at q → (qs : List ℕ)
          → ((j : ℕ) → is_queued j qs ≡ true → at' j ≡ at j)
          → AllByRecursion (λ r. goes_before (at r) r (at q) q ≡ true) qs
          → AllByRecursion (λ r. goes_before (at' r) r (at' q) q ≡ true) qs
      all_same q own [] same h = tt
      all_same q own (r ∷ qs) same h = (
        ap (λ (o : Option Entry). goes_before o r (at' q) q) (same r (among_itself r qs))
            ∙ ap (λ (o : Option Entry). goes_before (at r) r o q) own ∙ h.0,
        all_same q own qs (λ j e. same j (or_more (r == j) e)) h.1,
      )

-- a source that is not in the queue goes on
pub queue_stays : {S : Type 0} (lent : S → Option Entry) (ss : List S) (i : ℕ) (t : S)
    (qs : List ℕ) → is_queued i qs ≡ false → IsQueue (lent_of lent ss) qs
    → IsQueue (lent_of lent (slice_set ss i t)) qs
queue_stays lent ss i t qs apart = queue_same (lent_of lent ss) (lent_of lent (slice_set ss i t)) qs
    (λ j e. lent_other lent ss i j t (λ same. let no : true ≡ false = sym e
    ∙ ap (λ (k : ℕ). is_queued k qs) (sym same) ∙ apart in absurd cc))

-- what is below a bound is not in a queue of which all are at least it
pub below_not_among : (i : ℕ) (qs : List ℕ) → AllByRecursion (λ q. q < i) qs
    → is_queued i qs ≡ false
below_not_among i [] h = refl
below_not_among i (q ∷ qs) h =
    let other : (q == i) ≡ false = grind (arith, nat_tests, h.0) in
    ap (λ (b : Bool). b || is_queued i qs) other ∙ below_not_among i qs h.1

-- ---- what is left

headed : (r : R) (rs : List R) → Some r ≡ first rs → rs ≡ r ∷ but_first rs
headed r [] e = cc
headed r (q ∷ rs) e = cc

none_headed : (rs : List R) → None ≡ first rs → rs ≡ []
none_headed [] e = refl
none_headed (r ∷ rs) e = cc

module _ {S : Type 0} (stops : Error → Bool) (advances : S → Option R → S → Type 0)
    (lent : S → Option Entry) where
  abbrev Rest : Bool → Bool → S → List R → Type 0
  Rest = RestIf stops advances lent

  -- the same, with other words for who waits
  pub rests_same : (waits waits' : ℕ → Bool) (ss : List S) (qs : List ℕ) (lists : List (List R))
      → ((j : ℕ) → j < length ss → waits' j ≡ waits j)
      → Rests stops advances lent waits ss qs lists → Rests stops advances lent waits' ss qs lists
  rests_same waits waits' ss qs lists same h = record {
    count = h.count;
    each = λ j s lt. subst (λ (b : Bool). Rest (is_queued j qs) b (slice_index_or ss j s)
        (slice_index_or lists j [])) (sym (same j lt)) (h.each j s lt);
    sorted = h.sorted;
  }

  waiting : (b : Bool) (s : S) (rs : List R) → Rest b true s rs
      → (b ≡ false) × Has stops advances lent s rs
  waiting true s rs h = absurd h
  waiting false s rs h = (refl, h)

  -- source i stands otherwise, and waits no more
  rests_set : (waits : ℕ → Bool) (ss : List S) (qs qs' : List ℕ) (lists : List (List R)) (i : ℕ)
      (t : S) → Rests stops advances lent waits ss qs lists → i < length ss
      → ((j : ℕ) → (i ≡ j → ⊥) → is_queued j qs' ≡ is_queued j qs)
      → Rest (is_queued i qs') false t (slice_index_or lists i [])
      → Rests stops advances lent (λ j. waits j && not (j == i)) (slice_set ss i t) qs' lists
  rests_set waits ss qs qs' lists i t h within same own = record {
    count = h.count ∙ sym (set_length ss i t);
    each = λ j s lt. go j s (j == i) refl (omega (arith, lt, set_length ss i t));
    sorted = h.sorted;
  }
    where
      no_more : (b : Bool) → (b && false) ≡ false
      no_more true = refl
      no_more false = refl

      as_before : (b : Bool) → (b && true) ≡ b
      as_before true = refl
      as_before false = refl

      go : (j : ℕ) (s : S) (b : Bool) → (j == i) ≡ b → j < length ss
          → Rest (is_queued j qs') (waits j && not (j == i)) (slice_index_or (slice_set ss i t) j s)
          (slice_index_or lists j [])
      go j s true e lt =
          let is : i ≡ j = sym (eqb-true j i e) in
          let idle : (waits j && not (j == i)) ≡ false =
          ap (λ (b : Bool). waits j && not b) e ∙ no_more (waits j) in
          let at : slice_index_or (slice_set ss i t) j s ≡ t =
          ap (λ (k : ℕ). slice_index_or (slice_set ss i t) k s) (sym is)
          ∙ set_own ss i t s within in
          rw (idle, at) (subst
          (λ (k : ℕ). Rest (is_queued k qs') false t (slice_index_or lists k []))
          is own)
      go j s false e lt =
          let apart : i ≡ j → ⊥ = λ is. let no : true ≡ false = sym (eq-eqb j i (sym is)) ∙ e in
          absurd cc in
          let stays : (waits j && not (j == i)) ≡ waits j =
          ap (λ (b : Bool). waits j && not b) e ∙ as_before (waits j) in
          rw (stays, set_other ss i j t s apart, same j apart) (h.each j s lt)

  module _ (waits : ℕ → Bool) (ss : List S) (qs : List ℕ) (lists : List (List R)) (i : ℕ)
      (s t : S) (h : Rests stops advances lent waits ss qs lists) (waited : waits i ≡ true)
      (within : i < length ss) (is : s ≡ slice_index_or ss i s) where
    had : (is_queued i qs ≡ false) × Has stops advances lent s (slice_index_or lists i [])
    had = waiting (is_queued i qs) s (slice_index_or lists i [])
        (subst (λ (b : Bool). Rest (is_queued i qs) b s (slice_index_or lists i [])) waited
        (subst (λ (u : S). Rest (is_queued i qs) (waits i) u (slice_index_or lists i [])) (sym is)
        (h.each i s within)))

    -- it lends an entry
    pub rests_lent : (x : Entry) (p : ℕ) → lent t ≡ Some x → advances s (Some (Ok x)) t
        → Rests stops advances lent (λ j. waits j && not (j == i)) (slice_set ss i t)
        (insert qs p i) lists
    rests_lent x p is step =
        let one = yields_front (answer_stops stops) advances nowhere s (slice_index_or lists i [])
        (Some (Ok x)) t had.1 step refl in
        rests_set waits ss qs (insert qs p i) lists i t h within
        (λ j apart. among_put j i p qs ∙ other j apart)
        (subst (λ (b : Bool). Rest b false t (slice_index_or lists i []))
        (sym (among_put i i p qs ∙ among_itself i qs)) (
          x,
          but_first (slice_index_or lists i []),
          is,
          headed (Ok x) (slice_index_or lists i []) one.0,
          one.1,
        ))
      where
        other : (j : ℕ) → (i ≡ j → ⊥) → is_queued j (i ∷ qs) ≡ is_queued j qs
        other j apart = ap (λ (b : Bool). b || is_queued j qs) (differ j apart)
          where
            differ : (j : ℕ) → (i ≡ j → ⊥) → (i == j) ≡ false
            differ j apart = grind (arith, nat_tests, apart)

    -- it has ended
    pub rests_ended : advances s None t
        → Rests stops advances lent (λ j. waits j && not (j == i)) (slice_set ss i t) qs lists
    rests_ended step =
        let one = yields_front (answer_stops stops) advances nowhere s (slice_index_or lists i [])
        None t had.1 step refl in
        rests_set waits ss qs qs lists i t h within (λ j apart. refl)
        (subst (λ (b : Bool). Rest b false t (slice_index_or lists i [])) (sym had.0)
        (none_headed (slice_index_or lists i []) one.0))

    -- it gave an error
    pub rests_fault : (e : Error) → advances s (Some (Err e)) t → stops e ≡ false
        → (rs : List R) × (slice_index_or lists i [] ≡ Err e ∷ rs)
    rests_fault e step fine =
        let one = yields_front (answer_stops stops) advances nowhere s (slice_index_or lists i [])
        (Some (Err e)) t had.1 step fine in
        (but_first (slice_index_or lists i []), headed (Err e) (slice_index_or lists i []) one.0)

    -- by what it lends
    pub rests_more : (p : ℕ) (more : Bool) → more ≡ is_some (lent t) → more ≡ true
        → advances s (came (Ok more) (lent t)) t
        → Rests stops advances lent (λ j. waits j && not (j == i)) (slice_set ss i t)
        (insert qs p i) lists
    rests_more p more same some step = go (lent t) refl
      where
        go : (o : Option Entry) → lent t ≡ o
            → Rests stops advances lent (λ j. waits j && not (j == i)) (slice_set ss i t)
            (insert qs p i) lists
        go None e = let no : true ≡ false = sym some ∙ same ∙ ap is_some e in absurd cc
        go (Some x) e = rests_lent x p e
            (subst (λ (o : Option Entry). advances s (came (Ok more) o) t) e step)

    pub rests_none : (more : Bool) → more ≡ is_some (lent t) → more ≡ false
        → advances s (came (Ok more) (lent t)) t
        → Rests stops advances lent (λ j. waits j && not (j == i)) (slice_set ss i t) qs lists
    rests_none more same none step = go (lent t) refl
      where
        go : (o : Option Entry) → lent t ≡ o
            → Rests stops advances lent (λ j. waits j && not (j == i)) (slice_set ss i t) qs lists
        go None e = rests_ended (subst (λ (o : Option Entry). advances s (came (Ok more) o) t) e
            step)
        go (Some x) e = let no : false ≡ true = sym none ∙ same ∙ ap is_some e in absurd cc
