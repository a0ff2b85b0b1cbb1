-- What a lending merger lends, and what is left behind it.
use Rattle.std.proofs.Common.{◌≡◌, inl, inr, refl, sym, ◌∙◌, ap, subst, ℕ, zero, suc, ◌+◌, ◌<◌}
use Rattle.std.proofs.Common.{◌≤◌, ◌-◌, Bool, true, false, cond, List, [], ◌∷◌, ◌++◌, length, map}
use Rattle.std.proofs.Common.{arith, slice_index_or, slice_set}
use Rattle.std.specs.Prelude.{Option, Some, None, Result, Ok, Err, is_some, ◌==◌, ◌&&◌, ◌||◌, not}
use Rattle.std.specs.Prelude.{All, nat_lt, slice_get, MatchResult}
use Rattle.std.specs.List.{AllByRecursion, insert}
use Rattle.std.specs.Option.{option_map}
use Rattle.std.specs.Vec.{vec_capacity}
use Rattle.std.specs.Ordering.{is_gt, is_lt, nat_cmp, ordering_reverse, ordering_then}
use Rattle.std.specs.declared.cmp.Ordering.{Ordering}
use Rattle.std.specs.declared.cmp.Ordering.TheVariants.{Less, Equal, Greater}
use Rattle.std.proofs.lemmas.Bool.{eqb-true, eq-eqb}
use Rattle.std.proofs.lemmas.Bool.Decides.{nat_tests}
use Rattle.std.proofs.lemmas.Cmp.{tied_itself}
use Rattle.std.proofs.lemmas.List.{length-map, map_push}
use Rattle.std.proofs.lemmas.List.Elements.{All-from_recursion, All-nil, All-set}
use Rattle.std.proofs.lemmas.List.Elements.{recursion_from_All}
use Rattle.sst_entries.specs.Entry.{Entry}
use Rattle.sst_entries.specs.Stream.{CanYield, Lowers, but_first, first, nowhere}
use Rattle.sst_entries.specs.declared.error.Error.{Error}
use Rattle.sst_entries.proofs.Lists.{all_more}
use Rattle.sst_entries.proofs.StreamLemmas.{can_front}
use Rattle.lsm_sorted.specs.declared.lending_merger.Head.{Head}
use Rattle.lsm_sorted.specs.declared.lending_merger.LendingMerger.{LendingMerger}
use Rattle.lsm_sorted.specs.merge.Ends.{R}
use Rattle.lsm_sorted.specs.merge.InPlace.{merge_of}
use Rattle.lsm_sorted.specs.lending.Lent.{goes_before, is_turn, lent_of, lent_by, lent_first}
use Rattle.lsm_sorted.specs.lending.Lent.{IsQueue}
use Rattle.lsm_sorted.specs.lending.Lent.{IsReady}
use Rattle.lsm_sorted.specs.lending.Lent.{is_queued, RestIf, Rests, LeavesIf, LeavesLent, Belongs}
use Rattle.lsm_sorted.specs.lending.Lent.{IsHead, StepLowers, lent_size, lent_total, queued}
use Rattle.lsm_sorted.specs.lending.Lent.{source_of}
use Rattle.lsm_sorted.specs.merge.Union.{item_cmp, AtMost, Ascends, entries_among}
use Rattle.lsm_sorted.proofs.InPlaceLemmas.{HasNoFault, merge_entry, merge_fault, merge_nothing}
use Rattle.lsm_sorted.proofs.HeadLemmas.{got_source}
use Rattle.lsm_sorted.proofs.LentLemmas.{lent_is, lent_own, queue_stays, rests_same, set_length}
use Rattle.lsm_sorted.proofs.LentLemmas.{set_other, set_own}
use Rattle.lsm_sorted.proofs.MergedLemmas.{item_total, Above, at_most_chain}
use Rattle.lsm_sorted.proofs.QueueLemmas.{all_put_in, among_end, last_before, last_of_queue}
use Rattle.lsm_sorted.proofs.QueueLemmas.{queue_front}

-- ---- whether it may be asked

-- the last head is taken out of the queue
pub queued_popped : {S A : Type 0} (m n : LendingMerger S A) (w : Head)
    → m.queue.items ≡ n.queue.items ++ w ∷ [] → queued m ≡ queued n ++ w.source ∷ []
queued_popped m n w items = ap (map source_of) items ∙ map_push source_of n.queue.items w

all_front : {X : Type 0} (P : X → Type 0) (x : X) (ps : List X) → AllByRecursion P (ps ++ x ∷ [])
    → AllByRecursion P ps
all_front P x [] h = tt
all_front P x (p ∷ ps) h = (h.0, all_front P x ps h.1)

module _ {S : Type 0} (advances : S → Option R → S → Type 0) (can : S → Type 0)
    (lent : S → Option Entry) where
  -- source i went on, and the queue is in order again
  pub ready_on : {A : Type 0} (m n : LendingMerger S A) (i : ℕ) (s t : S) (r : Option R)
      → IsReady advances can lent m → i < length m.sources.items
      → s ≡ slice_index_or m.sources.items i s → advances s r t
      → n.sources.items ≡ slice_set m.sources.items i t
      → vec_capacity m.queue ≤ vec_capacity n.queue
      → All (λ q. q < length m.sources.items) (queued n)
      → IsQueue (lent_of lent (slice_set m.sources.items i t)) (queued n)
      → All (IsHead (lent_of lent (slice_set m.sources.items i t))) n.queue.items
      → IsReady advances can lent n
  ready_on m n i s t r ready within is step set room known queue heads =
      let long : length n.sources.items ≡ length m.sources.items =
      ap length set ∙ set_length m.sources.items i t in
      let old : length m.sources.items ≤ vec_capacity m.queue = ready.room in
      record {
        sources = subst (All (CanYield advances nowhere can can)) (sym set)
            (All-set (CanYield advances nowhere can can) m.sources.items i t
            (can_front advances nowhere can can s r t
            (subst (CanYield advances nowhere can can) (sym is) (ready.sources i s within)) step)
            ready.sources);
        known = subst (λ (n' : ℕ). All (λ q. q < n') (queued n)) (sym long) known;
        room = omega (arith, long, old, room);
        queue = subst (λ (ss : List S). IsQueue (lent_of lent ss) (queued n)) (sym set) queue;
        heads = subst (λ (ss : List S). All (IsHead (lent_of lent ss)) n.queue.items) (sym set)
            heads;
      }

  -- the last is taken out of the queue
  pub ready_popped : {A : Type 0} (m n : LendingMerger S A) (w : Head) → IsReady advances can lent m
      → m.queue.items ≡ n.queue.items ++ w ∷ [] → n.sources.items ≡ m.sources.items
      → vec_capacity n.queue ≡ vec_capacity m.queue
      → IsReady advances can lent n × (w.source < length m.sources.items)
      × (is_queued w.source (queued n) ≡ false)
  ready_popped m n w ready items same room =
      let at : ℕ → Option Entry = lent_of lent m.sources.items in
      let sources : queued m ≡ queued n ++ w.source ∷ [] = queued_popped m n w items in
      let queue : IsQueue at (queued n ++ w.source ∷ []) =
      subst (IsQueue at) sources ready.queue in
      let parts = queue_front at (queued n) w.source queue in
      let known : AllByRecursion (λ q. q < length m.sources.items) (queued n ++ w.source ∷ []) =
      subst (AllByRecursion (λ q. q < length m.sources.items)) sources
      (recursion_from_All (λ q. q < length m.sources.items) (queued m) ready.known) in
      let heads : AllByRecursion (IsHead at) (n.queue.items ++ w ∷ []) =
      subst (AllByRecursion (IsHead at)) items
      (recursion_from_All (IsHead at) m.queue.items ready.heads) in
      let long : length n.sources.items ≡ length m.sources.items = ap length same in
      let old : length m.sources.items ≤ vec_capacity m.queue = ready.room in (
        record {
          sources = subst (All (CanYield advances nowhere can can)) (sym same) ready.sources;
          known = subst (λ (b : ℕ). All (λ q. q < b) (queued n)) (sym long)
              (All-from_recursion (λ q. q < length m.sources.items) (queued n)
              (all_front (λ q. q < length m.sources.items) w.source (queued n) known));
          room = omega (arith, long, old, room);
          queue = subst (λ (ss : List S). IsQueue (lent_of lent ss) (queued n)) (sym same)
              parts.0;
          heads = subst (λ (ss : List S). All (IsHead (lent_of lent ss)) n.queue.items) (sym same)
              (All-from_recursion (IsHead at) n.queue.items
              (all_front (IsHead at) w n.queue.items heads));
        },
        end (queued n) known,
        parts.1,
      )
    where
      end : (ps : List ℕ) → AllByRecursion (λ q. q < length m.sources.items) (ps ++ w.source ∷ [])
          → w.source < length m.sources.items
      end [] h = h.0
      end (p ∷ ps) h = end ps h.1

  -- nothing is queued
  pub ready_cleared : {A : Type 0} (m n : LendingMerger S A) → IsReady advances can lent m
      → n.queue.items ≡ [] → n.sources.items ≡ m.sources.items
      → vec_capacity n.queue ≡ vec_capacity m.queue → IsReady advances can lent n
  ready_cleared m n ready items same room =
      let none : queued n ≡ [] = ap (map source_of) items in
      let long : length n.sources.items ≡ length m.sources.items = ap length same in
      let old : length m.sources.items ≤ vec_capacity m.queue = ready.room in
      record {
        sources = subst (All (CanYield advances nowhere can can)) (sym same) ready.sources;
        known = subst (All (λ q. q < length n.sources.items)) (sym none)
            (All-nil (λ q. q < length n.sources.items));
        room = omega (arith, long, old, room);
        queue = subst (IsQueue (lent_of lent n.sources.items)) (sym none) tt;
        heads = subst (All (IsHead (lent_of lent n.sources.items))) (sym items)
            (All-nil (IsHead (lent_of lent n.sources.items)));
      }

-- all are below a bound, with one more
pub known_put : (bound i p : ℕ) (qs : List ℕ) → i < bound → All (λ q. q < bound) qs
    → All (λ q. q < bound) (insert qs p i)
known_put bound i p qs one all = All-from_recursion (λ q. q < bound) (insert qs p i)
    (all_put_in (λ q. q < bound) i p qs one (recursion_from_All (λ q. q < bound) qs all))

-- what was put in the queue lends
pub queue_put : {S : Type 0} (lent : S → Option Entry) (ss : List S) (i p : ℕ) (t : S)
    (qs : List ℕ) → i < length ss → is_some (lent t) ≡ true → is_queued i qs ≡ false
    → IsQueue (lent_of lent ss) qs → Belongs (lent_of lent (slice_set ss i t)) i qs p
    → IsQueue (lent_of lent (slice_set ss i t)) (insert qs p i)
queue_put lent ss i p t qs within some apart queue belongs = belongs.keeps
    (queue_stays lent ss i t qs apart queue) (ap is_some (lent_own lent ss i t within) ∙ some) apart

-- ---- what is first

less_first : (o p : Ordering) → is_lt (ordering_then o p) ≡ true → is_gt o ≡ false
less_first Less p h = refl
less_first Equal p h = refl
less_first Greater p h = cc

less_before : (o : Ordering) (p : Ordering) → is_lt (ordering_then o p) ≡ true → p ≡ Greater
    → is_gt (ordering_reverse o) ≡ true
less_before Less p h e = refl
less_before Equal p h e = let no : true ≡ false = sym h ∙ ap is_lt e in absurd cc
less_before Greater p h e = cc

number_above : (i j : ℕ) → j < i → nat_cmp i j ≡ Greater
number_above i j lt = grind (arith, nat_tests)

above_chain : (x y z : Entry) → Above y x → AtMost y z → Above z x
above_chain x y z h le = go (is_gt (item_cmp z x)) refl
  where
    go : (b : Bool) → is_gt (item_cmp z x) ≡ b → is_gt (item_cmp z x) ≡ true
    go true e = e
    go false e = let no : true ≡ false = sym h ∙ at_most_chain y z x le e in absurd cc

all_at : (P : List R → Type 0) (lists : List (List R)) → P [] → AllByRecursion P lists → (j : ℕ)
    → P (slice_index_or lists j [])
all_at P [] none all j = none
all_at P (l ∷ lists) none all zero = all.0
all_at P (l ∷ lists) none all (suc j) = all_at P lists none all.1 j

all_set : (P : List R → Type 0) (lists : List (List R)) (k : ℕ) (rs : List R)
    → AllByRecursion P lists → P rs → AllByRecursion P (slice_set lists k rs)
all_set P [] k rs all one = tt
all_set P (l ∷ lists) zero rs all one = (one, all.1)
all_set P (l ∷ lists) (suc k) rs all one = (all.0, all_set P lists k rs all.1 one)

pub some_of : {S : Type 0} (ss : List S) (j : ℕ) → j < length ss → S
some_of [] j lt = absurd (omega arith)
some_of (s ∷ ss) j lt = s

differs : (w j : ℕ) → (w ≡ j → ⊥) → (w == j) ≡ false
differs w j apart = grind (arith, nat_tests, apart)

abbrev pub nothing_of : {S : Type 0} → S → List R
nothing_of s = []

module _ {S : Type 0} (stops : Error → Bool) (advances : S → Option R → S → Type 0)
    (lent : S → Option Entry) where
  abbrev Rest : Bool → Bool → S → List R → Type 0
  Rest = RestIf stops advances lent

  abbrev Have : (ℕ → Bool) → List S → List ℕ → List (List R) → Type 0
  Have = Rests stops advances lent

  no_fault : (b : Bool) (s : S) (rs : List R) → Rest b false s rs → HasNoFault rs
  no_fault true s rs h = subst HasNoFault (sym h.3) tt
  no_fault false s rs h = subst HasNoFault (sym h) tt

  -- what does not wait has no error at its head
  pub no_faults : (waits : ℕ → Bool) (ss : List S) (qs : List ℕ) (lists : List (List R))
      → Have waits ss qs lists → (j : ℕ) → j < length ss → waits j ≡ false
      → HasNoFault (slice_index_or lists j [])
  no_faults waits ss qs lists h j lt idle =
      let s : S = slice_index_or ss j (some_of ss j lt) in
      no_fault (is_queued j qs) s (slice_index_or lists j [])
      (subst (λ (b : Bool). Rest (is_queued j qs) b s (slice_index_or lists j [])) idle
      (h.each j (some_of ss j lt) lt))

  -- an error of source i, where no earlier source waits
  pub fault_first : (waits : ℕ → Bool) (ss : List S) (qs : List ℕ) (lists : List (List R)) (i : ℕ)
      (e : Error) → Have waits ss qs lists → i < length ss → ((j : ℕ) → j < i → waits j ≡ false)
      → (rs : List R) × (slice_index_or lists i [] ≡ Err e ∷ rs) → merge_of lists ≡ Err e ∷ []
  fault_first waits ss qs lists i e h within idle head = merge_fault lists i e head.0
      (omega (arith, within, h.count)) head.1
      (λ j below. no_faults waits ss qs lists h j (omega arith) (idle j below))

  -- no source has anything
  pub rests_nothing : (ss : List S) (lists : List (List R)) → Have (λ j. false) ss [] lists
      → merge_of lists ≡ []
  rests_nothing ss lists h = merge_nothing lists (λ j lt.
      let within : j < length ss = omega (arith, lt, h.count) in
      h.each j (some_of ss j within) within)

  pub rests_empty : (ss : List S) → Have (λ j. false) ss [] (map nothing_of ss)
  rests_empty ss = record {
    count = counts ss;
    each = λ i s lt. empty ss i;
    sorted = sorts ss;
  }
    where
      counts : (ss : List S) → length (map nothing_of ss) ≡ length ss
      counts [] = refl
      counts (s ∷ ss) = ap suc (counts ss)

      empty : (ss : List S) (i : ℕ) → slice_index_or (map nothing_of ss) i [] ≡ []
      empty [] i = refl
      empty (s ∷ ss) zero = refl
      empty (s ∷ ss) (suc i) = empty ss i

      sorts : (ss : List S) → AllByRecursion (λ rs. Ascends (entries_among rs))
          (map nothing_of ss)
      sorts [] = tt
      sorts (s ∷ ss) = (tt, sorts ss)

  -- the last of the queue has the first entry
  module _ (ss : List S) (ps : List ℕ) (w : ℕ) (lists : List (List R))
      (h : Have (λ j. false) ss (ps ++ w ∷ []) lists)
      (queue : IsQueue (lent_of lent ss) (ps ++ w ∷ [])) (within : w < length ss) where
    abbrev pub some : S
    some = some_of ss w within

    among_last : is_queued w (ps ++ w ∷ []) ≡ true
    among_last = among_end w w ps ∙ ap (λ (b : Bool). b || is_queued w ps) (eq-eqb w w refl)

    pub lead : Rest true false (slice_index_or ss w some) (slice_index_or lists w [])
    lead = subst (λ (b : Bool). Rest b false (slice_index_or ss w some) (slice_index_or lists w []))
        among_last (h.each w some within)

    abbrev pub x : Entry
    x = lead.0

    pub lead_lent : lent_of lent ss w ≡ Some x
    lead_lent = lent_is lent ss w some within ∙ lead.2

    sorted_at : (j : ℕ) → Ascends (entries_among (slice_index_or lists j []))
    sorted_at = all_at (λ rs. Ascends (entries_among rs)) lists tt h.sorted

    lead_least : AllByRecursion (AtMost x) (entries_among lead.1)
    lead_least = (subst (λ (rs : List R). Ascends (entries_among rs)) lead.3 (sorted_at w)).0

    -- what another source of the queue lends comes after x
    turn_of : (j : ℕ) (y : Entry) → (w ≡ j → ⊥) → is_queued j (ps ++ w ∷ []) ≡ true
        → lent_of lent ss j ≡ Some y → is_turn x w y j ≡ true
    turn_of j y apart among is =
        let inner : is_queued j ps ≡ true = other (w == j) refl in
        subst (λ (o : Option Entry). goes_before o w (Some y) j ≡ true) lead_lent
        (subst (λ (o : Option Entry). goes_before (lent_of lent ss w) w o j ≡ true) is
        (last_before (lent_of lent ss) ps w j queue inner))
      where
        other : (b : Bool) → (w == j) ≡ b → is_queued j ps ≡ true
        other true e = absurd (apart (eqb-true w j e))
        other false e = sym (among_end j w ps
            ∙ ap (λ (b : Bool). b || is_queued j ps) e) ∙ among

    -- the entries of another list, by its first
    rest_by : (P : Entry → Type 0) (j : ℕ) → j < length ss
        → ((y : Entry) → is_queued j (ps ++ w ∷ []) ≡ true → lent_of lent ss j ≡ Some y → P y)
        → ((y z : Entry) → P y → AtMost y z → P z)
        → AllByRecursion P (entries_among (slice_index_or lists j []))
    rest_by P j lt one more = go (is_queued j (ps ++ w ∷ [])) refl (h.each j s lt)
      where
        s : S
        s = some_of ss j lt

        go : (b : Bool) → is_queued j (ps ++ w ∷ []) ≡ b
            → Rest b false (slice_index_or ss j s) (slice_index_or lists j [])
            → AllByRecursion P (entries_among (slice_index_or lists j []))
        go true e r =
            let own : P r.0 = one r.0 e (lent_is lent ss j s lt ∙ r.2) in
            let up = subst (λ (rs : List R). Ascends (entries_among rs)) r.3 (sorted_at j) in
            subst (λ (rs : List R). AllByRecursion P (entries_among rs)) (sym r.3)
            (own, all_more (AtMost r.0) P (λ z le. more r.0 z own le) (entries_among r.1) up.0)
        go false e r = subst (λ (rs : List R). AllByRecursion P (entries_among rs)) (sym r) tt

    pub lead_merges : merge_of lists ≡ Ok x ∷ merge_of (slice_set lists w lead.1)
    lead_merges = merge_entry lists w x lead.1 (omega (arith, within, h.count)) lead.3
        (ap is_gt (tied_itself item_total x))
        (λ j lt. no_faults (λ j. false) ss (ps ++ w ∷ []) lists h j
        (omega (arith, lt, h.count)) refl)
        (λ j below. rest_by (λ y. Above y x) j (omega arith)
        (λ y among is. earlier j y below
        (turn_of j y (λ e. absurd (omega (arith, e, below))) among is))
        (λ y z above le. above_chain x y z above le))
        (λ j above lt. rest_by (AtMost x) j (omega (arith, lt, h.count))
        (λ y among is. less_first (item_cmp x y) (nat_cmp w j)
        (turn_of j y (λ e. absurd (omega (arith, e, above))) among is))
        (λ y z le next. at_most_chain x y z le next))
        lead_least
      where
        earlier : (j : ℕ) (y : Entry) → j < w → is_turn x w y j ≡ true → Above y x
        earlier j y below turn = ap is_gt (item_total.antisymm y x)
            ∙ less_before (item_cmp x y) (nat_cmp w j) turn (number_above w j below)

    -- without it its source waits
    pub lead_taken : is_queued w ps ≡ false
        → Have (λ j. j == w) ss ps (slice_set lists w lead.1)
    lead_taken free = record {
      count = set_length lists w lead.1 ∙ h.count;
      each = λ j s lt. go j s lt (j == w) refl;
      sorted = all_set (λ rs. Ascends (entries_among rs)) lists w lead.1 h.sorted
          (subst (λ (rs : List R). Ascends (entries_among rs)) lead.3 (sorted_at w)).1;
    }
      where
        same_some : (s : S) → slice_index_or ss w s ≡ slice_index_or ss w some
        same_some s = any ss w s some within
          where
            any : (ss : List S) (k : ℕ) (d e : S) → k < length ss
                → slice_index_or ss k d ≡ slice_index_or ss k e
            any [] k d e lt = absurd (omega arith)
            any (s ∷ ss) zero d e lt = refl
            any (s ∷ ss) (suc k) d e lt = any ss k d e (omega arith)

        go : (j : ℕ) (s : S) → j < length ss → (b : Bool) → (j == w) ≡ b
            → Rest (is_queued j ps) (j == w) (slice_index_or ss j s)
            (slice_index_or (slice_set lists w lead.1) j [])
        go j s lt true e =
            let is : w ≡ j = sym (eqb-true j w e) in
            rw e (subst (λ (k : ℕ). Rest (is_queued k ps) true (slice_index_or ss k s)
            (slice_index_or (slice_set lists w lead.1) k [])) is
            (rw (free, same_some s, set_own lists w lead.1 [] (omega (arith, within, h.count)))
            lead.4))
        go j s lt false e =
            let apart : w ≡ j → ⊥ = λ is. let no : true ≡ false = sym (eq-eqb j w (sym is)) ∙ e in
            absurd cc in
            rw (e, set_other lists w j lead.1 [] apart)
            (subst (λ (b : Bool). Rest b false (slice_index_or ss j s) (slice_index_or lists j []))
            (among_end j w ps ∙ ap (λ (b : Bool). b || is_queued j ps) (differs w j apart))
            (h.each j s lt))

  -- what is lent is the first of what is left
  pub lent_answer : (ss : List S) (qs : List ℕ) (lists : List (List R))
      → Have (λ j. false) ss qs lists → IsQueue (lent_of lent ss) qs
      → AllByRecursion (λ q. q < length ss) qs
      → option_map (λ y. Ok y) (lent_by (lent_of lent ss) (slice_get qs (length qs - 1)))
      ≡ first (merge_of lists)
  lent_answer ss qs lists h queue known = elim (last_of_queue qs) [
    | inl e ↦
        let none : merge_of lists ≡ [] = rests_nothing ss lists
        (subst (λ (ps : List ℕ). Have (λ j. false) ss ps lists) e h) in
        ap (λ (ps : List ℕ). option_map (λ y. Ok y) (lent_by (lent_of lent ss)
        (slice_get ps (length ps - 1)))) e ∙ sym (ap first none)
    | inr l ↦
        let rests = subst (λ (ps : List ℕ). Have (λ j. false) ss ps lists) l.2 h in
        let order = subst (IsQueue (lent_of lent ss)) l.2 queue in
        let within = end l.0 l.1 (subst (AllByRecursion (λ q. q < length ss)) l.2 known) in
        ap (λ (o : Option ℕ). option_map (λ y. Ok y) (lent_by (lent_of lent ss) o)) l.3
        ∙ ap (option_map (λ y. Ok y)) (lead_lent ss l.0 l.1 lists rests order within)
        ∙ sym (ap first (lead_merges ss l.0 l.1 lists rests order within))
  ]
    where
      end : (ps : List ℕ) (w : ℕ) → AllByRecursion (λ q. q < length ss) (ps ++ w ∷ [])
          → w < length ss
      end [] w h = h.0
      end (p ∷ ps) w h = end ps w h.1

-- ---- before and after the first entry

-- what is lent, by the sources in the queue
pub first_queued : {S A : Type 0} (lent : S → Option Entry) (n : LendingMerger S A)
    → lent_first lent n
    ≡ lent_by (lent_of lent n.sources.items) (slice_get (queued n) (length (queued n) - 1))
first_queued lent n = ap (lent_by (lent_of lent n.sources.items))
    (got_source n.queue.items (length n.queue.items - 1)
    ∙ ap (λ (k : ℕ). slice_get (queued n) (k - 1)) (sym (length-map n.queue.items source_of)))

below_next : (j i : ℕ) → not (nat_lt j (i + 1)) ≡ (not (nat_lt j i) && not (j == i))
below_next j i = grind (arith, nat_tests)

below_all : (j n : ℕ) → j < n → false ≡ not (nat_lt j n)
below_all j n lt = grind (arith, nat_tests, lt)

not_below : (j i : ℕ) → j < i → not (nat_lt j i) ≡ false
not_below j i lt = sym (below_all j i lt)

pub waits_itself : (i : ℕ) → not (nat_lt i i) ≡ true
waits_itself i = grind (arith, nat_tests)

none_below : (j : ℕ) → not (nat_lt j 0) ≡ true
none_below j = grind (arith, nat_tests)

none_waits : (j w : ℕ) → false ≡ ((j == w) && not (j == w))
none_waits j w = go (j == w)
  where
    go : (b : Bool) → false ≡ (b && not b)
    go true = refl
    go false = refl

module _ {S : Type 0} (stops : Error → Bool) (advances : S → Option R → S → Type 0)
    (lent : S → Option Entry) where
  -- none was asked yet
  pub starts_none : (ss : List S) (qs : List ℕ) (lists : List (List R)) → qs ≡ []
      → Have stops advances lent (λ j. true) ss [] lists
      → Have stops advances lent (λ j. not (nat_lt j 0)) ss qs lists
  starts_none ss qs lists none h = subst (λ (ps : List ℕ).
      Have stops advances lent (λ j. not (nat_lt j 0)) ss ps lists) (sym none)
      (rests_same stops advances lent (λ j. true) (λ j. not (nat_lt j 0)) ss [] lists
      (λ j lt. none_below j) h)

  -- one more was asked
  pub starts_more : (ss : List S) (qs : List ℕ) (lists : List (List R)) (i : ℕ)
      → Have stops advances lent (λ j. not (nat_lt j i) && not (j == i)) ss qs lists
      → Have stops advances lent (λ j. not (nat_lt j (i + 1))) ss qs lists
  starts_more ss qs lists i h = rests_same stops advances lent
      (λ j. not (nat_lt j i) && not (j == i)) (λ j. not (nat_lt j (i + 1))) ss qs lists
      (λ j lt. below_next j i) h

  -- all were asked
  pub starts_all : (ss : List S) (qs : List ℕ) (lists : List (List R)) (n : ℕ) → length ss ≤ n
      → Have stops advances lent (λ j. not (nat_lt j n)) ss qs lists
      → Have stops advances lent (λ j. false) ss qs lists
  starts_all ss qs lists n all h = rests_same stops advances lent
      (λ j. not (nat_lt j n)) (λ j. false) ss qs lists
      (λ j lt. below_all j n (omega (arith, lt, all))) h

  -- an error of the one that was asked
  pub starts_fault : (ss : List S) (qs : List ℕ) (lists : List (List R)) (i : ℕ) (e : Error)
      → Have stops advances lent (λ j. not (nat_lt j i)) ss qs lists → i < length ss
      → (rs : List R) × (slice_index_or lists i [] ≡ Err e ∷ rs) → merge_of lists ≡ Err e ∷ []
  starts_fault ss qs lists i e h within head = fault_first stops advances lent
      (λ j. not (nat_lt j i)) ss qs lists i e h within (λ j below. not_below j i below) head

  module _ {A : Type 0} (m : LendingMerger S A) (ys : List R)
      (leaves : LeavesLent stops advances lent m ys) where
    -- before the first entry
    pub fresh_leaves : m.is_started ≡ false → (lists : List (List R))
        × Have stops advances lent (λ j. true) m.sources.items [] lists × (ys ≡ merge_of lists)
    fresh_leaves fresh = subst (λ (b : Bool). LeavesIf stops advances lent b m ys) fresh
        leaves.parts

    abbrev Behind : Type 0
    Behind = (lists : List (List R))
        × Have stops advances lent (λ j. false) m.sources.items (queued m) lists
        × (ys ≡ but_first (merge_of lists))

    behind : m.is_started ≡ true → Behind
    behind started = subst (λ (b : Bool). LeavesIf stops advances lent b m ys) started leaves.parts

    -- nothing is lent
    pub empty_leaves : m.is_started ≡ true → queued m ≡ [] → (lists : List (List R))
        × Have stops advances lent (λ j. false) m.sources.items (queued m) lists
        × (ys ≡ merge_of lists)
    empty_leaves started none =
        let b = behind started in
        let empty : merge_of b.0 ≡ [] = rests_nothing stops advances lent m.sources.items b.0
        (subst (λ (ps : List ℕ). Have stops advances lent (λ j. false) m.sources.items ps b.0) none
        b.1) in
        (b.0, b.1, b.2 ∙ ap but_first empty ∙ sym empty)

    -- what is lent is taken out of the queue
    module _ (started : m.is_started ≡ true) (ps : List ℕ) (w : ℕ)
        (items : queued m ≡ ps ++ w ∷ [])
        (queue : IsQueue (lent_of lent m.sources.items) (queued m))
        (within : w < length m.sources.items) (free : is_queued w ps ≡ false) where
      taken : (lists : List (List R))
          × Have stops advances lent (λ j. j == w) m.sources.items ps lists × (ys ≡ merge_of lists)
      taken =
          let b = behind started in
          let h = subst (λ (qs : List ℕ). Have stops advances lent (λ j. false) m.sources.items qs
          b.0) items b.1 in
          let order = subst (IsQueue (lent_of lent m.sources.items)) items queue in
          let rest = lead stops advances lent m.sources.items ps w b.0 h order within in (
            slice_set b.0 w rest.1,
            lead_taken stops advances lent m.sources.items ps w b.0 h order within free,
            b.2 ∙ ap but_first (lead_merges stops advances lent m.sources.items ps w b.0 h order
                within),
          )

      -- its source went on
      pub taken_on : (r : Result (Unit {0}) Error) (n : LendingMerger S A)
          → ((waits : ℕ → Bool) (lists : List (List R))
          → Have stops advances lent waits m.sources.items ps lists → waits w ≡ true
          → MatchResult r (λ u. Have stops advances lent (λ j. waits j && not (j == w))
          n.sources.items (queued n) lists)
          (λ e. stops e ≡ false → (rs : List R) × (slice_index_or lists w [] ≡ Err e ∷ rs)))
          → MatchResult r (λ u. (lists : List (List R))
          × Have stops advances lent (λ j. false) n.sources.items (queued n) lists
          × (ys ≡ merge_of lists)) (λ e. stops e ≡ false → ys ≡ Err e ∷ [])
      taken_on r n goes = by r (goes (λ j. j == w) taken.0 taken.1 (eq-eqb w w refl))
        where
          by : (q : Result (Unit {0}) Error)
              → MatchResult q (λ u. Have stops advances lent (λ j. (j == w) && not (j == w))
              n.sources.items (queued n) taken.0)
              (λ e. stops e ≡ false → (rs : List R) × (slice_index_or taken.0 w [] ≡ Err e ∷ rs))
              → MatchResult q (λ u. (lists : List (List R))
              × Have stops advances lent (λ j. false) n.sources.items (queued n) lists
              × (ys ≡ merge_of lists)) (λ e. stops e ≡ false → ys ≡ Err e ∷ [])
          by (Ok u) h = (
            taken.0,
            rests_same stops advances lent (λ j. (j == w) && not (j == w)) (λ j. false)
                n.sources.items (queued n) taken.0 (λ j lt. none_waits j w) h,
            taken.2,
          )
          by (Err e) h = λ fine. taken.2 ∙ fault_first stops advances lent (λ j. j == w)
              m.sources.items ps taken.0 w e taken.1 within
              (λ j below. differs j w (λ same. absurd (omega (arith, same, below)))) (h fine)

  -- ---- one call

  -- what is lent now
  pub answers_lent : {A : Type 0} (n : LendingMerger S A) (ys : List R) → n.is_started ≡ true
      → IsQueue (lent_of lent n.sources.items) (queued n)
      → All (λ q. q < length n.sources.items) (queued n)
      → (lists : List (List R))
      → Have stops advances lent (λ j. false) n.sources.items (queued n) lists
      → ys ≡ merge_of lists
      → (option_map (λ y. Ok y) (lent_first lent n) ≡ first ys)
      × LeavesLent stops advances lent n (but_first ys)
  answers_lent n ys started queue known lists h is = (
    ap (option_map (λ y. Ok y)) (first_queued lent n)
        ∙ lent_answer stops advances lent n.sources.items (queued n) lists h queue
        (recursion_from_All (λ q. q < length n.sources.items) (queued n) known)
        ∙ sym (ap first is),
    record {
      parts = subst (λ (b : Bool). LeavesIf stops advances lent b n (but_first ys)) (sym started)
          (lists, h, ap but_first is);
    },
  )

  -- after an error
  pub answers_fault : {A : Type 0} (n : LendingMerger S A) → n.is_started ≡ true
      → queued n ≡ [] → LeavesLent stops advances lent n []
  answers_fault n started none =
      let lists : List (List R) = map nothing_of n.sources.items in
      let h = rests_empty stops advances lent n.sources.items in
      record {
        parts = subst (λ (b : Bool). LeavesIf stops advances lent b n []) (sym started) (
          lists,
          subst (λ (ps : List ℕ). Have stops advances lent (λ j. false) n.sources.items ps lists)
              (sym none) h,
          sym (ap but_first (rests_nothing stops advances lent n.sources.items lists h)),
        );
      }

positive : (n : ℕ) → not (suc n == 0) ≡ true
positive n = grind (arith, nat_tests)

-- something is lent where the queue is not empty
pub queue_lends : {S A : Type 0} (lent : S → Option Entry) (n : LendingMerger S A)
    → IsQueue (lent_of lent n.sources.items) (queued n)
    → not (length n.queue.items == 0) ≡ is_some (lent_first lent n)
queue_lends lent n queue = ap (λ (k : ℕ). not (k == 0)) (sym (length-map n.queue.items source_of))
    ∙ by_last (queued n) (lent_of lent n.sources.items) queue
    ∙ sym (ap is_some (first_queued lent n))
  where
    long : (ps : List ℕ) (w : ℕ) → not (length (ps ++ w ∷ []) == 0) ≡ true
    long [] w = refl
    long (p ∷ ps) w = positive (length (ps ++ w ∷ []))

    by_last : (qs : List ℕ) (at : ℕ → Option Entry) → IsQueue at qs
        → not (length qs == 0) ≡ is_some (lent_by at (slice_get qs (length qs - 1)))
    by_last qs at order = elim (last_of_queue qs) [
      | inl e ↦ ap (λ (ps : List ℕ). not (length ps == 0)) e
          ∙ sym (ap (λ (ps : List ℕ). is_some (lent_by at (slice_get ps (length ps - 1)))) e)
      | inr l ↦
          let some : is_some (at l.1) ≡ true =
          (queue_front at l.0 l.1 (subst (IsQueue at) l.2 order)).2 in
          ap (λ (ps : List ℕ). not (length ps == 0)) l.2 ∙ long l.0 l.1
          ∙ sym (ap (λ (o : Option ℕ). is_some (lent_by at o)) l.3 ∙ some)
    ]

pub known_more : (i : ℕ) (qs : List ℕ) → All (λ q. q < i) qs → All (λ q. q < i + 1) qs
known_more i qs all k d lt = let one = all k d lt in omega (arith, one)

-- ---- how many may come

some_lowers : (o : Option Entry) (a b : ℕ) → is_some o ≡ true → b < a
    → Lowers (option_map {U = R} (λ x. Ok x) o) a b
some_lowers None a b some lt = cc
some_lowers (Some x) a b some lt = lt

none_lowers : (o : Option Entry) (a b : ℕ) → is_some o ≡ false → b ≡ 0
    → Lowers (option_map {U = R} (λ x. Ok x) o) a b
none_lowers None a b none e = e
none_lowers (Some x) a b none e = cc

size_some : (b c : Bool) (n : ℕ) → b ≡ true → not c ≡ true → cond b (cond c 0 n) (n + 1) ≡ n
size_some true false n started some = refl
size_some true true n started some = cc
size_some false c n started some = cc

size_none : (b c : Bool) (n : ℕ) → b ≡ true → not c ≡ false → cond b (cond c 0 n) (n + 1) ≡ 0
size_none true true n started none = refl
size_none true false n started none = cc
size_none false c n started none = cc

is_positive : (n : ℕ) → not (n == 0) ≡ true → 0 < n
is_positive n h = grind (arith, nat_tests, h)

pub lowers_lent : {S A : Type 0} (left : S → ℕ) (lent : S → Option Entry) (m n : LendingMerger S A)
    → n.is_started ≡ true → IsQueue (lent_of lent n.sources.items) (queued n)
    → StepLowers left m n
    → Lowers (option_map {U = R} (λ x. Ok x) (lent_first lent n)) (lent_size left m)
    (lent_size left n)
lowers_lent left lent m n started queue lowers = go (not (length n.queue.items == 0)) refl
  where
    same : not (length n.queue.items == 0) ≡ is_some (lent_first lent n)
    same = queue_lends lent n queue

    go : (b : Bool) → not (length n.queue.items == 0) ≡ b
        → Lowers (option_map {U = R} (λ x. Ok x) (lent_first lent n)) (lent_size left m)
        (lent_size left n)
    go true e =
        let size : lent_size left n ≡ lent_total left n =
        size_some n.is_started (length n.queue.items == 0) (lent_total left n) started e in
        some_lowers (lent_first lent n) (lent_size left m) (lent_size left n) (sym same ∙ e)
        (subst (λ (k : ℕ). k < lent_size left m) (sym size)
        (lowers (is_positive (length n.queue.items) e)))
    go false e = none_lowers (lent_first lent n) (lent_size left m) (lent_size left n)
        (sym same ∙ e)
        (size_none n.is_started (length n.queue.items == 0) (lent_total left n) started e)

-- a list of no length
pub no_length : {X : Type 0} (xs : List X) → length xs ≡ 0 → xs ≡ []
no_length [] e = refl
no_length (x ∷ xs) e = absurd (omega (arith, e))

-- what came of the first step
pub started_on : {S A : Type 0} (stops : Error → Bool) (advances : S → Option R → S → Type 0)
    (lent : S → Option Entry) (ys : List R) (lists : List (List R)) (r : Result (Unit {0}) Error)
    (n : LendingMerger S A) → ys ≡ merge_of lists
    → MatchResult r
    (λ u. Rests stops advances lent (λ i. false) n.sources.items (queued n) lists)
    (λ e. stops e ≡ false → merge_of lists ≡ Err e ∷ [])
    → MatchResult r (λ u. (lists : List (List R))
    × Rests stops advances lent (λ j. false) n.sources.items (queued n) lists
    × (ys ≡ merge_of lists)) (λ e. stops e ≡ false → ys ≡ Err e ∷ [])
started_on stops advances lent ys lists (Ok u) n is h = (lists, h, is)
started_on stops advances lent ys lists (Err e) n is h = λ fine. is ∙ h fine

-- ---- after an error

pub no_error : (o : Option Entry) (e : Error) → option_map {U = R} (λ x. Ok x) o ≡ Some (Err e) → ⊥
no_error None e is = cc
no_error (Some x) e is = cc

pub over_lends : {S A : Type 0} (lent : S → Option Entry) (n : LendingMerger S A)
    → n.queue.items ≡ [] → option_map {U = R} (λ x. Ok x) (lent_first lent n) ≡ None
over_lends lent n empty = ap (λ (hs : List Head). option_map {U = R} (λ x. Ok x)
    (lent_by (lent_of lent n.sources.items)
    (option_map source_of (slice_get hs (length hs - 1))))) empty
