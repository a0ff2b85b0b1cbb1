-- The queue of sources that lend: each before those that stand before it.
use Rattle.std.proofs.Common.{◌≡◌, ◌⊎◌, inl, inr, refl, sym, ◌∙◌, ap, subst, ℕ, zero, suc, ◌<◌, ◌≤◌}
use Rattle.std.proofs.Common.{Bool, true}
use Rattle.std.proofs.Common.{false, List, [], ◌∷◌, ◌++◌, length, get_or, ◌-◌, arith}
use Rattle.std.specs.Prelude.{Option, Some, None, is_some, slice_get, ◌==◌, ◌||◌}
use Rattle.std.specs.List.{AllByRecursion, insert}
use Rattle.std.specs.List.Sorted.{IsPartitionedBy}
use Rattle.std.specs.Cmp.{IsTotalOrder, then_total, on_total, nat_cmp_total}
use Rattle.std.specs.Ordering.{is_lt, nat_cmp, on, ordering_reverse, ordering_then, then_cmp}
use Rattle.std.specs.declared.cmp.Ordering.{Ordering}
use Rattle.std.specs.declared.cmp.Ordering.TheVariants.{Less, Equal, Greater}
use Rattle.std.proofs.lemmas.Bool.{eqb-true, eq-eqb}
use Rattle.std.proofs.lemmas.Bool.Decides.{nat_tests}
use Rattle.sst_entries.specs.Entry.{Entry}
use Rattle.sst_entries.proofs.Lists.{all_more}
use Rattle.sst_entries.proofs.OrderLemmas.{less_of}
use Rattle.lsm_sorted.specs.merge.Union.{item_cmp}
use Rattle.lsm_sorted.specs.lending.Lent.{is_turn, goes_before, IsQueue, is_queued}
use Rattle.lsm_sorted.proofs.MergedLemmas.{item_total}

-- ---- turns

abbrev turns : Entry × ℕ → Entry × ℕ → Ordering
turns = then_cmp (on (λ (a : Entry × ℕ). a.0) item_cmp) (on (λ (a : Entry × ℕ). a.1) nat_cmp)

turns_total : IsTotalOrder turns
turns_total = then_total (on_total (λ (a : Entry × ℕ). a.0) item_total)
    (on_total (λ (a : Entry × ℕ). a.1) nat_cmp_total)

turn_chain : (x y z : Entry) (i j k : ℕ) → is_turn x i y j ≡ true → is_turn y j z k ≡ true
    → is_turn x i z k ≡ true
turn_chain x y z i j k p q = ap is_lt (turns_total.trans (x, i) (y, j) (z, k)
    (less_of (turns (x, i) (y, j)) p) (less_of (turns (y, j) (z, k)) q))

not_own : (o : Ordering) → o ≡ ordering_reverse o → is_lt o ≡ true → ⊥
not_own Less e h = cc
not_own Equal e h = cc
not_own Greater e h = cc

no_own_turn : (x : Entry) (i : ℕ) → is_turn x i x i ≡ true → ⊥
no_own_turn x i h = not_own (turns (x, i) (x, i)) (turns_total.antisymm (x, i) (x, i)) h

pub no_return : (x y : Entry) (i j : ℕ) → is_turn y j x i ≡ true → is_turn x i y j ≡ false
no_return x y i j back = go (is_turn x i y j) refl
  where
    go : (b : Bool) → is_turn x i y j ≡ b → is_turn x i y j ≡ false
    go true e = absurd (no_own_turn x i (turn_chain x y x i j i e back))
    go false e = e

number_tie : (i j : ℕ) → nat_cmp i j ≡ Equal → i ≡ j
number_tie i j h = grind (arith, nat_tests)

tie_parts : (o p : Ordering) → ordering_then o p ≡ Equal → p ≡ Equal
tie_parts Less p h = cc
tie_parts Equal p h = h
tie_parts Greater p h = cc

turned : (o p : Ordering) → is_lt o ≡ false → (o ≡ Equal → ⊥) → p ≡ ordering_reverse o
    → is_lt p ≡ true
turned Less p h apart e = cc
turned Equal p h apart e = absurd (apart refl)
turned Greater p h apart e = ap is_lt e

other_turn : (x y : Entry) (i j : ℕ) → (i ≡ j → ⊥) → is_turn x i y j ≡ false
    → is_turn y j x i ≡ true
other_turn x y i j apart h = turned (turns (x, i) (y, j)) (turns (y, j) (x, i)) h
    (λ tie. apart (number_tie i j (tie_parts (item_cmp x y) (nat_cmp i j) tie)))
    (turns_total.antisymm (y, j) (x, i))

pub before_chain : (o p q : Option Entry) (i j k : ℕ) → goes_before o i p j ≡ true
    → goes_before p j q k ≡ true → goes_before o i q k ≡ true
before_chain None p q i j k h g = cc
before_chain (Some x) None q i j k h g = cc
before_chain (Some x) (Some y) None i j k h g = cc
before_chain (Some x) (Some y) (Some z) i j k h g = turn_chain x y z i j k h g

pub not_before_itself : (o : Option Entry) (i : ℕ) → goes_before o i o i ≡ true → ⊥
not_before_itself None i h = cc
not_before_itself (Some x) i h = no_own_turn x i h

other_before : (o p : Option Entry) (i j : ℕ) → (i ≡ j → ⊥) → is_some o ≡ true → is_some p ≡ true
    → goes_before o i p j ≡ false → goes_before p j o i ≡ true
other_before None p i j apart h g e = cc
other_before (Some x) None i j apart h g e = cc
other_before (Some x) (Some y) i j apart h g e = other_turn x y i j apart e

-- ---- members

pub among_itself : (i : ℕ) (qs : List ℕ) → is_queued i (i ∷ qs) ≡ true
among_itself i qs = ap (λ (b : Bool). b || is_queued i qs) (eq-eqb i i refl)

pub not_among : (i q : ℕ) (qs : List ℕ) → is_queued i (q ∷ qs) ≡ false
    → (i ≡ q → ⊥) × (is_queued i qs ≡ false)
not_among i q qs h = (
  λ e. let no : true ≡ false = sym (among_itself q qs)
      ∙ ap (λ (j : ℕ). is_queued j (q ∷ qs)) (sym e) ∙ h in cc,
  or_right (q == i) h,
)
  where
    or_right : (b : Bool) → (b || is_queued i qs) ≡ false → is_queued i qs ≡ false
    or_right true h = cc
    or_right false h = h

or_swap : (a b c : Bool) → (a || (b || c)) ≡ (b || (a || c))
or_swap true true c = refl
or_swap true false c = refl
or_swap false true c = refl
or_swap false false c = refl

-- what is put in is a member, with those that were
pub among_put : (j i p : ℕ) (qs : List ℕ) → is_queued j (insert qs p i) ≡ is_queued j (i ∷ qs)
among_put j i zero qs = refl
among_put j i (suc p) [] = refl
among_put j i (suc p) (q ∷ qs) = ap (λ (b : Bool). (q == j) || b) (among_put j i p qs)
    ∙ or_swap (q == j) (i == j) (is_queued j qs)

pub among_end : (j i : ℕ) (qs : List ℕ) → is_queued j (qs ++ i ∷ []) ≡ is_queued j (i ∷ qs)
among_end j i [] = refl
among_end j i (q ∷ qs) = ap (λ (b : Bool). (q == j) || b) (among_end j i qs)
    ∙ or_swap (q == j) (i == j) (is_queued j qs)

-- ---- the queue

pub all_put_in : {X : Type 0} (P : X → Type 0) (i : X) (p : ℕ) (qs : List X) → P i
    → AllByRecursion P qs → AllByRecursion P (insert qs p i)
all_put_in P i zero qs one all = (one, all)
all_put_in P i (suc p) [] one all = (one, tt)
all_put_in P i (suc p) (q ∷ qs) one all = (all.0, all_put_in P i p qs one all.1)

-- what is found at a place
got : (qs : List ℕ) (k q : ℕ) → slice_get qs k ≡ Some q → (k < length qs) × (get_or qs k 0 ≡ q)
got [] k q h = cc
got (r ∷ qs) zero q h = (omega arith, cc)
got (r ∷ qs) (suc k) q h = let more = got qs k q h in (omega (arith, more.0), more.1)

module _ (at : ℕ → Option Entry) where
  abbrev Before : ℕ → ℕ → Type 0
  Before i j = goes_before (at i) i (at j) j ≡ true

  pub queue_partitioned : (i : ℕ) (qs : List ℕ) → IsQueue at qs
      → IsPartitionedBy (λ j. goes_before (at i) i (at j) j) qs
  queue_partitioned i qs h k l d le lt p = go qs h k l le lt p
    where
      far : (q : ℕ) (qs : List ℕ) → AllByRecursion (λ r. Before r q) qs → (l : ℕ) → l < length qs
          → Before i (get_or qs l d) → Before i q
      far q [] all l lt p = absurd (omega arith)
      far q (r ∷ qs) all zero lt p = before_chain (at i) (at r) (at q) i r q p all.0
      far q (r ∷ qs) all (suc l) lt p = far q qs all.1 l (omega arith) p

      go : (qs : List ℕ) → IsQueue at qs → (k l : ℕ) → k ≤ l → l < length qs
          → Before i (get_or qs l d) → Before i (get_or qs k d)
      go [] h k l le lt p = absurd (omega arith)
      go (q ∷ qs) h zero zero le lt p = p
      go (q ∷ qs) h zero (suc l) le lt p = far q qs h.1 l (omega arith) p
      go (q ∷ qs) h (suc k) zero le lt p = absurd (omega arith)
      go (q ∷ qs) h (suc k) (suc l) le lt p = go qs h.2 k l (omega arith) (omega arith) p

  -- i goes between those that it goes before and the others
  pub put_queue : (i p : ℕ) (qs : List ℕ) → IsQueue at qs → is_some (at i) ≡ true
      → is_queued i qs ≡ false
      → ((k : ℕ) → k < p → k < length qs → Before i (get_or qs k 0))
      → ((k : ℕ) → p ≤ k → k < length qs
      → goes_before (at i) i (at (get_or qs k 0)) (get_or qs k 0) ≡ false)
      → IsQueue at (insert qs p i)
  put_queue i zero [] h some apart early late = (some, tt, tt)
  put_queue i (suc p) [] h some apart early late = (some, tt, tt)
  put_queue i zero (q ∷ qs) h some apart early late =
      let first : Before q i = other_before (at i) (at q) i q (not_among i q qs apart).0 some h.0
      (late zero (omega arith) (omega arith)) in (
        some,
        (
          first,
          all_more (λ r. Before r q) (λ r. Before r i)
              (λ r b. before_chain (at r) (at q) (at i) r q i b first) qs h.1,
        ),
        h,
      )
  put_queue i (suc p) (q ∷ qs) h some apart early late = (
    h.0,
    all_put_in (λ r. Before r q) i p qs (early zero (omega arith) (omega arith)) h.1,
    put_queue i p qs h.2 some (not_among i q qs apart).1
        (λ k lt within. early (suc k) (omega arith) (omega arith))
        (λ k le within. late (suc k) (omega arith) (omega arith)),
  )

  -- what goes before the last goes before all
  before_all : (i d : ℕ) (qs : List ℕ) → IsQueue at qs → 0 < length qs
      → Before i (get_or qs (length qs - 1) d) → (k : ℕ) → k < length qs → Before i (get_or qs k d)
  before_all i d qs h some b k lt = queue_partitioned i qs h k (length qs - 1) d (omega arith)
      (omega arith) b

  pub ahead : (i p q : ℕ) (qs : List ℕ) → IsQueue at qs → is_some (at i) ≡ true
      → is_queued i qs ≡ false → p ≡ length qs → slice_get qs (length qs - 1) ≡ Some q
      → Before i q → IsQueue at (insert qs p i)
  ahead i p q qs h some apart is last b =
      let found = got qs (length qs - 1) q last in
      put_queue i p qs h some apart
      (λ k lt within. before_all i 0 qs h (omega (arith, found.0))
      (subst (λ (r : ℕ). Before i r) (sym found.1) b) k within)
      (λ k le within. absurd (omega arith))

  -- the last goes before the others
  pub last_before : (ps : List ℕ) (w j : ℕ) → IsQueue at (ps ++ w ∷ []) → is_queued j ps ≡ true
      → Before w j
  last_before [] w j h e = cc
  last_before (q ∷ ps) w j h e = go (q == j) refl (λ among. last_before ps w j h.2 among)
    where
      at_end : (P : ℕ → Type 0) (qs : List ℕ) → AllByRecursion P (qs ++ w ∷ []) → P w
      at_end P [] all = all.0
      at_end P (r ∷ qs) all = at_end P qs all.1

      go : (b : Bool) → (q == j) ≡ b → (is_queued j ps ≡ true → Before w j) → Before w j
      go true same more = subst (λ (k : ℕ). Before w k) (eqb-true q j same)
          (at_end (λ r. Before r q) ps h.1)
      go false other more = more (sym (ap (λ (b : Bool). b || is_queued j ps) other) ∙ e)

  -- without the last, which is not among the others
  pub queue_front : (ps : List ℕ) (w : ℕ) → IsQueue at (ps ++ w ∷ [])
      → IsQueue at ps × (is_queued w ps ≡ false) × (is_some (at w) ≡ true)
  queue_front ps w h = (front ps h, apart (is_queued w ps) refl, some ps h)
    where
      fewer : (P : ℕ → Type 0) (qs : List ℕ) → AllByRecursion P (qs ++ w ∷ []) → AllByRecursion P qs
      fewer P [] all = tt
      fewer P (r ∷ qs) all = (all.0, fewer P qs all.1)

      front : (ps : List ℕ) → IsQueue at (ps ++ w ∷ []) → IsQueue at ps
      front [] h = tt
      front (q ∷ ps) h = (h.0, fewer (λ r. Before r q) ps h.1, front ps h.2)

      some : (ps : List ℕ) → IsQueue at (ps ++ w ∷ []) → is_some (at w) ≡ true
      some [] h = h.0
      some (q ∷ ps) h = some ps h.2

      apart : (b : Bool) → is_queued w ps ≡ b → is_queued w ps ≡ false
      apart true e = absurd (not_before_itself (at w) w (last_before ps w w h e))
      apart false e = e

-- a list is empty or has a last
pub last_of_queue : (qs : List ℕ)
    → (qs ≡ []) ⊎ ((ps : List ℕ) × (w : ℕ) × (qs ≡ ps ++ w ∷ [])
    × (slice_get qs (length qs - 1) ≡ Some w))
last_of_queue [] = inl refl
last_of_queue (q ∷ []) = inr ([], q, refl, refl)
last_of_queue (q ∷ r ∷ qs) = elim (last_of_queue (r ∷ qs)) [
  | inl e ↦ absurd cc
  | inr h ↦ inr (
    q ∷ h.0,
    h.1,
    ap (λ (ps : List ℕ). q ∷ ps) h.2,
    ap (slice_get (q ∷ r ∷ qs)) (further (r ∷ qs) (omega arith)) ∙ h.3,
  )
]
  where
    further : (rs : List ℕ) → 0 < length rs → length (q ∷ rs) - 1 ≡ suc (length rs - 1)
    further rs some = omega arith
