-- Which of two places wins, and what a bracket keeps while one slot is changed.
use Rattle.std.proofs.Common.{◌≡◌, ◌≢◌, ◌⊎◌, ℕ, zero, suc, ◌+◌, ◌-◌, ◌*◌, ◌/◌, ◌^◌, ◌<◌, ◌≤◌, true}
use Rattle.std.proofs.Common.{false, List, Option, Some, None, Ordering, length, get_or, set, refl}
use Rattle.std.proofs.Common.{sym, ◌∙◌, ap, subst, inl, inr, ⊎_elim, arith}
use Rattle.std.proofs.lemmas.List.{length-set, get_or-set_same, get_or-set_other, set-set}
use Rattle.std.proofs.lemmas.List.{set-get_or}
use Rattle.std.proofs.lemmas.Bool.{cases_eq, cases_lt}
use Rattle.std.proofs.lemmas.Grind.{pow_more}
use Rattle.std.specs.Ordering.{is_gt}
use Rattle.std.specs.Cmp.{IsTotalOrder}
use Rattle.std.proofs.lemmas.Cmp.{upto, tied_itself}
use Rattle.lsm_sorted.specs.merge.Slots.{slot_at}
use Rattle.lsm_sorted.proofs.OrderLemmas.{not_both}
use Rattle.lsm_sorted.specs.merge.Brackets.{is_beaten, IsDecided, IsBracket, AllDecided}

module _ {T : Type 0} (cmp : T → T → Ordering) (o : IsTotalOrder cmp) where
  -- no place is beaten by itself
  pub is_beaten_self : (x : Option T) → is_beaten cmp x x ≡ false
  is_beaten_self None = refl
  is_beaten_self (Some x) = ap is_gt (tied_itself o x)

  pub is_beaten_back : (x y : Option T) → is_beaten cmp x y ≡ true → is_beaten cmp y x ≡ false
  is_beaten_back x None h = cc
  is_beaten_back None (Some y) h = refl
  is_beaten_back (Some x) (Some y) h = not_both cmp o x y h

  pub is_beaten_trans : (x y z : Option T) → is_beaten cmp x y ≡ false → is_beaten cmp y z ≡ false
      → is_beaten cmp x z ≡ false
  is_beaten_trans x y None h k = refl
  is_beaten_trans x None (Some z) h k = cc
  is_beaten_trans None (Some y) (Some z) h k = cc
  is_beaten_trans (Some x) (Some y) (Some z) h k = upto o x y z h k

-- node n is at most this many rounds below the root, and as many more steps are allowed
pub record LeavesRounds (n steps most : ℕ) : Type 0 where
  pub rounds : ℕ
  pub near : n < 2 * 2 ^ rounds
  pub left : steps + rounds ≤ most

-- m is one of the first k nodes above n
abbrev pub IsAboveBy : ℕ → ℕ → ℕ → Type 0
IsAboveBy zero n m = ⊥
IsAboveBy (suc k) n m = (n / 2 ≡ m) ⊎ IsAboveBy k (n / 2) m

-- m is above n, on the way to the root
pub record IsAbove (n m : ℕ) : Type 0 where
  pub rounds : ℕ
  pub by : IsAboveBy rounds n m

-- m is n or above it
abbrev pub IsOnPath : ℕ → ℕ → Type 0
IsOnPath n m = (m ≡ n) ⊎ IsAbove n m

-- each node is decided, but for those above this one
abbrev pub DecidedButAbove : {T : Type 0} → (T → T → Ordering) → List (Option T) → List ℕ → ℕ
    → Type 0
DecidedButAbove cmp slots nodes node =
    (n : ℕ) → 0 < n → n < length slots → IsAbove node n ⊎ IsDecided cmp slots nodes n

-- a write above the leaves
pub IsBracket-set : (leaves : ℕ) (nodes : List ℕ) (n w : ℕ) → n < leaves → w < leaves
    → IsBracket leaves nodes → IsBracket leaves (set nodes n w)
IsBracket-set leaves nodes n w low win b = record {
  size = length-set nodes n w ∙ b.size;
  within = λ k h.
      let size = length-set nodes n w in
      let inside : k < length nodes = omega arith in
      ⊎_elim (λ (e : k ≡ n). let there : n < length nodes = rw (← e) inside in let same =
      get_or-set_same nodes n w 0 there in rw (e, same) win)
      (λ (ne : k ≢ n). rw (get_or-set_other nodes n k w 0 ne) (b.within k inside))
      (cases_eq k n);
  leaf = λ k h. let ne : leaves + k ≢ n = omega arith in
      get_or-set_other nodes n (leaves + k) w 0 ne ∙ b.leaf k h;
}

above_parent_by : (n m k : ℕ) → IsAboveBy k n m → (n / 2 ≡ m) ⊎ IsAbove (n / 2) m
above_parent_by n m zero a = absurd a
above_parent_by n m (suc k) (inl e) = inl e
above_parent_by n m (suc k) (inr a) = inr (record { rounds = k; by = a })

-- above a node are its parent and what is above that
above_cases : (n m : ℕ) → IsAbove n m → (n / 2 ≡ m) ⊎ IsAbove (n / 2) m
above_cases n m a = above_parent_by n m a.rounds a.by

above_parent : (n m : ℕ) → n / 2 ≡ m → IsAbove n m
above_parent n m e = record { rounds = 1; by = inl e }

above_child_by : (k n m c : ℕ) → c / 2 ≡ m → IsAboveBy k n c → IsAboveBy (suc k) n m
above_child_by zero n m c e a = absurd a
above_child_by (suc k) n m c e (inl h) = let f : n / 2 / 2 ≡ m = rw h e in inr (inl f)
above_child_by (suc k) n m c e (inr a) = inr (above_child_by k (n / 2) m c e a)

-- what is above a node, its parent is above too
above_child : (n m c : ℕ) → c / 2 ≡ m → IsAbove n c → IsAbove n m
above_child n m c e a = record { rounds = suc a.rounds; by = above_child_by a.rounds n m c e a.by }

none_above_by : (k n m : ℕ) → n ≤ 1 → 0 < m → IsAboveBy k n m → ⊥
none_above_by zero n m low inside a = a
none_above_by (suc k) n m low inside (inl e) = omega arith
none_above_by (suc k) n m low inside (inr a) = none_above_by k (n / 2) m (omega arith) inside a

-- what is above a node is at most its half
above_low_by : (k n m : ℕ) → IsAboveBy k n m → m ≤ n / 2
above_low_by zero n m a = absurd a
above_low_by (suc k) n m (inl e) = omega arith
above_low_by (suc k) n m (inr a) = let low = above_low_by k (n / 2) m a in omega arith

above_low : (n m : ℕ) → IsAbove n m → m ≤ n / 2
above_low n m a = above_low_by a.rounds n m a.by

-- of two nodes above one, one is above the other
in_line_by : (j k n a b : ℕ) → IsAboveBy j n a → IsAboveBy k n b
    → (a ≡ b) ⊎ ((b ≤ a / 2) ⊎ (a ≤ b / 2))
in_line_by zero k n a b p q = absurd p
in_line_by (suc j) zero n a b p q = absurd q
in_line_by (suc j) (suc k) n a b (inl e) (inl f) = inl (sym e ∙ f)
in_line_by (suc j) (suc k) n a b (inl e) (inr q) = let low = above_low_by k (n / 2) b q in
    inr (inl (omega arith))
in_line_by (suc j) (suc k) n a b (inr p) (inl f) = let low = above_low_by j (n / 2) a p in
    inr (inr (omega arith))
in_line_by (suc j) (suc k) n a b (inr p) (inr q) = in_line_by j k (n / 2) a b p q

in_line : (n a b : ℕ) → IsOnPath n a → IsOnPath n b → (a ≡ b) ⊎ ((b ≤ a / 2) ⊎ (a ≤ b / 2))
in_line n a b (inl e) (inl f) = inl (e ∙ sym f)
in_line n a b (inl e) (inr q) = let low = above_low n b q in inr (inl (omega arith))
in_line n a b (inr p) (inl f) = let low = above_low n a p in inr (inr (omega arith))
in_line n a b (inr p) (inr q) = in_line_by p.rounds q.rounds n a b p.by q.by

-- two children of one node are not both above one
one_child : (n a b : ℕ) → IsOnPath n a → IsOnPath n b → a / 2 ≡ b / 2 → 0 < a / 2 → a ≡ b
one_child n a b p q same some = ⊎_elim (λ (e : a ≡ b). e)
    (λ (h : (b ≤ a / 2) ⊎ (a ≤ b / 2)). ⊎_elim (λ (low : b ≤ a / 2). absurd (omega arith))
    (λ (low : a ≤ b / 2). absurd (omega arith)) h)
    (in_line n a b p q)

-- the parent of a node on a path is on it
pub path_parent : (n a m : ℕ) → a / 2 ≡ m → IsOnPath n a → IsOnPath n m
path_parent n a m e (inl same) = inr (above_parent n m (rw (← same) e))
path_parent n a m e (inr up) = inr (above_child n m a e up)

module _ {T : Type 0} (cmp : T → T → Ordering) where
  -- above the root is nothing
  pub all_decided : (slots : List (Option T)) (nodes : List ℕ) (n : ℕ) → n ≤ 1
      → DecidedButAbove cmp slots nodes n → AllDecided cmp slots nodes
  all_decided slots nodes n low but m inside h =
      ⊎_elim (λ (a : IsAbove n m). absurd (none_above_by a.rounds n m low inside a.by)) (λ d. d)
      (but m inside h)

  module _ (slots : List (Option T)) (nodes : List ℕ) (n w : ℕ) (inside : 0 < n)
      (low : n < length slots) (size : length nodes ≡ 2 * length slots)
      (from : (w ≡ get_or nodes (2 * n) 0) ⊎ (w ≡ get_or nodes (2 * n + 1) 0))
      (first : is_beaten cmp (slot_at slots w) (slot_at slots (get_or nodes (2 * n) 0)) ≡ false)
      (second : is_beaten cmp (slot_at slots w) (slot_at slots (get_or nodes (2 * n + 1) 0))
      ≡ false) where
    decided_now : IsDecided cmp slots (set nodes n w) n
    decided_now =
        let here : get_or (set nodes n w) n 0 ≡ w = get_or-set_same nodes n w 0 (omega arith) in
        let left : get_or (set nodes n w) (2 * n) 0 ≡ get_or nodes (2 * n) 0 =
        get_or-set_other nodes n (2 * n) w 0 (omega arith) in
        let right : get_or (set nodes n w) (2 * n + 1) 0 ≡ get_or nodes (2 * n + 1) 0 =
        get_or-set_other nodes n (2 * n + 1) w 0 (omega arith) in
        record {
          from = rw (here, left, right) from;
          first = rw (here, left) first;
          second = rw (here, right) second;
        }

    decided_still : (m : ℕ) → m ≢ n → 2 * m ≢ n → 2 * m + 1 ≢ n → IsDecided cmp slots nodes m
        → IsDecided cmp slots (set nodes n w) m
    decided_still m a b c d =
        let here = get_or-set_other nodes n m w 0 a in
        let left = get_or-set_other nodes n (2 * m) w 0 b in
        let right = get_or-set_other nodes n (2 * m + 1) w 0 c in
        record {
          from = rw (here, left, right) d.from;
          first = rw (here, left) d.first;
          second = rw (here, right) d.second;
        }

    -- one more match is played, and those below are
    pub played_more : (m : ℕ) → n ≤ m → (n < m → IsDecided cmp slots nodes m)
        → IsDecided cmp slots (set nodes n w) m
    played_more m low d = ⊎_elim (λ (same : m ≡ n). rw same decided_now)
        (λ (a : m ≢ n). decided_still m a (λ (e : 2 * m ≡ n). omega arith)
        (λ (e : 2 * m + 1 ≡ n). omega arith) (d (omega arith)))
        (cases_eq m n)

    -- one more match is played, of the children of n
    pub decided_more : (below : ℕ) → n ≡ below / 2 → DecidedButAbove cmp slots nodes below
        → DecidedButAbove cmp slots (set nodes n w) n
    decided_more below e but m inside' low' =
        ⊎_elim (λ (same : m ≡ n). inr (rw same decided_now))
        (λ (a : m ≢ n). ⊎_elim
        (λ (up : IsAbove below m). ⊎_elim (λ (same : below / 2 ≡ m). absurd (a (sym same ∙ sym e)))
        (λ (further : IsAbove (below / 2) m). inl (rw e further)) (above_cases below m up))
        (λ (d : IsDecided cmp slots nodes m). ⊎_elim
        (λ (left : 2 * m ≡ n). inl (above_parent n m (omega arith)))
        (λ (b : 2 * m ≢ n). ⊎_elim (λ (right : 2 * m + 1 ≡ n). inl (above_parent n m (omega arith)))
        (λ (c : 2 * m + 1 ≢ n). inr (decided_still m a b c d))
        (cases_eq (2 * m + 1) n))
        (cases_eq (2 * m) n))
        (but m inside' low'))
        (cases_eq m n)

pub LeavesRounds-more : (n steps steps' most : ℕ) → 1 < n → steps' ≤ steps + 1
    → LeavesRounds n steps most → LeavesRounds (n / 2) steps' most
LeavesRounds-more n steps steps' most h one r = ⊎_elim
    (λ (e : r.rounds ≡ 0). let one_left : 2 ^ r.rounds ≡ 1 = ap (λ j. 2 ^ j) e in
    absurd (omega (arith, r.near, one_left)))
    (λ (ne : r.rounds ≢ 0).
    let k : ℕ = r.rounds - 1 in
    let e : r.rounds ≡ k + 1 = omega arith in
    let p : 2 ^ r.rounds ≡ 2 ^ k * 2 = ap (λ j. 2 ^ j) e ∙ pow_more 2 k in
    record { rounds = k; near = omega (arith, r.near, p); left = omega (arith, r.left) })
    (cases_eq r.rounds 0)

pub LeavesRounds-end : (n steps most : ℕ) → LeavesRounds n steps most → steps ≤ most
LeavesRounds-end n steps most r = omega (arith, r.left)

module _ {T : Type 0} (cmp : T → T → Ordering) (slots : List (Option T)) (nodes : List ℕ)
    (b : IsBracket (length slots) nodes) (d : AllDecided cmp slots nodes) where
  names_itself : (s n k : ℕ) → n ≡ length slots + k → k < length slots → get_or nodes n 0 ≡ s
      → n ≡ length slots + s
  names_itself s n k e low is = let leaf = b.leaf k low in let same : get_or nodes n 0 ≡ k =
      rw e leaf in omega (arith, same, is)

  -- a node that names a slot is its leaf or above that
  names_below : (s f n : ℕ) → 2 * length slots ≤ n + f → 0 < n → n < 2 * length slots
      → get_or nodes n 0 ≡ s → (n ≡ length slots + s) ⊎ IsAbove (length slots + s) n
  names_below s zero n enough inside low is = absurd (omega arith)
  names_below s (suc f) n enough inside low is = ⊎_elim
      (λ (inner : n < length slots). let dec = d n inside inner in ⊎_elim
      (λ (e : get_or nodes n 0 ≡ get_or nodes (2 * n) 0). ⊎_elim
      (λ (here : 2 * n ≡ length slots + s). inr (above_parent (length slots + s) n (omega arith)))
      (λ (up : IsAbove (length slots + s) (2 * n)). inr
      (above_child (length slots + s) n (2 * n) (omega arith) up))
      (names_below s f (2 * n) (omega arith) (omega arith) (omega arith) (sym e ∙ is)))
      (λ (e : get_or nodes n 0 ≡ get_or nodes (2 * n + 1) 0). ⊎_elim
      (λ (here : 2 * n + 1 ≡ length slots + s). inr
      (above_parent (length slots + s) n (omega arith)))
      (λ (up : IsAbove (length slots + s) (2 * n + 1)). inr
      (above_child (length slots + s) n (2 * n + 1) (omega arith) up))
      (names_below s f (2 * n + 1) (omega arith) (omega arith) (omega arith) (sym e ∙ is)))
      dec.from)
      (λ (outer : length slots ≤ n).
      inl (names_itself s n (n - length slots) (omega arith) (omega arith) is))
      (cases_lt n (length slots))

  -- after one slot has changed, only nodes above its leaf may be wrong
  pub decided_but_above : (s : ℕ) (o : Option T)
      → DecidedButAbove cmp (set slots s o) nodes (length slots + s)
  decided_but_above s o n inside low' =
      let low : n < length slots = omega (arith, length-set slots s o) in
      let dec = d n inside low in
      ⊎_elim (λ (e : get_or nodes n 0 ≡ s). inl (of_inner n inside low
      (names_below s (2 * length slots) n (omega arith) inside (omega arith) e)))
      (λ (here : get_or nodes n 0 ≢ s). ⊎_elim
      (λ (e : get_or nodes (2 * n) 0 ≡ s). inl (of_child (2 * n) n (omega arith)
      (names_below s (2 * length slots) (2 * n) (omega arith) (omega arith) (omega arith) e)))
      (λ (left : get_or nodes (2 * n) 0 ≢ s). ⊎_elim
      (λ (e : get_or nodes (2 * n + 1) 0 ≡ s). inl
      (of_child (2 * n + 1) n (omega arith) (names_below s (2 * length slots) (2 * n + 1)
      (omega arith) (omega arith) (omega arith) e)))
      (λ (right : get_or nodes (2 * n + 1) 0 ≢ s).
      let at_here = get_or-set_other slots s (get_or nodes n 0) o None here in
      let at_left = get_or-set_other slots s (get_or nodes (2 * n) 0) o None left in
      let at_right = get_or-set_other slots s (get_or nodes (2 * n + 1) 0) o None right in
      inr (record {
        from = dec.from;
        first = rw (at_here, at_left) dec.first;
        second =
            rw (at_here, at_right) dec.second;
      }))
      (cases_eq (get_or nodes (2 * n + 1) 0) s))
      (cases_eq (get_or nodes (2 * n) 0) s))
      (cases_eq (get_or nodes n 0) s)
    where
      of_inner : (n : ℕ) → 0 < n → n < length slots
          → (n ≡ length slots + s) ⊎ IsAbove (length slots + s) n → IsAbove (length slots + s) n
      of_inner n inside low c = ⊎_elim (λ (e : n ≡ length slots + s). absurd (omega arith))
          (λ a. a) c

      of_child : (c n : ℕ) → c / 2 ≡ n → (c ≡ length slots + s) ⊎ IsAbove (length slots + s) c
          → IsAbove (length slots + s) n
      of_child c n e h = ⊎_elim (λ (same : c ≡ length slots + s). above_parent (length slots + s) n
          (rw (← same) e)) (λ (up : IsAbove (length slots + s) c). above_child
          (length slots + s) n c e up) h

  -- a child of a node above a leaf whose slot it does not name does not name it
  module _ (s n : ℕ) (on : IsOnPath (length slots + s) n) (other : get_or nodes n 0 ≢ s)
      (some : 0 < n / 2) (low : n < 2 * length slots) where
    unnamed_child : (c : ℕ) → c / 2 ≡ n / 2 → get_or nodes c 0 ≢ s
    unnamed_child c same named =
        let on_c : IsOnPath (length slots + s) c =
        names_below s (2 * length slots) c (omega arith) (omega arith) (omega arith) named in
        let e : n ≡ c = one_child (length slots + s) n c on on_c (sym same) some in
        other (ap (λ k. get_or nodes k 0) e ∙ named)

    unnamed_parent : get_or nodes (n / 2) 0 ≢ s
    unnamed_parent named =
        let dec = d (n / 2) some (omega arith) in
        ⊎_elim (λ (e : get_or nodes (n / 2) 0 ≡ get_or nodes (2 * (n / 2)) 0). unnamed_child
        (2 * (n / 2)) (omega arith) (sym e ∙ named))
        (λ (e : get_or nodes (n / 2) 0 ≡ get_or nodes (2 * (n / 2) + 1) 0). unnamed_child
        (2 * (n / 2) + 1) (omega arith) (sym e ∙ named))
        dec.from

    -- what the slot holds does not matter to its parent
    decided_parent : (o : Option T) → IsDecided cmp (set slots s o) nodes (n / 2)
    decided_parent o =
        let dec = d (n / 2) some (omega arith) in
        let at_here = get_or-set_other slots s (get_or nodes (n / 2) 0) o None unnamed_parent in
        let at_left = get_or-set_other slots s (get_or nodes (2 * (n / 2)) 0) o None
        (unnamed_child (2 * (n / 2)) (omega arith)) in
        let at_right = get_or-set_other slots s (get_or nodes (2 * (n / 2) + 1) 0) o None
        (unnamed_child (2 * (n / 2) + 1) (omega arith)) in
        record {
          from = dec.from;
          first = rw (at_here, at_left) dec.first;
          second =
              rw (at_here, at_right) dec.second;
        }

  -- nor to any node above
  pub decided_up : (k s n m : ℕ) (o : Option T) → IsOnPath (length slots + s) n
      → get_or nodes n 0 ≢ s → n < 2 * length slots → 0 < m → IsAboveBy k n m
      → IsDecided cmp (set slots s o) nodes m
  decided_up zero s n m o on other low some a = absurd a
  decided_up (suc k) s n m o on other low some (inl e) =
      rw (← e) (decided_parent s n on other (omega arith) low o)
  decided_up (suc k) s n m o on other low some (inr a) =
      let half = above_low_by k (n / 2) m a in
      decided_up k s (n / 2) m o (path_parent (length slots + s) n (n / 2) refl on)
      (unnamed_parent s n on other (omega arith) low) (omega arith) some a

  module _ (o : IsTotalOrder cmp) where
    -- the root's slot is beaten by no node's
    root_unbeaten : (f n : ℕ) → n ≤ f → 0 < n → n < 2 * length slots
        → is_beaten cmp (slot_at slots (get_or nodes 1 0)) (slot_at slots (get_or nodes n 0))
        ≡ false
    root_unbeaten zero n enough inside low = absurd (omega arith)
    root_unbeaten (suc f) n enough inside low = ⊎_elim
        (λ (e : n ≡ 1). rw e (is_beaten_self cmp o (slot_at slots (get_or nodes 1 0))))
        (λ (ne : n ≢ 1).
        let p : ℕ = n / 2 in
        let up = root_unbeaten f p (omega arith) (omega arith) (omega arith) in
        let dec = d p (omega arith) (omega arith) in
        ⊎_elim
        (λ (even : n ≡ 2 * p). rw even (is_beaten_trans cmp o _ _ _ up dec.first))
        (λ (odd : n ≢ 2 * p). let e : n ≡ 2 * p + 1 = omega arith in
        rw e (is_beaten_trans cmp o _ _ _ up dec.second))
        (cases_eq n (2 * p)))
        (cases_eq n 1)

    -- no slot beats the root's
    pub unbeaten : (k : ℕ) → k < length slots
        → is_beaten cmp (slot_at slots (get_or nodes 1 0)) (slot_at slots k) ≡ false
    unbeaten k low =
        let r = root_unbeaten (length slots + k) (length slots + k) (omega arith) (omega arith)
        (omega arith) in
        rw (b.leaf k low) at r

module _ {T : Type 0} (cmp : T → T → Ordering) (slots : List (Option T)) (nodes : List ℕ) (s : ℕ)
    (was : Option T) (low : s < length slots)
    (b : IsBracket (length (set slots s was)) nodes)
    (d : AllDecided cmp (set slots s was) nodes) where
  changed_back : set (set slots s was) s (slot_at slots s) ≡ slots
  changed_back = set-set slots s was (slot_at slots s) ∙ set-get_or slots s None

  -- as many leaves as before the slot changed
  pub bracket_before : IsBracket (length slots) nodes
  bracket_before = rw (length-set slots s was) at b

  -- what was won before one slot changed
  pub decided_before : DecidedButAbove cmp slots nodes (length slots + s)
  decided_before =
      let open_ = decided_but_above cmp (set slots s was) nodes b d s (slot_at slots s) in
      subst (λ (n : ℕ). DecidedButAbove cmp slots nodes (n + s)) (length-set slots s was)
      (subst (λ (ps : List (Option T)). DecidedButAbove cmp ps nodes (length (set slots s was) + s))
      changed_back open_)

  -- once a match is won by another slot as before, the rest is as it was
  module _ (now : List ℕ) (node n w : ℕ) (on : IsOnPath (length slots + s) n)
      (half : n ≡ node / 2) (more : 1 < node) (size : node < 2 * length slots)
      (untouched : (k : ℕ) → k < node → get_or now k 0 ≡ get_or nodes k 0) (is : w ≡ get_or now n 0)
      (other : w ≢ s)
      (but : DecidedButAbove cmp slots (set now n w) n) where
    same_name : get_or nodes n 0 ≢ s
    same_name e = other (is ∙ untouched n (omega arith) ∙ e)

    same_nodes : set now n w ≡ now
    same_nodes = ap (λ k. set now n k) is ∙ set-get_or now n 0

    of_above : (m : ℕ) → 0 < m → IsAbove n m → IsDecided cmp slots now m
    of_above m some up =
        let high = above_low n m up in
        let on' : IsOnPath (length (set slots s was) + s) n = rw (length-set slots s was) on in
        let low' : n < 2 * length (set slots s was) = omega (arith, length-set slots s was) in
        let dec = decided_up cmp (set slots s was) nodes b d up.rounds s n m
        (slot_at slots s) on' same_name low' some up.by in
        let dec' = subst (λ (ps : List (Option T)). IsDecided cmp ps nodes m) changed_back dec in
        let here = untouched m (omega arith) in
        let left = untouched (2 * m) (omega arith) in
        let right = untouched (2 * m + 1) (omega arith) in
        record {
          from = rw (here, left, right) dec'.from;
          first = rw (here, left) dec'.first;
          second = rw (here, right) dec'.second;
        }

    pub all_stays : AllDecided cmp slots now
    all_stays m some low' = ⊎_elim (λ (up : IsAbove n m). of_above m some up)
        (λ (dec : IsDecided cmp slots (set now n w) m). rw same_nodes at dec) (but m some low')
