-- The places of an interval heap: which may not come after which.
use Rattle.std.proofs.Common.{◌≡◌, ◌≢◌, ◌⊎◌, ℕ, ◌+◌, ◌-◌, ◌*◌, ◌/◌, ◌%◌, ◌<◌, ◌≤◌, inl, inr, ⊎_elim}
use Rattle.std.proofs.Common.{sym, arith}
use Rattle.std.proofs.lemmas.Bool.{cases_eq}
use Rattle.sst_entries.specs.declared.stream.Direction.{Direction}
use Rattle.sst_entries.specs.declared.stream.Direction.TheVariants.{Front, Back}
use Rattle.lsm_sorted.specs.merge.Intervals.{Precedes, PrecedesOn, IsEnd, above_of, IsOtherAbove}
use Rattle.lsm_sorted.specs.merge.Intervals.{IsChildEnd}

-- the other place of a node
pub record IsOther (k b : ℕ) : Type 0 where
  pub same : b / 2 ≡ k / 2
  pub differs : b ≢ k

-- the high end of a full node
odd_end : (n u v : ℕ) → IsEnd Back n u → IsOther u v → v < n → u % 2 ≡ 1
odd_end n u v e h low = ⊎_elim (λ (even : u % 2 ≡ 0). let last = e even in absurd (omega arith))
    (λ (odd : u % 2 ≢ 0). omega arith) (cases_eq (u % 2) 0)

precedes_apart : (n a b : ℕ) → Precedes n a b → a ≢ b
precedes_apart n a b (inl r) e = omega arith
precedes_apart n a b (inr (inl r)) e = omega arith
precedes_apart n a b (inr (inr r)) e = omega arith

precedes_one_way : (n a b : ℕ) → Precedes n a b → Precedes n b a → ⊥
precedes_one_way n a b (inl r) (inl q) = omega arith
precedes_one_way n a b (inl r) (inr (inl q)) = omega arith
precedes_one_way n a b (inl r) (inr (inr q)) = omega arith
precedes_one_way n a b (inr (inl r)) (inl q) = omega arith
precedes_one_way n a b (inr (inl r)) (inr (inl q)) = omega arith
precedes_one_way n a b (inr (inl r)) (inr (inr q)) = omega arith
precedes_one_way n a b (inr (inr r)) (inl q) = omega arith
precedes_one_way n a b (inr (inr r)) (inr (inl q)) = omega arith
precedes_one_way n a b (inr (inr r)) (inr (inr q)) = omega arith

pub on_apart : (side : Direction) (n a b : ℕ) → PrecedesOn side n a b → a ≢ b
on_apart Front n a b p e = precedes_apart n a b p e
on_apart Back n a b p e = precedes_apart n b a p (sym e)

pub on_one_way : (side : Direction) (n a b : ℕ) → PrecedesOn side n a b → PrecedesOn side n b a → ⊥
on_one_way Front n a b p q = precedes_one_way n a b p q
on_one_way Back n a b p q = precedes_one_way n b a p q

pub on_within : (side : Direction) (n a b : ℕ) → PrecedesOn side n a b → (a < n) × (b < n)
on_within Front n a b (inl r) = (omega arith, omega arith)
on_within Front n a b (inr (inl r)) = (omega arith, omega arith)
on_within Front n a b (inr (inr r)) = (omega arith, omega arith)
on_within Back n a b (inl r) = (omega arith, omega arith)
on_within Back n a b (inr (inl r)) = (omega arith, omega arith)
on_within Back n a b (inr (inr r)) = (omega arith, omega arith)

-- the root has none above it
pub none_above_root : (side : Direction) (n a k : ℕ) → IsEnd side n k → k ≤ 1
    → PrecedesOn side n a k → ⊥
none_above_root Front n a k e low (inl r) = omega arith
none_above_root Front n a k e low (inr (inl r)) = omega arith
none_above_root Front n a k e low (inr (inr r)) = omega arith
none_above_root Back n a k e low (inl r) = omega arith
none_above_root Back n a k e low (inr (inl r)) = omega arith
none_above_root Back n a k e low (inr (inr r)) = omega arith

-- an end has one place before it
pub one_above : (side : Direction) (n a k : ℕ) → IsEnd side n k → PrecedesOn side n a k
    → a ≡ above_of side k
one_above Front n a k e (inl r) = omega arith
one_above Front n a k e (inr (inl r)) = omega arith
one_above Front n a k e (inr (inr r)) = omega arith
one_above Back n a k e (inl r) = omega arith
one_above Back n a k e (inr (inl r)) = omega arith
one_above Back n a k e (inr (inr r)) = omega arith

pub above_precedes : (side : Direction) (n k : ℕ) → IsEnd side n k → 2 ≤ k → k < n
    → PrecedesOn side n (above_of side k) k
above_precedes Front n k e some low = inl (record
    { above = omega arith; low = e; from = omega arith; upto = omega arith; within = low })
above_precedes Back n k e some low = inr (inr
    (record {
      above = omega arith;
      high = e;
      from = omega arith;
      upto = omega arith;
      within =
          low;
    }))

pub above_is_end : (side : Direction) (n k : ℕ) → IsEnd side n (above_of side k)
above_is_end Front n k = omega arith
above_is_end Back n k = λ even. absurd (omega arith)

pub above_below : (side : Direction) (k : ℕ) → 2 ≤ k → above_of side k < k
above_below Front k h = omega arith
above_below Back k h = omega arith

-- the two ends of a node, seen from either
pub other_precedes : (side : Direction) (n u v : ℕ) → IsEnd side n u → IsOther u v → u < n → v < n
    → PrecedesOn side n u v
other_precedes Front n u v e h low low' = inr
    (inl (record { low = e; high = omega arith; within = low' }))
other_precedes Back n u v e h low low' = let odd = odd_end n u v e h low' in
    inr (inl (record { low = omega arith; high = omega arith; within = low }))

pub other_is : (side : Direction) (n u b : ℕ) → PrecedesOn side n u b → b / 2 ≡ u / 2 → IsOther u b
other_is Front n u b (inl r) e = absurd (omega arith)
other_is Front n u b (inr (inl r)) e = record { same = e; differs = omega arith }
other_is Front n u b (inr (inr r)) e = absurd (omega arith)
other_is Back n u b (inl r) e = absurd (omega arith)
other_is Back n u b (inr (inl r)) e = record { same = e; differs = omega arith }
other_is Back n u b (inr (inr r)) e = absurd (omega arith)

pub one_other : (u v b : ℕ) → IsOther u v → IsOther u b → b ≡ v
one_other u v b p q = omega arith

-- what is after the other end of a node
pub after_other : (side : Direction) (n u v b : ℕ) → IsEnd side n u → u < n → IsOther u v
    → PrecedesOn side n v b → IsOtherAbove side u b
after_other Front n u v b e low h (inl r) = absurd (omega arith)
after_other Front n u v b e low h (inr (inl r)) = absurd (omega arith)
after_other Front n u v b e low h (inr (inr r)) = (omega arith, omega arith, omega arith)
after_other Back n u v b e low h (inl r) = let odd = odd_end n u v e h (omega arith) in
    (omega arith, omega arith, omega arith)
after_other Back n u v b e low h (inr (inl r)) = absurd (omega arith)
after_other Back n u v b e low h (inr (inr r)) = absurd (omega arith)

pub other_above_after : (side : Direction) (n u v b : ℕ) → IsEnd side n u → u < n → v < n
    → IsOther u v → IsOtherAbove side u b → PrecedesOn side n v b
other_above_after Front n u v b e low low' h r =
    inr (inr (record {
      above = r.0;
      high = λ x. absurd (omega arith);
      from = omega arith;
      upto =
          omega arith;
      within = low';
    }))
other_above_after Back n u v b e low low' h r = let odd = odd_end n u v e h low' in
    inl (record {
      above = r.0;
      low = omega arith;
      from = omega arith;
      upto = omega arith;
      within =
          low';
    })

-- the root has no other end above it
pub no_other_above_root : (side : Direction) (k b : ℕ) → k ≤ 1 → IsOtherAbove side k b → ⊥
no_other_above_root Front k b low r = omega arith
no_other_above_root Back k b low r = omega arith

-- after an end come the other end of its node, the ends below, and for the last item the other end
-- above
pub after_end : (side : Direction) (n u b : ℕ) → PrecedesOn side n u b
    → (b / 2 ≡ u / 2) ⊎ (IsChildEnd side n u b ⊎ IsOtherAbove side u b)
after_end Front n u b (inl r) = inr (inl (record { precedes = inl r; below = omega arith }))
after_end Front n u b (inr (inl r)) = inl (omega arith)
after_end Front n u b (inr (inr r)) = inr (inr (r.above, r.from, r.upto))
after_end Back n u b (inl r) = inr (inr (r.above, r.from, r.upto))
after_end Back n u b (inr (inl r)) = inl (omega arith)
after_end Back n u b (inr (inr r)) = inr (inl
    (record { precedes = inr (inr r); below = omega arith }))

pub child_is_end : (side : Direction) (n u c : ℕ) → IsChildEnd side n u c → IsEnd side n c
child_is_end side n u c k = child_is_end_at side n u c k.precedes k.below
  where
    child_is_end_at : (side : Direction) (n u c : ℕ) → PrecedesOn side n u c → u / 2 < c / 2
        → IsEnd side n c
    child_is_end_at Front n u c (inl r) low = r.low
    child_is_end_at Front n u c (inr (inl r)) low = absurd (omega arith)
    child_is_end_at Front n u c (inr (inr r)) low = absurd (omega arith)
    child_is_end_at Back n u c (inl r) low = absurd (omega arith)
    child_is_end_at Back n u c (inr (inl r)) low = absurd (omega arith)
    child_is_end_at Back n u c (inr (inr r)) low = r.high

pub child_within : (side : Direction) (n u c : ℕ) → IsChildEnd side n u c → c < n
child_within side n u c k = (on_within side n u c k.precedes).1

pub one_end : (side : Direction) (n j k : ℕ) → IsEnd side n j → IsEnd side n k → j < n → k < n
    → j / 2 ≡ k / 2 → j ≡ k
one_end Front n j k e f low low' same = omega arith
one_end Back n j k e f low low' same = ⊎_elim
    (λ (even : j % 2 ≡ 0). let last = e even in omega arith)
    (λ (odd : j % 2 ≢ 0). ⊎_elim (λ (even : k % 2 ≡ 0). let last = f even in omega arith)
    (λ (odd' : k % 2 ≢ 0). omega arith) (cases_eq (k % 2) 0))
    (cases_eq (j % 2) 0)

-- the nodes right below
pub child_nodes : (side : Direction) (n u c : ℕ) → IsChildEnd side n u c
    → (c / 2 ≡ u / 2 * 2 + 1) ⊎ (c / 2 ≡ u / 2 * 2 + 1 + 1)
child_nodes side n u c k = child_nodes_at side n u c k.precedes k.below
  where
    second : (u c : ℕ) → u / 2 * 2 + 1 ≤ c / 2 → c / 2 ≤ u / 2 * 2 + 2
        → (c / 2 ≡ u / 2 * 2 + 1) ⊎ (c / 2 ≡ u / 2 * 2 + 1 + 1)
    second u c low high = ⊎_elim (λ e. inl e) (λ (ne : c / 2 ≢ u / 2 * 2 + 1). inr (omega arith))
        (cases_eq (c / 2) (u / 2 * 2 + 1))

    child_nodes_at : (side : Direction) (n u c : ℕ) → PrecedesOn side n u c → u / 2 < c / 2
        → (c / 2 ≡ u / 2 * 2 + 1) ⊎ (c / 2 ≡ u / 2 * 2 + 1 + 1)
    child_nodes_at Front n u c (inl r) low = second u c (omega arith) (omega arith)
    child_nodes_at Front n u c (inr (inl r)) low = absurd (omega arith)
    child_nodes_at Front n u c (inr (inr r)) low = absurd (omega arith)
    child_nodes_at Back n u c (inl r) low = absurd (omega arith)
    child_nodes_at Back n u c (inr (inl r)) low = absurd (omega arith)
    child_nodes_at Back n u c (inr (inr r)) low = second u c (omega arith) (omega arith)

-- a node with a node below is full
pub full_above_child : (side : Direction) (n u c b : ℕ) → IsEnd side n u → IsChildEnd side n u c
    → IsOtherAbove side c b → PrecedesOn side n u b × (b / 2 ≡ u / 2)
full_above_child side n u c b e k r = full_at side n u c b e k.precedes k.below r
  where
    full_at : (side : Direction) (n u c b : ℕ) → IsEnd side n u → PrecedesOn side n u c
        → u / 2 < c / 2 → IsOtherAbove side c b → PrecedesOn side n u b × (b / 2 ≡ u / 2)
    full_at Front n u c b e (inl q) low r = (
      inr
          (inl (record { low = e; high = omega arith; within = omega arith })),
      omega arith,
    )
    full_at Front n u c b e (inr (inl q)) low r = absurd (omega arith)
    full_at Front n u c b e (inr (inr q)) low r = absurd (omega arith)
    full_at Back n u c b e (inl q) low r = absurd (omega arith)
    full_at Back n u c b e (inr (inl q)) low r = absurd (omega arith)
    full_at Back n u c b e (inr (inr q)) low r =
        (inr (inl (record { low = r.0; high = omega arith; within = omega arith })), omega arith)

pub no_other_above_full : (side : Direction) (n u c b : ℕ) → IsChildEnd side n u c
    → PrecedesOn side n u b → IsOtherAbove side u b → ⊥
no_other_above_full side n u c b k p r = none_at side n u c b k.precedes k.below p r
  where
    none_at : (side : Direction) (n u c b : ℕ) → PrecedesOn side n u c → u / 2 < c / 2
        → PrecedesOn side n u b → IsOtherAbove side u b → ⊥
    none_at Front n u c b (inl q) low (inl p) r = omega arith
    none_at Front n u c b (inl q) low (inr (inl p)) r = omega arith
    none_at Front n u c b (inl q) low (inr (inr p)) r = let last = p.high q.above in omega arith
    none_at Front n u c b (inr (inl q)) low p r = omega arith
    none_at Front n u c b (inr (inr q)) low p r = omega arith
    none_at Back n u c b (inl q) low p r = omega arith
    none_at Back n u c b (inr (inl q)) low p r = omega arith
    none_at Back n u c b (inr (inr q)) low (inl p) r = omega arith
    none_at Back n u c b (inr (inr q)) low (inr (inl p)) r = omega arith
    none_at Back n u c b (inr (inr q)) low (inr (inr p)) r = omega arith

-- among one place less
pub precedes_shorter : (last a b : ℕ) → Precedes (last + 1) a b → a < last → b < last
    → Precedes last a b
precedes_shorter last a b (inl r) low low' = inl
    (record { above = r.above; low = r.low; from = r.from; upto = r.upto; within = low' })
precedes_shorter last a b (inr (inl r)) low low' =
    inr (inl (record { low = r.low; high = r.high; within = low' }))
precedes_shorter last a b (inr (inr r)) low low' =
    inr (inr (record {
      above = r.above;
      high = λ e. absurd (last_only last a (r.high e) low);
      from =
          r.from;
      upto = r.upto;
      within = low;
    }))
  where
    last_only : (last a : ℕ) → a + 1 ≡ last + 1 → a < last → ⊥
    last_only last a e low = omega arith

-- the last place, in a node of its own
pub after_single : (last b : ℕ) → last % 2 ≡ 0 → Precedes (last + 1) last b
    → b ≡ 2 * ((last - 2) / 4) + 1
after_single last b even (inl r) = absurd (omega arith)
after_single last b even (inr (inl r)) = absurd (omega arith)
after_single last b even (inr (inr r)) = omega arith

pub above_single : (last : ℕ) → last % 2 ≡ 0 → 0 < last
    → Precedes (last + 1) (2 * ((last - 2) / 4)) (2 * ((last - 2) / 4) + 1)
above_single last even some = inr (inl (record
    { low = omega arith; high = omega arith; within = omega arith }))

-- the last place, as the high end of its node
pub before_pair : (last a : ℕ) → last % 2 ≡ 1 → Precedes (last + 1) a last → a + 1 ≡ last
before_pair last a odd (inl r) = absurd (omega arith)
before_pair last a odd (inr (inl r)) = omega arith
before_pair last a odd (inr (inr r)) = absurd (omega arith)

pub after_low_pair : (last b : ℕ) → last % 2 ≡ 1 → Precedes (last + 1) (last - 1) b → b ≡ last
after_low_pair last b odd (inl r) = absurd (omega arith)
after_low_pair last b odd (inr (inl r)) = omega arith
after_low_pair last b odd (inr (inr r)) = let e = r.high (omega arith) in absurd (omega arith)

pub after_pair : (last b : ℕ) → last % 2 ≡ 1 → Precedes (last + 1) last b
    → Precedes last (last - 1) b
after_pair last b odd (inl r) = absurd (omega arith)
after_pair last b odd (inr (inl r)) = absurd (omega arith)
after_pair last b odd (inr (inr r)) = inr (inr
    (record {
      above = r.above;
      high = λ e. omega arith;
      from = omega arith;
      upto =
          omega arith;
      within = omega arith;
    }))

pub none_among_one : (n a b : ℕ) → n ≤ 1 → Precedes n a b → ⊥
none_among_one n a b low (inl r) = omega arith
none_among_one n a b low (inr (inl r)) = omega arith
none_among_one n a b low (inr (inr r)) = omega arith

-- among one place more, with a place between for the item that was single
pub precedes_longer : (m a b : ℕ) → Precedes m a b
    → Precedes (m + 1) a b ⊎ (Precedes (m + 1) a m × Precedes (m + 1) m b)
precedes_longer m a b (inl r) = inl (inl (record
    { above = r.above; low = r.low; from = r.from; upto = r.upto; within = omega arith }))
precedes_longer m a b (inr (inl r)) = inl (inr
    (inl (record { low = r.low; high = r.high; within = omega arith })))
precedes_longer m a b (inr (inr r)) = ⊎_elim
    (λ (even : a % 2 ≡ 0). let last = r.high even in
    inr (
      inr (inl (record { low = even; high = omega arith; within = omega arith })),
      inr (inr (record {
        above = r.above;
        high = λ e. absurd (omega arith);
        from =
            omega arith;
        upto = omega arith;
        within = omega arith;
      })),
    ))
    (λ (odd : a % 2 ≢ 0). inl (inr (inr (record {
      above = r.above;
      high =
          λ e. absurd (odd e);
      from = r.from;
      upto = r.upto;
      within = omega arith;
    }))))
    (cases_eq (a % 2) 0)
