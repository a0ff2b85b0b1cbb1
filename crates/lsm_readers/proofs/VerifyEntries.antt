-- Entries that are read without a finding: what is so of them, and what is left of the counts then.
use Rattle.std.proofs.Common.{◌≡◌, ℕ, ◌+◌, ◌-◌, ◌^◌, ◌<◌, ◌≤◌, Bool, true, false, cond, List, []}
use Rattle.std.proofs.Common.{◌∷◌, ◌++◌, length, refl, sym, subst, ◌∙◌, arith}
use Rattle.std.specs.Prelude.{count_by, max, min, Option, Some, Ok}
use Rattle.std.specs.List.{AllByRecursion}
use Rattle.std.proofs.lemmas.List.Sums.{sum_by-cons}
use Rattle.sst_entries.specs.Entry.{Entry}
use Rattle.sst_entries.specs.Strict.{IsStrictAfter, last_of, may_follow}
use Rattle.sst_blocks.specs.table.Facts.{count_after, highest_seqno, is_reclaimable, is_tombstone}
use Rattle.sst_blocks.specs.table.Facts.{is_weak, lowest_seqno, one_if, starts_key}
use Rattle.sst_blocks.specs.table.Filters.{keys_after}
use Rattle.lsm_readers.specs.declared.verify.Counts.{Counts}
use Rattle.lsm_readers.specs.Findings.{IsFirst, Reads, StartsAt}
use Rattle.lsm_readers.specs.point.Parts.{Parts}
use Rattle.lsm_readers.specs.Stored.{Admits}
use Rattle.lsm_readers.specs.Verify.{Unread, admitted, asked_found, entries_found, entry_found}
use Rattle.lsm_readers.specs.Verify.{entry_spent, entry_tested, key_found}
use Rattle.lsm_readers.proofs.VerifySteps.{asked_goes, asked_ok, first_goes, first_ok}
use Rattle.lsm_readers.proofs.VerifySteps.{order_goes, order_ok, spent_goes, spent_ok, then_goes}
use Rattle.lsm_readers.proofs.VerifySteps.{then_ok}

-- ---- no entry, and one more in front

pub reads_none : (body : List ℕ) (parts : Parts) (left : Unread) → left.counts.lowest ≤ 2 ^ 64 - 1
    → Reads body parts left [] left
unfolding IsStrictAfter keys_after last_of count_after lowest_seqno highest_seqno
reads_none body parts left low = record {
  strict = tt;
  numbers = tt;
  admits = tt;
  first = tt;
  last = refl;
  spends = record {
    items = omega arith;
    tombstones = omega arith;
    weak = omega arith;
    reclaimable = omega arith;
    lowest = omega arith;
    highest = omega arith;
  };
}

-- the counts that are left behind an entry
pub record SpendsOne (meta : ℕ) (before : Option Entry) (old : Counts) (e : Entry) (new : Counts)
    : Type 0 where
  pub items : old.items ≡ 1 + new.items
  pub tombstones : old.tombstones ≡ one_if (is_tombstone e) + new.tombstones
  pub weak : old.weak ≡ one_if (is_weak e) + new.weak
  pub reclaimable : old.reclaimable ≡ one_if (is_reclaimable before e) + new.reclaimable
  pub lowest : new.lowest ≡ min old.lowest e.seqno
  pub highest : new.highest ≡ max old.highest e.seqno
  pub blocks : new.blocks ≡ old.blocks
  pub size : new.size ≡ old.size

module _ (meta : ℕ) (before : Option Entry) (old : Counts) (e : Entry) where
  abbrev made : ℕ → ℕ → ℕ → ℕ → Counts
  made items tombstones weak reclaimable = record {
    blocks = old.blocks;
    size = old.size;
    items = items;
    tombstones = tombstones;
    weak = weak;
    reclaimable = reclaimable;
    lowest = min old.lowest e.seqno;
    highest = max old.highest e.seqno;
  }

  pub spent_one_ok : (new : Counts) → entry_spent meta before e old ≡ Ok new
      → SpendsOne meta before old e new
  unfolding entry_spent
  spent_one_ok new h =
      let i = then_ok _ _ new h in
      let t = then_ok _ _ new i.2 in
      let w = then_ok _ _ new t.2 in
      let r = then_ok _ _ new w.2 in
      let same : made i.0 t.0 w.0 r.0 ≡ new = cc in
      subst (SpendsOne meta before old e) same (record {
        items = spent_ok meta _ old.items 1 i.0 i.1;
        tombstones = spent_ok meta _ old.tombstones (one_if (is_tombstone e)) t.0 t.1;
        weak = spent_ok meta _ old.weak (one_if (is_weak e)) w.0 w.1;
        reclaimable = spent_ok meta _ old.reclaimable (one_if (is_reclaimable before e)) r.0 r.1;
        lowest = refl;
        highest = refl;
        blocks = refl;
        size = refl;
      })

  pub spent_one_goes : (items tombstones weak reclaimable : ℕ) → old.items ≡ 1 + items
      → old.tombstones ≡ one_if (is_tombstone e) + tombstones
      → old.weak ≡ one_if (is_weak e) + weak
      → old.reclaimable ≡ one_if (is_reclaimable before e) + reclaimable
      → entry_spent meta before e old ≡ Ok (made items tombstones weak reclaimable)
  unfolding entry_spent
  spent_one_goes items tombstones weak reclaimable i t w r =
      then_goes _ _ items _ (spent_goes meta _ old.items 1 items i)
      (then_goes _ _ tombstones _
      (spent_goes meta _ old.tombstones (one_if (is_tombstone e)) tombstones t)
      (then_goes _ _ weak _ (spent_goes meta _ old.weak (one_if (is_weak e)) weak w)
      (then_goes _ _ reclaimable _
      (spent_goes meta _ old.reclaimable (one_if (is_reclaimable before e)) reclaimable r) refl)))

-- ---- the key of an entry that is the first of its key

module _ (body : List ℕ) (parts : Parts) (at : ℕ) where
  abbrev Admitted : List ℕ → Type 0
  Admitted = Admits body parts.pinned.filter_tops parts.regions.filter

  keys_more : (last : Option Entry) (e : Entry) (es : List Entry) (u : Unit {0})
      → key_found body parts at last e ≡ Ok u → AllByRecursion Admitted (keys_after (Some e) es)
      → AllByRecursion Admitted (keys_after last (e ∷ es))
  unfolding keys_after
  keys_more last e es u h more = go (starts_key last e) refl h
    where
      go : (b : Bool) → starts_key last e ≡ b
          → cond b (asked_found at (admitted body parts e.user_key)) (Ok tt) ≡ Ok u
          → AllByRecursion Admitted
          (cond (starts_key last e) (e.user_key ∷ keys_after (Some e) es) (keys_after (Some e) es))
      go true is h = rw is (asked_ok at _ u h, more)
      go false is h = rw is more

  keys_one : (last : Option Entry) (e : Entry) (es : List Entry)
      → AllByRecursion Admitted (keys_after last (e ∷ es))
      → (key_found body parts at last e ≡ Ok tt)
      × AllByRecursion Admitted (keys_after (Some e) es)
  unfolding keys_after
  keys_one last e es all = go (starts_key last e) refl all
    where
      go : (b : Bool) → starts_key last e ≡ b → AllByRecursion Admitted
          (cond b (e.user_key ∷ keys_after (Some e) es) (keys_after (Some e) es))
          → (key_found body parts at last e ≡ Ok tt)
          × AllByRecursion Admitted (keys_after (Some e) es)
      go true is all = (rw is (asked_goes at (admitted body parts e.user_key) all.0), all.1)
      go false is all = (rw is refl, all)

  -- a test tells no more than that it passes
  key_is : (last : Option Entry) (e : Entry) (u : Unit {0})
      → key_found body parts at last e ≡ Ok u → key_found body parts at last e ≡ Ok tt
  key_is last e u h = h

  -- ---- an entry

  abbrev behind : Entry → Counts → Unread
  behind e counts = record { last = Some e; counts = counts }

  -- what is so of an entry that was read
  pub record ReadsOne (old : Unread) (e : Entry) (counts : Counts) : Type 0 where
    pub number : e.seqno < 2 ^ 64 - 1
    pub follows : may_follow old.last e ≡ true
    pub key : key_found body parts at old.last e ≡ Ok tt
    pub first : IsFirst parts old.last e
    pub spends : SpendsOne parts.regions.metadata.offset old.last old.counts e counts

  pub entry_ok : (old : Unread) (e : Entry) (new : Unread) → entry_found body parts at old e ≡ Ok
      new
      → (counts : Counts) × (new ≡ behind e counts) × ReadsOne old e counts
  unfolding entry_found entry_tested
  entry_ok old e new h =
      let c = then_ok _ _ new h in
      let o = then_ok _ _ c.0 c.1 in
      let f = then_ok _ _ c.0 o.2 in
      let k = then_ok _ _ c.0 f.2 in
      let same : behind e c.0 ≡ new = cc in
      let order = order_ok at old.last e o.0 o.1 in (
        c.0,
        sym same,
        record {
          number = order.0;
          follows = order.1;
          key = key_is old.last e k.0 k.1;
          first = first_ok parts old.last e f.0 f.1;
          spends = spent_one_ok parts.regions.metadata.offset old.last old.counts e c.0 k.2;
        },
      )

  -- one more in front of what was read
  pub reads_more : (old : Unread) (e : Entry) (es : List Entry) (mid new : Unread)
      → entry_found body parts at old e ≡ Ok mid → Reads body parts mid es new
      → Reads body parts old (e ∷ es) new
  unfolding IsStrictAfter last_of count_after lowest_seqno highest_seqno
  reads_more old e es mid new h more =
      let one = entry_ok old e mid h in
      let r = one.2 in
      let rest = subst (λ (l : Unread). Reads body parts l es new) one.1 more in
      let s = r.spends in
      let t = rest.spends in
      record {
        strict = (r.follows, rest.strict);
        numbers = (r.number, rest.numbers);
        admits = keys_more old.last e es tt r.key rest.admits;
        first = r.first;
        last = rest.last;
        spends = record {
          items = omega (arith, s.items, t.items);
          tombstones = count_more is_tombstone e es _ _ _ s.tombstones t.tombstones;
          weak = count_more is_weak e es _ _ _ s.weak t.weak;
          reclaimable = omega (arith, s.reclaimable, t.reclaimable);
          lowest = omega (arith, s.lowest, t.lowest);
          highest = omega (arith, s.highest, t.highest);
        };
      }
    where
      count_more : (p : Entry → Bool) (e : Entry) (es : List Entry) (a b c : ℕ)
          → a ≡ one_if (p e) + b → b ≡ count_by p es + c → a ≡ count_by p (e ∷ es) + c
      count_more p e es a b c one rest =
          omega (arith, one, rest, sum_by-cons (λ (x : Entry). cond (p x) 1 0) e es)

  -- the first of what is read
  pub reads_first : (old : Unread) (e : Entry) (es : List Entry) (new : Unread)
      → Reads body parts old (e ∷ es) new → (mid : Unread)
      × (entry_found body parts at old e ≡ Ok mid) × Reads body parts mid es new
      × (mid.counts.blocks ≡ old.counts.blocks) × (mid.counts.size ≡ old.counts.size)
  unfolding IsStrictAfter last_of count_after lowest_seqno highest_seqno entry_found entry_tested
  reads_first old e es new r =
      let meta = parts.regions.metadata.offset in
      let s = r.spends in
      let t = count_one is_tombstone e es _ _ s.tombstones in
      let w = count_one is_weak e es _ _ s.weak in
      let items = length es + new.counts.items in
      let tombstones = count_by is_tombstone es + new.counts.tombstones in
      let weak = count_by is_weak es + new.counts.weak in
      let reclaimable = count_after is_reclaimable (Some e) es + new.counts.reclaimable in
      let counts = made meta old.last old.counts e items tombstones weak reclaimable in
      let keys = keys_one old.last e es r.admits in (
        behind e counts,
        then_goes _ _ counts _
            (then_goes _ _ tt _ (order_goes at old.last e r.numbers.0 r.strict.0)
            (then_goes _ _ tt _ (first_goes parts old.last e r.first)
            (then_goes _ _ tt _ keys.0
            (spent_one_goes meta old.last old.counts e items tombstones weak reclaimable
            (omega (arith, s.items)) t w (omega (arith, s.reclaimable)))))) refl,
        record {
          strict = r.strict.1;
          numbers = r.numbers.1;
          admits = keys.1;
          first = starts_none es;
          last = r.last;
          spends = record {
            items = refl;
            tombstones = refl;
            weak = refl;
            reclaimable = refl;
            lowest = omega (arith, s.lowest);
            highest = omega (arith, s.highest);
          };
        },
        refl,
        refl,
      )
    where
      count_one : (p : Entry → Bool) (e : Entry) (es : List Entry) (a c : ℕ)
          → a ≡ count_by p (e ∷ es) + c → a ≡ one_if (p e) + (count_by p es + c)
      count_one p e es a c all =
          omega (arith, all, sum_by-cons (λ (x : Entry). cond (p x) 1 0) e es)

      starts_none : (es : List Entry) → StartsAt parts (Some e) es
      starts_none [] = tt
      starts_none (x ∷ xs) = tt

  -- ---- the entries of a block, in front of others

  -- the lowest number that was read is no more than the highest there may be
  pub entries_low : (old : Unread) (c : List Entry) (mid : Unread)
      → entries_found body parts at old c ≡ Ok mid → old.counts.lowest ≤ 2 ^ 64 - 1
      → (mid.counts.lowest ≤ 2 ^ 64 - 1) × (mid.counts.blocks ≡ old.counts.blocks)
      × (mid.counts.size ≡ old.counts.size) × (mid.last ≡ last_of old.last c)
  unfolding entries_found last_of
  entries_low old [] mid h low =
      let same : old ≡ mid = cc in
      subst (λ (l : Unread). (l.counts.lowest ≤ 2 ^ 64 - 1) × (l.counts.blocks ≡ old.counts.blocks)
      × (l.counts.size ≡ old.counts.size) × (l.last ≡ old.last)) same (low, refl, refl, refl)
  entries_low old (e ∷ c) mid h low =
      let one = then_ok _ _ mid h in
      let is = entry_ok old e one.0 one.1 in
      let s = (is.2).spends in
      let returned = subst (λ (l : Unread). entries_found body parts at l c ≡ Ok mid) is.1 one.2 in
      let rest = entries_low (behind e is.0) c mid returned (omega (arith, s.lowest)) in
      (rest.0, rest.1 ∙ s.blocks, rest.2 ∙ s.size, rest.3)

  -- the sizes of data blocks stay
  pub size_stays : (old : Unread) (c : List Entry) (mid : Unread)
      → entries_found body parts at old c ≡ Ok mid → mid.counts.size ≡ old.counts.size
  unfolding entries_found
  size_stays old [] mid h =
      let same : old ≡ mid = cc in
      subst (λ (l : Unread). l.counts.size ≡ old.counts.size) same refl
  size_stays old (e ∷ c) mid h =
      let one = then_ok _ _ mid h in
      let is = entry_ok old e one.0 one.1 in
      let s = (is.2).spends in
      let returned = subst (λ (l : Unread). entries_found body parts at l c ≡ Ok mid) is.1 one.2 in
      size_stays (behind e is.0) c mid returned ∙ s.size

  pub entries_read : (old : Unread) (c rest : List Entry) (mid new : Unread)
      → entries_found body parts at old c ≡ Ok mid → Reads body parts mid rest new
      → Reads body parts old (c ++ rest) new
  unfolding entries_found
  entries_read old [] rest mid new h more =
      let same : old ≡ mid = cc in subst (λ (l : Unread). Reads body parts l rest new) (sym same)
      more
  entries_read old (e ∷ c) rest mid new h more =
      let one = then_ok _ _ mid h in
      reads_more old e (c ++ rest) one.0 new one.1
      (entries_read one.0 c rest mid new one.2 more)

  pub entries_go : (old : Unread) (c rest : List Entry) (new : Unread)
      → Reads body parts old (c ++ rest) new → (mid : Unread)
      × (entries_found body parts at old c ≡ Ok mid) × Reads body parts mid rest new
  unfolding entries_found
  entries_go old [] rest new r = (old, refl, r)
  entries_go old (e ∷ c) rest new r =
      let one = reads_first old e (c ++ rest) new r in
      let more = entries_go one.0 c rest new one.2 in
      (more.0, then_goes _ _ one.0 _ one.1 more.1, more.2)
