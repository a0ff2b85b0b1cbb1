-- Entries that a writer takes, and what is pending.
use Rattle.std.proofs.Common.{◌≡◌, refl, sym, ◌∙◌, ap, subst, ℕ, ◌+◌, ◌*◌, ◌-◌, ◌<◌, ◌≤◌, ◌^◌, Bool}
use Rattle.std.proofs.Common.{true, false, List, [], ◌∷◌, ◌++◌, length, take, append_assoc, arith}
use Rattle.std.proofs.Common.{length-append, cond, inl, inr, IsTrue}
use Rattle.std.specs.Prelude.{Option, Some, None, nat_le, min, max, sum_by, count_by}
use Rattle.std.specs.List.{AllByRecursion}
use Rattle.std.specs.Option.{option_or}
use Rattle.std.proofs.lemmas.Bool.{le-ltb, le-leb, lt-leb, leb-false, ltb-false, ltb-true, cases_lt}
use Rattle.std.proofs.lemmas.List.{take-append-le, take_at, append-nil}
use Rattle.std.proofs.lemmas.List.Sums.{sum_by-append, sum_by-cons, count_by-le-length}
use Rattle.sst_entries.specs.declared.error.Error.{Error}
use Rattle.sst_entries.specs.declared.error.Error.TheVariants.{KeyTooLong, ValueTooLong}
use Rattle.sst_entries.specs.declared.error.Error.TheVariants.{BlockTooLarge}
use Rattle.sst_blocks.specs.Bounds.{data_block_bound_of, entry_bound}
use Rattle.sst_blocks.specs.Encoding.{IsShortEntry, is_long_key, length_fault, entries_fault}
use Rattle.sst_blocks.specs.Encoding.{large_fault}
use Rattle.sst_entries.specs.Entry.{Entry, entry}
use Rattle.sst_blocks.specs.table.Chunks.{joined, entry_size, entries_size, is_full}
use Rattle.sst_entries.specs.Strict.{IsStrict, last_of}
use Rattle.sst_entries.specs.declared.value_type.ValueType.TheVariants.{Value}
use Rattle.sst_blocks.specs.declared.version.TableVersion.TheVariants.{V4}
use Rattle.lsm_writers.specs.declared.writer.meta.Metadata.{Metadata}
use Rattle.lsm_writers.specs.declared.writer.meta.Tally.{Tally}
use Rattle.lsm_writers.specs.Counts.{metadata_of, brought, tally_of, added, with_entry, HasRoom}
use Rattle.lsm_writers.specs.Cut.{Cut, rest_chunk, with_cut}
use Rattle.sst_blocks.specs.table.Facts.{count_after, lowest_seqno, highest_seqno}
use Rattle.sst_blocks.specs.table.Facts.{one_if, first_key}
use Rattle.sst_blocks.specs.table.Fits.{EntryFits}
use Rattle.lsm_writers.specs.Held.{IsUnfilled, IsHeld, IsShortest, IsTaken}
use Rattle.lsm_writers.specs.Writing.{item_fault, may_be_written}
use Rattle.lsm_writers.proofs.Cutting.{joined_more, rest_is}
use Rattle.sst_entries.proofs.Lists.{all_append, all_behind}
use Rattle.sst_entries.proofs.Booleans.{and_parts}
use Rattle.sst_entries.proofs.Strictness.{strict_push}
use Rattle.sst_blocks.proofs.FactLaws.{after_within}
use Rattle.lsm_writers.proofs.Orders.{ends_follow, last_of-append}

-- the bound of a block, by the number of its entries and their size
bound_sum : (es : List Entry) → sum_by entry_bound es ≡ 17 * length es + entries_size es
bound_sum [] = refl
bound_sum (e ∷ es) = omega (
  arith,
  bound_sum es,
  sum_by-cons entry_bound e es,
  sum_by-cons
      entry_size e es,
)

pub size_more : (es : List Entry) (e : Entry)
    → entries_size (es ++ e ∷ []) ≡ entries_size es + entry_size e
size_more es e = sum_by-append entry_size es (e ∷ [])
    ∙ ap (λ (n : ℕ). entries_size es + n) (omega (arith, sum_by-cons entry_size e []))

-- the block of one entry more
pub bound_more : (es : List Entry) (e : Entry)
    → sum_by entry_bound (es ++ e ∷ []) ≡ 17 * (length es + 1) + (entries_size es + entry_size e)
bound_more es e = bound_sum (es ++ e ∷ []) ∙ omega
    (arith, size_more es e, length-append es (e ∷ []))

pub large_is : (n : ℕ) → 2 ^ 32 ≤ n → large_fault n ≡ Some BlockTooLarge
large_is n h = rw (le-leb _ _ h) refl

pub small_is : (n : ℕ) → n < 2 ^ 32 → large_fault n ≡ None
small_is n h = rw (lt-leb _ _ h) refl

pub too_large : (es : List Entry) (e : Entry)
    → 2 ^ 32 ≤ 28 + 17 * (length es + 1) + (entries_size es + entry_size e)
    → large_fault (data_block_bound_of (es ++ e ∷ [])) ≡ Some BlockTooLarge
too_large es e h = large_is _ (omega (arith, bound_more es e))

pub fits_still : (es : List Entry) (e : Entry)
    → 28 + 17 * (length es + 1) + (entries_size es + entry_size e) < 2 ^ 32
    → large_fault (data_block_bound_of (es ++ e ∷ [])) ≡ None
fits_still es e h = small_is _ (omega (arith, bound_more es e))

pub no_length_fault : (es : List Entry) → AllByRecursion (EntryFits V4) es → length_fault es ≡ None
no_length_fault [] h = refl
no_length_fault (e ∷ es) h = rw (le-ltb _ _ h.0.key, lt-leb _ _ h.0.value) (no_length_fault es h.1)

-- what is pending encodes
pub no_fault : (es : List Entry) → AllByRecursion (EntryFits V4) es
    → 28 + 17 * length es + entries_size es < 2 ^ 32 → entries_fault es ≡ None
no_fault es h small = rw (no_length_fault es h) (small_is _ (omega (arith, bound_sum es)))

pub item_large : (es : List Entry) (e : Entry) → length e.user_key ≤ 1048576
    → length e.value < 2 ^ 32 → 2 ^ 32 ≤ 28 + 17 * (length es + 1)
    + (entries_size es + entry_size e) → item_fault es e ≡ Some BlockTooLarge
item_large es e k v h = rw (le-ltb _ _ k, lt-leb _ _ v) (too_large es e h)

pub item_fits : (es : List Entry) (e : Entry) → length e.user_key ≤ 1048576
    → length e.value < 2 ^ 32 → 28 + 17 * (length es + 1) + (entries_size es + entry_size e)
    < 2 ^ 32 → item_fault es e ≡ None
item_fits es e k v h = rw (le-ltb _ _ k, lt-leb _ _ v) (fits_still es e h)

-- ---- one entry more

pub strict_gained : (es : List Entry) (e : Entry) → IsStrict es
    → IsTrue (may_be_written es e.user_key e.seqno) → IsStrict (es ++ e ∷ [])
strict_gained es e h f =
    let p = and_parts _ _ f in
    strict_push None es e h (ends_follow (last_of None es) e
    (entry e.user_key [] e.seqno Value) refl refl p.1)

pub fault_none : (b : Bool) (x : Error) (o : Option Error) → cond b (Some x) o ≡ None
    → (b ≡ false) × (o ≡ None)
fault_none true x o h = absurd cc
fault_none false x o h = (refl, h)

-- an entry without a fault fits, and the block has room for it
pub short_of : (es : List Entry) (e : Entry) → e.seqno < 2 ^ 64 - 1 → item_fault es e ≡ None
    → EntryFits V4 e × (28 + 17 * (length es + 1) + (entries_size es + entry_size e) < 2 ^ 32)
short_of es e low h =
    let bound = data_block_bound_of (es ++ e ∷ []) in
    let o2 = large_fault bound in
    let o1 = cond (nat_le (2 ^ 32) (length e.value)) (Some ValueTooLong) o2 in
    let k = fault_none (is_long_key e.user_key) KeyTooLong o1 h in
    let v = fault_none (nat_le (2 ^ 32) (length e.value)) ValueTooLong o2 k.1 in
    let b = fault_none (nat_le (2 ^ 32) bound) BlockTooLarge None v.1 in
    let small : bound < 2 ^ 32 = leb-false _ _ b.0 in (
      record { key = ltb-false _ _ k.0; value = leb-false _ _ v.0; number = low },
      omega
          (arith, small, bound_more es e),
    )

-- no part of it is too long
pub short_entry : (es : List Entry) (e : Entry) → item_fault es e ≡ None → IsShortEntry e
short_entry es e h =
    let o2 = large_fault (data_block_bound_of (es ++ e ∷ [])) in
    let o1 = cond (nat_le (2 ^ 32) (length e.value)) (Some ValueTooLong) o2 in
    let k = fault_none (is_long_key e.user_key) KeyTooLong o1 h in
    let v = fault_none (nat_le (2 ^ 32) (length e.value)) ValueTooLong o2 k.1 in
    record { key = ltb-false _ _ k.0; value = leb-false _ _ v.0 }

snoc_assoc : (xs ys : List Entry) (e : Entry) → xs ++ (ys ++ e ∷ []) ≡ (xs ++ ys) ++ e ∷ []
snoc_assoc xs ys e = sym (append_assoc xs ys (e ∷ []))

-- what is pending may not be full before one more
front_more : (size : ℕ) (pending : List Entry) (e : Entry) → IsUnfilled size pending
    → ((n : ℕ) → 0 < n → n < length pending → is_full size (take n pending) ≡ false) → (n : ℕ)
    → 0 < n → n < length (pending ++ e ∷ []) → is_full size (take n (pending ++ e ∷ [])) ≡ false
front_more size [] e o f n pos lt = absurd (omega (arith, pos, lt))
front_more size (x ∷ xs) e o f n pos lt =
    let p = x ∷ xs in
    elim (cases_lt n (length p)) [
      | inl less ↦ ap (is_full size) (take-append-le n p (e ∷ []) (omega arith)) ∙ f n pos less
      | inr more ↦
          let same : n ≡ length p = omega (arith, length-append p (e ∷ []), lt, more) in
          ap (is_full size) (take_at p (e ∷ []) n (sym same)) ∙ o
    ]

-- ---- counts

count_more : (p : Entry → Bool) (es : List Entry) (e : Entry)
    → count_by p (es ++ e ∷ []) ≡ count_by p es + one_if (p e)
count_more p es e =
    let f = λ (x : Entry). one_if (p x) in
    sum_by-append f es (e ∷ []) ∙ ap (λ (n : ℕ). sum_by f es + n)
    (omega (arith, sum_by-cons f e []))

after_more : (test : Option Entry → Entry → Bool) (before : Option Entry) (es : List Entry)
    (e : Entry) → count_after test before (es ++ e ∷ [])
    ≡ count_after test before es + one_if (test (last_of before es) e)
unfolding count_after last_of
after_more test before [] e = omega arith
after_more test before (x ∷ xs) e = omega (arith, after_more test (Some x) xs e)

lowest_more : (es : List Entry) (e : Entry) → lowest_seqno (es ++ e ∷ [])
    ≡ min (lowest_seqno es) e.seqno
unfolding lowest_seqno
lowest_more [] e = omega arith
lowest_more (x ∷ xs) e = omega (arith, lowest_more xs e)

highest_more : (es : List Entry) (e : Entry) → highest_seqno (es ++ e ∷ [])
    ≡ max (highest_seqno es) e.seqno
unfolding highest_seqno
highest_more [] e = omega arith
highest_more (x ∷ xs) e = omega (arith, highest_more xs e)

first_more : (es : List Entry) (e : Entry) → first_key (es ++ e ∷ [])
    ≡ option_or (first_key es) (Some e.user_key)
first_more [] e = refl
first_more (x ∷ xs) e = refl

brought_is : (first : Option (List ℕ)) (key : List ℕ)
    → option_or first (brought first key) ≡ option_or first (Some key)
brought_is None key = refl
brought_is (Some x) key = refl

pub counted_is : {A : Type 0} (cut : List (List Entry)) (pending : List Entry) (e : Entry)
    (m : Metadata A) → m ≡ metadata_of V4 cut pending
    → with_entry (last_of None (joined cut ++ pending)) e m ≡ metadata_of V4 cut (pending ++ e ∷ [])
counted_is cut pending e m h =
    let es = joined cut ++ pending in
    rw (h, brought_is (first_key es) e.user_key, snoc_assoc (joined cut) pending e)
    (simp (count_more, after_more, lowest_more, highest_more, first_more) refl)

-- ---- room for one more

pub has_room : {A : Type 0} (cut : List (List Entry)) (pending : List Entry) (m : Metadata A)
    → m ≡ metadata_of V4 cut pending → 17 * length (joined cut) < 2 ^ 64
    → 17 * length pending < 2 ^ 32 → HasRoom m
has_room {A} cut pending m h few small =
    let es = joined cut ++ pending in
    let n = length-append (joined cut) pending in
    rw h (grind (arith, count_by-le-length, after_within, n, few, small))

pub room_still : {A : Type 0} (cs : List (List Entry)) (m : Metadata A) → HasRoom m
    → HasRoom (with_cut cs m)
room_still cs m r = grind arith

-- ---- a writer's parts after a call

pub held_more : {A : Type 0} (size : ℕ) (cut : List (List Entry)) (pending : List Entry) (n : ℕ)
    (m : Metadata A) (e : Entry)
    → IsHeld size cut pending n m → IsUnfilled size pending
    → IsTrue (may_be_written (joined cut ++ pending) e.user_key e.seqno)
    → item_fault pending e ≡ None
    → IsHeld size cut (pending ++ e ∷ []) (n + entry_size e)
    (with_entry (last_of None (joined cut ++ pending)) e m)
held_more size cut pending n m e old o f ok =
    let low : e.seqno < 2 ^ 64 - 1 = ltb-true _ _ (and_parts _ _ f).0 in
    let short = short_of pending e low ok in
    record {
      strict = rw (snoc_assoc (joined cut) pending e)
          (strict_gained (joined cut ++ pending) e old.strict f);
      fits = rw (snoc_assoc (joined cut) pending e)
          (all_append (EntryFits V4) (joined cut ++ pending) (e ∷ []) old.fits (short.0, tt));
      shortest = old.shortest;
      front = front_more size pending e o old.front;
      counted = counted_is cut pending e m old.counted;
      sized = omega (arith, old.sized, size_more pending e);
      small = omega (arith, short.1, old.sized, length-append pending (e ∷ []));
    }

cut_counted : {A : Type 0} (m : Metadata A) (cut : List (List Entry)) (pending : List Entry)
    (cs : List (List Entry)) → m ≡ metadata_of V4 cut pending
    → joined cs ++ [] ≡ joined cut ++ pending → with_cut cs m ≡ metadata_of V4 cs []
cut_counted m cut pending cs h e = rw (h, e) refl

pub held_cut : {A : Type 0} (size : ℕ) (cut : List (List Entry)) (pending : List Entry) (n : ℕ)
    (m : Metadata A)
    → IsHeld size cut pending n m
    → IsHeld size (cut ++ rest_chunk pending) [] 0 (with_cut (cut ++ rest_chunk pending) m)
held_cut {A} size cut [] n m old =
    let same : cut ++ [] ≡ cut = append-nil cut in
    let P : List (List Entry) → Type 0 = λ cs. IsHeld size cs [] 0 (with_cut cs m) in
    let made : P cut = record {
      strict = old.strict;
      fits = old.fits;
      shortest = old.shortest;
      front = old.front;
      counted = cut_counted m cut [] cut old.counted refl;
      sized = refl;
      small = omega arith;
    } in
    subst P (sym same) made
held_cut {A} size cut (e ∷ es) n m old =
    let p = e ∷ es in
    let whole : joined (cut ++ p ∷ []) ++ [] ≡ joined cut ++ p = append-nil (joined (cut ++ p ∷ []))
    ∙ joined_more cut p in
    record {
      strict = rw whole old.strict;
      fits = rw whole old.fits;
      shortest = all_append (IsShortest size) cut (p ∷ []) old.shortest
          (record { some = omega arith; shortest = old.front }, tt);
      front = λ k pos lt. absurd (omega (arith, pos, lt));
      counted = cut_counted m cut p (cut ++ p ∷ []) old.counted whole;
      sized = refl;
      small = omega arith;
    }

-- a writer's parts once an entry was taken
pub taken_held : {A : Type 0} (size : ℕ) (cut : List (List Entry)) (pending : List Entry) (n : ℕ)
    (m : Metadata A) (e : Entry) (last : Option Entry) (items : List Entry) (k : ℕ) (o : Metadata A)
    → IsHeld size cut pending n m → IsUnfilled size pending
    → IsTrue (may_be_written (joined cut ++ pending) e.user_key e.seqno)
    → item_fault pending e ≡ None → last ≡ last_of None (joined cut)
    → items ≡ pending ++ e ∷ [] → k ≡ n + entry_size e → o ≡ with_entry (last_of last pending) e m
    → IsHeld size cut items k o
taken_held {A} size cut pending n m e last items k o old room f ok l i s c =
    let before : last_of last pending ≡ last_of None (joined cut ++ pending) =
    ap (λ (x : Option Entry). last_of x pending) l
    ∙ sym (last_of-append None (joined cut) pending) in
    let meta : o ≡ with_entry (last_of None (joined cut ++ pending)) e m = c
    ∙ ap (λ (x : Option Entry). with_entry x e m) before in
    rw (i, s, meta) (held_more size cut pending n m e old room f ok)

-- and once it was counted
pub taken_counted : {A : Type 0} (size : ℕ) (cut : List (List Entry)) (pending : List Entry) (n : ℕ)
    (m : Metadata A) (e : Entry) (last : Option Entry) (items : List Entry) (k : ℕ) (t : Tally A)
    (o : Metadata A)
    → IsHeld size cut pending n m → IsUnfilled size pending
    → IsTrue (may_be_written (joined cut ++ pending) e.user_key e.seqno)
    → item_fault pending e ≡ None → last ≡ last_of None (joined cut)
    → items ≡ pending ++ e ∷ [] → k ≡ n + entry_size e
    → t ≡ tally_of (last_of last pending) e m.first_key → o ≡ added t m
    → IsHeld size cut items k o
taken_counted {A} size cut pending n m e last items k t o old room f ok l i s c a =
    taken_held size cut pending n m e last items k o old room f ok l i s
    (a ∙ ap (λ (x : Tally A). added x m) c)

-- and once its block was cut before it was counted
pub cut_held : {A : Type 0} (size : ℕ) (cut : List (List Entry)) (items : List Entry) (k : ℕ)
    (m : Metadata A) (t : Tally A) (new : List (List Entry)) (o p : Metadata A)
    → IsHeld size cut items k (added t m) → new ≡ cut ++ rest_chunk items → o ≡ with_cut new m
    → p ≡ added t o
    → IsHeld size new [] 0 p
cut_held {A} size cut items k m t new o p held n c a =
    let whole : IsHeld size new [] 0 (with_cut new (added t m)) =
    subst (λ (cs : List (List Entry)). IsHeld size cs [] 0 (with_cut cs (added t m))) (sym n)
    (held_cut size cut items k (added t m) held) in
    subst (λ (x : Metadata A). IsHeld size new [] 0 x)
    (sym (a ∙ ap (λ (x : Metadata A). added t x) c)) whole

-- what is pending encodes, as it is held
pub held_fits : {A : Type 0} (size : ℕ) (cut : List (List Entry)) (pending : List Entry) (n : ℕ)
    (m : Metadata A) → IsHeld size cut pending n m → entries_fault pending ≡ None
held_fits size cut pending n m h = no_fault pending
    (all_behind (EntryFits V4) (joined cut) pending h.fits) (omega (arith, h.sized, h.small))

-- ---- an entry that is put behind the pending ones

pub taken_unfilled : {A : Type 0} (size : ℕ) (cut : Cut) (old items : List Entry) (e : Entry)
    (k n : ℕ) (m : Metadata A) → items ≡ old ++ e ∷ [] → n ≡ k + entry_size e → k ≡ entries_size old
    → n < size
    → IsTaken (is_full size (old ++ e ∷ [])) (old ++ e ∷ []) cut m items n cut m
taken_unfilled size cut old items e k n m i s o lt =
    let sum : n ≡ entries_size (old ++ e ∷ []) = omega (arith, s, o, size_more old e) in
    let left : is_full size (old ++ e ∷ []) ≡ false = lt-leb _ _ (omega (arith, sum, lt)) in
    rw left (i, sum, refl, refl)

pub taken_full : {A : Type 0} (size : ℕ) (cut new : Cut) (old items pending : List Entry)
    (e : Entry) (k n : ℕ) (m o : Metadata A) → items ≡ old ++ e ∷ [] → n ≡ k + entry_size e
    → k ≡ entries_size old → size ≤ n
    → new.chunks ≡ cut.chunks ++ rest_chunk items → new.failed ≡ false → pending ≡ []
    → o ≡ with_cut new.chunks m
    → IsTaken (is_full size (old ++ e ∷ [])) (old ++ e ∷ []) cut m pending 0 new o
taken_full size cut new old items pending e k n m o i s q le c f p u =
    let sum : n ≡ entries_size (old ++ e ∷ []) = omega (arith, s, q, size_more old e) in
    let full : is_full size (old ++ e ∷ []) ≡ true = le-leb _ _ (omega (arith, sum, le)) in
    let one : rest_chunk items ≡ (old ++ e ∷ []) ∷ [] = ap rest_chunk i
    ∙ rest_is (old ++ e ∷ []) (omega (arith, length-append old (e ∷ []))) in
    rw full (p, refl, c ∙ ap (λ (x : List (List Entry)). cut.chunks ++ x) one, f, u)

-- an entry that is given up again
pub given_up : (pending items : List Entry) (e : Entry) (n : ℕ) → items ≡ pending ++ e ∷ []
    → n ≡ length pending → take n items ≡ pending
given_up pending items e n i k = ap (take n) i ∙ take_at pending (e ∷ []) n (sym k)
