-- The entries within bounds, in the blocks that handles name between their edges, are those of the
-- list whose chunks they name.
use Rattle.std.proofs.Common.{◌≡◌, ℕ, ◌+◌, ◌-◌, ◌^◌, ◌<◌, Bool, true, false, cond, nat_lt, ◌==◌}
use Rattle.std.proofs.Common.{List, [], ◌∷◌, ◌++◌, filter, refl, sym, ap, subst, ◌∙◌, arith}
use Rattle.std.specs.Prelude.{Option, Some, None, Result, Ok, not, ◌&&◌}
use Rattle.std.specs.List.{AllByRecursion, AllZip, flat_map}
use Rattle.std.specs.declared.ops.Bound.{Bound}
use Rattle.std.specs.declared.ops.Bound.TheVariants.{Included, Excluded, Unbounded}
use Rattle.std.specs.declared.cmp.Ordering.{Ordering}
use Rattle.std.specs.declared.cmp.Ordering.TheVariants.{Less, Equal, Greater}
use Rattle.std.specs.Ordering.{is_lt, nat_cmp, ordering_reverse, ordering_then}
use Rattle.std.specs.Cmp.Lexicographic.{nat_list_cmp_total, slice_cmp}
use Rattle.std.proofs.lemmas.Bool.{lt-ltb}
use Rattle.std.proofs.lemmas.List.{map-append}
use Rattle.std.proofs.lemmas.List.Elements.{filter-append}
use Rattle.sst_entries.specs.declared.error.Error.{Error}
use Rattle.sst_entries.specs.declared.value_type.ValueType.TheVariants.{Value}
use Rattle.sst_entries.specs.Entry.{Entry, entry}
use Rattle.sst_entries.specs.Key.{key_lt}
use Rattle.sst_entries.specs.Point.{is_from, is_to, within}
use Rattle.sst_entries.specs.Stream.{ok_results}
use Rattle.sst_entries.specs.Strict.{IsStrict, IsStrictAfter, is_before, last_of}
use Rattle.sst_entries.proofs.Booleans.{and_false, apart, is_false}
use Rattle.sst_entries.proofs.KeyLemmas.{le_itself}
use Rattle.sst_entries.proofs.Lists.{all_behind, all_front, all_more}
use Rattle.sst_entries.proofs.OrderLemmas.{before_trans, lt_of_cond, lt_trans}
use Rattle.sst_entries.proofs.Strictness.{strict_front, strict_back}
use Rattle.sst_blocks.specs.Block.{Loaded}
use Rattle.sst_blocks.specs.Handle.{Handle}
use Rattle.sst_blocks.specs.Handles.{is_above, reaches, up_to_first, window}
use Rattle.sst_blocks.proofs.Reaching.{above_reaches, reaches_after}
use Rattle.lsm_sorted.proofs.PackLemmas.{filter-cons_no}
use Rattle.sst_blocks.specs.table.Chunks.{joined}
use Rattle.sst_blocks.specs.table.Facts.{highest_seqno}
use Rattle.sst_blocks.specs.table.Index.{last_entry}
use Rattle.lsm_iters.specs.Bounds.{lower_edge, upper_edge}
use Rattle.lsm_iters.specs.Lift.{lift, lift_results, lifted, lifted_result}
use Rattle.lsm_iters.specs.Rows.{Bounded, block_rows, rows, rows_in}
use Rattle.lsm_readers.proofs.ChunkReads.{later, not_before}
use Rattle.lsm_readers.proofs.FileLengths.{last_some}
use Rattle.lsm_readers.proofs.Scans.{lifted_ok}
use Rattle.lsm_readers.proofs.Windows.{StopsAt, all_to, skip_back, skip_front}
use Rattle.lsm_readers.specs.Stored.{NamesChunk}
use Rattle.lsm_readers.proofs.StoredChunks.{chunk_reaches}
use Rattle.lsm_readers.proofs.PartWindows.{from_test, to_test, window_is}

-- ---- keys beside an edge

-- where an entry does not come after a read at a higher number, its key is below
below_order : (o : Ordering) (n bound : ℕ) → n < bound
    → is_lt (ordering_then o (nat_cmp n bound)) ≡ false → is_lt (ordering_reverse o) ≡ true
below_order Less n bound lt early = absurd (let wrong : true ≡ false = early in cc)
below_order Equal n bound lt early = absurd (apart (nat_lt n bound) (lt-ltb n bound lt)
    (sym (lt_of_cond (nat_lt n bound) (n == bound)) ∙ early))
below_order Greater n bound lt early = refl

below_key : (key : List ℕ) (bound : ℕ) (e : Entry) → e.seqno < bound
    → is_before (entry key [] bound Value) e ≡ false → key_lt e.user_key key ≡ true
below_key key bound e lt early = ap is_lt (nat_list_cmp_total.antisymm e.user_key key)
    ∙ below_order (slice_cmp nat_cmp key e.user_key) e.seqno bound lt early

not_both : (a b : List ℕ) → key_lt a b ≡ true → key_lt b a ≡ false
not_both a b up = is_false (key_lt b a) (λ down. apart (key_lt a a) (lt_trans a b a up down)
    (le_itself a))

-- the handle of a block that ends with the entry
abbrev ending : Entry → Handle
ending e = record { end_key = e.user_key; seqno = e.seqno; offset = 0; size = 0 }

above_is : (key : List ℕ) (e : Entry) → key_lt key e.user_key ≡ is_before (entry key [] 0 Value) e
above_is key e = above_reaches key (ending e) ∙ reaches_after key 0 (ending e)

-- what stands behind an entry above a key is above it
all_above : (key : List ℕ) (x : Entry) (es : List Entry) → IsStrictAfter (Some x) es
    → key_lt key x.user_key ≡ true → AllByRecursion (λ e. key_lt key e.user_key ≡ true) es
unfolding IsStrictAfter
all_above key x [] strict above = tt
all_above key x (y ∷ ys) strict above =
    let up : key_lt key y.user_key ≡ true = above_is key y
    ∙ before_trans (entry key [] 0 Value) x y (sym (above_is key x) ∙ above) strict.0 in
    (up, all_above key y ys strict.1 up)

-- an entry that leaves room for a number above its own
abbrev pub LeavesRoom : Entry → Type 0
LeavesRoom e = e.seqno < 2 ^ 64 - 1

-- and what stands before one that does not come after a read at a higher number is below its key
all_below : (key : List ℕ) (last : Option Entry) (x : Entry) (xs : List Entry)
    → IsStrictAfter last (x ∷ xs) → AllByRecursion LeavesRoom (x ∷ xs)
    → is_before (entry key [] (2 ^ 64 - 1) Value) (last_entry (x ∷ xs)) ≡ false
    → AllByRecursion (λ e. key_lt e.user_key key ≡ true) (x ∷ xs)
unfolding IsStrictAfter last_of
all_below key last x [] strict room early = (below_key key (2 ^ 64 - 1) x room.0 early, tt)
all_below key last x (y ∷ ys) strict room early =
    let here = not_before key (2 ^ 64 - 1) x (last_entry (y ∷ ys))
    (later x y ys strict.1) early in (
      below_key key (2 ^ 64 - 1) x room.0 here,
      all_below key (Some x) y ys strict.1 room.1 early,
    )

-- ---- entries beside the bounds

none_within : (low high : Bound (List ℕ)) (es : List Entry)
    → AllByRecursion (λ e. (is_from low e.user_key && is_to high e.user_key) ≡ false) es
    → within low high es ≡ []
none_within low high [] h = refl
none_within low high (e ∷ es) h = filter-cons_no
    (λ (e : Entry). is_from low e.user_key && is_to high e.user_key) e es h.0
    ∙ none_within low high es h.1

not_from : (low high : Bound (List ℕ)) (key : List ℕ) → is_from low key ≡ false
    → (is_from low key && is_to high key) ≡ false
not_from low high key h = ap (λ (b : Bool). b && is_to high key) h

not_to : (low high : Bound (List ℕ)) (key : List ℕ) → is_to high key ≡ false
    → (is_from low key && is_to high key) ≡ false
not_to low high key h = and_false (is_from low key) (is_to high key) h

-- ---- the rows of chunks

module _ (body : List ℕ) (g : ℕ) (low high : Bound (List ℕ)) where
  abbrev bounded : Bounded
  bounded = record { body = body; global_seqno = g; low = low; high = high }

  abbrev row : Handle → List (Result Entry Error)
  row h = block_rows bounded h

  abbrev returned : List Entry → List (Result Entry Error)
  returned es = lift_results g (within low high es)

  -- a handle has the rows of its chunk
  row_is : (h : Handle) (c : List Entry) → NamesChunk body h c → row h ≡ returned c
  row_is h c n = ap (λ (r : Result Loaded Error). rows_in bounded r) n.loads ∙ ap returned n.entries

  -- those of all are those of the list
  rows_whole : (hs : List Handle) (cs : List (List Entry)) → AllZip (NamesChunk body) hs cs
      → flat_map row hs ≡ returned (joined cs)
  rows_whole [] [] named = refl
  rows_whole [] (c ∷ cs) named = absurd named
  rows_whole (h ∷ hs) [] named = absurd named
  rows_whole (h ∷ hs) (c ∷ cs) named =
      let p = λ (e : Entry). is_from low e.user_key && is_to high e.user_key in
      ap (λ (rs : List (Result Entry Error)). rs ++ flat_map row hs) (row_is h c named.0)
      ∙ ap (λ (rs : List (Result Entry Error)). returned c ++ rs) (rows_whole hs cs named.1)
      ∙ sym (map-append (lifted_result g) (filter p c) (filter p (joined cs)))
      ∙ ap (lift_results g) (sym (filter-append p c (joined cs)))

  -- a block before the first that may hold the lower bound's key has none
  module _ (key : List ℕ) (none : (k : List ℕ) → key_lt k key ≡ true → is_from low k ≡ false) where
    early_rows : (last : Option Entry) (hs : List Handle) (cs : List (List Entry))
        → AllZip (NamesChunk body) hs cs → IsStrictAfter last (joined cs)
        → AllByRecursion LeavesRoom (joined cs)
        → AllByRecursion (λ h. reaches key (2 ^ 64 - 1) h ≡ false → row h ≡ []) hs
    early_rows last [] [] named strict room = tt
    early_rows last [] (c ∷ cs) named strict room = absurd named
    early_rows last (h ∷ hs) [] named strict room = absurd named
    early_rows last (h ∷ hs) ([] ∷ cs) named strict room =
        absurd (omega (arith, (named.0).some))
    early_rows last (h ∷ hs) ((x ∷ xs) ∷ cs) named strict room =
        let c : List Entry = x ∷ xs in
        let P : Entry → Type 0 = λ e. key_lt e.user_key key ≡ true in
        let Q : Entry → Type 0 = λ e. (is_from low e.user_key && is_to high e.user_key) ≡ false in
        let here : reaches key (2 ^ 64 - 1) h ≡ false → row h ≡ [] = λ early.
        let before = all_below key last x xs (strict_front last c (joined cs) strict)
        (all_front LeavesRoom c (joined cs) room)
        (sym (chunk_reaches body h c named.0 key (2 ^ 64 - 1)) ∙ early) in
        let beside = all_more P Q (λ e lt. not_from low high e.user_key (none e.user_key lt)) c
        before in
        row_is h c named.0 ∙ ap (lift_results g) (none_within low high c beside) in (
          here,
          early_rows (last_of last c) hs cs named.1 (strict_back last c (joined cs) strict)
              (all_behind LeavesRoom c (joined cs) room),
        )

  -- and so has each behind the first that ends above the upper bound's key
  module _ (key : List ℕ) (none : (k : List ℕ) → key_lt key k ≡ true → is_to high k ≡ false) where
    late_rows : (last : Option Entry) (hs : List Handle) (cs : List (List Entry))
        → AllZip (NamesChunk body) hs cs → IsStrictAfter last (joined cs)
        → StopsAt row (is_above key) hs
    unfolding last_of
    late_rows last [] [] named strict = tt
    late_rows last [] (c ∷ cs) named strict = absurd named
    late_rows last (h ∷ hs) [] named strict = absurd named
    late_rows last (h ∷ hs) ([] ∷ cs) named strict = absurd (omega (arith, (named.0).some))
    late_rows last (h ∷ hs) ((x ∷ xs) ∷ cs) named strict =
        let c : List Entry = x ∷ xs in
        let P : Entry → Type 0 = λ e. key_lt key e.user_key ≡ true in
        let Q : Entry → Type 0 = λ e. (is_from low e.user_key && is_to high e.user_key) ≡ false in
        let rest = strict_back last c (joined cs) strict in
        let behind : IsStrictAfter (Some (last_entry c)) (joined cs) =
        subst (λ (l : Option Entry). IsStrictAfter l (joined cs)) (last_some x xs) rest in
        let here : is_above key h ≡ true → flat_map row hs ≡ [] = λ above.
        let end : key_lt key (last_entry c).user_key ≡ true =
        ap (key_lt key) (sym (named.0).end_key) ∙ above in
        let beside = all_more P Q (λ e lt. not_to low high e.user_key (none e.user_key lt))
        (joined cs) (all_above key (last_entry c) (joined cs) behind end) in
        rows_whole hs cs named.1 ∙ ap (lift_results g) (none_within low high (joined cs) beside) in
        (here, late_rows (last_of last c) hs cs named.1 rest)

-- ---- by the bounds

any : (P : Handle → Type 0) → ((h : Handle) → P h) → (hs : List Handle) → AllByRecursion P hs
any P each [] = tt
any P each (h ∷ hs) = (each h, any P each hs)

never_stops : (R : Handle → List (Result Entry Error)) (hs : List Handle)
    → StopsAt R (λ h. false) hs
never_stops R [] = tt
never_stops R (h ∷ hs) = ((λ wrong. absurd cc), never_stops R hs)

module _ (body : List ℕ) (g : ℕ) (hs : List Handle) (cs : List (List Entry))
    (named : AllZip (NamesChunk body) hs cs) (strict : IsStrict (joined cs))
    (room : AllByRecursion LeavesRoom (joined cs)) where
  low_rows : (low high : Bound (List ℕ)) → AllByRecursion (λ h. from_test (lower_edge low) h ≡ false
      → block_rows (bounded body g low high) h ≡ []) hs
  low_rows (Included key) high = early_rows body g (Included key) high key
      (λ k lt. ap not lt) None hs cs named strict room
  low_rows (Excluded key) high = early_rows body g (Excluded key) high key
      (λ k lt. not_both k key lt) None hs cs named strict room
  low_rows Unbounded high = any (λ h. true ≡ false
      → block_rows (bounded body g Unbounded high) h ≡ []) (λ h wrong. absurd cc) hs

  high_rows : (low high : Bound (List ℕ))
      → StopsAt (block_rows (bounded body g low high)) (to_test (upper_edge high)) hs
  high_rows low (Included key) = late_rows body g low (Included key) key
      (λ k lt. ap not lt) None hs cs named strict
  high_rows low (Excluded key) = late_rows body g low (Excluded key) key
      (λ k lt. not_both key k lt) None hs cs named strict
  high_rows low Unbounded = never_stops (block_rows (bounded body g low Unbounded)) hs

rows_ok : (b : Bounded) (hs : List Handle) → rows b (ok_results hs) ≡ flat_map (block_rows b) hs
rows_ok b [] = refl
rows_ok b (h ∷ hs) = ap (λ (rs : List (Result Entry Error)). block_rows b h ++ rs) (rows_ok b hs)

-- where the highest number fits, those of a list are its lifted entries within the bounds
list_step : (b : Bool) (r : Result Entry Error) (e : Entry) (xs : List Entry) (ys : List Entry)
    (g : ℕ) → r ≡ Ok e → lift_results g xs ≡ ok_results ys → (x : Entry) → lifted_result g x ≡ r
    → lift_results g (cond b (x ∷ xs) xs) ≡ ok_results (cond b (e ∷ ys) ys)
list_step true r e xs ys g is more x returned = rw (returned ∙ is, more) refl
list_step false r e xs ys g is more x returned = more

list_rows : (g : ℕ) (low high : Bound (List ℕ)) (es : List Entry) → highest_seqno es + g < 2 ^ 64
    → lift_results g (within low high es) ≡ ok_results (within low high (lift es g))
unfolding highest_seqno
list_rows g low high [] fits = refl
list_rows g low high (e ∷ es) fits =
    let here : e.seqno + g < 2 ^ 64 = omega (arith, fits) in
    let more : highest_seqno es + g < 2 ^ 64 = omega (arith, fits) in
    list_step (is_from low e.user_key && is_to high e.user_key) (lifted_result g e) (lifted g e)
    (within low high es) (within low high (lift es g)) g (lifted_ok g e here)
    (list_rows g low high es more) e refl

-- ---- the rows between the edges

module _ (body : List ℕ) (g : ℕ) (hs : List Handle) (cs : List (List Entry))
    (named : AllZip (NamesChunk body) hs cs) (strict : IsStrict (joined cs))
    (room : AllByRecursion LeavesRoom (joined cs))
    (fits : highest_seqno (joined cs) + g < 2 ^ 64) where
  pub window_rows : (low high : Bound (List ℕ)) → rows (bounded body g low high)
      (ok_results (window hs (lower_edge low) (upper_edge high)))
      ≡ ok_results (within low high (lift (joined cs) g))
  window_rows low high =
      let b = bounded body g low high in
      let lo = lower_edge low in
      let hi = upper_edge high in
      let early = low_rows body g hs cs named strict room low high in
      rows_ok b (window hs lo hi)
      ∙ ap (flat_map (block_rows b)) (window_is hs lo hi)
      ∙ skip_front (block_rows b) (from_test lo) (up_to_first (to_test hi) hs)
      (all_to (λ h. from_test lo h ≡ false → block_rows b h ≡ []) (to_test hi) hs early)
      ∙ skip_back (block_rows b) (to_test hi) hs (high_rows body g hs cs named strict room low high)
      ∙ rows_whole body g low high hs cs named
      ∙ list_rows g low high (joined cs) fits
