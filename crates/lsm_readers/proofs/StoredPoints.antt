-- A point read over handles that name chunks of a strict list is the first match in the list.
use Rattle.std.proofs.Common.{◌≡◌, ℕ, ◌+◌, ◌-◌, ◌≤◌, Bool, true, false, cond, ltb, List, [], ◌∷◌}
use Rattle.std.proofs.Common.{◌++◌, refl, sym, ap, subst, ◌∙◌, arith, inl, inr}
use Rattle.std.specs.Prelude.{Option, Some, None, Result, Ok, find, ◌&&◌}
use Rattle.std.specs.List.{AllZip}
use Rattle.std.specs.Option.{option_map}
use Rattle.std.proofs.lemmas.Bool.{cases_lt, lt-ltb, le-ltb, ltb-false}
use Rattle.std.proofs.Math.Bool.{and-false}
use Rattle.sst_blocks.specs.filter.KeyHash.{hash_of}
use Rattle.sst_entries.specs.declared.error.Error.{Error}
use Rattle.sst_entries.specs.Entry.{Entry}
use Rattle.sst_entries.specs.Key.{same_key}
use Rattle.sst_entries.specs.Point.{is_hit, point}
use Rattle.sst_entries.specs.Strict.{IsStrict, IsStrictAfter, last_of}
use Rattle.sst_entries.proofs.Strictness.{strict_back, strict_front}
use Rattle.sst_blocks.specs.Block.{Loaded, entries_of}
use Rattle.sst_blocks.specs.Handle.{Handle}
use Rattle.sst_blocks.specs.Handles.{reaches}
use Rattle.sst_blocks.specs.Place.{Place, place_of}
use Rattle.sst_blocks.specs.table.Chunks.{joined}
use Rattle.sst_blocks.specs.table.Facts.{lowest_seqno}
use Rattle.sst_blocks.specs.table.Filters.{keys_of}
use Rattle.lsm_readers.specs.point.Answer.{answer, filter_admits, handle_for, lift, lifted}
use Rattle.lsm_readers.specs.point.Answer.{match_at}
use Rattle.lsm_readers.specs.point.Answer.{match_in}
use Rattle.lsm_readers.specs.point.Parts.{Parts}
use Rattle.lsm_readers.specs.point.Read.{◌>>=◌, known, read_then}
use Rattle.lsm_readers.specs.Stored.{NamesChunk}
use Rattle.lsm_readers.proofs.ChunkReads.{chunk_here, chunk_passed}
use Rattle.lsm_readers.proofs.FileFilters.{Asked}
use Rattle.lsm_readers.proofs.FilterReads.{no_entry}
use Rattle.lsm_readers.proofs.StoredChunks.{chunk_reaches}
use Rattle.lsm_readers.proofs.StoredIndex.{ReportsHandles}

-- ---- numbers with the global number added

lifted_hit : (key : List ℕ) (g bound : ℕ) (e : Entry)
    → is_hit key bound (lifted g e) ≡ is_hit key (bound - g) e
lifted_hit key g bound e = ap (λ (b : Bool). same_key e.user_key key && b)
    (lt_lifted e.seqno g bound)
  where
    lt_lifted : (n g s : ℕ) → ltb (n + g) s ≡ ltb n (s - g)
    lt_lifted n g s = elim (cases_lt (n + g) s) [
      | inl lt ↦ lt-ltb (n + g) s lt ∙ sym (lt-ltb n (s - g) (omega arith))
      | inr le ↦ le-ltb (n + g) s le ∙ sym (le-ltb n (s - g) (omega arith))
    ]

found_lifted : (g : ℕ) (e : Entry) (o : Option Entry) (p : Option Entry) (b : Bool)
    → p ≡ option_map (lifted g) o → cond b (Some (lifted g e)) p
    ≡ option_map (lifted g) (cond b (Some e) o)
found_lifted g e o p true h = refl
found_lifted g e o p false h = h

pub point_lifted : (es : List Entry) (g : ℕ) (key : List ℕ) (bound : ℕ)
    → point (lift es g) key bound ≡ option_map (lifted g) (point es key (bound - g))
unfolding point
point_lifted [] g key bound = refl
point_lifted (e ∷ es) g key bound =
    rw (lifted_hit key g bound e) (found_lifted g e (find (is_hit key (bound - g)) es)
    (find (is_hit key bound) (lift es g)) (is_hit key (bound - g) e)
    (point_lifted es g key bound))

-- ---- nothing is numbered below the lowest number

high_missed : (key : List ℕ) (bound : ℕ) (e : Entry) → bound ≤ e.seqno → is_hit key bound e ≡ false
high_missed key bound e high = rw (le-ltb e.seqno bound high) (and-false (same_key e.user_key key))

none_low : (es : List Entry) (key : List ℕ) (bound : ℕ) → bound ≤ lowest_seqno es
    → find (is_hit key bound) es ≡ None
unfolding lowest_seqno
none_low [] key bound low = refl
none_low (e ∷ es) key bound low =
    let here : bound ≤ e.seqno = omega (arith, low) in
    rw (high_missed key bound e here) (none_low es key bound (omega (arith, low)))

-- ---- a read of the chunks by their handles

module _ (body : List ℕ) (g : ℕ) (key : List ℕ) (low : ℕ) where
  abbrev found : List Entry → Result (Option Entry) Error
  found es = Ok (option_map (lifted g) (find (is_hit key low) es))

  -- the read of one chunk by its handle
  chunk_result : (h : Handle) (c : List Entry) → NamesChunk body h c
      → (match_at body g key low (place_of h)).returned ≡ found c
  unfolding point
  chunk_result h c n = ap (λ (r : Result Loaded Error). r
      >>= λ b. Ok (option_map (lifted g) (point (entries_of b) key low))) n.loads
      ∙ ap found n.entries

  -- a read that rests on the chunk of a handle, if there is one
  abbrev Reads : Option Handle → List Entry → Type 0
  Reads o es = (match_in body g key low (option_map place_of o)).returned ≡ found es

  decided : (last : Option Entry) (h : Handle) (x : Entry) (xs rest : List Entry)
      (o : Option Handle) → NamesChunk body h (x ∷ xs) → IsStrictAfter last ((x ∷ xs) ++ rest)
      → (b : Bool) → reaches key low h ≡ b → Reads o rest
      → Reads (cond b (Some h) o) ((x ∷ xs) ++ rest)
  decided last h x xs rest o n strict true late more =
      chunk_result h (x ∷ xs) n ∙ ap (λ (p : Option Entry). Ok (option_map (lifted g) p))
      (sym (chunk_here key low last x xs rest strict
      (sym (chunk_reaches body h (x ∷ xs) n key low) ∙ late)))
  decided last h x xs rest o n strict false early more =
      more ∙ ap (λ (p : Option Entry). Ok (option_map (lifted g) p))
      (sym (chunk_passed key low last x xs rest (strict_front last (x ∷ xs) rest strict)
      (sym (chunk_reaches body h (x ∷ xs) n key low) ∙ early)))

  chunks_read : (last : Option Entry) (hs : List Handle) (cs : List (List Entry))
      → AllZip (NamesChunk body) hs cs → IsStrictAfter last (joined cs)
      → Reads (find (reaches key low) hs) (joined cs)
  chunks_read last [] [] named strict = refl
  chunks_read last [] (c ∷ cs) named strict = absurd named
  chunks_read last (h ∷ hs) [] named strict = absurd named
  chunks_read last (h ∷ hs) ([] ∷ cs) named strict = absurd (omega (arith, (named.0).some))
  chunks_read last (h ∷ hs) ((x ∷ xs) ∷ cs) named strict =
      decided last h x xs (joined cs) (find (reaches key low) hs) named.0 strict
      (reaches key low h) refl (chunks_read (last_of last (x ∷ xs)) hs cs named.1
      (strict_back last (x ∷ xs) (joined cs) strict))

  -- no entry of a list has the key
  none_found : (es : List Entry) → find (is_hit key low) es ≡ None
      → (match_in body g key low None).returned ≡ found es
  none_found es none = rw none refl

-- ---- a read that asks the filter, then the index, then a data block

module _ (body : List ℕ) (g : ℕ) (parts : Parts) (hs : List Handle) (cs : List (List Entry))
    (named : AllZip (NamesChunk body) hs cs) (strict : IsStrict (joined cs))
    (index : ReportsHandles body parts.regions.tli hs parts.pinned.index)
    (asks : (key : List ℕ) → Asked (filter_admits body parts.pinned.filter_tops
    parts.pinned.filter parts.regions.filter key (hash_of key)).returned (keys_of (joined cs)) key)
    (lowest : parts.facts.seqno_min ≡ lowest_seqno (joined cs)) where
  abbrev es : List Entry
  es = joined cs

  module _ (key : List ℕ) (low : ℕ) where
    abbrev rest : Result (Option Place) Error → Result (Option Entry) Error
    rest returned = returned >>= λ place. (match_in body g key low place).returned

    -- behind a yes the index is asked, and behind a no there is nothing
    behind_answer : (answer : Bool) → (asks key).answer ≡ answer
        → rest (handle_for body parts key low answer).returned ≡ found body g key low es
    behind_answer true admitted = ap rest (index.finds key low)
        ∙ chunks_read body g key low None hs cs named strict
    behind_answer false denied = none_found body g key low es
        (no_entry es key low ((asks key).no denied))

    low_or_read : (high : Bool) → ltb parts.facts.seqno_min low ≡ high
        → (read_then (read_then (cond high (filter_admits body parts.pinned.filter_tops
        parts.pinned.filter parts.regions.filter key (hash_of key)) (known false))
        (handle_for body parts key low)) (match_in body g key low)).returned
        ≡ found body g key low es
    low_or_read false e = none_found body g key low es (none_low es key low
        (subst (λ (n : ℕ). low ≤ n) lowest (ltb-false _ _ e)))
    low_or_read true e =
        ap (λ (r : Result Bool Error). rest (r >>= λ b. (handle_for body parts key low b).returned))
        (asks key).reported_is ∙ behind_answer (asks key).answer refl

  lifted_point : (key : List ℕ) (bound : ℕ) → point (lift es g) key bound
      ≡ option_map (lifted g) (find (is_hit key (bound - g)) es)
  unfolding point
  lifted_point key bound = point_lifted es g key bound

  -- a point read answers the first match, its number with the global number added
  pub reads_first : (key : List ℕ) (bound : ℕ)
      → (answer body g parts key bound).returned ≡ Ok (point (lift es g) key bound)
  unfolding answer
  reads_first key bound =
      low_or_read key (bound - g) (ltb parts.facts.seqno_min (bound - g)) refl
      ∙ ap (λ (o : Option Entry). Ok o) (sym (lifted_point key bound))
