-- The chunks that a writer cuts are those of the list.
use Rattle.std.proofs.Common.{◌≡◌, refl, ◌∙◌, ap, ℕ, ◌+◌, ◌<◌, ◌≤◌, Bool, true, false, cond, List}
use Rattle.std.proofs.Common.{[], ◌∷◌, ◌++◌, length, take, arith}
use Rattle.std.specs.Prelude.{◌==◌}
use Rattle.std.specs.List.{AllByRecursion}
use Rattle.std.proofs.lemmas.List.{take_all, append-nil}
use Rattle.std.proofs.lemmas.List.Concat.{flat_map-append}
use Rattle.std.proofs.lemmas.Bool.{eq-eqb, ne_eqb, or_from}
use Rattle.sst_entries.specs.Entry.{Entry}
use Rattle.sst_entries.proofs.Booleans.{or_right, or_left}
use Rattle.sst_blocks.specs.table.Chunks.{joined, is_full, is_spilled, ends_after, IsChunk, Ends}
use Rattle.sst_blocks.specs.table.Chunks.{AreChunksFrom, AreChunks}
use Rattle.lsm_writers.specs.Cut.{rest_chunk}
use Rattle.lsm_writers.specs.Held.{IsShortest}
use Rattle.lsm_writers.specs.Writing.{early_ends}

skip : (b : Bool) (E : List ℕ) (x p : ℕ) → (x == p) ≡ false
    → is_spilled (cond b E (x ∷ E)) p ≡ is_spilled E p
skip true E x p h = refl
skip false E x p h = rw h refl

here : (b : Bool) (E : List ℕ) (x : ℕ) → b ≡ false → is_spilled (cond b E (x ∷ E)) x ≡ true
here true E x h = absurd cc
here false E x h = rw (eq-eqb x x refl) refl

-- no chunk ends early before the first one ends
none_before : (size at : ℕ) (cs : List (List Entry)) (p : ℕ) → AllByRecursion (IsShortest size) cs
    → p ≤ at → is_spilled (early_ends size at cs) p ≡ false
unfolding early_ends
none_before size at [] p h le = refl
none_before size at (c ∷ cs) p h le =
    let past : (at + length c == p) ≡ false = ne_eqb _ _ (λ e. omega (arith, e, h.0.some, le)) in
    skip (is_full size c) (early_ends size (at + length c) cs) (at + length c) p past
    ∙ none_before size (at + length c) cs p h.1 (omega arith)

-- a chunk that is full, or has an early end
ended : (b : Bool) (size : ℕ) (S : List ℕ) (at : ℕ) (c : List Entry) (E : List ℕ)
    → is_full size c ≡ b → is_spilled S (at + length c)
    ≡ is_spilled (cond b E ((at + length c) ∷ E)) (at + length c)
    → ends_after size S at c (length c) ≡ true
ended true size S at c E f h = or_left _ _ (ap (is_full size) (take_all (length c) c (omega arith))
    ∙ f)
ended false size S at c E f h = or_right _ _ (h ∙ here false E (at + length c) refl)

ends_of : (size : ℕ) (S : List ℕ) (at : ℕ) (c : List Entry) (rest : List (List Entry))
    → ends_after size S at c (length c) ≡ true → Ends size S at c rest
ends_of size S at c [] h = tt
ends_of size S at c (d ∷ ds) h = h

chunks_from : (size : ℕ) (S : List ℕ) (at : ℕ) (cs last : List (List Entry))
    → AllByRecursion (IsShortest size) cs
    → ((p : ℕ) → at < p → is_spilled S p ≡ is_spilled (early_ends size at cs) p)
    → ((at' : ℕ) → at ≤ at' → ((p : ℕ) → at' < p → is_spilled S p ≡ false)
    → AreChunksFrom size S at' last)
    → AreChunksFrom size S at (cs ++ last)
unfolding early_ends
chunks_from size S at [] last h same end = end at (omega arith) same
chunks_from size S at (c ∷ cs) last h same end =
    let at' = at + length c in
    let E = early_ends size at' cs in
    let pos : at < at' = omega (arith, h.0.some) in
    let chunk : IsChunk size S at c = record {
      some = h.0.some;
      shortest = λ n pos' lt.
          let past : (at' == at + n) ≡ false = ne_eqb _ _ (λ e. omega (arith, e, lt)) in
          let none : is_spilled S (at + n) ≡ false = same (at + n) (omega (arith, pos'))
          ∙ skip (is_full size c) E at' (at + n) past
          ∙ none_before size at' cs (at + n) h.1 (omega (arith, lt)) in
          or_from _ _ (h.0.shortest n pos' lt) none;
    } in
    let ended' : ends_after size S at c (length c) ≡ true =
    ended (is_full size c) size S at c E refl (same at' pos) in
    let same' = λ (p : ℕ) (lt : at' < p). same p (omega (arith, lt))
    ∙ skip (is_full size c) E at' p (ne_eqb _ _ (λ e. omega (arith, e, lt))) in (
      chunk,
      ends_of size S at c (cs ++ last) ended',
      chunks_from size S at' cs last h.1 same'
          (λ n le f. end n (omega (arith, le)) f),
    )

last_chunk : (size : ℕ) (S : List ℕ) (at : ℕ) (pending : List Entry)
    → ((n : ℕ) → 0 < n → n < length pending → is_full size (take n pending) ≡ false)
    → ((p : ℕ) → at < p → is_spilled S p ≡ false) → AreChunksFrom size S at (rest_chunk pending)
last_chunk size S at [] f none = tt
last_chunk size S at (e ∷ es) f none = (
  record {
    some = omega arith;
    shortest = λ n pos lt. or_from _ _ (f n pos lt)
        (none (at + n) (omega (arith, pos)));
  },
  tt,
  tt,
)

pub joined_rest : (es : List Entry) → joined (rest_chunk es) ≡ es
joined_rest [] = refl
joined_rest (e ∷ es) = append-nil (e ∷ es)

pub are_chunks : (size : ℕ) (cut : List (List Entry)) (pending : List Entry)
    → AllByRecursion (IsShortest size) cut → ((n : ℕ) → 0 < n → n < length pending
    → is_full size (take n pending) ≡ false)
    → AreChunks size (early_ends size 0 cut) (joined cut ++ pending) (cut ++ rest_chunk pending)
are_chunks size cut pending h f =
    let rest : joined (rest_chunk pending) ≡ pending = joined_rest pending in
    record {
      whole = flat_map-append (λ (x : List Entry). x) cut (rest_chunk pending)
          ∙ ap (λ (x : List Entry). joined cut ++ x) rest;
      each = chunks_from size (early_ends size 0 cut) 0 cut (rest_chunk pending) h (λ p lt. refl)
          (λ at le none. last_chunk size (early_ends size 0 cut) at pending f none);
    }
