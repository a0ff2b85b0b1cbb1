-- A list is cut into chunks in one way.
use Rattle.std.proofs.Common.{◌≡◌, refl, sym, ◌∙◌, ap, subst, ℕ, ◌+◌, ◌<◌, ◌≤◌, ◌||◌, true}
use Rattle.std.proofs.Common.{false, List, [], ◌∷◌, ◌++◌, length, take, inl, inr, length-append}
use Rattle.std.proofs.Common.{arith}
use Rattle.std.proofs.lemmas.Bool.{cases_lt}
use Rattle.std.proofs.lemmas.List.{append_cancel_left, take-append-le, take_all}
use Rattle.std.proofs.Math.Seq.{take-append_seam}
use Rattle.sst_entries.specs.Entry.{Entry}
use Rattle.sst_blocks.specs.table.Chunks.{AreChunks, AreChunksFrom, Ends, IsChunk, ends_after}
use Rattle.sst_blocks.specs.table.Chunks.{is_full}
use Rattle.sst_blocks.specs.table.Chunks.{is_spilled, joined}

-- where two lists are one, the shorter of their fronts begins the longer
begins : (short behind long rest : List Entry) → short ++ behind ≡ long ++ rest
    → length short ≤ length long → take (length short) long ≡ short
begins short behind long rest same le =
    sym (take-append-le (length short) long rest le)
    ∙ (ap (take (length short)) (sym same) ∙ take-append_seam short behind)

-- a front that ends a chunk is not shorter than the chunk
no_end_within : (size : ℕ) (spills : List ℕ) (at : ℕ) (front chunk : List Entry)
    → IsChunk size spills at chunk → 0 < length front → length front < length chunk
    → take (length front) chunk ≡ front → ends_after size spills at front (length front) ≡ true → ⊥
no_end_within size spills at front chunk is some less begun ends =
    let n = length front in
    let no_end : ends_after size spills at chunk n ≡ false = is.shortest n some less in
    let same : take n chunk ≡ take n front = begun ∙ sym (take_all n front (omega arith)) in
    let one : ends_after size spills at chunk n ≡ ends_after size spills at front n =
    ap (λ (es : List Entry). is_full size es || is_spilled spills (at + n)) same in
    let clash : true ≡ false = sym ends ∙ (sym one ∙ no_end) in
    absurd cc

-- of two cuttings, the first chunk of one is not longer than that of the other
not_longer : (size : ℕ) (spills : List ℕ) (at : ℕ) (c d rest : List Entry) (cs : List (List Entry))
    → 0 < length c → Ends size spills at c cs → IsChunk size spills at d
    → c ++ joined cs ≡ d ++ rest → length d ≤ length c
not_longer size spills at c d rest [] some ends is same =
    omega (arith, ap length same, length-append c [], length-append d rest)
not_longer size spills at c d rest (e ∷ es) some ends is same =
    elim (cases_lt (length c) (length d)) [
      | inl less ↦ absurd (no_end_within size spills at c d is some less
          (begins c (joined (e ∷ es)) d rest same (omega (arith, less))) ends)
      | inr le ↦ le
    ]

-- a cutting that has a chunk is of a list that has an entry
no_chunk : (size : ℕ) (spills : List ℕ) (at : ℕ) (c : List Entry) (cs : List (List Entry))
    → AreChunksFrom size spills at (c ∷ cs) → [] ≡ joined (c ∷ cs) → ⊥
no_chunk size spills at c cs are same = omega
    (arith, (are.0).some, ap length same, length-append c (joined cs))

one_from : (size : ℕ) (spills : List ℕ) (at : ℕ) (cs ds : List (List Entry))
    → AreChunksFrom size spills at cs → AreChunksFrom size spills at ds → joined cs ≡ joined ds
    → cs ≡ ds
one_from size spills at [] [] a b same = refl
one_from size spills at [] (d ∷ ds) a b same = absurd (no_chunk size spills at d ds b same)
one_from size spills at (c ∷ cs) [] a b same = absurd (no_chunk size spills at c cs a (sym same))
one_from size spills at (c ∷ cs) (d ∷ ds) a b same =
    let below : length d ≤ length c = not_longer size spills at c d (joined ds) cs
    (a.0).some a.1 b.0 same in
    let above : length c ≤ length d = not_longer size spills at d c (joined cs) ds
    (b.0).some b.1 a.0 (sym same) in
    let first : d ≡ c = sym (take_all (length c) d below)
    ∙ begins c (joined cs) d (joined ds) same above in
    let behind : joined cs ≡ joined ds = append_cancel_left c (joined cs) (joined ds)
    (same ∙ ap (λ (x : List Entry). x ++ joined ds) first) in
    let others : AreChunksFrom size spills (at + length c) ds =
    subst (λ (x : List Entry). AreChunksFrom size spills (at + length x) ds) first b.2 in
    let rest : cs ≡ ds = one_from size spills (at + length c) cs ds a.2 others behind in
    cc (first, rest)

-- the chunks of a list, by the size of a block and the places of spills, are one list of lists
pub one_cut : (size : ℕ) (spills : List ℕ) (es : List Entry) (cs ds : List (List Entry))
    → AreChunks size spills es cs → AreChunks size spills es ds → cs ≡ ds
one_cut size spills es cs ds a b = one_from size spills 0 cs ds a.each b.each
    (a.whole ∙ sym b.whole)
