-- The first tables of a list are those of its front, once the next one has begun.
use Rattle.std.proofs.Common.{◌≡◌, refl, sym, ◌∙◌, ap, subst, ℕ, ◌+◌, ◌<◌, List}
use Rattle.std.proofs.Common.{[], ◌∷◌, ◌++◌, length, length-append, append_assoc, append-nil}
use Rattle.std.proofs.Common.{arith, inl, inr}
use Rattle.std.specs.Prelude.{take}
use Rattle.sst_entries.specs.Entry.{Entry}
use Rattle.sst_blocks.specs.table.Chunks.{joined}
use Rattle.lsm_writers.specs.Cut.{rest_chunk}
use Rattle.lsm_writers.specs.Tables.{AreCuts, AreTables, EndsCut, IsCut, cut_len}
use Rattle.lsm_writers.proofs.AllTables.{joined_all}
use Rattle.lsm_writers.proofs.OneCut.{fronts, nothing_more, same_joint}

-- a table is not longer than one after which another table begins
ends_there : (size target : ℕ) (u c b d : List Entry) (us : List (List Entry))
    → IsCut size target (u ++ c) → EndsCut size target u us → AreCuts size target us
    → (us ≡ [] → ⊥) → joined us ++ d ≡ c ++ b → c ≡ []
ends_there size target u [] b d us cut ends cuts some h = refl
ends_there size target u (y ∷ c) b d [] cut ends cuts some h = absurd (some refl)
ends_there size target u (y ∷ c) b d ([] ∷ us) cut ends cuts some h =
    absurd (omega (arith, (cuts.0).some))
ends_there size target u (y ∷ c) b d ((v ∷ vs) ∷ us) cut ends cuts some h =
    let is : v ∷ ((vs ++ joined us) ++ d) ≡ y ∷ (c ++ b) = h in
    let same : v ≡ y = cc in
    let short : cut_len size u < target = cut.shortest u (y ∷ c) refl
    (same_joint u v y vs c same ends.0) in
    absurd (omega (arith, short, ends.1))

both_heads : (t u : List Entry) (ts us : List (List Entry)) → t ≡ u → ts ≡ us → t ∷ ts ≡ u ∷ us
both_heads t u ts us first rest = rw (first, rest) refl

more_tables : (us : List (List Entry)) (v : List Entry) → us ++ v ∷ [] ≡ [] → ⊥
more_tables [] v h = cc
more_tables (u ∷ us) v h = cc

-- the tables before the last one of a front are the first ones of the list
fronts_by : (size target : ℕ) (us ts : List (List Entry)) (v d : List Entry)
    → AreCuts size target (us ++ v ∷ []) → AreCuts size target ts
    → joined ts ≡ joined (us ++ v ∷ []) ++ d → take (length us) ts ≡ us
fronts_by size target [] ts v d a b h = refl
fronts_by size target (u ∷ us) [] v d a b h =
    let whole : [] ≡ u ++ (joined (us ++ v ∷ []) ++ d) =
    h ∙ append_assoc u (joined (us ++ v ∷ [])) d in
    absurd (omega (arith, (a.0).some, ap length whole, length-append u (joined (us ++ v ∷ []) ++ d)))
fronts_by size target (u ∷ us) (t ∷ ts) v d a b h =
    let rest = joined (us ++ v ∷ []) in
    let whole : t ++ joined ts ≡ u ++ (rest ++ d) = h ∙ append_assoc u rest d in
    elim (fronts t u (joined ts) (rest ++ d) whole) [
      | inl left ↦
          let none : left.0 ≡ [] = nothing_more size target t left.0 (rest ++ d) ts
          (subst (IsCut size target) left.1 a.0) b.1 b.2 left.2 in
          let same : u ≡ t = left.1 ∙ ap (λ (x : List Entry). t ++ x) none ∙ append-nil t in
          let more : joined ts ≡ rest ++ d =
          left.2 ∙ ap (λ (x : List Entry). x ++ (rest ++ d)) none in
          both_heads t u (take (length us) ts) us (sym same)
          (fronts_by size target us ts v d a.2 b.2 more)
      | inr left ↦
          let none : left.0 ≡ [] = ends_there size target u left.0 (joined ts) d (us ++ v ∷ [])
          (subst (IsCut size target) left.1 b.0) a.1 a.2 (more_tables us v) left.2 in
          let same : t ≡ u = left.1 ∙ ap (λ (x : List Entry). u ++ x) none ∙ append-nil u in
          let more : rest ++ d ≡ joined ts =
          left.2 ∙ ap (λ (x : List Entry). x ++ joined ts) none in
          both_heads t u (take (length us) ts) us same
          (fronts_by size target us ts v d a.2 b.2 (sym more))
    ]

-- the same, where the last one may be empty
pub first_tables : (size target : ℕ) (us ts : List (List Entry)) (t d : List Entry)
    → (t ≡ [] → us ≡ []) → AreCuts size target (us ++ rest_chunk t)
    → AreTables size target ((joined us ++ t) ++ d) ts → take (length us) ts ≡ us
first_tables size target us ts [] d begun cuts all =
    let none : us ≡ [] = begun refl in
    subst (λ (xs : List (List Entry)). take (length xs) ts ≡ xs) (sym none) refl
first_tables size target us ts (x ∷ t) d begun cuts all =
    fronts_by size target us ts (x ∷ t) d cuts all.each
    (all.whole ∙ ap (λ (ys : List Entry). ys ++ d) (sym (joined_all us (x ∷ t))))
