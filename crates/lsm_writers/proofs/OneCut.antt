-- Each list is cut into tables, and in one way.
use Rattle.std.proofs.Common.{◌≡◌, refl, sym, ◌∙◌, ap, subst, ℕ, ◌<◌, Bool, true, false, List, []}
use Rattle.std.proofs.Common.{◌∷◌, ◌++◌, append_assoc, append-nil, arith, ◌⊎◌, inl, inr}
use Rattle.std.specs.Prelude.{◌&&◌, nat_le}
use Rattle.std.proofs.lemmas.Bool.{leb-false, leb-true}
use Rattle.sst_entries.specs.Entry.{Entry}
use Rattle.sst_entries.proofs.Booleans.{and_parts}
use Rattle.sst_blocks.specs.table.Chunks.{joined}
use Rattle.lsm_writers.specs.Cut.{rest_chunk}
use Rattle.lsm_writers.specs.Tables.{AreCuts, CutLaw, EndsCut, HasTables, IsCut, OneCutLaw, apart}
use Rattle.lsm_writers.specs.Tables.{cut_len}
use Rattle.lsm_writers.proofs.AllTables.{joined_all}
use Rattle.lsm_writers.proofs.CutTables.{apart_first, apart_none, cuts_longer, cuts_next, no_end}
use Rattle.lsm_writers.proofs.CutTables.{not_due}
use Rattle.lsm_writers.proofs.Cutting.{joined_more}

-- ---- there is one

-- whatever tables stand before some entries, the last of them may be written on
abbrev GoesOnWith : ℕ → ℕ → List Entry → Type 0
GoesOnWith size target es = (ts : List (List Entry)) (t : List Entry) → (t ≡ [] → ts ≡ [])
    → AreCuts size target (ts ++ rest_chunk t) → HasTables size target ((joined ts ++ t) ++ es)

-- an entry more begins a table where the last one ends with a key and has reached the target
one_more : (size target : ℕ) (ts : List (List Entry)) (t : List Entry) (e : Entry) (es : List Entry)
    (due : Bool) → (apart t (e ∷ []) && nat_le target (cut_len size t)) ≡ due
    → GoesOnWith size target es → (t ≡ [] → ts ≡ []) → AreCuts size target (ts ++ rest_chunk t)
    → HasTables size target ((joined ts ++ t) ++ e ∷ es)
one_more size target ts t e es true h more begun cuts =
    let p = and_parts (apart t (e ∷ [])) (nat_le target (cut_len size t)) h in
    let some : t ≡ [] → ⊥ = λ none. apart_none (e ∷ [])
    (subst (λ (x : List Entry). apart x (e ∷ []) ≡ true) none p.0) in
    let next = cuts_next size target ts t e some cuts p.0 (leb-true _ _ p.1) in
    let same : (joined (ts ++ t ∷ []) ++ e ∷ []) ++ es ≡ (joined ts ++ t) ++ e ∷ es =
    ap (λ (x : List Entry). (x ++ e ∷ []) ++ es) (joined_more ts t)
    ∙ append_assoc (joined ts ++ t) (e ∷ []) es in
    subst (HasTables size target) same (more (ts ++ t ∷ []) (e ∷ [])
    (λ none. absurd (no_end [] e none)) next)
one_more size target ts t e es false h more begun cuts =
    let short : apart t (e ∷ []) ≡ true → cut_len size t < target =
    λ joint. leb-false _ _ (not_due (apart t (e ∷ []))
    (nat_le target (cut_len size t)) h joint) in
    let longer = cuts_longer size target ts t e begun cuts short in
    let same : (joined ts ++ (t ++ e ∷ [])) ++ es ≡ (joined ts ++ t) ++ e ∷ es =
    ap (λ (x : List Entry). x ++ es) (sym (append_assoc (joined ts) t (e ∷ [])))
    ∙ append_assoc (joined ts ++ t) (e ∷ []) es in
    subst (HasTables size target) same (more ts (t ++ e ∷ [])
    (λ none. absurd (no_end t e none)) longer)

goes_on : (size target : ℕ) (es : List Entry) → GoesOnWith size target es
goes_on size target [] ts t begun cuts =
    record {
      tables = ts ++ rest_chunk t;
      are = record
          { whole = joined_all ts t ∙ sym (append-nil (joined ts ++ t)); each = cuts };
    }
goes_on size target (e ∷ es) ts t begun cuts =
    one_more size target ts t e es _ refl (goes_on size target es) begun cuts

pub cut_law : CutLaw
cut_law size target es = goes_on size target es [] [] (λ _. refl) tt

-- ---- there is no other

-- the second front goes on behind the first, and what is behind it is what is left
abbrev GoesBehind : List Entry → List Entry → List Entry → List Entry → Type 0
GoesBehind t a u b = (c : List Entry) × (u ≡ t ++ c) × (a ≡ c ++ b)

pub fronts : (t u a b : List Entry) → t ++ a ≡ u ++ b → GoesBehind t a u b ⊎ GoesBehind u b t a
fronts [] u a b h = inl (u, refl, h)
fronts (x ∷ t) [] a b h = inr (x ∷ t, refl, sym h)
fronts (x ∷ t) (y ∷ u) a b h =
    let tail : t ++ a ≡ u ++ b = cc in
    let head : y ≡ x = cc in
    elim (fronts t u a b tail) [
      | inl left ↦ inl (left.0, cc (head, left.1), left.2)
      | inr left ↦ inr (left.0, cc (head, left.1), left.2)
    ]

pub same_joint : (t : List Entry) (v y : Entry) (vs c : List Entry) → v ≡ y → apart t (v ∷ vs) ≡ true
    → apart t (y ∷ c) ≡ true
same_joint t v y vs c same h = apart_first t y c vs
    ∙ subst (λ (x : Entry). apart t (x ∷ vs) ≡ true) same h

-- no table goes on behind one that is cut
pub nothing_more : (size target : ℕ) (t c b : List Entry) (ts : List (List Entry))
    → IsCut size target (t ++ c) → EndsCut size target t ts → AreCuts size target ts
    → joined ts ≡ c ++ b → c ≡ []
nothing_more size target t [] b ts cut ends cuts h = refl
nothing_more size target t (y ∷ c) b [] cut ends cuts h = absurd cc
nothing_more size target t (y ∷ c) b ([] ∷ ts) cut ends cuts h =
    absurd (omega (arith, (cuts.0).some))
nothing_more size target t (y ∷ c) b ((v ∷ vs) ∷ ts) cut ends cuts h =
    let is : v ∷ (vs ++ joined ts) ≡ y ∷ (c ++ b) = h in
    let same : v ≡ y = cc in
    let short : cut_len size t < target = cut.shortest t (y ∷ c) refl
    (same_joint t v y vs c same ends.0) in
    absurd (omega (arith, short, ends.1))

pub no_table : (size target : ℕ) (t : List Entry) (ts : List (List Entry))
    → AreCuts size target (t ∷ ts) → [] ≡ joined (t ∷ ts) → ⊥
no_table size target [] ts cuts h = omega (arith, (cuts.0).some)
no_table size target (x ∷ t) ts cuts h =
    let is : [] ≡ x ∷ (t ++ joined ts) = h in
    cc

-- the first tables of two cuts are one, and so is what is behind them
same_first : (size target : ℕ) (t u b : List Entry) (ts : List (List Entry)) → IsCut size target u
    → EndsCut size target t ts → AreCuts size target ts → GoesBehind t (joined ts) u b
    → (u ≡ t) × (joined ts ≡ b)
same_first size target t u b ts cut ends cuts left =
    let none : left.0 ≡ [] = nothing_more size target t left.0 b ts
    (subst (IsCut size target) left.1 cut) ends cuts left.2 in (
      left.1 ∙ (ap (λ (x : List Entry). t ++ x) none ∙ append-nil t),
      left.2 ∙ ap (λ (x : List Entry). x ++ b) none,
    )

both_same : (t u : List Entry) (ts us : List (List Entry)) → u ≡ t → ts ≡ us → t ∷ ts ≡ u ∷ us
both_same t u ts us first rest = rw (first, rest) refl

same_cuts : (size target : ℕ) (ts us : List (List Entry)) → AreCuts size target ts
    → AreCuts size target us → joined ts ≡ joined us → ts ≡ us
same_cuts size target [] [] a b h = refl
same_cuts size target [] (u ∷ us) a b h = absurd (no_table size target u us b h)
same_cuts size target (t ∷ ts) [] a b h = absurd (no_table size target t ts a (sym h))
same_cuts size target (t ∷ ts) (u ∷ us) a b h =
    elim (fronts t u (joined ts) (joined us) h) [
      | inl left ↦ let p = same_first size target t u (joined us) ts b.0 a.1 a.2 left in
          both_same t u ts us p.0 (same_cuts size target ts us a.2 b.2 p.1)
      | inr left ↦ let p = same_first size target u t (joined ts) us a.0 b.1 b.2 left in
          both_same t u ts us (sym p.0) (same_cuts size target ts us a.2 b.2 (sym p.1))
    ]

pub one_cut_law : OneCutLaw
one_cut_law size target es ts us a b = same_cuts size target ts us a.each b.each
    (a.whole ∙ sym b.whole)
