-- Handles whose end keys lie among others: one more, and all of them as they were told.
use Rattle.std.proofs.Common.{◌≡◌, refl, sym, ◌∙◌, ap, ap₂, subst, ℕ, ◌-◌, ◌≤◌, List, []}
use Rattle.std.proofs.Common.{◌∷◌, ◌++◌, length, take, drop, arith, length-append, length-drop}
use Rattle.std.specs.Prelude.{slice_range}
use Rattle.std.proofs.lemmas.List.{drop-append-le, take-append-le, take_all}
use Rattle.std.proofs.Math.Seq.{drop-append_seam}
use Rattle.sst_entries.proofs.Lists.{all_append, all_more}
use Rattle.sst_blocks.specs.Handle.{Handle}
use Rattle.lsm_writers.specs.section.Kept.{AreAmong, LiesAmong, handle_among, handle_with}
use Rattle.lsm_writers.specs.section.Kept.{handles_among}
use Rattle.lsm_writers.specs.declared.section.kept.HandlePlace.{HandlePlace}

-- what lies among some bytes lies there whatever follows
range_front : (keys more : List ℕ) (a b : ℕ) → a ≤ b → b ≤ length keys
    → slice_range (keys ++ more) a b ≡ slice_range keys a b
range_front keys more a b le within =
    ap (λ (xs : List ℕ). take (b - a) xs) (drop-append-le a keys more (omega (arith, le, within)))
    ∙ take-append-le (b - a) (drop a keys) more (omega (arith, length-drop a keys, le, within))

-- what lies at the end is all that was put there
range_end : (keys key : List ℕ) (a b : ℕ) → a ≡ length keys → b ≡ length (keys ++ key)
    → slice_range (keys ++ key) a b ≡ key
range_end keys key a b start end =
    let n : length key ≤ b - a = omega (arith, start, end, length-append keys key) in
    ap (λ (n : ℕ). take (b - a) (drop n (keys ++ key))) start
    ∙ ap (λ (xs : List ℕ). take (b - a) xs) (drop-append_seam keys key)
    ∙ take_all (b - a) key n

still_among : (keys more : List ℕ) (p : HandlePlace) → LiesAmong keys p → LiesAmong (keys ++ more) p
still_among keys more p h = record {
  ordered = h.ordered;
  within = omega (arith, h.within, length-append keys more);
}

-- the handles stay whatever keys come behind theirs
same_among : (keys more : List ℕ) (ps : List HandlePlace) → AreAmong keys ps
    → handles_among (keys ++ more) ps ≡ handles_among keys ps
same_among keys more [] h = refl
same_among keys more (p ∷ ps) h =
    ap₂ (λ (x : Handle) (xs : List Handle). x ∷ xs)
    (ap (λ (k : List ℕ). handle_with k p.seqno p.block)
    (range_front keys more p.start p.end h.0.ordered h.0.within))
    (same_among keys more ps h.1)

handles_push : (keys : List ℕ) (ps : List HandlePlace) (p : HandlePlace)
    → handles_among keys (ps ++ p ∷ []) ≡ handles_among keys ps ++ handle_among keys p ∷ []
handles_push keys [] p = refl
handles_push keys (q ∷ ps) p = ap (λ (xs : List Handle). handle_among keys q ∷ xs)
    (handles_push keys ps p)

-- a key more, and maybe a handle with it
module _ (keys longer key : List ℕ) (ps : List HandlePlace) (h : AreAmong keys ps)
    (more : longer ≡ keys ++ key) where
  pub among_more : AreAmong longer ps
  among_more = subst (λ (ks : List ℕ). AreAmong ks ps) (sym more)
      (all_more (LiesAmong keys) (LiesAmong (keys ++ key)) (still_among keys key) ps h)

  pub among_same : handles_among longer ps ≡ handles_among keys ps
  among_same = ap (λ (ks : List ℕ). handles_among ks ps) more ∙ same_among keys key ps h

  module _ (qs : List HandlePlace) (p : HandlePlace) (start : p.start ≡ length keys)
      (end : p.end ≡ length longer) (pushed : qs ≡ ps ++ p ∷ []) where
    pub among_pushed : AreAmong longer qs
    among_pushed =
        let le : p.start ≤ p.end =
        omega (arith, start, end, ap length more, length-append keys key) in
        let within : p.end ≤ length longer = omega (arith, end) in
        let is : LiesAmong longer p = record { ordered = le; within = within } in
        subst (λ (xs : List HandlePlace). AreAmong longer xs) (sym pushed)
        (all_append (LiesAmong longer) ps (p ∷ []) among_more (is, tt))

    pub among_one_more : handles_among longer qs
        ≡ handles_among keys ps ++ handle_with key p.seqno p.block ∷ []
    among_one_more =
        let its : slice_range longer p.start p.end ≡ key =
        ap (λ (ks : List ℕ). slice_range ks p.start p.end) more
        ∙ range_end keys key p.start p.end start (end ∙ ap length more) in
        ap (λ (xs : List HandlePlace). handles_among longer xs) pushed
        ∙ handles_push longer ps p
        ∙ ap₂ (λ (xs : List Handle) (k : List ℕ). xs ++ handle_with k p.seqno p.block ∷ [])
        among_same its

-- one handle more is shared
pub shared_more : (keys : List ℕ) (ps qs : List HandlePlace) (p : HandlePlace)
    (hs more : List Handle) (h : Handle) → qs ≡ ps ++ p ∷ [] → hs ≡ handles_among keys ps
    → h ≡ handle_among keys p → more ≡ hs ++ h ∷ [] → more ≡ handles_among keys qs
shared_more keys ps qs p hs more h taken are is pushed =
    pushed ∙ ap₂ (λ (xs : List Handle) (x : Handle). xs ++ x ∷ []) are is
    ∙ sym (handles_push keys ps p) ∙ ap (λ (xs : List HandlePlace). handles_among keys xs) (sym taken)
