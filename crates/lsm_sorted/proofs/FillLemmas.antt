-- One from an end of each source is taken into the heap.
use Rattle.std.proofs.Common.{◌≡◌, inl, inr, refl, sym, ◌∙◌, ap, subst, ℕ, ◌+◌, Bool, true, false}
use Rattle.std.proofs.Common.{List, [], length, arith}
use Rattle.std.specs.Prelude.{Option, None}
use Rattle.std.specs.List.{AllZip}
use Rattle.std.proofs.lemmas.Bool.{cases_eq, cases_lt}
use Rattle.std.proofs.lemmas.List.{get_or_past}
use Rattle.sst_entries.specs.Entry.{Entry}
use Rattle.sst_entries.specs.declared.stream.Direction.{Direction}
use Rattle.sst_entries.specs.declared.stream.Direction.TheVariants.{Front, Back}
use Rattle.sst_entries.specs.declared.error.Error.{Error}
use Rattle.lsm_sorted.specs.declared.merge.Merger.{Merger}
use Rattle.lsm_sorted.specs.merge.Ends.{R, Left}
use Rattle.lsm_sorted.specs.merge.Union.{all_errors, union_of}
use Rattle.lsm_sorted.specs.merge.Merge.{is_ready}
use Rattle.lsm_sorted.proofs.Kept.{Kept, kept_at, taken, Ready, HeapHolds, Stands, Merging, Took}
use Rattle.lsm_sorted.proofs.Kept.{Filled, opposite}
use Rattle.lsm_sorted.proofs.TakeLemmas.{zip_length}

-- an end or the other
pub by_end : (P : Direction → Type 0) (end : Direction) → P end → P (opposite end) → (b : Direction)
    → P b
by_end P Front p q Front = p
by_end P Front p q Back = q
by_end P Back p q Front = q
by_end P Back p q Back = p

pub other_end : (end : Direction) → opposite end ≡ end → ⊥
other_end Front e = let no : Back ≡ Front = e in absurd cc
other_end Back e = let no : Front ≡ Back = e in absurd cc

pub other_ready : (end : Direction) (f : Bool) (ks kept : List Kept)
    → ((k : ℕ) → taken kept k end ≡ taken ks k end)
    → ((k : ℕ) → (kept_at ks k).rest ≡ [] → (kept_at kept k).rest ≡ []) → Ready f end ks
    → Ready f end kept
other_ready end true ks kept same shrinks ready =
    λ k none. shrinks k (ready k (sym (same k) ∙ none))
other_ready end false ks kept same shrinks ready = λ k. same k ∙ ready k

module _ {S A : Type 0} (stops : Error → Bool) (front back : S → Option R → S → Type 0) where
  -- only the sources and the heap count
  pub stands_same : (s t : Merger S A) (ks : List Kept) → t.sources ≡ s.sources → t.heap ≡ s.heap
      → Stands stops front back s ks → Stands stops front back t ks
  stands_same s t ks sources heap stands = record {
    sources = subst (λ v. AllZip (λ s k. Left stops front back s k.rest) v.items ks)
        (sym sources) stands.sources;
    sorted = stands.sorted;
    heap = subst (λ h. HeapHolds h.items ks) (sym heap) stands.heap;
  }

  pub filled_none : (end : Direction) (ks : List Kept) (m : Merger S A)
      → Stands stops front back m ks → Ready false end ks → Filled stops front back end 0 ks m
  filled_none end ks m stands none = record {
    kept = ks;
    stands = stands;
    wholes = refl;
    ready = λ k lt. absurd (omega arith);
    free = λ k le. none k;
    other = λ k. refl;
    shrinks = λ k e. e;
  }

  pub filled_more : (end : Direction) (i : ℕ) (ks : List Kept) (s t : Merger S A)
      (was : Filled stops front back end i ks s) → Took stops front back end i was.kept t
      → Filled stops front back end (i + 1) ks t
  filled_more end i ks s t was took = record {
    kept = took.kept;
    stands = took.stands;
    wholes = took.wholes ∙ was.wholes;
    ready = λ k lt none. elim (cases_eq k i) [
      | inl e ↦ subst (λ (j : ℕ). (kept_at took.kept j).rest ≡ []) (sym e)
          (took.ready (subst (λ (j : ℕ). taken took.kept j end ≡ None) e none))
      | inr off ↦ took.shrinks k (was.ready k (omega arith)
          (sym (took.elsewhere k end (λ e f. off e)) ∙ none))
    ];
    free = λ k le. took.elsewhere k end (λ e f. absurd (omega arith)) ∙ was.free k (omega arith);
    other = λ k. took.elsewhere k (opposite end) (λ e f. other_end end f) ∙ was.other k;
    shrinks = λ k none. took.shrinks k (was.shrinks k none);
  }

  -- once each source was asked
  pub ready_filled : (end : Direction) (s m t : Merger S A) (ks : List Kept)
      → ((b : Direction) → Ready (is_ready b s) b ks)
      → (n : ℕ) (filled : Filled stops front back end n ks m) → n ≡ length m.sources.items
      → is_ready end t ≡ true → is_ready (opposite end) t ≡ is_ready (opposite end) s
      → (b : Direction) → Ready (is_ready b t) b filled.kept
  ready_filled end s m t ks ready n filled all now other =
      let asked : (k : ℕ) → taken filled.kept k end ≡ None → (kept_at filled.kept k).rest ≡ [] =
      λ k none. elim (cases_lt k n) [
        | inl lt ↦ filled.ready k lt none
        | inr ge ↦ ap (λ (q : Kept). q.rest) (get_or_past filled.kept k _
            (omega (arith, zip_length _ m.sources.items filled.kept filled.stands.sources)))
      ] in
      by_end (λ b. Ready (is_ready b t) b filled.kept) end
      (subst (λ (f : Bool). Ready f end filled.kept) (sym now) asked)
      (subst (λ (f : Bool). Ready f (opposite end) filled.kept) (sym other)
      (other_ready (opposite end) (is_ready (opposite end) s) ks filled.kept filled.other
      filled.shrinks (ready (opposite end))))

  pub merging_filled : (end : Direction) (s m t : Merger S A) (xs : List Entry)
      (errors : List Error) (was : Merging stops front back s xs errors) (n : ℕ)
      → Filled stops front back end n was.kept m → n ≡ length m.sources.items
      → t.sources ≡ m.sources → t.heap ≡ m.heap → is_ready end t ≡ true
      → is_ready (opposite end) t ≡ is_ready (opposite end) s
      → Merging stops front back t xs errors
  merging_filled end s m t xs errors was n filled all sources heap now other = record {
    kept = filled.kept;
    stands = stands_same m t filled.kept sources heap filled.stands;
    ready = ready_filled end s m t was.kept was.ready n filled all now other;
    entries = was.entries ∙ ap union_of (sym filled.wholes);
    faults = was.faults ∙ ap all_errors (sym filled.wholes);
  }
