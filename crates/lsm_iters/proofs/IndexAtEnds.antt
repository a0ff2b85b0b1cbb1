-- One call at an end of handles that are left, as an answer of what an iterator still deals.
use Rattle.std.proofs.Common.{◌≡◌, List, [], ◌∷◌, ◌++◌, refl, sym, ap, ◌∙◌}
use Rattle.std.proofs.lemmas.List.{append_assoc, map-append}
use Rattle.std.specs.Prelude.{Option, Some, None, Result, Ok, Err, MatchOption, MatchResult}
use Rattle.sst_entries.specs.declared.error.Error.{Error}
use Rattle.sst_entries.specs.Stream.{last, but_last, front_of, back_of, ok_results}
use Rattle.sst_blocks.specs.Handle.{Handle}
use Rattle.lsm_iters.proofs.AtEnds.{back_push, last_split, not_memory, pair}
use Rattle.lsm_iters.specs.block_index.Left.{Left, IsEnded, AtEnd}
use Rattle.lsm_iters.specs.block_index.Seen.{PartGives}

abbrev pub R : Type 0
R = Result Handle Error

abbrev pub End : Type 0
End = List R → Option R × List R

-- the last handle, of those that stand behind some results
pub back_in : (more : List R) (hs ts : List Handle) (h : Handle) → last hs ≡ Some h
    → ts ≡ but_last hs → back_of (more ++ ok_results hs) ≡ (Some (Ok h), more ++ ok_results ts)
back_in more hs ts h e rest =
    let split : ok_results hs ≡ ok_results ts ++ Ok h ∷ [] =
    ap ok_results (last_split hs h e ∙ ap (λ (xs : List Handle). xs ++ h ∷ []) (sym rest))
    ∙ map-append (λ (x : Handle). Ok x) ts (h ∷ []) in
    ap back_of (ap (λ (rs : List R). more ++ rs) split
    ∙ sym (append_assoc more (ok_results ts) (Ok h ∷ [])))
    ∙ back_push (more ++ ok_results ts) (Ok h)

-- ---- an answer of what is left of one block

pub no_handles : (hs : List Handle) → ok_results hs ≡ [] → hs ≡ []
no_handles [] e = refl
no_handles (h ∷ hs) e = absurd cc

-- an end of handles as an end of results
abbrev pub Carries : (List Handle → Option Handle × List Handle) → End → Type 0
Carries end of = (hs ts : List Handle) (h : Handle) → (end hs).0 ≡ Some h → ts ≡ (end hs).1
    → of (ok_results hs) ≡ (Some (Ok h), ok_results ts)

pub carries_front : Carries front_of front_of
carries_front [] ts h e rest = absurd cc
carries_front (x ∷ xs) ts h e rest =
    let same : x ≡ h = cc in
    pair (ap (λ (z : Handle). Some (Ok z)) same) (ap ok_results (sym rest))

pub carries_back : Carries back_of back_of
carries_back hs ts h e rest = back_in [] hs ts h e rest

pub at_part : (of : End) (end : List Handle → Option Handle × List Handle) → Carries end of
    → (s t : Left) (hs ts : List Handle) (r : Option R)
    → s.results ≡ ok_results hs → t.results ≡ ok_results ts → t.loads ≡ 0 → PartGives end hs r ts
    → AtEnd of s r t
at_part of end carries s t hs ts None was is short gives =
    (was ∙ ap ok_results gives.0, record { results = is ∙ ap ok_results gives.1; loads = short })
at_part of end carries s t hs ts (Some (Ok h)) was is short gives =
    ap of was ∙ carries hs ts h gives.0 gives.1 ∙ pair refl (sym is)
at_part of end carries s t hs ts (Some (Err e)) was is short gives = (
  λ fine. absurd (not_memory e gives.0 fine),
  λ over. gives.1
      (no_handles hs (sym was ∙ over.results)),
)

-- behind an error nothing is left
pub part_ends : (end : List Handle → Option Handle × List Handle) (t : Left) (hs ts : List Handle)
    (r : Option R)
    → t.results ≡ ok_results ts → t.loads ≡ 0 → PartGives end hs r ts
    → MatchOption r (Unit {0}) (λ x. MatchResult x (λ _. Unit {0}) (λ _. IsEnded t))
part_ends end t hs ts None is short gives = tt
part_ends end t hs ts (Some (Ok h)) is short gives = tt
part_ends end t hs ts (Some (Err e)) is short gives =
    record { results = is ∙ ap ok_results gives.2; loads = short }
