-- An index of one handle.
use Rattle.std.proofs.Common.{◌≡◌, refl, sym, subst, List, [], ◌∷◌, ◌++◌}
use Rattle.sst_blocks.specs.Handle.{Handle}
use Rattle.sst_blocks.specs.Handles.{AreStrictHandles}
use Rattle.sst_entries.specs.Strict.{IsStrictAfter}

-- one handle after none
pub one_handle_strict : (hs : List Handle) (h : Handle) → hs ≡ [] → AreStrictHandles (hs ++ h ∷ [])
unfolding IsStrictAfter
one_handle_strict hs h e = subst (λ (l : List Handle). AreStrictHandles (l ++ h ∷ [])) (sym e)
    (refl, tt)
