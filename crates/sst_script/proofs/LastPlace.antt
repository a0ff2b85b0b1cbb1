-- The last index of a list, and its last item.
use Rattle.std.proofs.Common.{◌≡◌, refl, ◌∙◌, ap, suc, ◌-◌, List, [], ◌∷◌, length, arith}
use Rattle.std.specs.Prelude.{Option, Some, None, slice_get}
use Rattle.sst_entries.specs.Entry.{Entry}
use Rattle.sst_entries.specs.Strict.{last_of}

pub last_is : (before : Option Entry) (es : List Entry) (x : Entry)
    → Some x ≡ slice_get es (length es - 1) → Some x ≡ last_of before es
unfolding last_of
last_is before [] x h = absurd cc
last_is before (e ∷ []) x h = h
last_is before (e ∷ f ∷ es) x h =
    let n : length (e ∷ f ∷ es) - 1 ≡ suc (length (f ∷ es) - 1) = omega arith in
    last_is (Some e) (f ∷ es) x (h ∙ ap (slice_get (e ∷ f ∷ es)) n)

-- a list without a last item is empty
no_place : (es : List Entry) → None ≡ slice_get es (length es - 1) → es ≡ []
no_place [] h = refl
no_place (e ∷ []) h = absurd cc
no_place (e ∷ f ∷ es) h =
    let n : length (e ∷ f ∷ es) - 1 ≡ suc (length (f ∷ es) - 1) = omega arith in
    let m = no_place (f ∷ es) (h ∙ ap (slice_get (e ∷ f ∷ es)) n) in
    absurd cc

pub last_is_before : (before : Option Entry) (es : List Entry)
    → None ≡ slice_get es (length es - 1) → before ≡ last_of before es
unfolding last_of
last_is_before before es h = rw (no_place es h) refl
