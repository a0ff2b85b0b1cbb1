-- Cutting a list into parts, item by item, and the pending items of the next part.
use Rattle.std.specs.Prelude.{Bool, List, [], ◌∷◌, ◌++◌, if◌then◌else◌}

-- the parts cut from some items, after those that are pending already
unfoldable pub closed_after : {A : Type 0} → (List A → Bool) → List A → List A → List (List A)
closed_after full waiting [] = []
closed_after full waiting (x ∷ xs) =
    if full (waiting ++ x ∷ [])
    then (waiting ++ x ∷ []) ∷ closed_after full [] xs
    else closed_after full (waiting ++ x ∷ []) xs

-- the items that are still pending after these cuts
unfoldable pub waiting_after : {A : Type 0} → (List A → Bool) → List A → List A → List A
waiting_after full waiting [] = waiting
waiting_after full waiting (x ∷ xs) =
    if full (waiting ++ x ∷ [])
    then waiting_after full [] xs
    else waiting_after full (waiting ++ x ∷ []) xs

-- the parts cut from a list
abbrev pub closed_by : {A : Type 0} → (List A → Bool) → List A → List (List A)
closed_by full xs = closed_after full [] xs

-- the items of a list that are pending after the last cut
abbrev pub waiting_by : {A : Type 0} → (List A → Bool) → List A → List A
waiting_by full xs = waiting_after full [] xs
