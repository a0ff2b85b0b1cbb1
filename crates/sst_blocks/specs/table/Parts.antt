-- Cutting a list into parts: those of an index or of a filter.
use Rattle.std.specs.Prelude.{◌≡◌, ℕ, ◌<◌, Bool, true, false, List, [], ◌∷◌, ◌++◌, length, take}
use Rattle.std.specs.Prelude.{if◌then◌else◌}
use Rattle.std.specs.List.{flat_map}

-- the parts, concatenated
abbrev pub joined_parts : {A : Type 0} → List (List A) → List A
joined_parts ps = flat_map (λ p. p) ps

-- a part is not empty, and no shorter prefix of it is full
pub record IsPart {A : Type 0} (full : List A → Bool) (p : List A) : Type 0 where
  pub some : 0 < length p
  pub shortest : (n : ℕ) → 0 < n → n < length p → full (take n p) ≡ false

-- every part except the last is full
abbrev pub EndsPart : {A : Type 0} → (List A → Bool) → List A → List (List A) → Type 0
EndsPart full p [] = Unit {0}
EndsPart full p (q ∷ qs) = full p ≡ true

abbrev pub AreParts : {A : Type 0} → (List A → Bool) → List (List A) → Type 0
AreParts full [] = Unit {0}
AreParts full (p ∷ ps) = IsPart full p × EndsPart full p ps × AreParts full ps

-- a list cut into parts: each is the shortest prefix of the rest that is full, and the last takes
-- the rest
pub record ArePartsOf {A : Type 0} (full : List A → Bool) (xs : List A) (ps : List (List A))
    : Type 0 where
  pub whole : joined_parts ps ≡ xs
  pub each : AreParts full ps

-- the remaining items as a part, if any
abbrev pub rest_part : {A : Type 0} → List A → List (List A)
rest_part [] = []
rest_part (x ∷ xs) = (x ∷ xs) ∷ []

-- the parts of a list, given the items already in the first part
unfoldable pub parts_after : {A : Type 0} → (List A → Bool) → List A → List A → List (List A)
parts_after full waiting [] = rest_part waiting
parts_after full waiting (x ∷ xs) =
    if full (waiting ++ x ∷ [])
    then (waiting ++ x ∷ []) ∷ parts_after full [] xs
    else parts_after full (waiting ++ x ∷ []) xs

-- the parts of a list
abbrev pub parts_by : {A : Type 0} → (List A → Bool) → List A → List (List A)
parts_by full xs = parts_after full [] xs
