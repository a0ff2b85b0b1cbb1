-- The paths that are taken, as far as that is known.
use Rattle.std.specs.Prelude.{◌≡◌, ◌≢◌, ◌<◌, ◌≤◌, ℕ, Bool, true, List, ◌++◌, Option, IfSome, codes}
use Rattle.sst_tool.specs.files.Files.{beside_name}

-- The path is neither the folder nor in it.
abbrev pub LiesElsewhere : List ℕ → List ℕ → Type 0
LiesElsewhere folder path =
    (path ≢ folder) × ((rest : List ℕ) → path ≢ folder ++ (codes "/" ++ rest))

-- Each path is as before, except for one path and those under it.
abbrev pub SameElsewhere : {X : Type 0} → List ℕ → (List ℕ → X) → (List ℕ → X) → Type 0
SameElsewhere path old new = (other : List ℕ) → LiesElsewhere path other → new other ≡ old other

-- Each path is taken as before, except for those with this prefix.
abbrev pub SameButBehind : List ℕ → (List ℕ → Option Bool) → (List ℕ → Option Bool) → Type 0
SameButBehind text old new =
    (other : List ℕ) → ((rest : List ℕ) → other ≢ text ++ rest) → new other ≡ old other

-- All of the thousand temporary names of the path are taken.
abbrev pub AreAllTaken : (List ℕ → Option Bool) → List ℕ → Type 0
AreAllTaken there path = (number : ℕ) → 0 < number → number ≤ 1000
    → IfSome (there (beside_name path number)) (λ b. b ≡ true)
