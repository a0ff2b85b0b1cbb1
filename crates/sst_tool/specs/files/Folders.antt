-- The folders of paths.
use Rattle.std.specs.Prelude.{ℕ, List, [], ◌∷◌, codes}
use Rattle.std.specs.Option.{unwrap_or}
use Rattle.std.specs.Path.{path_parent}

-- The folder, or the current one if it is empty.
abbrev pub or_here : List ℕ → List ℕ
or_here [] = codes "."
or_here (b ∷ bs) = b ∷ bs

-- The parent of a path, or the current folder.
abbrev pub folder_of : List ℕ → List ℕ
folder_of path = or_here (unwrap_or (path_parent path) [])
