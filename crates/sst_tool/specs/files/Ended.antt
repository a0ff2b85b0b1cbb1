-- The files that steps leave, by path.
use Rattle.std.specs.Prelude.{ℕ, Option, None, Some, List, [], ◌∷◌, ◌++◌, ◌==◌, codes}
use Rattle.std.specs.Prelude.{if◌then◌else◌}
use Rattle.sst_tool.specs.files.Steps.{Step}
use Rattle.sst_tool.specs.files.Steps.Step.{Renamed, RenamedFolder, Wrote}

-- The rest of a path after a prefix, if it has the prefix.
abbrev pub behind_front : List ℕ → List ℕ → Option (List ℕ)
behind_front [] path = Some path
behind_front (b ∷ front) [] = None
behind_front (b ∷ front) (c ∷ path) = if b == c then behind_front front path else None

-- The new path if the path was the old one, and else the path itself.
abbrev pub renamed_by : List ℕ → List ℕ → Option (List ℕ) → List ℕ
renamed_by to path (Some []) = to
renamed_by to path (Some (b ∷ rest)) = path
renamed_by to path None = path

-- A path after a file was renamed.
abbrev pub path_renamed : List ℕ → List ℕ → List ℕ → List ℕ
path_renamed from to path = renamed_by to path (behind_front from path)

-- The path in the new folder if the file was in the old one, and else the path itself.
abbrev pub moved_by : List ℕ → List ℕ → Option (List ℕ) → List ℕ
moved_by to path (Some rest) = to ++ (codes "/" ++ rest)
moved_by to path None = path

-- A path after a folder was renamed with its files.
abbrev pub path_moved : List ℕ → List ℕ → List ℕ → List ℕ
path_moved from to path = moved_by to path (behind_front (from ++ codes "/") path)

-- A path after all of these steps.
abbrev pub path_behind : List Step → List ℕ → List ℕ
path_behind [] path = path
path_behind (Renamed from to ∷ steps) path = path_behind steps (path_renamed from to path)
path_behind (RenamedFolder from to ∷ steps) path = path_behind steps (path_moved from to path)
path_behind (step ∷ steps) path = path_behind steps path

-- The files that these steps write, with their last paths and their bytes. A file to be removed is
-- included, since the system may fail to remove it.
abbrev pub files_left : List Step → List (List ℕ × List ℕ)
files_left [] = []
files_left (Wrote path bytes mode ∷ steps) = (path_behind steps path, bytes) ∷ files_left steps
files_left (step ∷ steps) = files_left steps
