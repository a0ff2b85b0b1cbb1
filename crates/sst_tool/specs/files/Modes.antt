-- The modes of new files: kind and permissions, as the system numbers them.
use Rattle.std.specs.Prelude.{◌≡◌, ℕ, List, Option, IfSome, bit_and}
use Rattle.std.specs.List.{AllByRecursion}
use Rattle.sst_tool.specs.files.Files.{IsBeside}
use Rattle.sst_tool.specs.files.Steps.{Step, then_done}
use Rattle.sst_tool.specs.files.Steps.Step.{Wrote}
use Rattle.sst_tool.specs.files.There.{LiesElsewhere}

-- The mode is that of a regular file.
abbrev pub IsPlainMode : ℕ → Type 0
IsPlainMode mode = bit_and mode 0o170000 ≡ 0o100000

-- If the path is known, it is a regular file with this mode, or it is free and no mode is
-- requested.
abbrev pub KeepsMode : Option (Option ℕ) → Option ℕ → Type 0
KeepsMode known mode = IfSome known (λ was. (mode ≡ was) × IfSome was IsPlainMode)

-- The step writes no new file at the path or above it.
abbrev pub WritesElsewhere : List ℕ → Step → Type 0
WritesElsewhere path (Wrote other bytes mode) = LiesElsewhere other path
WritesElsewhere path step = Unit {0}

-- If the step writes a new file, it is the temporary file of a path, and has that path's mode
-- before, unless a step writes there.
abbrev pub KeepsModeOf : (List ℕ → Option (Option ℕ)) → List Step → Step → Type 0
KeepsModeOf modes steps (Wrote beside bytes mode) = (path : List ℕ) × IsBeside path beside
    × (AllByRecursion (WritesElsewhere path) steps → KeepsMode (modes path) mode)
KeepsModeOf modes steps step = Unit {0}

-- Each new file has the mode of the regular file that it replaces, if that is known, and replaces
-- nothing else.
abbrev pub AreModesKept : (List ℕ → Option (Option ℕ)) → Option (List Step)
    → Option (List Step) → Type 0
AreModesKept modes known new = (steps : List Step) × (new ≡ then_done known steps)
    × AllByRecursion (KeepsModeOf modes steps) steps
