-- The steps that are done to files.
use denote.Ref.{Bor}
use Rattle.std.specs.Prelude.{◌≡◌, ℕ, Bool, true, false, List, [], ◌∷◌, ◌++◌, Option}
use Rattle.std.specs.Fs.{permissions_mode}
use Rattle.std.specs.List.{AllByRecursion}
use Rattle.std.specs.Option.{option_copied, option_map}
use Rattle.std.specs.declared.fs.permissions.Permissions.{Permissions}

-- A new file was written and synced, with a mode if one is requested; a file was renamed; one is to
-- be removed; the folder of one was synced; a folder was made; one is to be removed if it is empty;
-- one was renamed with its files; one was synced.
pub data Step : Type 0 where
  Wrote : (path bytes : List ℕ) (mode : Option ℕ) → Step
  Renamed : (from to : List ℕ) → Step
  Removed : (path : List ℕ) → Step
  Synced : (path : List ℕ) → Step
  MadeFolder : (path : List ℕ) → Step
  RemovedFolder : (path : List ℕ) → Step
  RenamedFolder : (from to : List ℕ) → Step
  SyncedNames : (path : List ℕ) → Step

-- The steps done, if known, followed by these.
abbrev pub then_done : Option (List Step) → List Step → Option (List Step)
then_done known steps = option_map (λ done. done ++ steps) known

-- The mode of a new file with these permissions, if there are some.
abbrev pub requested_mode : Option (Bor Permissions) → Option ℕ
requested_mode permissions = option_map permissions_mode (option_copied permissions)

-- The step that writes a new file, if its name was free.
abbrev pub written_if : Bool → List ℕ → List ℕ → Option ℕ → List Step
written_if true path bytes mode = Wrote path bytes mode ∷ []
written_if false path bytes mode = []

-- Only steps of this kind are done, or none.
pub record OnlyDoes (Is : Step → Type 0) (known new : Option (List Step)) : Type 0 where
  pub steps : List Step
  pub are : AllByRecursion Is steps
  pub done : new ≡ then_done known steps

-- A file with such a path is to be removed.
abbrev pub Removes : (List ℕ → Type 0) → Step → Type 0
Removes Is (Removed path) = Is path
Removes Is step = ⊥
