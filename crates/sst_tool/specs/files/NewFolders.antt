-- New folders of files, written under temporary names and then renamed.
use Rattle.std.specs.Prelude.{◌≡◌, ◌≢◌, ◌<◌, ◌⊎◌, ℕ, ◌+◌, Bool, List, [], ◌∷◌, ◌++◌}
use Rattle.std.specs.Prelude.{IfSome, None, Option, codes, length, map, take, true}
use Rattle.std.specs.List.{AllByRecursion}
use Rattle.std.specs.Path.{slash}
use Rattle.lsm_writers.specs.declared.writer.FinishedTable.{FinishedTable}
use Rattle.sst_entries.specs.declared.error.Error.TheVariants.{OutOfMemory}
use Rattle.sst_tool.specs.declared.files.file_error.FileError.{FileError}
use Rattle.sst_tool.specs.declared.files.file_error.FileFault.{FileFault}
use Rattle.sst_tool.specs.declared.files.file_error.FileFault.TheVariants.{Io, NamesTaken, Refused}
use Rattle.sst_tool.specs.declared.files.file_error.FileFault.TheVariants.{Taken}
use Rattle.sst_tool.specs.files.Ended.{files_left}
use Rattle.sst_tool.specs.files.Files.{IsBeside, file_number, path_text}
use Rattle.sst_tool.specs.files.Numbered.{numbered_files}
use Rattle.sst_tool.specs.files.Placed.{IsNotSynced}
use Rattle.sst_tool.specs.files.There.{AreAllTaken, LiesElsewhere}
use Rattle.sst_tool.specs.files.Steps.{OnlyDoes, Step, then_done}
use Rattle.sst_tool.specs.files.Steps.Step.{MadeFolder, Removed, RemovedFolder, RenamedFolder}
use Rattle.sst_tool.specs.files.Steps.Step.{Synced, SyncedNames, Wrote}

-- The bytes of each table.
abbrev pub table_bytes : {A : Type 0} → List (FinishedTable A) → List (List ℕ)
table_bytes {A} tables = map (λ (t : FinishedTable A). t.bytes) tables

-- The path of a numbered table in a folder.
abbrev pub path_within : List ℕ → ℕ → List ℕ
path_within folder number = folder ++ (codes "/" ++ (file_number number ++ codes ".sst"))

-- The files of tables in a folder, 000001.sst, 000002.sst and so on, with their bytes.
abbrev pub numbered_within : List ℕ → List (List ℕ) → List (List ℕ × List ℕ)
numbered_within folder all = numbered_files (path_within folder) 1 all

-- The path without the slashes at its end.
abbrev pub IsStemOf : List ℕ → List ℕ → Type 0
IsStemOf stem path = (slashes : List ℕ) × (path ≡ stem ++ slashes)
    × AllByRecursion (λ c. c ≡ slash) slashes × ((front : List ℕ) → stem ≢ front ++ codes "/")

-- A temporary name of a folder.
abbrev pub IsBesideFolder : List ℕ → List ℕ → Type 0
IsBesideFolder folder text = (stem : List ℕ) × IsStemOf stem folder × IsBeside stem text

-- New files are written and synced, one after another.
abbrev pub writing_files : List (List ℕ × List ℕ) → List Step
writing_files files = map (λ f. Wrote f.0 f.1 None) files

-- The files are to be removed, and then their folder.
abbrev pub removing_folder : List ℕ → List (List ℕ × List ℕ) → List Step
removing_folder folder files = map (λ f. Removed f.0) files ++ RemovedFolder folder ∷ []

-- The folder is synced, and then renamed.
abbrev pub naming_folder : List ℕ → List ℕ → List Step
naming_folder from to = SyncedNames from ∷ RenamedFolder from to ∷ []

-- The files are written under the folder's temporary name, and the folder is synced and renamed.
abbrev pub filling_all : List ℕ → List ℕ → List (List ℕ) → List Step
filling_all beside folder all =
    writing_files (numbered_within beside all) ++ naming_folder beside folder

-- The folder is made under its temporary name, filled, synced and renamed.
abbrev pub placing_folder : List ℕ → List ℕ → List (List ℕ) → List Step
placing_folder beside folder all = MadeFolder beside ∷ filling_all beside folder all

-- The folder is made under its temporary name, filled in part, perhaps synced, and removed again.
abbrev pub giving_up : List ℕ → List (List ℕ) → List Step → List Step
giving_up beside some synced = MadeFolder beside ∷ (writing_files (numbered_within beside some)
    ++ (synced ++ removing_folder beside (numbered_within beside some)))

-- The new folder has its name after these last steps. All was written and synced before the one
-- rename, and the steps leave exactly these files, with their bytes.
pub record IsFolderPlaced (folder : List ℕ) (all : List (List ℕ)) (behind : List Step)
    (known new : Option (List Step)) : Type 0 where
  pub beside : List ℕ
  pub named : IsBesideFolder folder beside
  pub done : new ≡ then_done known (placing_folder beside folder all ++ behind)
  pub left : files_left (placing_folder beside folder all ++ behind) ≡ numbered_within folder all

-- The step is to remove a folder with such a path, or a numbered table in one.
abbrev pub Clears : (List ℕ → Type 0) → Step → Type 0
Clears Is (Removed path) =
    (folder : List ℕ) × (number : ℕ) × Is folder × (path ≡ path_within folder number)
Clears Is (RemovedFolder path) = Is path
Clears Is step = ⊥

-- These steps are done. After that only numbered tables in temporary folders of this one are
-- removed, and these folders.
abbrev pub ThenClears : List ℕ → Option (List Step) → List Step → Option (List Step) → Type 0
ThenClears folder known steps new =
    OnlyDoes (Clears (IsBesideFolder folder)) (then_done known steps) new

-- The new folder has its name, and its parent folder was synced. After that only numbered tables in
-- temporary folders of this name, and these folders, were removed, and nothing else was done.
pub record IsFolderInPlace (folder : List ℕ) (all : List (List ℕ)) (known new : Option (List Step))
    : Type 0 where
  pub behind : List Step
  pub cleared : AllByRecursion (Clears (IsBesideFolder folder)) behind
  pub placed : IsFolderPlaced folder all (Synced folder ∷ behind) known new

-- The faults of making the folder. Its only error of the library is OutOfMemory.
abbrev pub IsMakingFault : FileFault → Type 0
IsMakingFault NamesTaken = Unit {0}
IsMakingFault (Io error) = Unit {0}
IsMakingFault (Refused e) = e ≡ OutOfMemory
IsMakingFault fault = ⊥

-- The faults of writing a file in it.
abbrev pub IsWritingFault : FileFault → Type 0
IsWritingFault Taken = Unit {0}
IsWritingFault (Io error) = Unit {0}
IsWritingFault (Refused e) = e ≡ OutOfMemory
IsWritingFault fault = ⊥

-- The faults of renaming it: the name is taken by then, or an error of the system.
abbrev pub IsNamingFault : FileFault → Type 0
IsNamingFault Taken = Unit {0}
IsNamingFault (Io error) = Unit {0}
IsNamingFault fault = ⊥

-- If the name is reported as taken, it is, as far as that is known.
abbrev pub TellsTaken : FileFault → Option Bool → Type 0
TellsTaken Taken there = IfSome there (λ b. b ≡ true)
TellsTaken fault there = Unit {0}

-- If the folder's own name is reported as taken, it is.
abbrev pub TellsNameTaken : (List ℕ → Option Bool) → List ℕ → FileError → Type 0
TellsNameTaken there folder e = path_text e.name ≡ folder → TellsTaken e.fault (there folder)

-- If all temporary names are reported as taken, they are, as far as that is known.
abbrev pub TellsStemTaken : (List ℕ → Option Bool) → List ℕ → FileFault → Type 0
TellsStemTaken there folder NamesTaken =
    (stem : List ℕ) × IsStemOf stem folder × AreAllTaken there stem
TellsStemTaken there folder fault = Unit {0}

-- The folder was synced, or nothing was done.
abbrev pub MaySyncNames : List ℕ → List Step → Type 0
MaySyncNames folder steps = (steps ≡ []) ⊎ (steps ≡ SyncedNames folder ∷ [])

-- So many files were written and the next one was not; or all were, and the folder was not renamed.
abbrev pub TellsGivenUp : List ℕ → List ℕ → List (List ℕ) → ℕ → List Step → FileError → Type 0
TellsGivenUp folder beside all written synced e =
    ((written < length all) × (path_text e.name ≡ path_within folder (1 + written))
    × IsWritingFault e.fault × (synced ≡ []))
    ⊎ ((written ≡ length all) × (path_text e.name ≡ folder)
    × IsNamingFault e.fault × MaySyncNames beside synced)

-- The folder was made under its temporary name, and all its files are to be removed. Whatever is
-- left, no file has the folder's name or is under it.
pub record IsFolderGivenUp (folder : List ℕ) (all : List (List ℕ)) (known : Option (List Step))
    (e : FileError) (new : Option (List Step)) : Type 0 where
  pub beside : List ℕ
  pub named : IsBesideFolder folder beside
  pub written : ℕ
  pub synced : List Step
  pub returned : TellsGivenUp folder beside all written synced e
  pub done : new ≡ then_done known (giving_up beside (take written all) synced)
  pub elsewhere : AllByRecursion (λ f. LiesElsewhere folder f.0)
      (files_left (giving_up beside (take written all) synced))

-- The folder was not made and nothing was done; or it was given up; or it is complete and its name
-- is not durable.
abbrev pub IsFolderNotPlaced : List ℕ → List (List ℕ) → Option (List Step) → FileError
    → Option (List Step) → Type 0
IsFolderNotPlaced folder all known e new =
    ((path_text e.name ≡ folder) × IsMakingFault e.fault × (new ≡ known))
    ⊎ (IsFolderGivenUp folder all known e new
    ⊎ ((path_text e.name ≡ folder) × IsNotSynced e.fault
    × IsFolderPlaced folder all [] known new))

-- Files were written up to one that was not, or all were and the folder was not renamed. These are
-- the paths of those written.
pub record StopsWithin (folder beside : List ℕ) (all paths : List (List ℕ))
    (known : Option (List Step)) (e : FileError) (new : Option (List Step)) : Type 0 where
  pub written : ℕ
  pub synced : List Step
  pub returned : TellsGivenUp folder beside all written synced e
  pub paths_are : paths ≡ map (λ f. f.0) (numbered_within beside (take written all))
  pub done : new
      ≡ then_done known (writing_files (numbered_within beside (take written all)) ++ synced)

-- Exactly these files were written.
abbrev pub LiesWithin : List (List ℕ × List ℕ) → List (List ℕ) → Option (List Step)
    → Option (List Step) → Type 0
LiesWithin files paths known new =
    (paths ≡ map (λ f. f.0) files) × (new ≡ then_done known (writing_files files))

-- All files written in the temporary folder were removed, and the folder.
pub record IsEmptied (folder beside : List ℕ) (all : List (List ℕ)) (known : Option (List Step))
    (e : FileError) (new : Option (List Step)) : Type 0 where
  pub written : ℕ
  pub synced : List Step
  pub returned : TellsGivenUp folder beside all written synced e
  pub done : new ≡ then_done known (writing_files (numbered_within beside (take written all))
      ++ (synced ++ removing_folder beside (numbered_within beside (take written all))))

-- The temporary folder was removed with its files, or it was renamed and its name is not durable.
abbrev pub IsNotFilled : List ℕ → List ℕ → List (List ℕ) → Option (List Step) → FileError
    → Option (List Step) → Type 0
IsNotFilled folder beside all known e new =
    IsEmptied folder beside all known e new
    ⊎ ((path_text e.name ≡ folder) × IsNotSynced e.fault
    × (new ≡ then_done known (filling_all beside folder all)))
