-- Files written under temporary names and then renamed.
use Rattle.std.specs.Prelude.{Any, Bool, IfSome, None, true}
use Rattle.std.specs.Prelude.{◌≡◌, ◌<◌, ◌⊎◌, ℕ, List, ◌∷◌, ◌++◌, Option, drop, length, map, take}
use Rattle.std.specs.Fs.{IsDir, IsFile, file_type}
use Rattle.std.specs.List.{AllByRecursion}
use Rattle.std.specs.declared.fs.attrs.Metadata.{Metadata}
use Rattle.sst_entries.specs.declared.error.Error.TheVariants.{OutOfMemory}
use Rattle.sst_tool.specs.declared.files.file_error.FileError.{FileError}
use Rattle.sst_tool.specs.declared.files.file_error.FileFault.{FileFault}
use Rattle.sst_tool.specs.declared.files.file_error.FileFault.TheVariants.{AfterOthers, Folder, Io}
use Rattle.sst_tool.specs.declared.files.file_error.FileFault.TheVariants.{Left, NamesTaken, NotPlain}
use Rattle.sst_tool.specs.declared.files.file_error.FileFault.TheVariants.{NotSynced, Refused}
use Rattle.sst_tool.specs.declared.files.write.NewFile.{NewFile}
use Rattle.sst_tool.specs.files.Files.{IsBeside, path_text}
use Rattle.sst_tool.specs.files.Steps.{OnlyDoes, Removes, Step, then_done}
use Rattle.sst_tool.specs.files.Steps.Step.{Removed, Renamed, Synced, Wrote}
use Rattle.sst_tool.specs.files.There.{AreAllTaken, LiesElsewhere}

-- A file to write, its path, its temporary path, and the mode that is requested, if one is.
pub record Standing : Type 0 where
  pub file : NewFile
  pub path : List ℕ
  pub beside : List ℕ
  pub mode : Option ℕ

-- The path is the file's own, and the temporary one is a temporary name of it.
abbrev pub StandsBeside : Standing → Type 0
StandsBeside s = (s.path ≡ path_text s.file.name) × IsBeside s.path s.beside

-- Each file is written and synced.
abbrev pub writing : List Standing → List Step
writing all = map (λ s. Wrote s.beside s.file.bytes.now s.mode) all

-- Each file is renamed.
abbrev pub renaming : List Standing → List Step
renaming all = map (λ s. Renamed s.beside s.path) all

-- The folder of each file is synced.
abbrev pub syncing : List Standing → List Step
syncing all = map (λ s. Synced s.path) all

-- Each temporary file is removed.
abbrev pub removing : List Standing → List Step
removing all = map (λ s. Removed s.beside) all

-- The files of the list, each under its temporary name.
pub record AreBeside (files : List NewFile) (all : List Standing) : Type 0 where
  pub files_are : map (λ s. s.file) all ≡ files
  pub beside : AllByRecursion StandsBeside all

-- The path is a temporary name of one of the files.
abbrev pub IsBesideOne : List Standing → List ℕ → Type 0
IsBesideOne all path = Any (λ (s : Standing). IsBeside s.path path) all

-- All files were written, then all were renamed, then their folders synced. After that only files
-- with temporary names of these were removed, and nothing else was done.
pub record AreInPlace (known : Option (List Step)) (wanted : List NewFile)
    (new : Option (List Step)) : Type 0 where
  pub all : List Standing
  pub are : AreBeside wanted all
  pub done : OnlyDoes (Removes (IsBesideOne all))
      (then_done known (writing all ++ renaming all ++ syncing all)) new

-- The faults of a file before any was renamed. The only error of the library is OutOfMemory.
abbrev pub IsEarly : FileFault → Type 0
IsEarly Folder = Unit {0}
IsEarly NotPlain = Unit {0}
IsEarly NamesTaken = Unit {0}
IsEarly (Io error) = Unit {0}
IsEarly (Refused e) = e ≡ OutOfMemory
IsEarly fault = ⊥

-- If a path is reported as no regular file, it is none.
abbrev pub TellsKind : FileFault → Metadata → Type 0
TellsKind Folder m = IsDir (file_type m)
TellsKind NotPlain m = (¬ IsDir (file_type m)) × ¬ IsFile (file_type m)
TellsKind fault m = ⊥

-- If all temporary names are reported as taken, they are, as far as that is known.
abbrev pub TellsAllTaken : (List ℕ → Option Bool) → List ℕ → FileFault → Type 0
TellsAllTaken there path NamesTaken = AreAllTaken there path
TellsAllTaken there path fault = Unit {0}

-- No temporary file is at the path or above it.
abbrev pub StandsNowhere : List Standing → List ℕ → Type 0
StandsNowhere all path = AllByRecursion (λ (s : Standing). LiesElsewhere s.beside path) all

-- Each path is as before, except for temporary files.
abbrev pub SameButBeside : {X : Type 0} → List Standing → (List ℕ → X) → (List ℕ → X) → Type 0
SameButBeside all old new = (other : List ℕ) → StandsNowhere all other → new other ≡ old other

-- The files were written up to one that was not, and its error is true of the paths at that time.
pub record StopsBefore (there : List ℕ → Option Bool) (wanted : List NewFile)
    (all : List Standing) (e : FileError) : Type 0 where
  pub before : List NewFile
  pub file : NewFile
  pub behind : List NewFile
  pub split : wanted ≡ before ++ file ∷ behind
  pub are : AreBeside before all
  pub named : e.name ≡ file.name
  pub early : IsEarly e.fault
  pub by_then : List ℕ → Option Bool
  pub same : SameButBeside all there by_then
  pub taken : TellsAllTaken by_then (path_text file.name) e.fault

-- One file was not written, those before it were and are removed again, and nothing else was done.
pub record StopWriting (there : List ℕ → Option Bool) (known : Option (List Step))
    (wanted : List NewFile) (e : FileError) (new : Option (List Step)) : Type 0 where
  pub all : List Standing
  pub stops : StopsBefore there wanted all e
  pub done : new ≡ then_done known (writing all ++ removing all)

-- The fault says how many files were renamed before.
abbrev pub TellsRenamed : FileFault → ℕ → Type 0
TellsRenamed (Io error) n = n ≡ 0
TellsRenamed (AfterOthers renamed error) n = (n ≡ renamed) × (0 < n)
TellsRenamed fault n = ⊥

-- The file after so many was not renamed, and the error names it.
pub record StopsRenamingAt (all : List Standing) (n : ℕ) (e : FileError) : Type 0 where
  pub before : List Standing
  pub one : Standing
  pub behind : List Standing
  pub split : all ≡ before ++ one ∷ behind
  pub long : length before ≡ n
  pub named : e.name ≡ one.file.name
  pub counted : TellsRenamed e.fault n

-- One file was not renamed. Those before it are, and it and those after it are removed.
pub record StopRenaming (known : Option (List Step)) (all : List Standing) (e : FileError)
    (new : Option (List Step)) : Type 0 where
  pub renamed : ℕ
  pub stops : StopsRenamingAt all renamed e
  pub done : new ≡ then_done known (renaming (take renamed all) ++ removing (drop renamed all))

-- The fault says that the folder of the file is not synced.
abbrev pub IsNotSynced : FileFault → Type 0
IsNotSynced (NotSynced error) = Unit {0}
IsNotSynced fault = ⊥

-- The folder of one file was not synced, and those of the files before it were.
pub record StopSyncing (known : Option (List Step)) (all : List Standing) (e : FileError)
    (new : Option (List Step)) : Type 0 where
  pub before : List Standing
  pub one : Standing
  pub behind : List Standing
  pub split : all ≡ before ++ one ∷ behind
  pub named : e.name ≡ one.file.name
  pub returned : IsNotSynced e.fault
  pub done : new ≡ then_done known (syncing before)

-- All temporary files are renamed and their folders synced. After that only files with temporary
-- names of these are removed.
abbrev pub ArePut : Option (List Step) → List Standing → Option (List Step) → Type 0
ArePut known all new = OnlyDoes (Removes (IsBesideOne all))
    (then_done (then_done known (renaming all)) (syncing all)) new

-- The temporary files are not all renamed, or all are and not all folders synced.
abbrev pub AreNotPut : Option (List Step) → List Standing → FileError → Option (List Step)
    → Type 0
AreNotPut known all e new =
    StopRenaming known all e new ⊎ StopSyncing (then_done known (renaming all)) all e new

-- All files were written, and not all renamed and synced.
pub record StopPutting (known : Option (List Step)) (wanted : List NewFile) (e : FileError)
    (new : Option (List Step)) : Type 0 where
  pub all : List Standing
  pub are : AreBeside wanted all
  pub stops : AreNotPut (then_done known (writing all)) all e new

-- The files are not all written and renamed, or not durable.
abbrev pub AreNotPlaced : (List ℕ → Option Bool) → Option (List Step) → List NewFile → FileError
    → Option (List Step) → Type 0
AreNotPlaced there known wanted e new =
    StopWriting there known wanted e new ⊎ StopPutting known wanted e new

-- The fault is an error of the system.
abbrev pub IsOfSystem : FileFault → Type 0
IsOfSystem (Io error) = Unit {0}
IsOfSystem fault = ⊥

-- If the fault is a file left over from an earlier write, P holds.
abbrev pub IfLeft : FileFault → Type 0 → Type 0
IfLeft Left holds = holds
IfLeft fault holds = Unit {0}

-- A file that is reported as left over has the name that was to be free, as far as that is known,
-- and nothing was done.
abbrev pub TellsLeft : FileError → List ℕ → Option Bool → Option (List Step)
    → Option (List Step) → Type 0
TellsLeft e next there known new =
    IfLeft e.fault ((path_text e.name ≡ next) × IfSome there (λ b. b ≡ true) × (new ≡ known))

-- The path is taken and this is its fault, as far as that is known; or the system cannot look it
-- up, if it is not known.
abbrev pub TellsFound : FileFault → Option Bool → FileFault → Type 0
TellsFound taken there fault =
    ((fault ≡ taken) × IfSome there (λ b. b ≡ true)) ⊎ (IsOfSystem fault × (there ≡ None))

-- The name is taken, as far as that is known; or the system cannot look it up, if it is not known;
-- or memory ran out.
abbrev pub IsLookFault : FileFault → Option Bool → Type 0
IsLookFault Left there = IfSome there (λ b. b ≡ true)
IsLookFault (Io error) there = there ≡ None
IsLookFault (Refused e) there = e ≡ OutOfMemory
IsLookFault fault there = ⊥

-- The name is taken or was not looked up. The error names it, and nothing was done.
pub record StopLooking (known : Option (List Step)) (next : List ℕ) (there : Option Bool)
    (e : FileError) (new : Option (List Step)) : Type 0 where
  pub named : path_text e.name ≡ next
  pub fault : IsLookFault e.fault there
  pub done : new ≡ known

-- The name that is to be free is not, or was not looked up; or the files are not all written and
-- renamed, or not durable.
abbrev pub AreNotPlacedBefore : (List ℕ → Option Bool) → Option (List Step) → List ℕ
    → List NewFile → FileError → Option (List Step) → Type 0
AreNotPlacedBefore there known next wanted e new =
    StopLooking known next (there next) e new ⊎ AreNotPlaced there known wanted e new
