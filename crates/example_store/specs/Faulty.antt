-- Faults in the files of a store that does not open.
use Rattle.std.specs.Prelude.{◌≡◌, ℕ, ◌-◌, ◌^◌, ◌<◌, ◌≤◌, true, List, [], ◌∷◌, ◌++◌, count_by}
use Rattle.std.specs.Prelude.{length, map, Ok, Err}
use Rattle.std.specs.List.{AllByRecursion}
use Rattle.lsm_tables.specs.Words.{Entry, Error, Finding, IsInOrder, IsStrict, OpenTable}
use Rattle.lsm_tables.specs.Words.{StoresList}
use Rattle.lsm_tables.specs.Words.{body_of, highest_seqno, is_weak, range_of, recovered_result}
use Rattle.lsm_tables.specs.Words.{table_found, union_in}
use Rattle.example_store.specs.Closed.{StoreLists, files_in}
use Rattle.example_store.specs.Story.{IsOwn, IsOwnRun, IsOwnTable}
use Rattle.example_store.specs.declared.store.close.Closed.{Closed}
use Rattle.example_store.specs.declared.store.open.FileFault.{FileFault}
use Rattle.example_store.specs.declared.store.open.FileFault.TheVariants.{Empty, TooHigh, Unopened}
use Rattle.example_store.specs.declared.store.open.FileFault.TheVariants.{Invalid, Weak}
use Rattle.example_store.specs.declared.store.open.OpenError.{OpenError}
use Rattle.example_store.specs.declared.store.open.OpenError.TheVariants.{File, NoFile, OutOfMemory}
use Rattle.example_store.specs.declared.store.open.OpenError.TheVariants.{OldestTooHigh, OutOfOrder}
use Rattle.example_store.specs.declared.store.open.OpenError.TheVariants.{Repeated, SeqNoOverflow}

-- a file that may be a store's: it stores a list that has an entry, and only a store's own entries
pub record IsOwnFile (next : ℕ) (bytes : List ℕ) : Type 0 where
  pub list : List Entry
  pub stores : StoresList bytes list
  pub some : 0 < length list
  pub own : AllByRecursion (IsOwn next) list

-- a file that fails to open as a table with this error, except for `OutOfMemory`: it stores no list
pub record IsNoTable (bytes : List ℕ) (e : Error) : Type 0 where
  pub refused : recovered_result bytes 0 true true ≡ Err e
  pub none : (es : List Entry) → StoresList bytes es → ⊥

-- a file that opens as a table, in which this is the first finding: it stores no list
pub record IsNoList (bytes : List ℕ) (f : Finding) : Type 0 where
  pub table : OpenTable
  pub opens : recovered_result bytes 0 true true ≡ Ok table.parts
  pub found : table_found (body_of bytes) table.parts ≡ Err f
  pub none : (es : List Entry) → StoresList bytes es → ⊥

-- a file that stores a list which has an entry
pub record StoresSome (bytes : List ℕ) : Type 0 where
  pub list : List Entry
  pub stores : StoresList bytes list
  pub some : 0 < length list

-- the fault of a file: it does not open; stores no list; stores the empty list; has a seqno not
-- below the next; or, having none, has a weak tombstone
abbrev pub IsFaultOf : ℕ → List ℕ → FileFault → Type 0
IsFaultOf next bytes (Unopened e) = IsNoTable bytes e
IsFaultOf next bytes (Invalid f) = IsNoList bytes f
IsFaultOf next bytes Empty = StoresList bytes []
IsFaultOf next bytes TooHigh = (file : StoresSome bytes) × (next ≤ highest_seqno file.list)
IsFaultOf next bytes Weak = (file : StoresSome bytes) × (highest_seqno file.list < next)
    × (0 < count_by is_weak file.list)

-- the error names the file at an index of a run, by its fault
abbrev pub NamesFile : ℕ → List ℕ → ℕ → ℕ → OpenError → Type 0
NamesFile next bytes run place OutOfMemory = Unit {0}
NamesFile next bytes run place SeqNoOverflow = ⊥
NamesFile next bytes run place OldestTooHigh = ⊥
NamesFile next bytes run place (File r p fault) =
    (r ≡ run) × (p ≡ place) × IsFaultOf next bytes fault
NamesFile next bytes run place (NoFile r) = ⊥
NamesFile next bytes run place (OutOfOrder r) = ⊥
NamesFile next bytes run place Repeated = ⊥

-- the first file of a run that is at fault
pub record IsFirstFile (next : ℕ) (files : List (List ℕ)) (place : ℕ) (fault : FileFault)
    : Type 0 where
  pub front : List (List ℕ)
  pub bytes : List ℕ
  pub behind : List (List ℕ)
  pub files_are : files ≡ front ++ bytes ∷ behind
  pub at : place ≡ length front
  pub fine : AllByRecursion (IsOwnFile next) front
  pub wrong : IsFaultOf next bytes fault

-- files that may be a store's, each, but not in this order
pub record AreNoRun (next : ℕ) (files : List (List ℕ)) : Type 0 where
  pub fine : AllByRecursion (IsOwnFile next) files
  pub wrong : (tables : List OpenTable) → map (λ (t : OpenTable). t.bytes) tables ≡ files
      → AllByRecursion (IsOwnTable next) tables → IsInOrder range_of tables → ⊥

-- the error names the first fault in a run
abbrev pub NamesInRun : ℕ → List (List ℕ) → ℕ → OpenError → Type 0
NamesInRun next files run OutOfMemory = Unit {0}
NamesInRun next files run SeqNoOverflow = ⊥
NamesInRun next files run OldestTooHigh = ⊥
NamesInRun next files run (File r place fault) = (r ≡ run) × IsFirstFile next files place fault
NamesInRun next files run (NoFile r) = (r ≡ run) × (files ≡ [])
NamesInRun next files run (OutOfOrder r) = (r ≡ run) × AreNoRun next files
NamesInRun next files run Repeated = ⊥

-- files that may be those of a run of a store
pub record AreOwnFiles (next : ℕ) (files : List (List ℕ)) : Type 0 where
  pub run : List OpenTable
  pub own : IsOwnRun next run
  pub files_are : map (λ (t : OpenTable). t.bytes) run ≡ files

-- the first run at fault, which has this error
pub record IsFirstRun (next : ℕ) (files : List (List (List ℕ))) (e : OpenError) : Type 0 where
  pub front : List (List (List ℕ))
  pub run : List (List ℕ)
  pub behind : List (List (List ℕ))
  pub files_are : files ≡ front ++ run ∷ behind
  pub fine : AllByRecursion (AreOwnFiles next) front
  pub wrong : NamesInRun next run (length front) e

-- the error names the first fault in all runs
abbrev pub IsFirstFault : ℕ → List (List (List ℕ)) → OpenError → Type 0
IsFirstFault next files OutOfMemory = Unit {0}
IsFirstFault next files SeqNoOverflow = ⊥
IsFirstFault next files OldestTooHigh = ⊥
IsFirstFault next files (File run place fault) = IsFirstRun next files (File run place fault)
IsFirstFault next files (NoFile run) = IsFirstRun next files (NoFile run)
IsFirstFault next files (OutOfOrder run) = IsFirstRun next files (OutOfOrder run)
IsFirstFault next files Repeated = ⊥

-- the next write has a seqno, and the snapshot of all writes is kept
pub record HasNumbers {A : Type 0} (c : Closed A) : Type 0 where
  pub room : c.next < 2 ^ 64 - 1
  pub kept : c.oldest ≤ c.next

-- each run may be a store's, but two of their entries have one key and one seqno
pub record HasTwice (next : ℕ) (files : List (List (List ℕ))) : Type 0 where
  pub fine : AllByRecursion (AreOwnFiles next) files
  pub lists : List (List (List Entry))
  pub store : StoreLists files lists
  pub wrong : IsStrict (union_in lists) → ⊥

-- the error of opening a closed store: of its seqnos, or, if these are right, of its files
abbrev pub IsOpenFault : {A : Type 0} → Closed A → OpenError → Type 0
IsOpenFault c OutOfMemory = Unit {0}
IsOpenFault c SeqNoOverflow = c.next ≡ 2 ^ 64 - 1
IsOpenFault c OldestTooHigh = c.next < c.oldest
IsOpenFault c (File run place fault) =
    HasNumbers c × IsFirstRun c.next (files_in c) (File run place fault)
IsOpenFault c (NoFile run) = HasNumbers c × IsFirstRun c.next (files_in c) (NoFile run)
IsOpenFault c (OutOfOrder run) = HasNumbers c × IsFirstRun c.next (files_in c) (OutOfOrder run)
IsOpenFault c Repeated = HasNumbers c × HasTwice c.next (files_in c)
