-- The state of a closed store.
use Rattle.std.specs.Prelude.{◌≡◌, ℕ, List, [], map}
use Rattle.std.specs.List.{AllZip}
use Rattle.example_store.specs.Story.{Holding}
use Rattle.example_store.specs.declared.store.close.Closed.{Closed}
use Rattle.lsm_tables.specs.Words.{Entry, OpenTable, StoresList}

-- the bytes of the tables of some runs, run by run
abbrev pub bytes_by_run : List (List OpenTable) → List (List (List ℕ))
bytes_by_run runs = map (map (λ (t : OpenTable). t.bytes)) runs

-- the files of a closed store, run by run
abbrev pub files_in : {A : Type 0} → Closed A → List (List (List ℕ))
files_in c = map (λ run. run.items) c.files.items

-- the state of a closed store that has nothing but its tables
pub record IsClosed {A : Type 0} (s : Holding) (c : Closed A) : Type 0 where
  pub none : s.recent ≡ []
  pub files : files_in c ≡ bytes_by_run s.runs
  pub ids : s.ids ≡ c.ids
  pub next : s.next ≡ c.next
  pub oldest : s.oldest ≡ c.oldest

-- files store lists, one each
abbrev pub StoreLists : List (List (List ℕ)) → List (List (List Entry)) → Type 0
StoreLists files lists = AllZip (AllZip StoresList) files lists
