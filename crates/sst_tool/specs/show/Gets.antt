-- Point reads of files.
use denote.Ref.{Bor}
use Rattle.std.specs.Prelude.{◌≡◌, ◌++◌, ℕ, List, [], ◌∷◌, Bool, Option, None, Some, Ok, false, true}
use Rattle.std.specs.Prelude.{is_some}
use Rattle.sst_entries.specs.Entry.{Entry}
use Rattle.sst_entries.specs.declared.error.Error.{Error}
use Rattle.sst_entries.specs.Error.{is_memory}
use Rattle.sst_entries.specs.Point.{point}
use Rattle.lsm_readers.specs.point.Table.{OpenTable}
use Rattle.lsm_files.specs.Reads.{ByteAccess}
use Rattle.lsm_files.specs.declared.error.FileError.{FileError as ReadError}
use Rattle.lsm_files.specs.declared.error.FileError.TheVariants as failed
use Rattle.lsm_runs.specs.SeveralRuns.{run_read, runs_result, union_in}
use Rattle.sst_tool.specs.declared.files.error.ToolError.{ToolError}
use Rattle.sst_tool.specs.declared.files.error.ToolError.TheVariants as error
use Rattle.sst_tool.specs.declared.files.file_error.FileFault.{FileFault}
use Rattle.sst_tool.specs.declared.files.file_error.FileFault.TheVariants.{Io}
use Rattle.sst_tool.specs.declared.show.gets.GetOptions.{GetOptions}
use Rattle.sst_tool.specs.files.Files.{path_text}
use Rattle.sst_tool.specs.files.Opened.{AreOpenedFrom, HasContent, IsToldByBytes, TellsFailure}
use Rattle.sst_tool.specs.files.Opened.{TellsRefused}
use Rattle.sst_tool.specs.make.Compacted.{each_alone}
use Rattle.sst_tool.specs.show.Failures.{read_refusal}
use Rattle.sst_tool.specs.show.Files.{IsSoundTable, OnListsOf}
use Rattle.sst_tool.specs.show.Read.{seen_below}

-- The file opens as a table, and the read of the key in it finds this.
pub record ReadsFile (o : GetOptions) (known : Option (List ℕ)) (found : Option Entry) : Type 0
  where
    pub table : OpenTable
    pub opened : IsToldByBytes false table
    pub content : HasContent known table
    pub returned : (run_read o.key.now (seen_below o) (table ∷ [])).returned ≡ Ok found

-- The files open as tables, and the read of the key in all of them together finds this.
pub record ReadsAll (o : GetOptions) (content : List ℕ → Option (List ℕ))
    (paths : List (Bor (List ℕ))) (found : Option Entry) : Type 0 where
  pub tables : List OpenTable
  pub opened : AreOpenedFrom false content paths tables
  pub returned : runs_result o.key.now (seen_below o) None (each_alone tables) ≡ Ok found

-- The same, with whether there is an entry. If the tables store lists, it is the first visible
-- version in these lists.
pub record GetsFrom (o : GetOptions) (content : List ℕ → Option (List ℕ))
    (paths : List (Bor (List ℕ))) (there : Bool) : Type 0 where
  pub found : Option Entry
  pub read : ReadsAll o content paths found
  pub is_there : there ≡ is_some found
  pub list : OnListsOf (each_alone read.tables)
      (λ lists. found ≡ point (union_in lists) o.key.now (seen_below o))

-- The error is OutOfMemory, or names the file, with a fault of which this holds.
abbrev pub FailsFile : (FileFault → Type 0) → Bor (List ℕ) → ToolError → Type 0
FailsFile Tells path (error.File e) = (path_text e.name ≡ path.now) × Tells e.fault
FailsFile Tells path (error.Refused e) = is_memory e ≡ true
FailsFile Tells path e = ⊥

-- The error is OutOfMemory, or that of opening the file.
abbrev pub FailsOpen : Option (List ℕ) → Bor (List ℕ) → ToolError → Type 0
FailsOpen known path e = FailsFile (TellsRefused false known) path e

-- The file opens as a table, its read of the key fails with this error, and it stores no list.
pub record FailsRead (o : GetOptions) (known : Option (List ℕ)) (e : Error) : Type 0 where
  pub table : OpenTable
  pub opened : IsToldByBytes false table
  pub content : HasContent known table
  pub refused : read_refusal o.key.now (seen_below o) table ≡ Some e
  pub faulty : IsSoundTable table → ⊥

-- The error is OutOfMemory, or names the file, which does not open or whose read fails.
abbrev pub FailsGet : ByteAccess → GetOptions → Option (List ℕ) → Bor (List ℕ) → ToolError → Type 0
FailsGet reads o known path (error.Unreadable name at e) = (name ≡ path) × FailsRead o known e
FailsGet reads o known path e = FailsFile (TellsFailure reads known) path e

-- The error is that of the first file that fails, and the files before it were read.
pub record StopsGet (reads : ByteAccess) (o : GetOptions) (content : List ℕ → Option (List ℕ))
    (paths : List (Bor (List ℕ))) (e : ToolError) : Type 0 where
  pub before : List (Bor (List ℕ))
  pub path : Bor (List ℕ)
  pub behind : List (Bor (List ℕ))
  pub split : paths ≡ before ++ path ∷ behind
  pub found : Option Entry
  pub read : ReadsAll o content before found
  pub fails : FailsGet reads o (content path.now) path e

-- The error of a table in its file names the file, but for OutOfMemory.
abbrev pub IsFailureAt : Bor (List ℕ) → ReadError → ToolError → Type 0
IsFailureAt path (failed.Io f) (error.File e) = (path_text e.name ≡ path.now) × (e.fault ≡ Io f)
IsFailureAt path (failed.Io f) e = ⊥
IsFailureAt path (failed.Table f) (error.Unreadable name at e) =
    (name ≡ path) × (e ≡ f) × (is_memory f ≡ false)
IsFailureAt path (failed.Table f) (error.Refused e) = is_memory e ≡ true
IsFailureAt path (failed.Table f) e = ⊥

-- The error is the same, except for the block that it comes from.
abbrev pub IsSameFailure : ToolError → ToolError → Type 0
IsSameFailure (error.Unreadable name at e) (error.Unreadable again found f) =
    (again ≡ name) × (f ≡ e)
IsSameFailure (error.Unreadable name at e) r = ⊥
IsSameFailure e r = r ≡ e
