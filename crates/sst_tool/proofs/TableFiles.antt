-- Files of tables, one after another.
use Rattle.std.proofs.Common.{◌≡◌, sym, ◌∙◌, ap, subst, ℕ, ◌+◌, ◌<◌, List}
use Rattle.std.proofs.Common.{arith, get_or, length}
use Rattle.std.specs.Prelude.{Any, Bool, IfErr, Option, Result, Ok, Err, false, if◌then◌else◌, map}
use Rattle.std.specs.Prelude.{true}
use Rattle.std.specs.Result.{IsErrAnd}
use Rattle.std.proofs.Common.{◌⊎◌, inl, inr}
use Rattle.std.proofs.lemmas.List.{get_or-map, length-map}
use Rattle.sst_tool.specs.declared.files.file_error.FileError.{FileError}
use Rattle.sst_tool.specs.declared.files.error.ToolError.{ToolError}
use Rattle.sst_tool.specs.declared.files.error.ToolError.TheVariants.{File, Refused}
use Rattle.sst_entries.specs.declared.error.Error.TheVariants.{OutOfMemory}
use Rattle.lsm_writers.specs.declared.writer.FinishedTable.{FinishedTable}
use Rattle.sst_tool.specs.declared.files.write.NewFile.{NewFile}
use Rattle.sst_tool.specs.files.Files.{error_of_file, is_memory_fault, path_text}
use Rattle.sst_tool.specs.files.Placed.{AreInPlace, IfLeft}
use Rattle.sst_tool.specs.files.Steps.{Step}
use Rattle.sst_tool.specs.make.TableFiles.{AreTablesPlaced, IsFreeBehind, RefusesTables, StopsPlacing}
use Rattle.sst_tool.specs.make.TableFiles.{TellsEarlier, TellsTableFile, files_from, table_file_name}
use Rattle.sst_tool.specs.files.Numbered.{named_bytes}
use Rattle.sst_tool.proofs.FilesMore.{file_named, files_long}

-- so many
pub as_many : {A : Type 0} (path : List ℕ) (target : Option ℕ) (fs : List (FinishedTable A))
    (wanted : List NewFile) → map named_bytes wanted ≡ files_from path target 1 fs
    → length wanted ≡ length fs
as_many {A} path target fs wanted files =
    sym (length-map wanted named_bytes) ∙ ap length files
    ∙ files_long (table_file_name path target) 1 (map (λ (f : FinishedTable A). f.bytes) fs)
    ∙ length-map fs (λ (f : FinishedTable A). f.bytes)

-- one of the files is that of a table
pub tells_file : {A : Type 0} (path : List ℕ) (target : Option ℕ) (fs : List (FinishedTable A))
    (wanted : List NewFile) (e : FileError) → map named_bytes wanted ≡ files_from path target 1 fs
    → Any (λ (file : NewFile). file.name ≡ e.name) wanted
    → TellsTableFile path target (length fs) (File e)
tells_file {A} path target fs wanted e files one =
    let long : length wanted ≡ length fs = as_many path target fs wanted files in
    let less : one.0 < length fs = omega (arith, one.2, long) in
    let all : List (List ℕ) = map (λ (f : FinishedTable A). f.bytes) fs in
    let within : one.0 < length all =
    omega (arith, less, length-map fs (λ (f : FinishedTable A). f.bytes)) in
    let at : get_or (map named_bytes wanted) one.0 (named_bytes one.1) ≡ named_bytes one.1 =
    get_or-map named_bytes wanted one.0 one.1 (named_bytes one.1) one.2
    ∙ ap named_bytes one.3 in
    let named : path_text one.1.name ≡ table_file_name path target (1 + one.0) =
    sym (ap (λ (f : List ℕ × List ℕ). f.0) at)
    ∙ ap (λ (l : List (List ℕ × List ℕ)). (get_or l one.0 (named_bytes one.1)).0) files
    ∙ file_named (table_file_name path target) 1 all one.0 (named_bytes one.1) within in
    let place : 1 + one.0 ≡ one.0 + 1 = omega arith in (
      one.0,
      omega (arith, less),
      ap path_text (sym one.4) ∙ named ∙ ap (λ (n : ℕ). table_file_name path target n) place,
    )

-- ---- they are placed, or not

pub tables_placed : {A : Type 0} (path : List ℕ) (target : Option ℕ)
    (fs : List (FinishedTable A)) (wanted seen : List NewFile) (there : List ℕ → Option Bool)
    (known new : Option (List Step)) → map named_bytes wanted ≡ files_from path target 1 fs
    → seen ≡ wanted → AreInPlace known seen new
    → IsFreeBehind target (there (table_file_name path target (length seen + 1)))
    → AreTablesPlaced path target fs there known new
tables_placed {A} path target fs wanted seen there known new files same placed free = record {
  wanted = wanted;
  files = files;
  placed = subst (λ (ws : List NewFile). AreInPlace known ws new) same placed;
  free = subst (λ (n : ℕ). IsFreeBehind target (there (table_file_name path target (n + 1))))
      (ap (λ (ws : List NewFile). length ws) same ∙ as_many path target fs wanted files) free;
}

-- one is refused
pub tables_stop : {A R : Type 0} (returned : Result R ToolError) (path : List ℕ)
    (target : Option ℕ) (fs : List (FinishedTable A)) (wanted seen : List NewFile)
    (there : List ℕ → Option Bool) (known new : Option (List Step)) (e : FileError)
    → map named_bytes wanted ≡ files_from path target 1 fs → seen ≡ wanted
    → StopsPlacing target (table_file_name path target (length seen + 1)) there known seen e new
    → IsErrAnd returned (λ y. y ≡ error_of_file e)
    → IfErr returned (λ y. RefusesTables path target fs there known y new)
tables_stop (Ok r) path target fs wanted seen there known new e files same stops is = tt
tables_stop {A} (Err y) path target fs wanted seen there known new e files same stops is =
    inr (
      e,
      is,
      record {
        wanted = wanted;
        files = files;
        stops = subst (λ (n : ℕ).
            StopsPlacing target (table_file_name path target (n + 1)) there known wanted e new)
            (as_many path target fs wanted files)
            (subst (λ (ws : List NewFile). StopsPlacing target
            (table_file_name path target (length ws + 1)) there known ws e new) same stops);
      },
    )

-- ---- the file that is named

blamed_by : (path : List ℕ) (target : Option ℕ) (tables : ℕ) (e : FileError) (b : Bool)
    → TellsTableFile path target tables (File e)
    → TellsTableFile path target tables (if b then Refused OutOfMemory else File e)
blamed_by path target tables e true h = tt
blamed_by path target tables e false h = h

-- where memory is wanted none is
pub blamed_table : {R : Type 0} (returned : Result R ToolError) (path : List ℕ)
    (target : Option ℕ) (tables : ℕ) (e : FileError) → TellsTableFile path target tables (File e)
    → IsErrAnd returned (λ y. y ≡ error_of_file e) → IfErr returned (TellsTableFile path target tables)
blamed_table (Ok r) path target tables e h is = tt
blamed_table (Err y) path target tables e h is =
    subst (TellsTableFile path target tables) (sym is)
    (blamed_by path target tables e (is_memory_fault e.fault) h)

earlier_by : (path : List ℕ) (target : Option ℕ) (tables : ℕ) (e : FileError) (b : Bool)
    → IfLeft e.fault (path_text e.name ≡ table_file_name path target (tables + 1))
    → TellsEarlier path target tables (if b then Refused OutOfMemory else File e)
earlier_by path target tables e true h = tt
earlier_by path target tables e false h = h

pub blamed_earlier : {A R : Type 0} (returned : Result R ToolError) (path : List ℕ)
    (target : Option ℕ) (fs : List (FinishedTable A)) (wanted seen : List NewFile)
    (e : FileError) → map named_bytes wanted ≡ files_from path target 1 fs → seen ≡ wanted
    → IfLeft e.fault (path_text e.name ≡ table_file_name path target (length seen + 1))
    → IsErrAnd returned (λ y. y ≡ error_of_file e) → IfErr returned (TellsEarlier path target (length fs))
blamed_earlier (Ok r) path target fs wanted seen e files same h is = tt
blamed_earlier {A} (Err y) path target fs wanted seen e files same h is =
    subst (TellsEarlier path target (length fs)) (sym is)
    (earlier_by path target (length fs) e (is_memory_fault e.fault)
    (subst (λ (n : ℕ). IfLeft e.fault (path_text e.name ≡ table_file_name path target (n + 1)))
    (ap (λ (ws : List NewFile). length ws) same ∙ as_many path target fs wanted files) h))

-- one of the files, or the one behind them
pub tells_next : {A : Type 0} (path : List ℕ) (target : Option ℕ) (fs : List (FinishedTable A))
    (wanted seen : List NewFile) (e : FileError)
    → map named_bytes wanted ≡ files_from path target 1 fs → seen ≡ wanted
    → (path_text e.name ≡ table_file_name path target (length seen + 1))
    ⊎ Any (λ (file : NewFile). file.name ≡ e.name) seen
    → TellsTableFile path target (length fs) (File e)
tells_next {A} path target fs wanted seen e files same (inl next) =
    let many : length seen ≡ length fs =
    ap (λ (ws : List NewFile). length ws) same ∙ as_many path target fs wanted files in (
      length fs,
      omega arith,
      next ∙ ap (λ (n : ℕ). table_file_name path target (n + 1)) many,
    )
tells_next {A} path target fs wanted seen e files same (inr one) =
    tells_file path target fs wanted e files
    (subst (Any (λ (file : NewFile). file.name ≡ e.name)) same one)
