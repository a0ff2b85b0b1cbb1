-- Point reads of files.
use denote.Ref.{Bor}
use Rattle.std.proofs.Common.{◌≡◌, refl, sym, ◌∙◌, ap, subst, ℕ, ◌+◌, ◌<◌, ◌≤◌, List, [], ◌∷◌, ◌++◌}
use Rattle.std.proofs.Common.{Bool, true, false, true≢false, get_or, inl, inr, length, map, take, drop}
use Rattle.std.specs.Prelude.{Option, Some, None, Result, Ok, Err, IfErr, IfSome, cond, is_some}
use Rattle.std.specs.Result.{IsErrAnd}
use Rattle.std.proofs.lemmas.List.{get_or_default, map-append, take_all}
use Rattle.sst_entries.specs.Entry.{Entry}
use Rattle.sst_entries.specs.Error.{Fails, is_memory}
use Rattle.sst_entries.specs.declared.error.Error.{Error}
use Rattle.sst_entries.specs.declared.error.Error.TheVariants.{OutOfMemory}
use Rattle.sst_entries.proofs.Refusals.{memory_is}
use Rattle.lsm_sorted.specs.Leading.{leading_of}
use Rattle.lsm_sorted.specs.version.KeyRange.{Interval, has_key}
use Rattle.lsm_readers.specs.point.Answer.{table_answer}
use Rattle.lsm_readers.specs.point.Parts.{recovered_result}
use Rattle.lsm_readers.specs.point.Read.{◌>>=◌}
use Rattle.lsm_readers.specs.declared.inner.Inner.{Inner}
use Rattle.lsm_readers.specs.point.Table.{IsRecovered, OpenTable, table_of}
use Rattle.lsm_readers.specs.Scan.{fault_of}
use Rattle.lsm_readers.proofs.Recovered.{range_is}
use Rattle.lsm_files.specs.declared.error.FileError.{FileError as ReadError}
use Rattle.lsm_files.specs.declared.error.FileError.TheVariants as failed
use Rattle.lsm_files.specs.Reads.{ByteAccess}
use Rattle.lsm_files.specs.Results.{FileGives, IsFailureOr}
use Rattle.lsm_run_parts.specs.RunParts.{range_of}
use Rattle.lsm_runs.specs.SeveralRuns.{run_read, runs_result, table_read, union_in}
use Rattle.lsm_runs.proofs.RunPoints.{runs_point}
use Rattle.sst_entries.specs.Point.{point}
use Rattle.sst_tool.specs.declared.files.error.ToolError.{ToolError}
use Rattle.sst_tool.specs.declared.files.error.ToolError.TheVariants as error
use Rattle.sst_tool.specs.declared.files.file_error.FileError.{FileError}
use Rattle.sst_tool.specs.declared.files.file_error.FileFault.{FileFault}
use Rattle.sst_tool.specs.declared.files.file_error.FileFault.TheVariants.{AfterOthers, CutShort, Folder}
use Rattle.sst_tool.specs.declared.files.file_error.FileFault.TheVariants.{Io, Left, NamesTaken, NotPlain}
use Rattle.sst_tool.specs.declared.files.file_error.FileFault.TheVariants.{NotSynced, Refused, Taken}
use Rattle.sst_tool.specs.declared.show.gets.GetOptions.{GetOptions}
use Rattle.sst_tool.specs.files.Files.{error_of_file, is_memory_fault, path_text}
use Rattle.sst_tool.specs.files.Opened.{IsToldByBytes, TellsFailure}
use Rattle.sst_tool.specs.make.Compacted.{each_alone}
use Rattle.sst_tool.specs.show.Failures.{read_refusal}
use Rattle.sst_tool.specs.show.Files.{IsSoundTable}
use Rattle.sst_tool.specs.show.Gets.{FailsFile, FailsGet, FailsRead, GetsFrom, IsFailureAt}
use Rattle.sst_tool.specs.show.Gets.{IsSameFailure, ReadsAll, ReadsFile, StopsGet}
use Rattle.sst_tool.specs.show.Read.{seen_below}
use Rattle.sst_tool.proofs.Opened.{opened_more}
use Rattle.sst_tool.proofs.Steps.{list_at}

-- ---- one table

-- a table that is what its bytes decode to was recovered from them
pub recovered_of : (t : OpenTable) → IsToldByBytes false t → IsRecovered t
recovered_of t told = record {
  pin_filter = false;
  pin_index = false;
  returned = subst (λ (g : ℕ). recovered_result t.bytes g false false ≡ Ok t.parts) (sym told.1)
      told.0;
}

-- a key that the range does not have
pub read_outside : (key : List ℕ) (n : ℕ) (t : OpenTable) → has_key (range_of t) key ≡ false
    → (run_read key n (t ∷ [])).returned ≡ Ok None
read_outside key n t is =
    ap (λ (c : Bool). (table_read key n (cond c (Some t) None)).returned) is

-- one that it has
pub read_inside : (key : List ℕ) (n : ℕ) (t : OpenTable) → has_key (range_of t) key ≡ true
    → (run_read key n (t ∷ [])).returned ≡ (table_answer t key n).returned
read_inside key n t is =
    ap (λ (c : Bool). (table_read key n (cond c (Some t) None)).returned) is

-- what the state of a table says of its range
pub has_by : {A : Type 0} (t : OpenTable) (inner : Inner A) (key : List ℕ) (has b : Bool)
    → IsRecovered t → table_of t.bytes inner ≡ t → has ≡ has_key (inner.metadata).key_range key
    → has ≡ b → has_key (range_of t) key ≡ b
has_by t inner key has b recovered same is tested =
    ap (λ (r : Interval). has_key r key)
    (range_is t recovered ∙ ap (λ (u : OpenTable). u.parts.facts.key_range) (sym same))
    ∙ sym is ∙ tested

memory_by : {Y : Type 0} (e : Error) (y : Y) (b : Bool) → is_memory e ≡ b
    → Fails {Y = Y} e (Ok y) → e ≡ OutOfMemory
memory_by {Y} e y true is fails = memory_is e is
memory_by {Y} e y false is fails = let never : Ok y ≡ Err e = fails is in absurd cc

-- a read that is to find something
pub sound_read : (reads : ByteAccess) (r : Result (Option Entry) ReadError) (x : Option Entry)
    → FileGives reads (λ (y : Option Entry). y) r (Ok x)
    → IfErr r (IsFailureOr reads OutOfMemory)
sound_read reads (Ok y) x gives = tt
sound_read reads (Err (failed.Io e)) x gives = gives
sound_read reads (Err (failed.Table e)) x gives = memory_by e x (is_memory e) refl gives

refusal_by : (key : List ℕ) (n : ℕ) (t : OpenTable) (b : Bool)
    → cond b (fault_of (table_answer t key n).returned) None
    ≡ fault_of (table_read key n (cond b (Some t) None)).returned
refusal_by key n t true = refl
refusal_by key n t false = refl

-- the error of a read, with the key range looked at
pub refusal_is : (key : List ℕ) (n : ℕ) (t : OpenTable)
    → read_refusal key n t ≡ fault_of (run_read key n (t ∷ [])).returned
refusal_is key n t = refusal_by key n t (has_key (range_of t) key)

-- ---- an error

file_by : (Tells : FileFault → Type 0) (path : Bor (List ℕ)) (e : FileError) (b : Bool)
    → is_memory_fault e.fault ≡ b → path_text e.name ≡ path.now → Tells e.fault
    → FailsFile Tells path (cond b (error.Refused OutOfMemory) (error.File e))
file_by Tells path e true is named told = refl
file_by Tells path e false is named told = (named, told)

-- the error of a file
pub file_fails : (Tells : FileFault → Type 0) (path : Bor (List ℕ)) (e : FileError)
    → path_text e.name ≡ path.now → Tells e.fault → FailsFile Tells path (error_of_file e)
file_fails Tells path e named told =
    file_by Tells path e (is_memory_fault e.fault) refl named told

-- what holds of an error holds of the one that is passed on
pub passed : {X : Type 0} (P : ToolError → Type 0) (r : Result X ToolError) (e : ToolError)
    → IsErrAnd r (λ y. y ≡ e) → P e → IfErr r P
passed P (Ok x) e is holds = tt
passed P (Err y) e is holds = subst P (sym is) holds

-- ---- a read that fails

-- the error of a read of a table
pub read_fails : (reads : ByteAccess) (o : GetOptions) (t : OpenTable) (path : Bor (List ℕ))
    (f : ReadError) (e : ToolError) → IsToldByBytes false t
    → FileGives {X = Option Entry} {Y = Option Entry} reads (λ x. x) (Err f)
    (run_read o.key.now (seen_below o) (t ∷ [])).returned
    → (IsSoundTable t → IsFailureOr reads OutOfMemory f) → IsFailureAt path f e
    → FailsGet reads o (Some t.bytes) path e
read_fails reads o t path (failed.Io f) (error.File e) told gives sound at =
    (at.0, subst (λ (g : FileFault). TellsFailure reads (Some t.bytes) g) (sym at.1) (inl gives))
read_fails reads o t path (failed.Io f) e told gives sound at = absurd at
read_fails reads o t path (failed.Table f) (error.Unreadable name place e) told gives sound at = (
  at.0,
  record {
    table = t;
    opened = told;
    content = refl;
    refused = refusal_is o.key.now (seen_below o) t
        ∙ ap (λ (r : Result (Option Entry) Error). fault_of r) (gives at.2)
        ∙ ap (λ (g : Error). Some g) (sym at.1);
    faulty = λ is. absurd (true≢false (sym (ap is_memory (sound is)) ∙ at.2));
  },
)
read_fails reads o t path (failed.Table f) (error.Refused e) told gives sound at = at
read_fails reads o t path (failed.Table f) e told gives sound at = absurd at

-- the block that an error comes from says nothing of the file
pub same_fails : (reads : ByteAccess) (o : GetOptions) (known : Option (List ℕ))
    (path : Bor (List ℕ)) (e r : ToolError) → FailsGet reads o known path e → IsSameFailure e r
    → FailsGet reads o known path r
same_fails reads o known path (error.Unreadable name place e) (error.Unreadable again found f) fails
    is = (is.0 ∙ fails.0, subst (λ (g : Error). FailsRead o known g) (sym is.1) fails.1)
same_fails reads o known path (error.Unreadable name place e) r fails is = absurd is
same_fails reads o known path e r fails is =
    subst (λ (x : ToolError). FailsGet reads o known path x) (sym is) fails

-- ---- the bytes at a path

-- what is read of the bytes is read of those at the path, if these are known
pub read_at : (o : GetOptions) (known : Option (List ℕ)) (bytes : List ℕ) (found : Option Entry)
    → IfSome known (λ k. bytes ≡ k) → ReadsFile o (Some bytes) found → ReadsFile o known found
read_at o None bytes found same r = record {
  table = r.table;
  opened = r.opened;
  content = tt;
  returned = r.returned;
}
read_at o (Some k) bytes found same r = record {
  table = r.table;
  opened = r.opened;
  content = r.content ∙ same;
  returned = r.returned;
}

fault_at : (o : GetOptions) (known : Option (List ℕ)) (bytes : List ℕ) (e : Error)
    → IfSome known (λ k. bytes ≡ k) → FailsRead o (Some bytes) e → FailsRead o known e
fault_at o None bytes e same r = record {
  table = r.table;
  opened = r.opened;
  content = tt;
  refused = r.refused;
  faulty = r.faulty;
}
fault_at o (Some k) bytes e same r = record {
  table = r.table;
  opened = r.opened;
  content = r.content ∙ same;
  refused = r.refused;
  faulty = r.faulty;
}

never : {X : Type 0} {x : X} → Some x ≡ None → ⊥
never e = cc

told_at : (reads : ByteAccess) (known : Option (List ℕ)) (bytes : List ℕ) (fault : FileFault)
    → IfSome known (λ k. bytes ≡ k) → TellsFailure reads (Some bytes) fault
    → TellsFailure reads known fault
told_at reads known bytes (Io e) same (inl fails) = inl fails
told_at reads known bytes (Io e) same (inr none) = absurd (never none)
told_at reads None bytes (Refused e) same told = tt
told_at reads (Some k) bytes (Refused e) same told =
    subst (λ (b : List ℕ). TellsFailure reads (Some b) (Refused e)) same told
told_at reads known bytes Folder same told = absurd (never told.1)
told_at reads known bytes Taken same told = absurd (never told.1)
told_at reads known bytes NotPlain same told = absurd (never told.1)
told_at reads known bytes Left same told = absurd (never told.1)
told_at reads known bytes (CutShort n m) same told = absurd (never told.1)
told_at reads known bytes NamesTaken same told = absurd (never told.1)
told_at reads known bytes (AfterOthers n e) same told = absurd (never told.1)
told_at reads known bytes (NotSynced e) same told = absurd (never told.1)

-- so it is with an error
pub fails_at : (reads : ByteAccess) (o : GetOptions) (known : Option (List ℕ)) (bytes : List ℕ)
    (path : Bor (List ℕ)) (e : ToolError) → IfSome known (λ k. bytes ≡ k)
    → FailsGet reads o (Some bytes) path e → FailsGet reads o known path e
fails_at reads o known bytes path (error.Unreadable name at e) same fails =
    (fails.0, fault_at o known bytes e same fails.1)
fails_at reads o known bytes path (error.File e) same fails =
    (fails.0, told_at reads known bytes e.fault same fails.1)
fails_at reads o known bytes path (error.Refused e) same fails = fails
fails_at reads o known bytes path e same fails = absurd fails

-- ---- several files

module _ (key : List ℕ) (n : ℕ) (run : List OpenTable) (found next : Option Entry) where
  abbrev after : Option Entry → List (List OpenTable) → Result (Option Entry) Error
      → Result (Option Entry) Error
  after f runs r = r >>= λ x. runs_result key n (leading_of f x) runs

  behind : (f : Option Entry) (runs : List (List OpenTable)) (r : Result (Option Entry) Error)
      → ((x : Option Entry) → runs_result key n (leading_of f x) runs ≡ Ok found
      → runs_result key n (leading_of f x) (runs ++ run ∷ []) ≡ Ok (leading_of found next))
      → after f runs r ≡ Ok found → after f (runs ++ run ∷ []) r ≡ Ok (leading_of found next)
  behind f runs (Ok x) more before = more x before
  behind f runs (Err e) more before = absurd cc

  -- the read of one more run
  pub runs_more : (f : Option Entry) (runs : List (List OpenTable))
      → (run_read key n run).returned ≡ Ok next → runs_result key n f runs ≡ Ok found
      → runs_result key n f (runs ++ run ∷ []) ≡ Ok (leading_of found next)
  runs_more f [] one before =
      ap (λ (r : Result (Option Entry) Error). after f [] r) one
      ∙ ap (λ (r : Result (Option Entry) Error). r >>= λ x. Ok (leading_of x next)) before
  runs_more f (ts ∷ runs) one before =
      behind f runs (run_read key n ts).returned
      (λ x so_far. runs_more (leading_of f x) runs one so_far) before

-- nothing is read yet
pub reads_none : (o : GetOptions) (content : List ℕ → Option (List ℕ)) → ReadsAll o content [] None
reads_none o content = record { tables = []; opened = tt; returned = refl }

-- one more file is read
pub reads_more : (o : GetOptions) (content : List ℕ → Option (List ℕ)) (paths : List (Bor (List ℕ)))
    (i : ℕ) (d : Bor (List ℕ)) (found next : Option Entry) → i < length paths
    → ReadsAll o content (take i paths) found
    → ReadsFile o (content (get_or paths i d).now) next
    → ReadsAll o content (take (i + 1) paths) (leading_of found next)
reads_more o content paths i d found next less before one = record {
  tables = before.tables ++ one.table ∷ [];
  opened = opened_more false content paths i d before.tables one.table less before.opened one.opened
      one.content;
  returned = ap (λ (runs : List (List OpenTable)). runs_result o.key.now (seen_below o) None runs)
      (map-append (λ (t : OpenTable). t ∷ []) before.tables (one.table ∷ []))
      ∙ runs_more o.key.now (seen_below o) (one.table ∷ []) found next None
      (each_alone before.tables) one.returned before.returned;
}

-- all files are read
pub reads_all : (o : GetOptions) (content : List ℕ → Option (List ℕ)) (paths : List (Bor (List ℕ)))
    (i : ℕ) (found : Option Entry) → length paths ≤ i → ReadsAll o content (take i paths) found
    → ReadsAll o content paths found
reads_all o content paths i found all before =
    subst (λ (ps : List (Bor (List ℕ))). ReadsAll o content ps found) (take_all i paths all) before

-- one file fails
pub stops_get : {R : Type 0} (reads : ByteAccess) (o : GetOptions) (content : List ℕ → Option (List ℕ))
    (result : Result R ToolError) (paths : List (Bor (List ℕ))) (i : ℕ) (d : Bor (List ℕ))
    (found : Option Entry) (e : ToolError) → i < length paths
    → ReadsAll o content (take i paths) found
    → FailsGet reads o (content (get_or paths i d).now) (get_or paths i d) e
    → IsErrAnd result (λ y. y ≡ e) → IfErr result (StopsGet reads o content paths)
stops_get reads o content (Ok r) paths i d found e less before fails is = tt
stops_get reads o content (Err y) paths i d found e less before fails is =
    subst (StopsGet reads o content paths) (sym is) record {
      before = take i paths;
      path = get_or paths i d;
      behind = drop (i + 1) paths;
      split = list_at paths i (get_or paths i d) less
          (get_or_default paths i d (get_or paths i d) less);
      found = found;
      read = before;
      fails = fails;
    }

same_found : (r : Result (Option Entry) Error) (x y : Option Entry) → r ≡ Ok x → r ≡ Ok y → x ≡ y
same_found r x y is other = cc

-- whether there is an entry
pub gets : (o : GetOptions) (content : List ℕ → Option (List ℕ)) (paths : List (Bor (List ℕ)))
    (found : Option Entry) (there : Bool) → ReadsAll o content paths found
    → there ≡ is_some found → GetsFrom o content paths there
gets o content paths found there read is = record {
  found = found;
  read = read;
  is_there = is;
  list = λ lists hold.
      same_found (runs_result o.key.now (seen_below o) None (each_alone read.tables)) found
      (point (union_in lists) o.key.now (seen_below o)) read.returned
      (runs_point o.key.now (seen_below o) None (each_alone read.tables) lists hold);
}
