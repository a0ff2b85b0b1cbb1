-- Tables that are opened.
use denote.Ref.{Bor}
use Rattle.std.proofs.Common.{◌≡◌, sym, ◌∙◌, ap, subst, ℕ, ◌+◌, ◌<◌, List, [], ◌∷◌, ◌++◌}
use Rattle.std.proofs.Common.{Bool, true, false, true≢false, get_or, inl, length, refl, take, drop}
use Rattle.std.specs.Prelude.{IfErr, IfOk, IfSome, Option, Some, None, Result, Ok, Err}
use Rattle.std.specs.Result.{IsErrAnd}
use Rattle.std.proofs.lemmas.List.{get_or_default, take_more}
use Rattle.lsm_readers.specs.point.Parts.{recovered_result}
use Rattle.lsm_readers.specs.point.Table.{OpenTable}
use Rattle.sst_entries.specs.Error.{Gives, is_memory}
use Rattle.sst_entries.specs.declared.error.Error.{Error}
use Rattle.lsm_files.specs.declared.error.FileError.{FileError as ReadError}
use Rattle.lsm_files.specs.declared.error.FileError.TheVariants as failed
use Rattle.lsm_files.specs.Reads.{ByteAccess}
use Rattle.lsm_files.specs.Results.{FileGives}
use Rattle.sst_tool.specs.declared.files.file_error.FileError.{FileError}
use Rattle.sst_tool.specs.declared.files.file_error.FileFault.{FileFault}
use Rattle.sst_tool.specs.declared.files.file_error.FileFault.TheVariants.{AfterOthers, CutShort, Folder}
use Rattle.sst_tool.specs.declared.files.file_error.FileFault.TheVariants.{Io, Left, NamesTaken, NotPlain}
use Rattle.sst_tool.specs.declared.files.file_error.FileFault.TheVariants.{NotSynced, Refused, Taken}
use Rattle.sst_tool.specs.files.Files.{IsReadFault, is_memory_fault, path_text}
use Rattle.sst_tool.specs.files.Opened.{AreOpenedFrom, HasContent, IsToldByBytes, StopsOpening}
use Rattle.sst_tool.specs.files.Opened.{TellsFailure, TellsRefused, fault_of_read}
use Rattle.sst_tool.proofs.Steps.{list_at}

-- what is told of some bytes is told of the table's
pub recovered_so : (pinned : Bool) (returned : Result OpenTable Error) (bytes : List ℕ)
    → Gives (λ (t : OpenTable). t.parts) returned (recovered_result bytes 0 pinned pinned)
    → IfOk returned (λ t. t.bytes ≡ bytes) → IfOk returned (λ t. t.global_seqno ≡ 0)
    → IfOk returned (IsToldByBytes pinned)
recovered_so pinned (Ok t) bytes gives same number = (
  subst (λ (bs : List ℕ).
      Gives (λ (u : OpenTable). u.parts) (Ok t) (recovered_result bs 0 pinned pinned)) (sym same) gives,
  number,
)
recovered_so pinned (Err e) bytes gives same number = tt

-- ---- refusals

memory_told : (pinned : Bool) (known : Option (List ℕ)) (e : Error) → is_memory e ≡ true
    → TellsRefused pinned known (Refused e)
memory_told pinned None e memory = tt
memory_told pinned (Some bytes) e memory = λ other. absurd (true≢false (sym memory ∙ other))

-- want of memory says nothing of the bytes
pub told_memory : (pinned : Bool) (known : Option (List ℕ)) (fault : FileFault)
    → is_memory_fault fault ≡ true → TellsRefused pinned known fault
told_memory pinned known (Refused e) h = memory_told pinned known e h
told_memory pinned known Folder h = absurd cc
told_memory pinned known Taken h = absurd cc
told_memory pinned known NotPlain h = absurd cc
told_memory pinned known Left h = absurd cc
told_memory pinned known (CutShort read size) h = absurd cc
told_memory pinned known NamesTaken h = absurd cc
told_memory pinned known (AfterOthers renamed error) h = absurd cc
told_memory pinned known (NotSynced error) h = absurd cc
told_memory pinned known (Io error) h = absurd cc

-- nor does a file that is not read, whose bytes are not known
pub told_read : (pinned : Bool) (known : Option (List ℕ)) (fault : FileFault)
    → IsReadFault fault → (is_memory_fault fault ≡ false → known ≡ None)
    → TellsRefused pinned known fault
told_read pinned known (Refused e) h none = memory_told pinned known e (ap is_memory h)
told_read pinned known Folder h none = (h, none refl)
told_read pinned known Taken h none = absurd h
told_read pinned known NotPlain h none = absurd h
told_read pinned known Left h none = absurd h
told_read pinned known (CutShort read size) h none = (h, none refl)
told_read pinned known NamesTaken h none = absurd h
told_read pinned known (AfterOthers renamed error) h none = absurd h
told_read pinned known (NotSynced error) h none = absurd h
told_read pinned known (Io error) h none = (h, none refl)

-- what the bytes that were read tell, the file's bytes tell
pub refused_told : (pinned : Bool) (known : Option (List ℕ)) (bytes : List ℕ) (e : Error)
    → IfSome known (λ k. bytes ≡ k)
    → Gives (λ (t : OpenTable). t.parts) (Err e) (recovered_result bytes 0 pinned pinned)
    → TellsRefused pinned known (Refused e)
refused_told pinned None bytes e same returned = tt
refused_told pinned (Some k) bytes e same returned =
    subst (λ (bs : List ℕ). Gives (λ (t : OpenTable). t.parts) (Err e)
    (recovered_result bs 0 pinned pinned)) same returned

-- ---- a table in its file

pub opening_told : (reads : ByteAccess) (t : OpenTable) (bytes : List ℕ) → t.bytes ≡ bytes
    → t.global_seqno ≡ 0
    → FileGives reads (λ (u : OpenTable). u.parts) (Ok t) (recovered_result bytes 0 false false)
    → IsToldByBytes false t
opening_told reads t bytes same number gives = (
  subst (λ (bs : List ℕ). recovered_result bs 0 false false ≡ Ok t.parts) (sym same) gives,
  number,
)

-- the fault of one that does not open
pub opening_fails : (reads : ByteAccess) (bytes : List ℕ) (e : ReadError) (fault : FileFault)
    → fault ≡ fault_of_read e
    → FileGives {X = OpenTable} reads (λ u. u.parts) (Err e) (recovered_result bytes 0 false false)
    → TellsFailure reads (Some bytes) fault
opening_fails reads bytes (failed.Io e) fault is gives =
    subst (TellsFailure reads (Some bytes)) (sym is) (inl gives)
opening_fails reads bytes (failed.Table e) fault is gives =
    subst (TellsFailure reads (Some bytes)) (sym is) gives

-- ---- several files

module _ (pinned : Bool) (content : List ℕ → Option (List ℕ)) where
  opened_behind : (paths : List (Bor (List ℕ))) (path : Bor (List ℕ)) (ts : List OpenTable)
      (t : OpenTable) → AreOpenedFrom pinned content paths ts → IsToldByBytes pinned t
      → HasContent (content path.now) t
      → AreOpenedFrom pinned content (paths ++ path ∷ []) (ts ++ t ∷ [])
  opened_behind [] path [] t h returned has = ((returned, has), tt)
  opened_behind [] path (x ∷ ts) t h returned has = absurd h
  opened_behind (p ∷ paths) path [] t h returned has = absurd h
  opened_behind (p ∷ paths) path (x ∷ ts) t h returned has =
      (h.0, opened_behind paths path ts t h.1 returned has)

  -- one more is opened
  pub opened_more : (paths : List (Bor (List ℕ))) (i : ℕ) (d : Bor (List ℕ))
      (ts : List OpenTable) (t : OpenTable) → i < length paths
      → AreOpenedFrom pinned content (take i paths) ts → IsToldByBytes pinned t
      → HasContent (content (get_or paths i d).now) t
      → AreOpenedFrom pinned content (take (i + 1) paths) (ts ++ t ∷ [])
  opened_more paths i d ts t less so_far returned has =
      subst (λ (ps : List (Bor (List ℕ))). AreOpenedFrom pinned content ps (ts ++ t ∷ []))
      (sym (take_more paths i d less))
      (opened_behind (take i paths) (get_or paths i d) ts t so_far returned has)

  -- one is refused
  pub stops_opening : {R : Type 0} (result : Result R FileError) (paths : List (Bor (List ℕ)))
      (i : ℕ) (d : Bor (List ℕ)) (ts : List OpenTable) (e : FileError) → i < length paths
      → AreOpenedFrom pinned content (take i paths) ts → path_text e.name ≡ (get_or paths i d).now
      → TellsRefused pinned (content (get_or paths i d).now) e.fault
      → IsErrAnd result (λ y. y ≡ e) → IfErr result (StopsOpening pinned content paths)
  stops_opening (Ok r) paths i d ts e less so_far named returned is = tt
  stops_opening (Err y) paths i d ts e less so_far named returned is =
      subst (StopsOpening pinned content paths) (sym is) record {
        before = take i paths;
        path = get_or paths i d;
        behind = drop (i + 1) paths;
        split = list_at paths i (get_or paths i d) less
            (get_or_default paths i d (get_or paths i d) less);
        tables = ts;
        opened = so_far;
        named = named;
        returned = returned;
      }
