-- Results of calls on a source over a file.
use Rattle.std.proofs.Common.{◌≡◌, false, List, refl, subst, sym, ap, ◌∙◌}
use Rattle.std.specs.Prelude.{Result, Ok, Err, IfErr, IfOk, IsOk}
use Rattle.std.specs.Result.{IsErrAnd}
use Rattle.sst_entries.specs.declared.error.Error.{Error}
use Rattle.sst_entries.specs.Error.{Fails, Gives, is_memory}
use Rattle.sst_blocks.specs.declared.block_type.BlockType.{BlockType}
use Rattle.sst_blocks.specs.declared.opened.Opened.{Opened}
use Rattle.lsm_readers.specs.point.Read.{Opens, wants_memory}
use Rattle.lsm_files.specs.declared.error.FileError.{FileError}
use Rattle.lsm_files.specs.declared.error.FileError.TheVariants.{Io, Table}
use Rattle.lsm_files.specs.Reads.{ByteAccess}
use Rattle.lsm_files.specs.Results.{FileGives, IsFailureOr, failure_as_memory}

failed_on : {X Y : Type 0} (reads : ByteAccess) (view : X → Y) (r : Result X FileError) (e : Error)
    (returned : Result Y Error) → IsErrAnd r (IsFailureOr reads e) → Fails e returned
    → FileGives reads view r returned
failed_on reads view (Ok x) e returned is fails = absurd is
failed_on reads view (Err (Io f)) e returned is fails = is
failed_on reads view (Err (Table f)) e returned is fails =
    subst (λ (d : Error). Fails d returned) (sym is) fails

-- a result that a source passed on
pub passed_on : {X Y : Type 0} (reads : ByteAccess) (view : X → Y) (r : Result X FileError)
    (found : Result X Error) (returned : Result Y Error) → IfOk found (λ x. r ≡ Ok x)
    → IfErr found (λ e. IsErrAnd r (IsFailureOr reads e)) → Gives view found returned
    → FileGives reads view r returned
passed_on {X} reads view r (Ok x) returned ok err gives =
    subst (λ (q : Result X FileError). FileGives reads view q returned) (sym ok) gives
passed_on reads view r (Err e) returned ok err gives = failed_on reads view r e returned err gives

-- a call that found a value does not fail
pub passed_ok : {X : Type 0} (r : Result X FileError) (found : Result X Error)
    → IfOk found (λ x. r ≡ Ok x) → IsOk found → IsOk r
passed_ok {X} r (Ok x) ok is = subst (λ (q : Result X FileError). IsOk q) (sym ok) refl
passed_ok r (Err e) ok is = absurd cc

-- a call that fails neither for memory nor for a read
refused : {X : Type 0} (reads : ByteAccess) (r : Result X FileError) (e : Error)
    → IsErrAnd r (IsFailureOr reads e) → wants_memory (failure_as_memory r) ≡ false
    → is_memory e ≡ false
refused reads (Ok x) e is calm = absurd is
refused reads (Err (Io f)) e is calm = absurd cc
refused reads (Err (Table f)) e is calm = ap is_memory (sym is) ∙ calm

unwanted : {X : Type 0} (reads : ByteAccess) (r : Result X FileError) (found : Result X Error)
    → IfErr found (λ e. IsErrAnd r (IsFailureOr reads e))
    → wants_memory (failure_as_memory r) ≡ false → wants_memory found ≡ false
unwanted reads r (Ok x) err calm = refl
unwanted reads r (Err e) err calm = refused reads r e err calm

-- the loads of a result that a source passed on
pub passed_opens : {X : Type 0} (reads : ByteAccess) (r : Result X FileError) (found : Result X Error)
    (loads : List BlockType) (old new : Opened)
    → IfErr found (λ e. IsErrAnd r (IsFailureOr reads e))
    → Opens found loads old new → Opens (failure_as_memory r) loads old new
passed_opens reads r found loads old new err opens = record {
  made = opens.made;
  counts = opens.counts;
  within = opens.within;
  whole = λ calm. opens.whole (unwanted reads r found err calm);
  some = opens.some;
}
