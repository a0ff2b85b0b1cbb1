-- Opening a table in its file.
use Rattle.std.proofs.Common.{◌≡◌, List, ℕ, ap, subst, sym}
use Rattle.std.proofs.lemmas.Result.{err_from_is_err_and}
use Rattle.std.specs.Prelude.{Bool, Option, None, Result, Ok, Err}
use Rattle.std.specs.Result.{IsErrAnd}
use Rattle.sst_entries.specs.declared.error.Error.{Error}
use Rattle.sst_entries.specs.Error.{unless}
use Rattle.sst_entries.specs.Entry.{Entry}
use Rattle.sst_blocks.specs.Sections.{trailer_fault}
use Rattle.lsm_readers.specs.Stored.{StoresList, fits_result}
use Rattle.lsm_readers.specs.point.Parts.{Parts, recovered_result}
use Rattle.lsm_readers.proofs.StoredParts.{opens_by}
use Rattle.lsm_files.specs.declared.error.FileError.{FileError}
use Rattle.lsm_files.specs.declared.error.FileError.TheVariants.{Io, Table}
use Rattle.lsm_files.specs.Reads.{ByteAccess}
use Rattle.lsm_files.specs.Results.{FileGives}
use Rattle.lsm_files.specs.Tail.{IsTrailerError}

module _ {X Y : Type 0} (reads : ByteAccess) (view : X → Y) (bytes : List ℕ)
    (parts : Result Y Error) where
  trailer_error : (e : FileError) → IsTrailerError reads bytes e
      → FileGives reads view (Err e) (unless (trailer_fault bytes) parts)
  trailer_error (Io f) may = may
  trailer_error (Table f) fault = λ memory. ap (λ (t : Option Error). unless t parts) fault

  -- the trailer has a fault, or could not be read
  pub trailer_refuses : (r : Result X FileError) (e : FileError) → IsErrAnd r (λ y. y ≡ e)
      → IsTrailerError reads bytes e → FileGives reads view r (unless (trailer_fault bytes) parts)
  trailer_refuses r e is fault =
      let p = err_from_is_err_and r is in
      rw (p.1, p.2) (trailer_error e fault)

  -- the trailer has none
  pub trailer_passes : (r : Result X FileError) → trailer_fault bytes ≡ None
      → FileGives reads view r parts → FileGives reads view r (unless (trailer_fault bytes) parts)
  trailer_passes r fine gives =
      subst (λ (t : Option Error). FileGives reads view r (unless t parts)) (sym fine) gives

pub same_error : {X Y Z : Type 0} (reads : ByteAccess) (view : X → Z) (seen : Y → Z) (e : FileError)
    (returned : Result Z Error) → FileGives {X = Y} reads seen (Err e) returned
    → FileGives {X = X} reads view (Err e) returned
same_error reads view seen (Io f) returned may = may
same_error reads view seen (Table f) returned fails = fails

-- an error that was passed on
pub passed_error : {X Y Z : Type 0} (reads : ByteAccess) (view : X → Z) (seen : Y → Z)
    (r : Result X FileError) (e : FileError) (returned : Result Z Error)
    → IsErrAnd r (λ y. y ≡ e) → FileGives {X = Y} reads seen (Err e) returned
    → FileGives reads view r returned
passed_error reads view seen r e returned is gives =
    let p = err_from_is_err_and r is in
    rw (p.1, p.2) (same_error reads view seen e returned gives)

-- bytes that store a list open if the highest seqno fits
module _ {X : Type 0} (reads : ByteAccess) (view : X → Parts) (bytes : List ℕ) (es : List Entry)
    (is : StoresList bytes es) (g : ℕ) (pin_filter pin_index : Bool) where
  abbrev nothing : X → Unit {0}
  nothing x = tt

  pub stored_opens : (r : Result X FileError)
      → FileGives reads view r (recovered_result bytes g pin_filter pin_index)
      → FileGives reads nothing r (fits_result es g)
  stored_opens (Ok x) gives = opens_by bytes es is view (Ok x) g pin_filter pin_index gives
  stored_opens (Err (Io f)) may = may
  stored_opens (Err (Table e)) fails =
      opens_by bytes es is {X = X} view (Err e) g pin_filter pin_index fails
