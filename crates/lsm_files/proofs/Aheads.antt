-- Blocks that were read ahead.
use Rattle.std.proofs.Common.{◌≡◌, ℕ, ◌+◌, ◌-◌, ◌≤◌, ◌<◌, List, length, slice_range, take, drop, ap}
use Rattle.std.proofs.Common.{sym, subst, ◌∙◌, arith, true, false, refl, inl, inr, length-take}
use Rattle.std.proofs.lemmas.List.{drop-drop, drop-take, take-take}
use Rattle.std.proofs.lemmas.Result.{err_from_is_err_and}
use Rattle.std.specs.Prelude.{Result, Ok, Err, IfErr}
use Rattle.std.specs.Result.{IsErrAnd}
use Rattle.sst_entries.specs.declared.error.Error.{Error}
use Rattle.sst_entries.specs.declared.error.Error.TheVariants.{OutOfMemory, Truncated}
use Rattle.sst_entries.specs.Error.{is_memory}
use Rattle.sst_blocks.specs.declared.block_type.BlockType.{BlockType}
use Rattle.sst_blocks.specs.Block.{decode_block, head_size, load_at_result}
use Rattle.sst_blocks.specs.Sections.{body_of}
use Rattle.sst_blocks.proofs.LoadLemmas.{decode_part}
use Rattle.lsm_files.specs.declared.error.FileError.{FileError}
use Rattle.lsm_files.specs.declared.error.FileError.TheVariants.{Io, Table}
use Rattle.lsm_files.specs.Reads.{IsPartAt, ByteAccess, whole}
use Rattle.lsm_files.specs.Results.{FileGives, IsReadError}
use Rattle.lsm_files.specs.Tail.{IsPartError}
use Rattle.lsm_files.proofs.Parts.{part_of_body, range_length}
use Rattle.lsm_files.proofs.Headed.{fails_by_head, loads_by_size, past_by_size}

-- bytes that could not be read
module _ {X Y : Type 0} (reads : ByteAccess) (view : X → Y) (len end : ℕ) (returned : Result Y Error)
    (short : len < end → returned ≡ Err Truncated) where
  part_error : (e : FileError) → IsPartError reads len end e → FileGives reads view (Err e) returned
  part_error (Io f) may = may
  part_error (Table f) fault = λ memory.
      let p = fault memory in
      short p.1 ∙ ap (λ (d : Error). Err d) (sym p.0)

  pub part_refuses : (r : Result X FileError) (e : FileError) → IsErrAnd r (λ y. y ≡ e)
      → IsPartError reads len end e → FileGives reads view r returned
  part_refuses r e is fault =
      let p = err_from_is_err_and r is in
      rw (p.1, p.2) (part_error e fault)

range_of_range : (xs : List ℕ) (at n start len : ℕ) → start + len ≤ n
    → take len (drop start (take n (drop at xs))) ≡ take len (drop (at + start) xs)
range_of_range xs at n start len within =
    let m = n - start in
    let whole : n ≡ start + m = omega (arith, within) in
    ap (λ (k : ℕ). take len (drop start (take k (drop at xs)))) whole
    ∙ ap (take len) (drop-take start m (drop at xs))
    ∙ take-take len m (drop start (drop at xs)) (omega (arith, within))
    ∙ ap (take len) (drop-drop start at xs)

-- a part of a part of a body is one of the body
pub part_of_part : (body chunk part : List ℕ) (at start : ℕ) → IsPartAt body at chunk
    → start + length part ≤ length chunk → part ≡ slice_range chunk start (start + length part)
    → IsPartAt body (at + start) part
part_of_part body chunk part at start read within is =
    let n = length part in
    let size : start + n - start ≡ n = omega arith in
    let chunk_size : at + length chunk - at ≡ length chunk = omega arith in
    let end : n ≡ at + start + n - (at + start) = omega arith in
    record {
      within = omega (arith, read.within, within);
      is = is
          ∙ ap (λ (k : ℕ). take k (drop start chunk)) size
          ∙ ap (λ (xs : List ℕ). take n (drop start xs)) read.is
          ∙ ap (λ (k : ℕ). take n (drop start (take k (drop at body)))) chunk_size
          ∙ range_of_range body at (length chunk) start n within
          ∙ ap (λ (k : ℕ). take k (drop (at + start) body)) end;
    }

-- a part of the last bytes that were read
pub kept_part : (bytes chunk part : List ℕ) (at start position len : ℕ) → IsPartAt bytes at chunk
    → start + len ≤ length chunk → at + start ≡ position
    → part ≡ slice_range chunk start (start + len) → position + len ≤ length (body_of bytes)
    → IsPartAt (body_of bytes) position part
kept_part bytes chunk part at start position len read within there is ends =
    let size : length part ≡ len = ap length is ∙ range_length chunk start len within in
    let of_bytes = part_of_part bytes chunk part at start read (omega (arith, size, within))
    (is ∙ ap (λ (n : ℕ). slice_range chunk start (start + n)) (sym size)) in
    part_of_body bytes position part (subst (λ (n : ℕ). IsPartAt bytes n part) there of_bytes)
    (omega (arith, size, ends))

-- the first of bytes that were just read
pub first_part : (bytes chunk part : List ℕ) (position len : ℕ) → IsPartAt bytes position chunk
    → len ≤ length chunk → part ≡ slice_range chunk 0 len → position + len ≤ length (body_of bytes)
    → IsPartAt (body_of bytes) position part
first_part bytes chunk part position len read within is ends =
    kept_part bytes chunk part position 0 position len read (omega (arith, within)) (omega arith)
    (is ∙ ap (λ (n : ℕ). slice_range chunk 0 n) (let e : len ≡ 0 + len = omega arith in e)) ends

abbrev sizes : ℕ → Result ℕ Error
sizes n = Ok n

-- the block of a header that was read
module _ (body : List ℕ) (position : ℕ) (kind : BlockType) (head seen : List ℕ)
    (size : length head ≡ 24) (at : IsPartAt body position head) (same : seen ≡ head) where
  within : position + 24 ≤ length body
  within = omega (arith, at.within, size)

  seen_is : head_size kind seen ≡ head_size kind (slice_range body position (position + 24))
  seen_is = ap (head_size kind) (same ∙ at.is
      ∙ ap (λ (n : ℕ). slice_range body position (position + n)) size)

  -- its header has a fault
  pub head_fails : (e : Error) → Err e ≡ head_size kind seen
      → load_at_result body position kind ≡ Err e
  head_fails e is = fails_by_head body position kind e (sym (is ∙ seen_is)) within

  -- it reaches past the body
  pub head_passes : (n : ℕ) → Ok n ≡ head_size kind seen → length body < position + n
      → load_at_result body position kind ≡ Err Truncated
  head_passes n is past = past_by_size body position kind n (sym (is ∙ seen_is)) within past

  -- its bytes decode as it loads
  pub head_loads : (part : List ℕ) (n : ℕ) → Ok n ≡ head_size kind seen → length part ≡ n
      → IsPartAt body position part → decode_block kind part ≡ load_at_result body position kind
  head_loads part n is len part_at =
      decode_part body position kind part part_at.within part_at.is
      ∙ sym (loads_by_size body position kind (length part) (sym (ap sizes len ∙ is ∙ seen_is))
      within part_at.within)

-- ---- errors of reading a part

body_within : (bytes : List ℕ) → length (body_of bytes) ≤ length bytes
body_within bytes = omega (arith, length-take (length bytes - 120) bytes)

wants : (reads : ByteAccess) (len end : ℕ) (e : Error) → e ≡ OutOfMemory
    → IsPartError reads len end (Table e)
wants reads len end e is = λ memory.
    absurd (let wrong : true ≡ false = ap is_memory (sym is) ∙ memory in cc)

-- a read within the bytes failed
read_part : (reads : ByteAccess) (bytes : List ℕ) (stop len end : ℕ) (e : FileError)
    → stop ≤ length (body_of bytes) → IsReadError reads (length bytes) stop e
    → IsPartError reads len end e
read_part reads bytes stop len end (Io f) within fails = elim fails [
  | inl may ↦ may
  | inr past ↦ absurd (omega (arith, within, body_within bytes, past))
]
read_part reads bytes stop len end (Table f) within is = wants reads len end f is

pub part_read_error : {X : Type 0} (reads : ByteAccess) (bytes : List ℕ) (stop len end : ℕ)
    (r : Result X FileError) (e : FileError) → IsErrAnd r (λ y. y ≡ e)
    → stop ≤ length (body_of bytes) → IsReadError reads (length bytes) stop e
    → IfErr r (IsPartError reads len end)
part_read_error reads bytes stop len end r e is within fails =
    let p = err_from_is_err_and r is in
    rw (p.1, p.2) (read_part reads bytes stop len end e within fails)

-- memory ran out
pub part_wants : {X : Type 0} (reads : ByteAccess) (len end : ℕ) (r : Result X FileError) (e : Error)
    → IsErrAnd r (λ y. y ≡ Table e) → e ≡ OutOfMemory → IfErr r (IsPartError reads len end)
part_wants reads len end r e is wanted =
    let p = err_from_is_err_and r is in
    rw (p.1, p.2) (wants reads len end e wanted)

-- the bytes end past the body
pub part_short : (reads : ByteAccess) (len end : ℕ) → len < end
    → IsPartError reads len end (Table Truncated)
part_short reads len end past = λ _. (refl, past)

-- ---- an error of decoding

whole_error : {X Y Z : Type 0} (reads : ByteAccess) (view : X → Z) (seen : Y → Z) (e : FileError)
    (returned : Result Z Error) → FileGives {X = Y} whole seen (Err e) returned
    → FileGives {X = X} reads view (Err e) returned
whole_error reads view seen (Io f) returned none = absurd none
whole_error reads view seen (Table f) returned fails = fails

-- the error of bytes in memory
pub passed_whole : {X Y Z : Type 0} (reads : ByteAccess) (view : X → Z) (seen : Y → Z)
    (r : Result X FileError) (e : FileError) (returned : Result Z Error)
    → IsErrAnd r (λ y. y ≡ e) → FileGives {X = Y} whole seen (Err e) returned
    → FileGives reads view r returned
passed_whole reads view seen r e returned is gives =
    let p = err_from_is_err_and r is in
    rw (p.1, p.2) (whole_error reads view seen e returned gives)
