use Rattle.std.proofs.Common.{◌≡◌, ◌+◌, refl, slice_range, arith}
use Rattle.std.specs.Option.{option_or}
use Rattle.std.proofs.lemmas.Result.{err_from_is_err_and}
use Rattle.sst_blocks.specs.Block.{load_result, place_fault, checked_payload, checksum_fault, room_fault}
use Rattle.sst_blocks.proofs.LoadLemmas.{load_truncated, load_fault, load_lengths, load_checked, place_truncated, place_header, place_lengths, place_checked}
use Rattle.sst_blocks.proofs.block.range.payload_range.Goals as goal
use Rattle.sst_blocks.proofs.block.range.payload_range.Goals.{then-size-lt-HEADER_LEN-via-then-size-lt-HEADER_LEN, then-size-lt-HEADER_LEN-via-else-size-lt-HEADER_LEN+then-body-size, then-size-lt-HEADER_LEN-via-else-size-lt-HEADER_LEN+else-body-size+then-body-size-2, then-header-via-then-header, then-header-via-else-header+then-header-size}

pub returns-then-size-lt-HEADER_LEN-clause-returned : goal.returns-then-size-lt-HEADER_LEN-clause-returned
returns-then-size-lt-HEADER_LEN-clause-returned c =
    load_truncated c.args.body.now c.args.offset c.args.size c.args.kind (λ long within. elim c.then-size-lt-HEADER_LEN.branch [
      | then-size-lt-HEADER_LEN-via-then-size-lt-HEADER_LEN w ↦ omega arith
      | then-size-lt-HEADER_LEN-via-else-size-lt-HEADER_LEN+then-body-size w ↦ omega arith
      | then-size-lt-HEADER_LEN-via-else-size-lt-HEADER_LEN+else-body-size+then-body-size-2 w ↦ omega arith
    ])

pub returns-in_err-header-clause-returned : goal.returns-in_err-header-clause-returned
returns-in_err-header-clause-returned c =
    let p = err_from_is_err_and c.from_residual.result c.from_residual.ensures.1 in
    let returned = load_fault c.args.body.now c.args.offset c.args.size c.args.kind c.in_err-header.field-0.0 (omega arith) (omega arith) c.in_err-header.ensures.fault in
    rw (p.1, p.2) returned

pub returns-then-header-clause-returned : goal.returns-then-header-clause-returned
returns-then-header-clause-returned c =
    load_lengths c.args.body.now c.args.offset c.args.size c.args.kind (omega arith) (omega arith) c.in_ok-header.ensures.fault (λ same whole. elim c.then-header.branch [
      | then-header-via-then-header w ↦ omega (arith, c.in_ok-header.ensures.data_len, c.in_ok-header.ensures.uncompressed_len)
      | then-header-via-else-header+then-header-size w ↦ omega (arith, c.in_ok-header.ensures.data_len, c.in_ok-header.ensures.uncompressed_len)
    ])

-- what is found before the payload

pub returns-then-size-lt-HEADER_LEN-clause-first : goal.returns-then-size-lt-HEADER_LEN-clause-first
returns-then-size-lt-HEADER_LEN-clause-first c =
    place_truncated c.args.body.now c.args.offset c.args.size c.args.kind (λ long within. elim c.then-size-lt-HEADER_LEN.branch [
      | then-size-lt-HEADER_LEN-via-then-size-lt-HEADER_LEN w ↦ omega arith
      | then-size-lt-HEADER_LEN-via-else-size-lt-HEADER_LEN+then-body-size w ↦ omega arith
      | then-size-lt-HEADER_LEN-via-else-size-lt-HEADER_LEN+else-body-size+then-body-size-2 w ↦ omega arith
    ])

pub returns-in_err-header-clause-first : goal.returns-in_err-header-clause-first
returns-in_err-header-clause-first c =
    let p = err_from_is_err_and c.from_residual.result c.from_residual.ensures.1 in
    let fault = place_header c.args.body.now c.args.offset c.args.size c.args.kind c.in_err-header.field-0.0 (omega arith) (omega arith) c.in_err-header.ensures.fault in
    rw (p.1, p.2) fault

pub returns-then-header-clause-first : goal.returns-then-header-clause-first
returns-then-header-clause-first c =
    place_lengths c.args.body.now c.args.offset c.args.size c.args.kind (omega arith) (omega arith) c.in_ok-header.ensures.fault (λ same whole. elim c.then-header.branch [
      | then-header-via-then-header w ↦ omega (arith, c.in_ok-header.ensures.data_len, c.in_ok-header.ensures.uncompressed_len)
      | then-header-via-else-header+then-header-size w ↦ omega (arith, c.in_ok-header.ensures.data_len, c.in_ok-header.ensures.uncompressed_len)
    ])

-- of the payload

pub returns-clause-returned : goal.returns-clause-returned
returns-clause-returned c =
    let header = c.in_ok-header.header in
    let body = c.args.body.now in
    let payload = slice_range body (c.args.offset + 24) (c.args.offset + c.args.size) in
    let load = load_checked body c.args.offset c.args.size c.args.kind (omega arith) (omega arith) c.in_ok-header.ensures.fault (omega (arith, c.in_ok-header.ensures.data_len, c.in_ok-header.ensures.uncompressed_len)) (omega (arith, c.in_ok-header.ensures.data_len, c.in_ok-header.ensures.uncompressed_len)) in
    let returned : load_result body c.args.offset c.args.size c.args.kind ≡ checked_payload header.version header.checksum c.args.kind payload = cc (c.in_ok-header.ensures.version, c.in_ok-header.ensures.checksum) in
    returned

pub returns-clause-first : goal.returns-clause-first
returns-clause-first c =
    let header = c.in_ok-header.header in
    let body = c.args.body.now in
    let payload = slice_range body (c.args.offset + 24) (c.args.offset + c.args.size) in
    let fault = place_checked body c.args.offset c.args.size c.args.kind (omega arith) (omega arith) c.in_ok-header.ensures.fault (omega (arith, c.in_ok-header.ensures.data_len, c.in_ok-header.ensures.uncompressed_len)) (omega (arith, c.in_ok-header.ensures.data_len, c.in_ok-header.ensures.uncompressed_len)) in
    let first : place_fault body c.args.offset c.args.size c.args.kind ≡ option_or (checksum_fault header.checksum payload) (room_fault header.version c.args.kind payload) = cc (c.in_ok-header.ensures.version, c.in_ok-header.ensures.checksum) in
    first

pub returns-clause-range : goal.returns-clause-range
returns-clause-range c = record {
  start = refl;
  end = omega arith;
  within = omega arith;
  short = omega arith;
  fault = c.in_ok-header.ensures.fault;
  version = c.in_ok-header.ensures.version;
  checksum = c.in_ok-header.ensures.checksum;
  len = c.in_ok-header.ensures.data_len;
}
