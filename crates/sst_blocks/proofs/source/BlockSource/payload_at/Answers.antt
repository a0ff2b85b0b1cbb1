use Rattle.std.proofs.Common.{◌≡◌, ◌+◌, ℕ, List, length, slice_range, ap, subst, refl, ◌∙◌, arith}
use Rattle.std.specs.Prelude.{None, Some, Err}
use Rattle.std.specs.Option.{option_or}
use Rattle.std.proofs.lemmas.Result.{err_from_is_err_and}
use Rattle.sst_entries.specs.declared.error.Error.TheVariants.{Truncated, InvalidHeader}
use Rattle.sst_blocks.specs.Block.{load_at_result, position_fault, checked_payload, checksum_fault, data_len, header_fault, room_fault, stored_checksum, version_in}
use Rattle.sst_blocks.specs.Sections.{body_of}
use Rattle.sst_blocks.proofs.MarkLemmas.{placed_there}
use Rattle.sst_blocks.proofs.LoadLemmas.{load_at_truncated, load_at_fault, load_at_lengths, load_at_passes, load_at_checked, range_short, position_truncated, position_header, position_lengths, position_passes, position_checked}
use Rattle.sst_blocks.proofs.source.BlockSource.payload_at.Goals as goal
use Rattle.sst_blocks.proofs.source.BlockSource.payload_at.Goals.{then-body-lt-HEADER_LEN-via-then-body-lt-HEADER_LEN, then-body-lt-HEADER_LEN-via-else-body-lt-HEADER_LEN+then-body-position}

pub returns-then-body-lt-HEADER_LEN-clause-returned : goal.returns-then-body-lt-HEADER_LEN-clause-returned
returns-then-body-lt-HEADER_LEN-clause-returned g c =
    let returned = load_at_truncated c.body-body.result.now c.args.position c.args.kind (λ within. elim c.then-body-lt-HEADER_LEN.branch [
      | then-body-lt-HEADER_LEN-via-then-body-lt-HEADER_LEN w ↦ omega arith
      | then-body-lt-HEADER_LEN-via-else-body-lt-HEADER_LEN+then-body-position w ↦ omega arith
    ]) in
    cc c.body-body.ensures.body

pub returns-in_err-header-clause-returned : goal.returns-in_err-header-clause-returned
returns-in_err-header-clause-returned g c =
    let p = err_from_is_err_and c.from_residual.result c.from_residual.ensures.1 in
    let returned = load_at_fault c.body-body.result.now c.args.position c.args.kind c.in_err-header.field-0.0 (omega arith) c.in_err-header.ensures.fault in
    let same : load_at_result (body_of c.args.self.now) c.args.position c.args.kind ≡ Err c.in_err-header.field-0.0 = cc c.body-body.ensures.body in
    rw (p.1, p.2) same

pub returns-then-header-clause-returned : goal.returns-then-header-clause-returned
returns-then-header-clause-returned g c =
    let returned = load_at_lengths c.body-body.result.now c.args.position c.args.kind (omega arith) c.in_ok-header.ensures.fault (λ same. omega (arith, c.in_ok-header.ensures.data_len, c.in_ok-header.ensures.uncompressed_len)) in
    cc c.body-body.ensures.body

pub returns-then-body-start-clause-returned : goal.returns-then-body-start-clause-returned
returns-then-body-start-clause-returned g c =
    let returned = load_at_passes c.body-body.result.now c.args.position c.args.kind (omega arith) c.in_ok-header.ensures.fault (omega (arith, c.in_ok-header.ensures.data_len, c.in_ok-header.ensures.uncompressed_len)) (omega (arith, c.in_ok-header.ensures.data_len)) in
    cc c.body-body.ensures.body

-- what is found before the payload

pub returns-then-body-lt-HEADER_LEN-clause-first : goal.returns-then-body-lt-HEADER_LEN-clause-first
returns-then-body-lt-HEADER_LEN-clause-first g c =
    let returned = position_truncated c.body-body.result.now c.args.position c.args.kind (λ within. elim c.then-body-lt-HEADER_LEN.branch [
      | then-body-lt-HEADER_LEN-via-then-body-lt-HEADER_LEN w ↦ omega arith
      | then-body-lt-HEADER_LEN-via-else-body-lt-HEADER_LEN+then-body-position w ↦ omega arith
    ]) in
    let fault : position_fault (body_of c.args.self.now) c.args.position c.args.kind ≡ Some Truncated = cc c.body-body.ensures.body in
    fault

pub returns-in_err-header-clause-first : goal.returns-in_err-header-clause-first
returns-in_err-header-clause-first g c =
    let p = err_from_is_err_and c.from_residual.result c.from_residual.ensures.1 in
    let returned = position_header c.body-body.result.now c.args.position c.args.kind c.in_err-header.field-0.0 (omega arith) c.in_err-header.ensures.fault in
    let fault : position_fault (body_of c.args.self.now) c.args.position c.args.kind ≡ Some c.in_err-header.field-0.0 = cc c.body-body.ensures.body in
    rw (p.1, p.2) fault

pub returns-then-header-clause-first : goal.returns-then-header-clause-first
returns-then-header-clause-first g c =
    let returned = position_lengths c.body-body.result.now c.args.position c.args.kind (omega arith) c.in_ok-header.ensures.fault (λ same. omega (arith, c.in_ok-header.ensures.data_len, c.in_ok-header.ensures.uncompressed_len)) in
    let fault : position_fault (body_of c.args.self.now) c.args.position c.args.kind ≡ Some InvalidHeader = cc c.body-body.ensures.body in
    fault

pub returns-then-body-start-clause-first : goal.returns-then-body-start-clause-first
returns-then-body-start-clause-first g c =
    let returned = position_passes c.body-body.result.now c.args.position c.args.kind (omega arith) c.in_ok-header.ensures.fault (omega (arith, c.in_ok-header.ensures.data_len, c.in_ok-header.ensures.uncompressed_len)) (omega (arith, c.in_ok-header.ensures.data_len)) in
    let fault : position_fault (body_of c.args.self.now) c.args.position c.args.kind ≡ Some Truncated = cc c.body-body.ensures.body in
    fault

-- of the payload

pub returns-clause-returned : goal.returns-clause-returned
returns-clause-returned g c =
    let header = c.in_ok-header.header in
    let returned = load_at_checked c.body-body.result.now c.args.position c.args.kind (omega arith) c.in_ok-header.ensures.fault (omega (arith, c.in_ok-header.ensures.data_len, c.in_ok-header.ensures.uncompressed_len)) (omega (arith, c.in_ok-header.ensures.data_len)) in
    let whole : load_at_result (body_of c.args.self.now) c.args.position c.args.kind ≡ checked_payload header.version header.checksum c.args.kind (slice_range (body_of c.args.self.now) (c.args.position + 24) (c.args.position + 24 + header.data_len)) = cc (c.body-body.ensures.body, c.in_ok-header.ensures.version, c.in_ok-header.ensures.checksum, c.in_ok-header.ensures.data_len) in
    whole

pub returns-clause-first : goal.returns-clause-first
returns-clause-first g c =
    let header = c.in_ok-header.header in
    let returned = position_checked c.body-body.result.now c.args.position c.args.kind (omega arith) c.in_ok-header.ensures.fault (omega (arith, c.in_ok-header.ensures.data_len, c.in_ok-header.ensures.uncompressed_len)) (omega (arith, c.in_ok-header.ensures.data_len)) in
    let payload = slice_range (body_of c.args.self.now) (c.args.position + 24) (c.args.position + 24 + header.data_len) in
    let whole : position_fault (body_of c.args.self.now) c.args.position c.args.kind ≡ option_or (checksum_fault header.checksum payload) (room_fault header.version c.args.kind payload) = cc (c.body-body.ensures.body, c.in_ok-header.ensures.version, c.in_ok-header.ensures.checksum, c.in_ok-header.ensures.data_len) in
    whole

pub returns-clause-within : goal.returns-clause-within
returns-clause-within g c =
    let size = range_short (body_of c.args.self.now) (c.args.position + 24) c.in_ok-header.header.data_len in
    omega (arith, size, c.body-body.ensures.bound)

pub returns-clause-placed : goal.returns-clause-placed
returns-clause-placed g c =
    let at = c.args.position in
    let head = λ (b : List ℕ). slice_range b at (at + 24) in
    let header = c.in_ok-header.header in
    let body = c.body-body.ensures.body in
    placed_there c.args.self.now at (at + 24 + header.data_len) c.args.kind header c.is_cached.result
    refl (omega (arith, ap length body)) (omega arith)
    (subst (λ (b : List ℕ). header_fault c.args.kind (head b) ≡ None) body c.in_ok-header.ensures.fault)
    (c.in_ok-header.ensures.version ∙ ap (λ (b : List ℕ). version_in (head b)) body)
    (c.in_ok-header.ensures.checksum ∙ ap (λ (b : List ℕ). stored_checksum (head b)) body)
    (c.in_ok-header.ensures.data_len ∙ ap (λ (b : List ℕ). data_len (head b)) body)
    c.is_cached.ensures
