-- A loaded block is of the kind that was asked for.
use Rattle.std.proofs.Common.{◌≡◌, ℕ, Bool, true, false, cond, List, refl}
use Rattle.std.specs.Prelude.{Option, Some, None, Result, Ok, Err, not, ◌==◌, ◌||◌, slice_range}
use Rattle.std.specs.Prelude.{nat_lt, length, ◌+◌}
use Rattle.sst_entries.specs.declared.error.Error.{Error}
use Rattle.sst_entries.specs.declared.error.Error.TheVariants.{ChecksumMismatch, InvalidHeader}
use Rattle.sst_entries.specs.declared.error.Error.TheVariants.{Truncated}
use Rattle.sst_entries.specs.Error.{unless}
use Rattle.sst_blocks.specs.declared.version.TableVersion.{TableVersion}
use Rattle.sst_blocks.specs.Fnv.{fnv1a}
use Rattle.sst_blocks.specs.declared.block_type.BlockType.{BlockType}
use Rattle.sst_blocks.specs.Block.{Loaded, load_result, checked_payload, grammar_fault, version_in}
use Rattle.sst_blocks.specs.Block.{stored_checksum, header_fault, data_len, uncompressed_len}

abbrev pub OfKind : BlockType → Result Loaded Error → Type 0
OfKind kind (Ok b) = b.kind ≡ kind
OfKind kind (Err e) = Unit {0}

module _ (kind : BlockType) where
  past_test : (b : Bool) (e : Error) (r : Result Loaded Error) → OfKind kind r
      → OfKind kind (cond b (Err e) r)
  past_test true e r of = tt
  past_test false e r of = of

  past_fault : (o : Option Error) (r : Result Loaded Error) → OfKind kind r
      → OfKind kind (unless o r)
  past_fault None r of = of
  past_fault (Some e) r of = tt

  checked_of_kind : (v : TableVersion) (checksum : ℕ) (payload : List ℕ)
      → OfKind kind (checked_payload v checksum kind payload)
  unfolding checked_payload
  checked_of_kind v checksum payload =
      let returned : Result Loaded Error = Ok (record
      { version = v; kind = kind; payload = payload }) in
      let fault = grammar_fault v kind payload in
      past_test (not (fnv1a payload == checksum)) ChecksumMismatch (unless fault returned)
      (past_fault fault returned refl)

  pub load_of_kind : (body : List ℕ) (offset size : ℕ)
      → OfKind kind (load_result body offset size kind)
  unfolding load_result
  load_of_kind body offset size =
      let head = slice_range body offset (offset + 24) in
      let payload = slice_range body (offset + 24) (offset + size) in
      let tail = checked_payload (version_in head) (stored_checksum head) kind payload in
      let wrong = not (data_len head == uncompressed_len head)
      || not (24 + data_len head == size) in
      let past = nat_lt size 24 || nat_lt (length body) (offset + size) in
      let rest = cond wrong (Err InvalidHeader) tail in
      past_test past Truncated (unless (header_fault kind head) rest)
      (past_fault (header_fault kind head) rest
      (past_test wrong InvalidHeader tail (checked_of_kind (version_in head)
      (stored_checksum head) payload)))
