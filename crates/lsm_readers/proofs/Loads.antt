-- A loaded block is of the kind that was asked for.
use Rattle.std.proofs.Common.{◌≡◌, ℕ, ◌-◌, ◌≤◌, Bool, true, false, cond, List, drop, sym, ap, ◌∙◌}
use Rattle.std.proofs.Common.{arith, inl, inr, length-drop}
use Rattle.std.proofs.lemmas.Bool.{cases_lt}
use Rattle.std.proofs.lemmas.List.{length-take}
use Rattle.std.specs.Prelude.{Option, Some, None, Result, Ok, Err, not, ◌==◌, ◌||◌, slice_range}
use Rattle.std.specs.Prelude.{nat_lt, length, ◌+◌}
use Rattle.sst_entries.specs.declared.error.Error.{Error}
use Rattle.sst_blocks.specs.declared.block_type.BlockType.{BlockType}
use Rattle.sst_blocks.specs.declared.block_type.BlockType.TheVariants.{Data, Meta, Index, Filter}
use Rattle.sst_blocks.specs.declared.version.TableVersion.{TableVersion}
use Rattle.sst_entries.specs.declared.error.Error.TheVariants.{ChecksumMismatch, InvalidHeader}
use Rattle.sst_entries.specs.declared.error.Error.TheVariants.{Truncated}
use Rattle.sst_blocks.specs.Fnv.{fnv1a}
use Rattle.sst_blocks.specs.Block.{Loaded, load_result, load_at_result, checked_payload, grammar_fault}
use Rattle.sst_blocks.specs.Block.{version_in, stored_checksum, header_fault, data_len}
use Rattle.sst_blocks.specs.Block.{uncompressed_len}
use Rattle.sst_entries.specs.Error.{unless}
use Rattle.sst_blocks.specs.Starts.{HoldsEntries}
use Rattle.sst_blocks.proofs.LoadLemmas.{load_truncated, unless_ok}

-- a test that did not fail
pub guard_ok : {A : Type 0} (b : Bool) (e : Error) (r : Result A Error) (x : A)
    → cond b (Err e) r ≡ Ok x → r ≡ Ok x
guard_ok true e r x h = absurd cc
guard_ok false e r x h = h

abbrev made : TableVersion → BlockType → List ℕ → Loaded
made v kind payload = record { version = v; kind = kind; payload = payload }

-- the grammar that was tested last
grammar_ok : (v : TableVersion) (kind : BlockType) (payload : List ℕ) (fault : Option Error)
    (b : Loaded) → unless fault (Ok (made v kind payload)) ≡ Ok b → made v kind payload ≡ b
grammar_ok v kind payload None b h = cc
grammar_ok v kind payload (Some e) b h = absurd cc

pub payload_ok : (v : TableVersion) (checksum : ℕ) (kind : BlockType) (payload : List ℕ)
    (b : Loaded) → checked_payload v checksum kind payload ≡ Ok b → made v kind payload ≡ b
unfolding checked_payload
payload_ok v checksum kind payload b h =
    let checked = unless (grammar_fault v kind payload) (Ok (made v kind payload)) in
    grammar_ok v kind payload (grammar_fault v kind payload) b
    (guard_ok (not (fnv1a payload == checksum)) ChecksumMismatch checked b h)

pub meta_holds : (k : BlockType) → k ≡ Meta → HoldsEntries k
meta_holds Meta e = tt
meta_holds Data e = tt
meta_holds Index e = absurd cc
meta_holds Filter e = absurd cc

-- a block by its position is of that kind
pub load_at_kind : (body : List ℕ) (position : ℕ) (kind : BlockType) (b : Loaded)
    → load_at_result body position kind ≡ Ok b → b.kind ≡ kind
unfolding load_at_result
load_at_kind body position kind b h =
    let head = slice_range body position (position + 24) in
    let end = position + 24 + data_len head in
    let payload = slice_range body (position + 24) end in
    let tail = checked_payload (version_in head) (stored_checksum head) kind payload in
    let inside = cond (nat_lt (length body) end) (Err Truncated) tail in
    let wrong = not (data_len head == uncompressed_len head) in
    let rest = cond wrong (Err InvalidHeader) inside in
    let one = guard_ok (nat_lt (length body) (position + 24)) Truncated
    (unless (header_fault kind head) rest) b h in
    let two = unless_ok (header_fault kind head) rest b one in
    let three = guard_ok wrong InvalidHeader inside b two in
    let four = guard_ok (nat_lt (length body) end) Truncated tail b three in
    sym (ap (λ (l : Loaded). l.kind) (payload_ok (version_in head)
    (stored_checksum head) kind payload b four))

-- ---- how long a payload is

refused_no : {A : Type 0} (r : Result A Error) (e : Error) (x : A) → r ≡ Err e → r ≡ Ok x → ⊥
refused_no r e x p q = let wrong : Err e ≡ Ok x = sym p ∙ q in absurd cc

load_fits : (body : List ℕ) (offset size : ℕ) (kind : BlockType) (b : Loaded)
    → load_result body offset size kind ≡ Ok b → (24 ≤ size) × (offset + size ≤ length body)
load_fits body offset size kind b h =
    let no = λ (short : 24 ≤ size → offset + size ≤ length body → ⊥). refused_no
    (load_result body offset size kind) Truncated b
    (load_truncated body offset size kind short) h in
    elim (cases_lt size 24) [
      | inl lt ↦ absurd (no (λ long within. omega (arith, lt, long)))
      | inr long ↦ elim (cases_lt (length body) (offset + size)) [
        | inl lt ↦ absurd (no (λ big within. omega (arith, lt, within)))
        | inr within ↦ (long, within)
      ]
    ]

load_payload : (body : List ℕ) (offset size : ℕ) (kind : BlockType) (b : Loaded)
    → load_result body offset size kind ≡ Ok b → slice_range body (offset + 24) (offset + size)
    ≡ b.payload
unfolding load_result
load_payload body offset size kind b h =
    let head = slice_range body offset (offset + 24) in
    let payload = slice_range body (offset + 24) (offset + size) in
    let tail = checked_payload (version_in head) (stored_checksum head) kind payload in
    let wrong = not (data_len head == uncompressed_len head) || not (24 + data_len head == size) in
    let past = nat_lt size 24 || nat_lt (length body) (offset + size) in
    let rest = cond wrong (Err InvalidHeader) tail in
    let one = guard_ok past Truncated (unless (header_fault kind head) rest) b h in
    let two = unless_ok (header_fault kind head) rest b one in
    let three = guard_ok wrong InvalidHeader tail b two in
    ap (λ (l : Loaded). l.payload) (payload_ok (version_in head)
    (stored_checksum head) kind payload b three)

-- the size of a block that is loaded is that of its payload and its header
pub load_size : (body : List ℕ) (offset size : ℕ) (kind : BlockType) (b : Loaded)
    → load_result body offset size kind ≡ Ok b → length b.payload + 24 ≡ size
load_size body offset size kind b h =
    let fits = load_fits body offset size kind b h in
    omega (
      arith,
      fits.0,
      fits.1,
      ap length (load_payload body offset size kind b h),
      length-take
          (offset + size - (offset + 24)) (drop (offset + 24) body),
      length-drop (offset + 24) body,
    )
