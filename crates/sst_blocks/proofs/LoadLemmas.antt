-- What a load tells, one fault after another.
use Rattle.std.proofs.Common.{◌≡◌, ℕ, ◌+◌, ◌-◌, ◌<◌, ◌≤◌, ◌==◌, ◌||◌, not, nat_lt, Bool, true}
use Rattle.std.proofs.Common.{false, if◌then◌else◌, List, length, drop, slice_range, refl, sym, ap}
use Rattle.std.proofs.Common.{◌∙◌, arith, inl, inr}
use Rattle.std.specs.Prelude.{Option, Some, None, Result, Ok, Err, IfOk}
use Rattle.std.proofs.lemmas.Bool.{cases_lt, eq-eqb}
use Rattle.std.proofs.lemmas.List.{length-take}
use Rattle.bytes.proofs.Ranges.{slice_range-slice_range}
use Rattle.sst_blocks.specs.declared.block_type.BlockType.{BlockType}
use Rattle.sst_blocks.specs.declared.block_type.BlockType.TheVariants.{Data, Index, Filter, Meta}
use Rattle.sst_blocks.specs.Starts.{HoldsEntries}
use Rattle.sst_entries.specs.declared.error.Error.{Error}
use Rattle.sst_entries.specs.declared.error.Error.TheVariants.{Truncated, InvalidHeader}
use Rattle.sst_entries.specs.declared.error.Error.TheVariants.{ChecksumMismatch}
use Rattle.sst_blocks.specs.declared.version.TableVersion.{TableVersion}
use Rattle.sst_entries.specs.Error.{Gives, unless}
use Rattle.std.specs.Option.{option_or}
use Rattle.sst_blocks.specs.Fnv.{fnv1a}
use Rattle.sst_blocks.specs.Block.{Loaded, grammar_fault, in_grammar, checksum_fault, loaded}
use Rattle.sst_blocks.specs.Block.{header_fault, data_len, uncompressed_len, stored_checksum}
use Rattle.sst_blocks.specs.Block.{version_in, checked_payload, load_result, load_at_result}
use Rattle.sst_blocks.specs.Block.{decode_block, place_fault, position_fault, room_fault}

-- no fault yet
after : {A : Type 0} (wrong : Bool) (e : Error) (fault : Option Error) (returned : Result A Error)
    → wrong ≡ false → fault ≡ None → (if wrong then Err e else unless fault returned) ≡ returned
after wrong e fault returned fine none = rw (fine, none) refl

-- the first fault of the two lengths
lengths_differ : {A : Type 0} (d u size : ℕ) (returned : Result A Error) → (d ≡ u → 24 + d ≡ size → ⊥)
    → (if not (d == u) || not (24 + d == size) then Err InvalidHeader else returned) ≡ Err InvalidHeader
lengths_differ d u size returned differ = grind arith

lengths_agree : {A : Type 0} (d u size : ℕ) (returned : Result A Error) → d ≡ u → 24 + d ≡ size
    → (if not (d == u) || not (24 + d == size) then Err InvalidHeader else returned) ≡ returned
lengths_agree d u size returned same whole = grind arith

unequal : {A : Type 0} (d u : ℕ) (returned : Result A Error) → (d ≡ u → ⊥)
    → (if not (d == u) then Err InvalidHeader else returned) ≡ Err InvalidHeader
unequal d u returned differ = grind arith

equal_past : {A : Type 0} (d u end past : ℕ) (returned : Result A Error) → d ≡ u → end < past
    → (if not (d == u) then Err InvalidHeader else (if nat_lt end past then Err Truncated
    else returned)) ≡ Err Truncated
equal_past d u end past returned same lt = grind arith

equal_within : {A : Type 0} (d u end past : ℕ) (returned : Result A Error) → d ≡ u → past ≤ end
    → (if not (d == u) then Err InvalidHeader else (if nat_lt end past then Err Truncated
    else returned)) ≡ returned
equal_within d u end past returned same le = grind arith

module _ (body : List ℕ) (offset size : ℕ) (kind : BlockType) where
  pub load_truncated : (24 ≤ size → offset + size ≤ length body → ⊥)
      → load_result body offset size kind ≡ Err Truncated
  unfolding load_result
  load_truncated short = grind arith

  pub load_fault : (e : Error) → 24 ≤ size → offset + size ≤ length body
      → header_fault kind (slice_range body offset (offset + 24)) ≡ Some e
      → load_result body offset size kind ≡ Err e
  unfolding load_result
  load_fault e long within fault = grind arith

  fits : 24 ≤ size → offset + size ≤ length body
      → (nat_lt size 24 || nat_lt (length body) (offset + size)) ≡ false
  fits long within = grind arith

  pub load_lengths : 24 ≤ size → offset + size ≤ length body
      → header_fault kind (slice_range body offset (offset + 24)) ≡ None
      → (data_len (slice_range body offset (offset + 24))
      ≡ uncompressed_len (slice_range body offset (offset + 24))
      → 24 + data_len (slice_range body offset (offset + 24)) ≡ size → ⊥)
      → load_result body offset size kind ≡ Err InvalidHeader
  unfolding load_result
  load_lengths long within fault differ = after _ _ _ _ (fits long within) fault
      ∙ lengths_differ _ _ _ _ differ

  pub load_checked : 24 ≤ size → offset + size ≤ length body
      → header_fault kind (slice_range body offset (offset + 24)) ≡ None
      → data_len (slice_range body offset (offset + 24))
      ≡ uncompressed_len (slice_range body offset (offset + 24))
      → 24 + data_len (slice_range body offset (offset + 24)) ≡ size
      → load_result body offset size kind ≡ checked_payload
      (version_in (slice_range body offset (offset + 24)))
      (stored_checksum (slice_range body offset (offset + 24))) kind
      (slice_range body (offset + 24) (offset + size))
  unfolding load_result
  load_checked long within fault same whole = after _ _ _ _ (fits long within) fault
      ∙ lengths_agree _ _ _ _ same whole

module _ (body : List ℕ) (position : ℕ) (kind : BlockType) where
  pub load_at_truncated : (position + 24 ≤ length body → ⊥)
      → load_at_result body position kind ≡ Err Truncated
  unfolding load_at_result
  load_at_truncated short = grind arith

  pub load_at_fault : (e : Error) → position + 24 ≤ length body
      → header_fault kind (slice_range body position (position + 24)) ≡ Some e
      → load_at_result body position kind ≡ Err e
  unfolding load_at_result
  load_at_fault e within fault = grind arith

  header_fits : position + 24 ≤ length body → nat_lt (length body) (position + 24) ≡ false
  header_fits within = grind arith

  pub load_at_lengths : position + 24 ≤ length body
      → header_fault kind (slice_range body position (position + 24)) ≡ None
      → (data_len (slice_range body position (position + 24))
      ≡ uncompressed_len (slice_range body position (position + 24)) → ⊥)
      → load_at_result body position kind ≡ Err InvalidHeader
  unfolding load_at_result
  load_at_lengths within fault differ = after _ _ _ _ (header_fits within) fault
      ∙ unequal _ _ _ differ

  pub load_at_passes : position + 24 ≤ length body
      → header_fault kind (slice_range body position (position + 24)) ≡ None
      → data_len (slice_range body position (position + 24))
      ≡ uncompressed_len (slice_range body position (position + 24))
      → length body < position + 24 + data_len (slice_range body position (position + 24))
      → load_at_result body position kind ≡ Err Truncated
  unfolding load_at_result
  load_at_passes within fault same past = after _ _ _ _ (header_fits within) fault
      ∙ equal_past _ _ _ _ _ same past

  pub load_at_checked : position + 24 ≤ length body
      → header_fault kind (slice_range body position (position + 24)) ≡ None
      → data_len (slice_range body position (position + 24))
      ≡ uncompressed_len (slice_range body position (position + 24))
      → position + 24 + data_len (slice_range body position (position + 24)) ≤ length body
      → load_at_result body position kind ≡ checked_payload
      (version_in (slice_range body position (position + 24)))
      (stored_checksum (slice_range body position (position + 24))) kind
      (slice_range body (position + 24) (position + 24
      + data_len (slice_range body position (position + 24))))
  unfolding load_at_result
  load_at_checked within fault same whole = after _ _ _ _ (header_fits within) fault
      ∙ equal_within _ _ _ _ _ same whole

-- ---- how far a block reaches

two_tests : (p : Bool) (fault : Option Error) (payload : List ℕ) (b made : Loaded)
    → made.payload ≡ payload → (if p then Err ChecksumMismatch else unless fault (Ok made)) ≡ Ok b
    → b.payload ≡ payload
two_tests true fault payload b made is h = absurd cc
two_tests false (Some e) payload b made is h = absurd cc
two_tests false None payload b made is h = let same : made ≡ b = cc in
    sym (ap (λ (x : Loaded). x.payload) same) ∙ is

pub payload_is : (v : TableVersion) (checksum : ℕ) (kind : BlockType) (payload : List ℕ)
    (b : Loaded) → checked_payload v checksum kind payload ≡ Ok b → b.payload ≡ payload
unfolding checked_payload
payload_is v checksum kind payload b h = two_tests (not (fnv1a payload == checksum))
    (grammar_fault v kind payload) payload b (record
    { version = v; kind = kind; payload = payload }) refl h

-- a block that was loaded has the payload that was tested
pub loaded_within : (v : TableVersion) (checksum : ℕ) (kind : BlockType) (payload : List ℕ)
    (n end : ℕ) (r : Result Loaded Error) → Gives {X = Loaded} {Y = Loaded} (λ b. b) r
    (checked_payload v checksum kind payload) → n + length payload < end
    → IfOk r (λ b. n + length b.payload < end)
loaded_within v checksum kind payload n end (Ok b) returned lt = let e =
    payload_is v checksum kind payload b returned in rw e lt
loaded_within v checksum kind payload n end (Err e) returned lt = tt

pub range_short : (xs : List ℕ) (from len : ℕ) → length (slice_range xs from (from + len)) ≤ len
range_short xs from len = omega (arith, length-take (from + len - from) (drop from xs))

-- ---- faults that are found before memory is taken

behind : (wrong : Bool) (e : Error) (fault next : Option Error) → wrong ≡ false → fault ≡ None
    → (if wrong then Some e else option_or fault next) ≡ next
behind wrong e fault next fine none = rw (fine, none) refl

here : (wrong : Bool) (e f : Error) (fault next : Option Error) → wrong ≡ false → fault ≡ Some f
    → (if wrong then Some e else option_or fault next) ≡ Some f
here wrong e f fault next fine some = rw (fine, some) refl

module _ (body : List ℕ) (offset size : ℕ) (kind : BlockType) where
  pub place_truncated : (24 ≤ size → offset + size ≤ length body → ⊥)
      → place_fault body offset size kind ≡ Some Truncated
  unfolding place_fault
  place_truncated short = grind arith

  pub place_header : (e : Error) → 24 ≤ size → offset + size ≤ length body
      → header_fault kind (slice_range body offset (offset + 24)) ≡ Some e
      → place_fault body offset size kind ≡ Some e
  unfolding place_fault
  place_header e long within fault = here _ _ _ _ _ (fits body offset size kind long within) fault

  two_lengths : (d u : ℕ) (next : Option Error) → (d ≡ u → 24 + d ≡ size → ⊥)
      → (if not (d == u) || not (24 + d == size) then Some InvalidHeader else next)
      ≡ Some InvalidHeader
  two_lengths d u next differ = grind arith

  one_length : (d u : ℕ) (next : Option Error) → d ≡ u → 24 + d ≡ size
      → (if not (d == u) || not (24 + d == size) then Some InvalidHeader else next) ≡ next
  one_length d u next same whole = grind arith

  pub place_lengths : 24 ≤ size → offset + size ≤ length body
      → header_fault kind (slice_range body offset (offset + 24)) ≡ None
      → (data_len (slice_range body offset (offset + 24))
      ≡ uncompressed_len (slice_range body offset (offset + 24))
      → 24 + data_len (slice_range body offset (offset + 24)) ≡ size → ⊥)
      → place_fault body offset size kind ≡ Some InvalidHeader
  unfolding place_fault
  place_lengths long within fault differ = behind _ _ _ _
      (fits body offset size kind long within) fault ∙ two_lengths _ _ _ differ

  pub place_checked : 24 ≤ size → offset + size ≤ length body
      → header_fault kind (slice_range body offset (offset + 24)) ≡ None
      → data_len (slice_range body offset (offset + 24))
      ≡ uncompressed_len (slice_range body offset (offset + 24))
      → 24 + data_len (slice_range body offset (offset + 24)) ≡ size
      → place_fault body offset size kind ≡ option_or
      (checksum_fault (stored_checksum (slice_range body offset (offset + 24)))
      (slice_range body (offset + 24) (offset + size)))
      (room_fault (version_in (slice_range body offset (offset + 24))) kind
      (slice_range body (offset + 24) (offset + size)))
  unfolding place_fault
  place_checked long within fault same whole = behind _ _ _ _
      (fits body offset size kind long within) fault ∙ one_length _ _ _ same whole

module _ (body : List ℕ) (position : ℕ) (kind : BlockType) where
  pub position_truncated : (position + 24 ≤ length body → ⊥)
      → position_fault body position kind ≡ Some Truncated
  unfolding position_fault
  position_truncated short = grind arith

  pub position_header : (e : Error) → position + 24 ≤ length body
      → header_fault kind (slice_range body position (position + 24)) ≡ Some e
      → position_fault body position kind ≡ Some e
  unfolding position_fault
  position_header e within fault = here _ _ _ _ _ (header_fits body position kind within) fault

  differ_at : (d u end past : ℕ) (next : Option Error) → (d ≡ u → ⊥)
      → (if not (d == u) then Some InvalidHeader else (if nat_lt end past then Some Truncated
      else next)) ≡ Some InvalidHeader
  differ_at d u end past next differ = grind arith

  pass_at : (d u end past : ℕ) (next : Option Error) → d ≡ u → end < past
      → (if not (d == u) then Some InvalidHeader else (if nat_lt end past then Some Truncated
      else next)) ≡ Some Truncated
  pass_at d u end past next same lt = grind arith

  fine_at : (d u end past : ℕ) (next : Option Error) → d ≡ u → past ≤ end
      → (if not (d == u) then Some InvalidHeader else (if nat_lt end past then Some Truncated
      else next)) ≡ next
  fine_at d u end past next same le = grind arith

  pub position_lengths : position + 24 ≤ length body
      → header_fault kind (slice_range body position (position + 24)) ≡ None
      → (data_len (slice_range body position (position + 24))
      ≡ uncompressed_len (slice_range body position (position + 24)) → ⊥)
      → position_fault body position kind ≡ Some InvalidHeader
  unfolding position_fault
  position_lengths within fault differ =
      let to = position + 24 + data_len (slice_range body position (position + 24)) in
      let payload = slice_range body (position + 24) to in
      let next = option_or (checksum_fault (stored_checksum
      (slice_range body position (position + 24))) payload)
      (room_fault (version_in (slice_range body position (position + 24))) kind payload) in
      behind _ _ _ _ (header_fits body position kind within) fault
      ∙ differ_at _ _ (length body) to next differ

  pub position_passes : position + 24 ≤ length body
      → header_fault kind (slice_range body position (position + 24)) ≡ None
      → data_len (slice_range body position (position + 24))
      ≡ uncompressed_len (slice_range body position (position + 24))
      → length body < position + 24 + data_len (slice_range body position (position + 24))
      → position_fault body position kind ≡ Some Truncated
  unfolding position_fault
  position_passes within fault same past = behind _ _ _ _
      (header_fits body position kind within) fault ∙ pass_at _ _ _ _ _ same past

  pub position_checked : position + 24 ≤ length body
      → header_fault kind (slice_range body position (position + 24)) ≡ None
      → data_len (slice_range body position (position + 24))
      ≡ uncompressed_len (slice_range body position (position + 24))
      → position + 24 + data_len (slice_range body position (position + 24)) ≤ length body
      → position_fault body position kind ≡ option_or
      (checksum_fault (stored_checksum (slice_range body position (position + 24)))
      (slice_range body (position + 24) (position + 24
      + data_len (slice_range body position (position + 24)))))
      (room_fault (version_in (slice_range body position (position + 24))) kind
      (slice_range body (position + 24) (position + 24
      + data_len (slice_range body position (position + 24)))))
  unfolding position_fault
  position_checked within fault same whole = behind _ _ _ _
      (header_fits body position kind within) fault ∙ fine_at _ _ _ _ _ same whole

-- ---- a payload and its checksum

pub checksum_wrong : (v : TableVersion) (checksum : ℕ) (kind : BlockType) (payload : List ℕ)
    → (fnv1a payload ≡ checksum → ⊥) → checked_payload v checksum kind payload
    ≡ Err ChecksumMismatch
unfolding checked_payload
checksum_wrong v checksum kind payload differ = grind arith

pub checksum_right : (v : TableVersion) (checksum : ℕ) (kind : BlockType) (payload : List ℕ)
    → fnv1a payload ≡ checksum → checked_payload v checksum kind payload
    ≡ unless (grammar_fault v kind payload) (Ok (loaded v kind payload))
unfolding checked_payload
checksum_right v checksum kind payload same = let e = eq-eqb (fnv1a payload) checksum same in
    rw e refl

-- what is given was in the grammar
pub given_items : (v : TableVersion) (checksum : ℕ) (kind : BlockType) (payload : List ℕ)
    (b : Loaded) → checked_payload v checksum kind payload ≡ Ok b → in_grammar v kind payload ≡ true
unfolding checked_payload
given_items v checksum kind payload b given = grind arith

-- what is loaded is of the kind that was asked for
passed : {A : Type 0} (wrong : Bool) (e : Error) (returned : Result A Error) (x : A)
    → (if wrong then Err e else returned) ≡ Ok x → returned ≡ Ok x
passed true e returned x is = absurd cc
passed false e returned x is = is

pub unless_ok : {A : Type 0} (fault : Option Error) (returned : Result A Error) (x : A)
    → unless fault returned ≡ Ok x → returned ≡ Ok x
unless_ok None returned x is = is
unless_ok (Some e) returned x is = absurd cc

checked_kind : (v : TableVersion) (checksum : ℕ) (kind : BlockType) (payload : List ℕ) (b : Loaded)
    → checked_payload v checksum kind payload ≡ Ok b → b.kind ≡ kind
unfolding checked_payload
checked_kind v checksum kind payload b given = grind arith

pub load_kind : (body : List ℕ) (offset size : ℕ) (kind : BlockType) (b : Loaded)
    → load_result body offset size kind ≡ Ok b → b.kind ≡ kind
unfolding load_result
load_kind body offset size kind b returned =
    let head = slice_range body offset (offset + 24) in
    let tail = checked_payload (version_in head) (stored_checksum head) kind
    (slice_range body (offset + 24) (offset + size)) in
    let wrong = not (data_len head == uncompressed_len head) || not (24 + data_len head == size) in
    let one = passed (nat_lt size 24 || nat_lt (length body) (offset + size)) Truncated
    (unless (header_fault kind head) (if wrong then Err InvalidHeader else tail)) b returned in
    let two = unless_ok (header_fault kind head)
    (if wrong then Err InvalidHeader else tail) b one in
    checked_kind (version_in head) (stored_checksum head) kind
    (slice_range body (offset + 24) (offset + size)) b (passed wrong InvalidHeader tail b two)

pub kind_given : (body : List ℕ) (offset size : ℕ) (kind : BlockType) (r : Result Loaded Error)
    → Gives {X = Loaded} {Y = Loaded} (λ b. b) r (load_result body offset size kind)
    → IfOk r (λ b. b.kind ≡ kind)
kind_given body offset size kind (Ok b) given = load_kind body offset size kind b given
kind_given body offset size kind (Err e) given = tt

-- a block of data holds entries
pub data_holds : (k : BlockType) → k ≡ Data → HoldsEntries k
data_holds Data is = tt
data_holds Meta is = tt
data_holds Index is = absurd cc
data_holds Filter is = absurd cc

-- ---- a block's bytes alone

-- what is told of a header and a payload
rest : BlockType → ℕ → List ℕ → List ℕ → Result Loaded Error
rest kind size head payload = unless (header_fault kind head)
    (if not (data_len head == uncompressed_len head) || not (24 + data_len head == size)
    then Err InvalidHeader
    else checked_payload (version_in head) (stored_checksum head) kind payload)

load_rest : (body : List ℕ) (offset size : ℕ) (kind : BlockType) → 24 ≤ size
    → offset + size ≤ length body → load_result body offset size kind
    ≡ rest kind size (slice_range body offset (offset + 24))
    (slice_range body (offset + 24) (offset + size))
unfolding load_result rest
load_rest body offset size kind long within = rw (fits body offset size kind long within) refl

-- the bytes at an offset decode as they load there
pub decode_part : (body : List ℕ) (offset : ℕ) (kind : BlockType) (bytes : List ℕ)
    → offset + length bytes ≤ length body → bytes ≡ slice_range body offset (offset + length bytes)
    → decode_block kind bytes ≡ load_result body offset (length bytes) kind
decode_part body offset kind bytes within is =
    elim (cases_lt (length bytes) 24) [
      | inl short ↦ load_truncated bytes 0 (length bytes) kind (λ long _. omega (arith, long, short))
          ∙ sym (load_truncated body offset (length bytes) kind
          (λ long _. omega (arith, long, short)))
      | inr long ↦
          let n = length bytes in
          let part = ap (λ (b : List ℕ). slice_range b 0 24) is
          ∙ slice_range-slice_range body offset (offset + n) 0 24 (omega arith)
          (omega (arith, long)) in
          let head : slice_range bytes 0 24 ≡ slice_range body offset (offset + 24) =
          part ∙ ap (λ (k : ℕ). slice_range body k (offset + 24)) (omega arith) in
          let cut = ap (λ (b : List ℕ). slice_range b 24 (0 + n)) is
          ∙ slice_range-slice_range body offset (offset + n) 24 (0 + n) (omega (arith, long))
          (omega arith) in
          let payload : slice_range bytes 24 (0 + n)
          ≡ slice_range body (offset + 24) (offset + n) =
          cut ∙ ap (slice_range body (offset + 24)) (omega arith) in
          load_rest bytes 0 n kind long (omega arith)
          ∙ ap (λ (h : List ℕ). rest kind n h (slice_range bytes 24 (0 + n))) head
          ∙ ap (rest kind n (slice_range body offset (offset + 24))) payload
          ∙ sym (load_rest body offset n kind long within)
    ]
