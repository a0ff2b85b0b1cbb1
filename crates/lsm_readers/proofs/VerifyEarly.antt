-- What a verification finds before memory is taken.
use Rattle.std.proofs.Common.{◌≡◌, ℕ, ◌+◌, Bool, true, false, cond, List, [], ◌∷◌, length, refl}
use Rattle.std.proofs.Common.{sym, ap, ◌∙◌}
use Rattle.std.specs.Prelude.{◌==◌, ◌||◌, not, nat_lt, Option, Some, None, Result, Ok, Err}
use Rattle.std.specs.Prelude.{IfErr}
use Rattle.std.specs.Prelude.{slice_index, slice_range}
use Rattle.std.specs.Option.{option_or}
use Rattle.std.specs.Result.{IsErrAnd}
use Rattle.sst_blocks.specs.Fnv.{fnv1a}
use Rattle.sst_blocks.specs.declared.section.SectionName.{SectionName}
use Rattle.sst_blocks.specs.declared.section.SectionName.TheVariants.{Index as IndexSection}
use Rattle.sst_blocks.specs.declared.section.SectionName.TheVariants.{Tli as TopSection}
use Rattle.sst_entries.specs.declared.error.Error.{Error}
use Rattle.sst_entries.specs.declared.error.Error.TheVariants.{ChecksumMismatch, InvalidBlock}
use Rattle.sst_entries.specs.declared.error.Error.TheVariants.{InvalidHeader, InvalidTag}
use Rattle.sst_entries.specs.declared.error.Error.TheVariants.{OutOfMemory as NoMemory}
use Rattle.sst_entries.specs.declared.error.Error.TheVariants.{Truncated, UnsupportedCompression}
use Rattle.sst_entries.specs.declared.error.TagName.TheVariants.{BlockType as BlockTypeTag}
use Rattle.sst_entries.specs.Error.{is_memory}
use Rattle.sst_blocks.specs.declared.block_type.BlockType.{BlockType}
use Rattle.sst_blocks.specs.declared.block_type.BlockType.TheVariants.{Index}
use Rattle.sst_blocks.specs.Block.{data_len, has_room, header_fault, header_len, place_fault}
use Rattle.sst_blocks.specs.Block.{position_fault, stored_checksum, uncompressed_len, version_in}
use Rattle.sst_blocks.specs.Handle.{Handle}
use Rattle.sst_blocks.specs.Place.{Place, place_of}
use Rattle.lsm_readers.specs.declared.verify.Fault.TheVariants.{Unloaded}
use Rattle.lsm_readers.specs.declared.verify.Finding.{Finding}
use Rattle.lsm_readers.specs.declared.verify.VerifyError.{VerifyError}
use Rattle.lsm_readers.specs.declared.verify.VerifyError.TheVariants.{Found, OutOfMemory}
use Rattle.lsm_readers.specs.Verify.{FindsFirst, early_at, early_filters, early_from, table_early}
use Rattle.lsm_readers.specs.point.Parts.{Parts}
use Rattle.lsm_readers.specs.Verify.{Finds, Misses, Unread, finding, is_found, load_refusal}
use Rattle.lsm_readers.specs.Verification.{StepsCalmly, before_index, chunk_early, found_or}
use Rattle.lsm_readers.specs.Verification.{in_index, places_in, step_early}

-- ---- what a load finds before memory is taken is no want of memory

abbrev pub NoWant : Option Error → Type 0
NoWant o = (e : Error) → o ≡ Some e → is_memory e ≡ false

some_fault : (d : Error) → is_memory d ≡ false → NoWant (Some d)
some_fault d is e h = let same : d ≡ e = cc in ap is_memory (sym same) ∙ is

no_fault : NoWant None
no_fault e h = absurd cc

or_fault : (a b : Option Error) → NoWant a → NoWant b → NoWant (option_or a b)
or_fault (Some d) b in_a in_b = in_a
or_fault None b in_a in_b = in_b

if_fault : (t : Bool) (a b : Option Error) → NoWant a → NoWant b → NoWant (cond t a b)
if_fault true a b in_a in_b = in_a
if_fault false a b in_a in_b = in_b

header_want : (kind : BlockType) (head : List ℕ) → NoWant (header_fault kind head)
header_want kind head =
    if_fault _ _ _ (some_fault InvalidHeader refl)
    (if_fault _ _ _ (some_fault (InvalidTag BlockTypeTag (slice_index head 4)) refl)
    (if_fault _ _ _ (some_fault UnsupportedCompression refl) no_fault))

-- the checksum's fault, then that of the room
payload_want : (t u : Bool)
    → NoWant (option_or (cond t (Some ChecksumMismatch) None) (cond u (Some InvalidBlock) None))
payload_want t u =
    or_fault (cond t (Some ChecksumMismatch) None) (cond u (Some InvalidBlock) None)
    (if_fault t _ _ (some_fault ChecksumMismatch refl) no_fault)
    (if_fault u _ _ (some_fault InvalidBlock refl) no_fault)

pub place_want : (body : List ℕ) (offset size : ℕ) (kind : BlockType)
    → NoWant (place_fault body offset size kind)
unfolding place_fault
place_want body offset size kind =
    let head = slice_range body offset (offset + header_len) in
    let payload = slice_range body (offset + header_len) (offset + size) in
    if_fault (nat_lt size header_len || nat_lt (length body) (offset + size)) (Some Truncated) _
    (some_fault Truncated refl)
    (or_fault (header_fault kind head) _ (header_want kind head)
    (if_fault (not (data_len head == uncompressed_len head)
    || not (header_len + data_len head == size)) (Some InvalidHeader) _
    (some_fault InvalidHeader refl)
    (payload_want (not (fnv1a payload == stored_checksum head))
    (not (has_room (version_in head) kind payload)))))

pub position_want : (body : List ℕ) (position : ℕ) (kind : BlockType)
    → NoWant (position_fault body position kind)
unfolding position_fault
position_want body position kind =
    let head = slice_range body position (position + header_len) in
    let end = position + header_len + data_len head in
    let payload = slice_range body (position + header_len) end in
    if_fault (nat_lt (length body) (position + header_len)) (Some Truncated) _
    (some_fault Truncated refl)
    (or_fault (header_fault kind head) _ (header_want kind head)
    (if_fault (not (data_len head == uncompressed_len head)) (Some InvalidHeader) _
    (some_fault InvalidHeader refl)
    (if_fault (nat_lt (length body) end) (Some Truncated) _ (some_fault Truncated refl)
    (payload_want (not (fnv1a payload == stored_checksum head))
    (not (has_room (version_in head) kind payload))))))

-- so where there is one, the refusal is none either
pub refused_want : (o : Option Error) → NoWant o → (error d : Error) → o ≡ Some d
    → Some d ≡ Some error → error ≡ NoMemory → ⊥
refused_want o want error d is first memory =
    let same : d ≡ error = cc in
    let no : true ≡ false = ap is_memory (sym memory) ∙ ap is_memory (sym same) ∙ want d is in
    absurd cc

-- ---- a load at a place

-- that was refused
pub refused_first : (section : SectionName) (offset : ℕ) (o : Option Error) → NoWant o
    → (error : Error) (e : VerifyError) → e ≡ load_refusal section offset error
    → ((d : Error) → o ≡ Some d → Some d ≡ Some error)
    → (f : Finding) → early_from section offset o ≡ Some f → e ≡ Found f
refused_first section offset None want error e is first f early = absurd cc
refused_first section offset (Some d) want error e is first f early =
    let both : Some d ≡ Some error = first d refl in
    let same : d ≡ error = cc in
    let fault : is_memory error ≡ false = ap is_memory (sym same) ∙ want d refl in
    let at : finding section offset (Unloaded d) ≡ f = cc in
    is
    ∙ ap (λ (b : Bool). cond b OutOfMemory (Found (finding section offset (Unloaded error)))) fault
    ∙ ap (λ (x : Error). Found (finding section offset (Unloaded x))) (sym same)
    ∙ ap (λ (x : Finding). Found x) at

pub place_first : (body : List ℕ) (section : SectionName) (place : Place) (kind : BlockType)
    (offset : ℕ) (error : Error) (e : VerifyError) → offset ≡ place.offset
    → e ≡ load_refusal section offset error
    → ((d : Error) → place_fault body place.offset place.size kind ≡ Some d → Some d ≡ Some error)
    → (f : Finding) → early_at body section place kind ≡ Some f → e ≡ Found f
place_first body section place kind offset error e at is first =
    refused_first section place.offset (place_fault body place.offset place.size kind)
    (place_want body place.offset place.size kind) error e
    (is ∙ ap (λ (n : ℕ). load_refusal section n error) at) first

-- that gave a block
pub loaded_first : (section : SectionName) (offset : ℕ) (o : Option Error)
    → ((d : Error) → o ≡ Some d → Some d ≡ None)
    → (f : Finding) → early_from section offset o ≡ Some f → ⊥
loaded_first section offset None first f early = absurd cc
loaded_first section offset (Some d) first f early =
    absurd (let no : Some d ≡ None = first d refl in cc)

-- ---- a call that passes a refusal on

pub passes_first : {X : Type 0} (r : Result X VerifyError) (e : VerifyError)
    (early : Option Finding) → IsErrAnd r (λ y. y ≡ e)
    → ((f : Finding) → early ≡ Some f → e ≡ Found f) → FindsFirst r early
passes_first (Ok x) e early is first = absurd is
passes_first (Err d) e early is first = λ f h. is ∙ first f h

-- ---- tests that take no memory

-- a test that found something
pub or_first : {X : Type 0} (returned : Result X Finding) (behind : Option Finding) (e : VerifyError)
    → Misses e returned → is_found e ≡ true → (f : Finding) → found_or returned behind ≡ Some f
    → e ≡ Found f
or_first returned behind OutOfMemory misses calm f h = absurd cc
or_first {X} returned behind (Found g) misses calm f h =
    let is : found_or returned behind ≡ Some g =
    ap (λ (r : Result X Finding). found_or r behind) (misses g refl) in
    let both : Some g ≡ Some f = sym is ∙ h in
    let same : g ≡ f = cc in
    ap (λ (x : Finding). Found x) same

-- a test that found nothing
pub or_behind : {X : Type 0} (returned : Result X Finding) (behind : Option Finding) (x : X)
    → returned ≡ Ok x → found_or returned behind ≡ behind
or_behind {X} returned behind x is = ap (λ (r : Result X Finding). found_or r behind) is

-- the last test of all
pub or_last : {X Y : Type 0} (view : X → Y) (r : Result X VerifyError) (returned : Result Y Finding)
    → Finds view r returned → IfErr r (λ e. is_found e ≡ true) → FindsFirst r (found_or returned None)
or_last view (Ok x) returned states calm = λ f h.
    absurd (let no : None ≡ Some f = sym (or_behind returned None (view x) states) ∙ h in cc)
or_last view (Err e) returned states calm = or_first returned None e states calm

-- ---- a step

-- the first step finds what is found of the whole table
pub first_step : (body : List ℕ) (parts : Parts) (left : Unread)
    → step_early body parts (before_index (places_in parts)) left ≡ table_early body parts
first_step body parts left = go (places_in parts)
  where
    go : (places : List Place) → step_early body parts (before_index places) left
        ≡ early_filters body places (early_at body TopSection parts.regions.tli Index)
    go [] = refl
    go (place ∷ places) = refl

module _ (body : List ℕ) (parts : Parts) (left : Unread) where
  -- at a data block,
  pub early_block : {X : Type 0} (hs tops : List Handle) (r : Result X VerifyError)
      → (hs ≡ [] → false ≡ true)
      → ((h : Handle) (rest : List Handle) → hs ≡ h ∷ rest
      → FindsFirst r (chunk_early body parts left.counts (place_of h)))
      → FindsFirst r (step_early body parts (in_index hs tops) left)
  early_block [] tops r some first = absurd (let no : false ≡ true = some refl in cc)
  early_block (h ∷ hs) tops r some first = first h hs refl

  -- and at a partition
  pub early_part : {X : Type 0} (tops : List Handle) (r : Result X VerifyError)
      → (tops ≡ [] → false ≡ true)
      → ((top : Handle) (rest : List Handle) → tops ≡ top ∷ rest
      → FindsFirst r (early_at body IndexSection (place_of top) Index))
      → FindsFirst r (step_early body parts (in_index [] tops) left)
  early_part [] r some first = absurd (let no : false ≡ true = some refl in cc)
  early_part (top ∷ tops) r some first = first top tops refl

  -- neither is an end
  pub no_end_block : {P : Type 0} (hs tops : List Handle) → (hs ≡ [] → false ≡ true)
      → StepsCalmly body (in_index hs tops) left → P
  no_end_block [] tops some calm = absurd (let no : false ≡ true = some refl in cc)
  no_end_block (h ∷ hs) tops some calm = absurd calm

  pub no_end_part : {P : Type 0} (tops : List Handle) → (tops ≡ [] → false ≡ true)
      → StepsCalmly body (in_index [] tops) left → P
  no_end_part [] some calm = absurd (let no : false ≡ true = some refl in cc)
  no_end_part (top ∷ tops) some calm = absurd calm

pub some_first : {X : Type 0} (xs : List X) (x : X) (ys : List X) → xs ≡ x ∷ ys → xs ≡ [] → ⊥
some_first xs x ys is none = let no : x ∷ ys ≡ [] = sym is ∙ none in absurd cc
