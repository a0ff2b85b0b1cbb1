-- The blocks of an index as it was written: each of them loads, and the top level names the others.
use Rattle.std.proofs.Common.{◌≡◌, ℕ, ◌+◌, ◌^◌, ◌<◌, List, [], ◌∷◌, ◌++◌, length, map, refl, sym}
use Rattle.std.proofs.Common.{ap, subst, ◌∙◌, append_assoc, length-append, arith}
use Rattle.std.specs.Prelude.{Option, Some, None, Ok, is_some, unwrap_or}
use Rattle.std.specs.List.{AllByRecursion, AllZip, flat_map}
use Rattle.std.proofs.lemmas.List.Concat.{flat_map-append}
use Rattle.sst_blocks.specs.declared.version.TableVersion.{TableVersion}
use Rattle.sst_blocks.specs.Version.{key_limit}
use Rattle.sst_entries.specs.declared.value_type.ValueType.TheVariants.{Value}
use Rattle.sst_entries.specs.Entry.{entry}
use Rattle.sst_entries.specs.Strict.{IsStrict, last_of}
use Rattle.sst_blocks.specs.declared.block_type.BlockType.TheVariants.{Index}
use Rattle.sst_blocks.specs.Block.{Loaded, handles_of, load_result}
use Rattle.sst_blocks.specs.Handle.{Handle}
use Rattle.sst_blocks.specs.Handles.{AreStrictHandles, IsSpellableHandle, end_of, handles_in}
use Rattle.sst_blocks.specs.Handles.{handles_payload}
use Rattle.sst_blocks.specs.Place.{Place}
use Rattle.sst_blocks.proofs.BlockLaws.{written_loads}
use Rattle.sst_blocks.proofs.HandleLaws.{handles_read}
use Rattle.sst_blocks.proofs.BlockLengths.{length-block}
use Rattle.sst_blocks.specs.table.Index.{last_entry}
use Rattle.sst_blocks.specs.table.Parts.{joined_parts}
use Rattle.sst_blocks.specs.table.Partitions.{handles_block, index_tops, last_end}
use Rattle.lsm_readers.specs.point.IndexKinds.{handles_result}
use Rattle.lsm_readers.specs.point.Read.{◌>>=◌}
use Rattle.lsm_readers.specs.Stored.{NamesPart}
use Rattle.lsm_readers.proofs.FileLengths.{handles_short}
use Rattle.lsm_readers.proofs.PartEnds.{block_of, ends_strict, part_all, part_strict}
use Rattle.lsm_readers.proofs.PartReads.{AreSomeParts}

-- at a place lies an index block of these handles
pub record LoadsHandles (body : List ℕ) (offset size : ℕ) (hs : List Handle) : Type 0 where
  pub block : Loaded
  pub loads : load_result body offset size Index ≡ Ok block
  pub handles : handles_of block ≡ hs

-- what is found in its handles
pub found_in : {X : Type 0} (body : List ℕ) (offset size : ℕ) (hs : List Handle)
    (f : List Handle → X) → LoadsHandles body offset size hs
    → (load_result body offset size Index >>= λ b. Ok (f (handles_of b))) ≡ Ok (f hs)
found_in body offset size hs f h = rw (h.loads, h.handles) refl

-- the handles of a place where they lie
pub handles_at : (body : List ℕ) (place : Place) (hs : List Handle)
    → LoadsHandles body place.offset place.size hs → handles_result body place ≡ Ok hs
handles_at body place hs l = found_in body place.offset place.size hs (λ (xs : List Handle). xs) l

-- ---- one block

handles_read_back : (v : TableVersion) (hs : List Handle) → AllByRecursion (IsSpellableHandle v) hs
    → AreStrictHandles hs → length (handles_block v hs) < 2 ^ 32
    → handles_in v (handles_payload v hs) ≡ Some hs
handles_read_back v hs spelled strict short =
    handles_read v hs (
      omega (
        arith,
        short,
        length-block v Index
            (handles_payload v hs),
        handles_short v hs,
      ),
      spelled,
    ) strict

pub handles_load : (v : TableVersion) (hs : List Handle) (pre post body : List ℕ) (offset size : ℕ)
    → AllByRecursion (IsSpellableHandle v) hs → AreStrictHandles hs
    → length (handles_block v hs) < 2 ^ 32
    → offset ≡ length pre → size ≡ 24 + length (handles_payload v hs)
    → body ≡ pre ++ handles_block v hs ++ post → LoadsHandles body offset size hs
handles_load v hs pre post body offset size spelled strict short at len e =
    let reads = handles_read_back v hs spelled strict short in
    record {
      block = record { version = v; kind = Index; payload = handles_payload v hs };
      loads = ap (λ (n : ℕ). load_result body offset n Index) len
          ∙ written_loads v Index pre (handles_payload v hs) post body offset
          (omega (arith, short, length-block v Index (handles_payload v hs)))
          (ap is_some reads) at e;
      handles = ap (λ (o : Option (List Handle)). unwrap_or o []) reads;
    }

-- ---- the top level

-- the last entry of a part's handles is as the top level tells it
end_is : (x : Handle) (xs : List Handle) → entry (last_end (x ∷ xs)).user_key []
    (last_end (x ∷ xs)).seqno Value ≡ last_entry (map end_of (x ∷ xs))
unfolding last_of
end_is x [] = refl
end_is x (y ∷ ys) = end_is y ys

tops_end : (v : TableVersion) (at : ℕ) (parts : List (List Handle)) → AreSomeParts parts
    → map end_of (index_tops v at parts) ≡ map (λ (p : List Handle). last_entry (map end_of p))
    parts
tops_end v at [] some = refl
tops_end v at ([] ∷ ps) some = absurd (omega (arith, some.0))
tops_end v at ((x ∷ xs) ∷ ps) some = rw (
  end_is x xs,
  tops_end v
      (at + (24 + length (handles_payload v (x ∷ xs)))) ps some.1,
) refl

tops_strict : (v : TableVersion) (at : ℕ) (parts : List (List Handle)) → AreSomeParts parts
    → AreStrictHandles (joined_parts parts) → AreStrictHandles (index_tops v at parts)
tops_strict v at parts some strict = subst IsStrict (sym (tops_end v at parts some))
    (ends_strict end_of None parts some strict)

last_spelled : (v : TableVersion) (x : Handle) (xs : List Handle)
    → AllByRecursion (IsSpellableHandle v) (x ∷ xs)
    → ((last_end (x ∷ xs)).seqno < 2 ^ 64) × (length (last_end (x ∷ xs)).user_key < key_limit v)
unfolding last_of
last_spelled v x [] h = ((h.0).number, (h.0).key_len)
last_spelled v x (y ∷ ys) h = last_spelled v y ys h.1

tops_spelled : (v : TableVersion) (at : ℕ) (parts : List (List Handle)) → AreSomeParts parts
    → AllByRecursion (IsSpellableHandle v) (joined_parts parts)
    → length (flat_map (handles_block v) parts) < 2 ^ 32
    → at + length (flat_map (handles_block v) parts) < 2 ^ 64
    → AllByRecursion (IsSpellableHandle v) (index_tops v at parts)
tops_spelled v at [] some spelled short within = tt
tops_spelled v at ([] ∷ ps) some spelled short within = absurd (omega (arith, some.0))
tops_spelled v at ((x ∷ xs) ∷ ps) some spelled short within =
    let p = x ∷ xs in
    let last = last_spelled v x xs (part_all (IsSpellableHandle v) [] p ps spelled) in
    let size = length-block v Index (handles_payload v p) in
    let whole = length-append (handles_block v p) (flat_map (handles_block v) ps) in
    let others : AllByRecursion (IsSpellableHandle v) (joined_parts ps) =
    behind p (joined_parts ps) spelled in (
      record {
        number = last.0;
        offset = omega (arith, within, whole);
        size =
            omega (arith, short, whole, size);
        key_len = last.1;
      },
      tops_spelled v (at + (24 + length (handles_payload v p))) ps some.1 others
          (omega (arith, short, whole)) (omega (arith, within, whole, size)),
    )
  where
    behind : (q hs : List Handle) → AllByRecursion (IsSpellableHandle v) (q ++ hs)
        → AllByRecursion (IsSpellableHandle v) hs
    behind [] hs h = h
    behind (y ∷ q) hs h = behind q hs h.1

-- ---- parts of some handles

module _ (v : TableVersion) (at : ℕ) (parts : List (List Handle)) (some : AreSomeParts parts)
    (strict : AreStrictHandles (joined_parts parts))
    (spelled : AllByRecursion (IsSpellableHandle v) (joined_parts parts))
    (short : length (flat_map (handles_block v) parts) < 2 ^ 32) where
  -- the top level loads
  pub tops_load : (pre post body : List ℕ) (offset size : ℕ)
      → at + length (flat_map (handles_block v) parts) < 2 ^ 64
      → length (handles_block v (index_tops v at parts)) < 2 ^ 32
      → offset ≡ length pre → size ≡ 24 + length (handles_payload v (index_tops v at parts))
      → body ≡ pre ++ handles_block v (index_tops v at parts) ++ post
      → LoadsHandles body offset size (index_tops v at parts)
  tops_load pre post body offset size within top_short from len e =
      handles_load v (index_tops v at parts) pre post body offset size
      (tops_spelled v at parts some spelled short within)
      (tops_strict v at parts some strict) top_short from len e

  module _ (pre post body : List ℕ) (from : at ≡ length pre)
      (lies : body ≡ pre ++ (flat_map (handles_block v) parts ++ post)) where
    -- and so does each part
    pub part_loads : (before : List (List Handle)) (part : List Handle)
        (behind : List (List Handle)) → parts ≡ before ++ part ∷ behind
        → LoadsHandles body (at + length (flat_map (handles_block v) before))
        (24 + length (handles_payload v part)) part
    part_loads before part behind are =
        let b = handles_block v in
        let all : AllByRecursion (IsSpellableHandle v) part =
        part_all (IsSpellableHandle v) before part behind
        (subst (λ (ps : List (List Handle)). AllByRecursion (IsSpellableHandle v)
        (joined_parts ps)) are spelled) in
        let line : AreStrictHandles part = part_strict end_of None before part behind
        (subst (λ (ps : List (List Handle)). AreStrictHandles (joined_parts ps)) are strict) in
        let cut : length (flat_map b parts) ≡ length
        (flat_map b before ++ (b part ++ flat_map b behind)) =
        ap length (ap (flat_map b) are ∙ flat_map-append b before (part ∷ behind)) in
        handles_load v part (pre ++ flat_map b before) (flat_map b behind ++ post) body
        (at + length (flat_map b before)) (24 + length (handles_payload v part)) all line
        (omega (
          arith,
          short,
          cut,
          length-append (flat_map b before)
              (b part ++ flat_map b behind),
          length-append (b part) (flat_map b behind),
        ))
        (omega (arith, from, length-append pre (flat_map b before))) refl
        (lies ∙ ap (λ (ps : List (List Handle)). pre ++ (flat_map b ps ++ post)) are
        ∙ block_of b before part behind pre post)

    -- each handle of the top level names its part
    pub parts_named : (before behind : List (List Handle)) → parts ≡ before ++ behind
        → AreSomeParts behind → AllZip (NamesPart body)
        (index_tops v (at + length (flat_map (handles_block v) before)) behind) behind
    parts_named before [] are some = tt
    parts_named before (part ∷ behind) are some =
        let n = at + length (flat_map (handles_block v) before) in
        let front = before ++ part ∷ [] in
        let next : at + length (flat_map (handles_block v) front)
        ≡ n + (24 + length (handles_payload v part)) =
        omega (
          arith,
          ap length (flat_map-append (handles_block v) before (part ∷ [])),
          length-append
              (flat_map (handles_block v) before) (handles_block v part ++ []),
          length-append {A = ℕ}
              (handles_block v part) [],
          length-block v Index (handles_payload v part),
        ) in
        let more = parts_named front behind (are ∙ sym (append_assoc before (part ∷ []) behind))
        some.1 in
        let here : Place = record { offset = n; size = 24 + length (handles_payload v part) } in (
          record {
            handles = handles_at body here part (part_loads before part behind are);
            some = some.0;
            end_key = refl;
            seqno = refl;
          },
          subst (λ (m : ℕ). AllZip (NamesPart body) (index_tops v m behind) behind) next more,
        )
