-- The filters of a table: each of them loads, and a no of the one that is asked says that none of
-- the keys is the one that is sought.
use Rattle.std.proofs.Common.{◌≡◌, ℕ, ◌+◌, ◌*◌, ◌/◌, ◌-◌, ◌^◌, ◌<◌, ◌≤◌, Bool, true, false, cond}
use Rattle.std.proofs.Common.{List, [], ◌∷◌, ◌++◌, length, map, refl, sym, ap, subst, ◌∙◌}
use Rattle.std.proofs.Common.{append_assoc, length-append, arith}
use Rattle.std.specs.Prelude.{Option, Some, None, Result, Ok, find, unwrap_or}
use Rattle.std.specs.List.{AllByRecursion, flat_map}
use Rattle.std.proofs.lemmas.List.Concat.{flat_map-append}
use Rattle.sst_blocks.specs.declared.version.TableVersion.{TableVersion}
use Rattle.sst_blocks.specs.filter.KeyHash.{hash_of}
use Rattle.sst_blocks.specs.Version.{longest_key}
use Rattle.sst_entries.specs.declared.error.Error.{Error}
use Rattle.sst_entries.specs.declared.value_type.ValueType.TheVariants.{Value}
use Rattle.sst_entries.specs.Entry.{Entry, entry}
use Rattle.sst_entries.specs.Strict.{IsStrict}
use Rattle.sst_entries.proofs.Booleans.{apart, is_false}
use Rattle.sst_blocks.specs.declared.block_type.BlockType.TheVariants.{Filter}
use Rattle.sst_blocks.specs.Block.{Loaded, load_result}
use Rattle.sst_blocks.specs.Handle.{Handle}
use Rattle.sst_blocks.specs.Handles.{AreStrictHandles, IsSpellableHandle, end_of, reaches}
use Rattle.sst_blocks.specs.Handles.{handles_payload}
use Rattle.sst_blocks.proofs.BlockLaws.{built_load}
use Rattle.sst_blocks.specs.declared.filter.policy.BloomConstructionPolicy.{BloomConstructionPolicy}
use Rattle.sst_blocks.specs.filter.Filter.{BloomFilter, IsBuilt, admits, filter_in, payload_of}
use Rattle.sst_blocks.specs.filter.Policy.{tenths_of}
use Rattle.sst_blocks.proofs.Probes.{admits_its_hashes}
use Rattle.sst_blocks.proofs.BlockLengths.{length-block}
use Rattle.sst_blocks.specs.table.Facts.{starts_key}
use Rattle.sst_blocks.specs.table.Filters.{AreFiltersFor, IsFilterFor, filter_block}
use Rattle.sst_blocks.specs.table.Filters.{filter_partitions}
use Rattle.sst_blocks.specs.table.Filters.{keys_after, last_of_keys}
use Rattle.sst_blocks.specs.table.Fits.{EntryFits}
use Rattle.sst_blocks.specs.table.Index.{last_entry}
use Rattle.sst_blocks.specs.table.Parts.{joined_parts}
use Rattle.sst_blocks.specs.table.Partitions.{handles_block, tops_from}
use Rattle.sst_blocks.proofs.KeyLaws.{key_end}
use Rattle.sst_blocks.proofs.FilterLaws.{wide, is_built}
use Rattle.sst_blocks.specs.Place.{place_of}
use Rattle.lsm_readers.specs.point.Read.{◌>>=◌}
use Rattle.lsm_readers.specs.Stored.{LoadsAs}
use Rattle.lsm_readers.proofs.FileIndexes.{LoadsHandles, handles_load}
use Rattle.lsm_readers.proofs.FileLengths.{longest_short}
use Rattle.lsm_readers.proofs.FilterPartReads.{AsksPartBy, last_end_is, part_asked}
use Rattle.lsm_readers.proofs.FilterReads.{hash_in, has_key}
use Rattle.lsm_readers.proofs.PartEnds.{block_of, ends_strict}
use Rattle.lsm_readers.proofs.PartReads.{AreSomeParts}

-- ---- the keys of a strict list

-- a key that a table of a version takes
pub record KeyFits (v : TableVersion) (key : List ℕ) : Type 0 where
  pub short : length key ≤ longest_key v

keys_fit_by : (v : TableVersion) (b : Bool) (k : List ℕ) (ks : List (List ℕ)) → KeyFits v k
    → AllByRecursion (KeyFits v) ks → AllByRecursion (KeyFits v) (cond b (k ∷ ks) ks)
keys_fit_by v true k ks h hs = (h, hs)
keys_fit_by v false k ks h hs = hs

pub keys_fit : (v : TableVersion) (before : Option Entry) (es : List Entry)
    → AllByRecursion (EntryFits v) es → AllByRecursion (KeyFits v) (keys_after before es)
unfolding keys_after
keys_fit v before [] h = tt
keys_fit v before (e ∷ es) h = keys_fit_by v (starts_key before e) e.user_key
    (keys_after (Some e) es) (record { short = (h.0).key }) (keys_fit v (Some e) es h.1)

-- ---- one filter

-- at a place lies the block of this filter
pub record LoadsFilter (body : List ℕ) (offset size : ℕ) (f : BloomFilter) : Type 0 where
  pub block : Loaded
  pub loads : load_result body offset size Filter ≡ Ok block
  pub filter : filter_in block.payload ≡ f

pub filter_loads : (v : TableVersion) (f : BloomFilter) (pre post body : List ℕ) (offset size : ℕ)
    → IsBuilt f → offset ≡ length pre → size ≡ 24 + length (payload_of f)
    → body ≡ pre ++ filter_block v f ++ post → LoadsFilter body offset size f
filter_loads v f pre post body offset size built at len e =
    let loads = built_load v f built in
    record {
      block = record { version = v; kind = Filter; payload = payload_of f };
      loads = rw (at, len, e) (loads.0 pre post).0;
      filter = loads.1;
    }

-- what a filter says of a key
abbrev pub says : List ℕ → Loaded → Bool
says key b = admits (filter_in b.payload) (hash_of key)

-- an answer, and where it is no, the key is none of the keys
pub record Asked (returned : Result Bool Error) (keys : List (List ℕ)) (key : List ℕ) : Type 0 where
  pub answer : Bool
  pub reported_is : returned ≡ Ok answer
  pub no : answer ≡ false → has_key key keys ≡ false

pub no_key : (policy : BloomConstructionPolicy) (keys : List (List ℕ)) (f : BloomFilter)
    (key : List ℕ) → IsFilterFor policy keys f → admits f (hash_of key) ≡ false
    → has_key key keys ≡ false
no_key policy keys f key is denied =
    let some : 8 ≤ length f.bits = rw (is.size) (wide
    ((length keys * tenths_of policy + 79) / 80)) in
    is_false (has_key key keys) (λ here. apart (admits f (hash_of key))
    (admits_its_hashes f (map hash_of keys) (hash_of key) (omega (arith, some)) is.hashes
    (hash_in key keys here)) denied)

pub filter_asked : (policy : BloomConstructionPolicy) (keys : List (List ℕ)) (f : BloomFilter)
    (key body : List ℕ) (offset size : ℕ) → IsFilterFor policy keys f
    → LoadsFilter body offset size f
    → Asked (load_result body offset size Filter >>= λ b. Ok (says key b)) keys key
filter_asked policy keys f key body offset size is l = record {
  answer = admits f (hash_of key);
  reported_is = rw (l.loads, l.filter) refl;
  no = no_key policy keys f key is;
}

-- ---- the top level

tops_end : (policy : BloomConstructionPolicy) (at : ℕ) (parts : List (List (List ℕ)))
    (fs : List BloomFilter) → AreSomeParts parts → AreFiltersFor policy parts fs
    → map end_of (tops_from at (filter_partitions parts fs))
    ≡ map (λ (p : List (List ℕ)). last_entry (map key_end p)) parts
tops_end policy at [] [] some are = refl
tops_end policy at [] (f ∷ fs) some are = absurd are
tops_end policy at (p ∷ ps) [] some are = absurd are
tops_end policy at ([] ∷ ps) (f ∷ fs) some are = absurd (omega (arith, some.0))
tops_end policy at ((x ∷ xs) ∷ ps) (f ∷ fs) some are =
    let last : last_entry (map key_end (x ∷ xs)) ≡ key_end (last_of_keys (x ∷ xs)) =
    ap (λ (o : Option Entry). unwrap_or o (entry [] [] 0 Value)) (last_end_is None x xs) in
    rw (last, tops_end policy (at + (24 + length (payload_of f))) ps fs some.1 are.1) refl

tops_strict : (policy : BloomConstructionPolicy) (at : ℕ) (parts : List (List (List ℕ)))
    (fs : List BloomFilter) → AreSomeParts parts → AreFiltersFor policy parts fs
    → IsStrict (map key_end (joined_parts parts))
    → AreStrictHandles (tops_from at (filter_partitions parts fs))
tops_strict policy at parts fs some are strict =
    subst IsStrict (sym (tops_end policy at parts fs some are))
    (ends_strict key_end None parts some strict)

last_fits : (v : TableVersion) (x : List ℕ) (xs : List (List ℕ))
    → AllByRecursion (KeyFits v) (x ∷ xs) → length (last_of_keys (x ∷ xs)) ≤ longest_key v
last_fits v x [] h = (h.0).short
last_fits v x (y ∷ ys) h = last_fits v y ys h.1

front : (v : TableVersion) (ks more : List (List ℕ)) → AllByRecursion (KeyFits v) (ks ++ more)
    → AllByRecursion (KeyFits v) ks × AllByRecursion (KeyFits v) more
front v [] more h = (tt, h)
front v (k ∷ ks) more h = let rest = front v ks more h.1 in ((h.0, rest.0), rest.1)

tops_spelled : (v : TableVersion) (policy : BloomConstructionPolicy) (at : ℕ)
    (parts : List (List (List ℕ))) (fs : List BloomFilter) → AreSomeParts parts
    → AreFiltersFor policy parts fs → AllByRecursion (KeyFits v) (joined_parts parts)
    → length (flat_map (filter_block v) fs) < 2 ^ 32
    → at + length (flat_map (filter_block v) fs) < 2 ^ 64
    → AllByRecursion (IsSpellableHandle v) (tops_from at (filter_partitions parts fs))
tops_spelled v policy at [] [] some are fit short within = tt
tops_spelled v policy at [] (f ∷ fs) some are fit short within = absurd are
tops_spelled v policy at (p ∷ ps) [] some are fit short within = absurd are
tops_spelled v policy at ([] ∷ ps) (f ∷ fs) some are fit short within =
    absurd (omega (arith, some.0))
tops_spelled v policy at ((x ∷ xs) ∷ ps) (f ∷ fs) some are fit short within =
    let each = front v (x ∷ xs) (joined_parts ps) fit in
    let last = last_fits v x xs each.0 in
    let size = length-block v Filter (payload_of f) in
    let whole = length-append (filter_block v f) (flat_map (filter_block v) fs) in (
      record {
        number = omega arith;
        offset = omega (arith, within, whole);
        size =
            omega (arith, short, whole, size);
        key_len = omega (arith, last, longest_short v);
      },
      tops_spelled v policy (at + (24 + length (payload_of f))) ps fs some.1 are.1 each.1
          (omega (arith, short, whole)) (omega (arith, within, whole, size)),
    )

-- what the filter of a partition says that a handle of the top level tells: no handle is a no
abbrev pub filter_result : List ℕ → List ℕ → Option Handle → Result Bool Error
filter_result body key None = Ok false
filter_result body key (Some top) = load_result body top.offset top.size Filter >>= λ b. Ok (says key b)

module _ (v : TableVersion) (policy : BloomConstructionPolicy) (at : ℕ)
    (parts : List (List (List ℕ))) (fs : List BloomFilter) (some : AreSomeParts parts)
    (are : AreFiltersFor policy parts fs) (strict : IsStrict (map key_end (joined_parts parts)))
    (short : length (flat_map (filter_block v) fs) < 2 ^ 32) where
  -- the top level loads
  pub filter_tops_load : (pre post body : List ℕ) (offset size : ℕ)
      → AllByRecursion (KeyFits v) (joined_parts parts)
      → at + length (flat_map (filter_block v) fs) < 2 ^ 64
      → length (handles_block v (tops_from at (filter_partitions parts fs))) < 2 ^ 32
      → offset ≡ length pre → size ≡ 24 + length (handles_payload v
      (tops_from at (filter_partitions parts fs)))
      → body ≡ pre ++ handles_block v (tops_from at (filter_partitions parts fs)) ++ post
      → LoadsHandles body offset size (tops_from at (filter_partitions parts fs))
  filter_tops_load pre post body offset size fit within top_short from len e =
      handles_load v (tops_from at (filter_partitions parts fs)) pre post body offset size
      (tops_spelled v policy at parts fs some are fit short within)
      (tops_strict policy at parts fs some are strict) top_short from len e

  module _ (pre post body : List ℕ) (from : at ≡ length pre)
      (lies : body ≡ pre ++ (flat_map (filter_block v) fs ++ post)) where
    -- and so does each filter
    pub each_loads : (before : List BloomFilter) (f : BloomFilter) (behind : List BloomFilter)
        (part : List (List ℕ)) → fs ≡ before ++ f ∷ behind → IsFilterFor policy part f
        → LoadsFilter body (at + length (flat_map (filter_block v) before))
        (24 + length (payload_of f)) f
    each_loads before f behind part fs_are is =
        let b = filter_block v in
        let cut : length (flat_map b fs) ≡ length (flat_map b before
        ++ (b f ++ flat_map b behind)) = ap length
        (ap (flat_map b) fs_are ∙ flat_map-append b before (f ∷ behind)) in
        let small : 25 + length f.bits < 2 ^ 32 = omega (
          arith,
          short,
          cut,
          length-append (flat_map b before)
              (b f ++ flat_map b behind),
          length-append (b f)
              (flat_map b behind),
          length-block v Filter (payload_of f),
        ) in
        filter_loads v f (pre ++ flat_map b before) (flat_map b behind ++ post) body
        (at + length (flat_map b before)) (24 + length (payload_of f))
        (is_built policy part f is small)
        (omega (arith, from, length-append pre (flat_map b before))) refl
        (lies ∙ ap (λ (xs : List BloomFilter). pre ++ (flat_map b xs ++ post)) fs_are
        ∙ block_of b before f behind pre post)

    -- so each that a handle of the top level names
    pub filters_each : (before behind : List BloomFilter) (ps : List (List (List ℕ)))
        → fs ≡ before ++ behind → AreFiltersFor policy ps behind
        → AllByRecursion (λ (top : Handle). LoadsAs body (place_of top) Filter)
        (tops_from (at + length (flat_map (filter_block v) before)) (filter_partitions ps behind))
    filters_each before [] [] fs_are for = tt
    filters_each before [] (p ∷ ps) fs_are for = absurd for
    filters_each before (f ∷ behind) [] fs_are for = absurd for
    filters_each before (f ∷ behind) (p ∷ ps) fs_are for =
        let b = filter_block v in
        let n = at + length (flat_map b before) in
        let l = each_loads before f behind p fs_are for.0 in
        let front = before ++ f ∷ [] in
        let next : at + length (flat_map b front) ≡ n + (24 + length (payload_of f)) =
        omega (
          arith,
          ap length (flat_map-append b before (f ∷ [])),
          length-append (flat_map b before) (b f ++ []),
          length-append {A = ℕ} (b f) [],
          length-block v Filter (payload_of f),
        ) in
        let more = filters_each front behind ps
        (fs_are ∙ sym (append_assoc before (f ∷ []) behind)) for.1 in (
          record { block = l.block; loads = l.loads },
          subst (λ (m : ℕ). AllByRecursion (λ (top : Handle). LoadsAs body (place_of top) Filter)
              (tops_from m (filter_partitions ps behind))) next more,
        )

    by_part : (key : List ℕ) (o : Option Handle) → AsksPartBy v policy at parts fs key o
        → Asked (filter_result body key o) (joined_parts parts) key
    by_part key None none = record { answer = false; reported_is = refl; no = λ _. none }
    by_part key (Some top) a =
        let b = filter_block v in
        let l = each_loads a.filters_before a.asked a.filters_behind a.part a.filters_are
        a.is_for in
        let one = filter_asked policy a.part a.asked key body
        (at + length (flat_map b a.filters_before))
        (24 + length (payload_of a.asked)) a.is_for l in
        record {
          answer = one.answer;
          reported_is = ap (λ (h : Handle). filter_result body key (Some h)) a.top_is ∙ one.reported_is;
          no = λ n. a.covers ∙ one.no n;
        }

    -- the filter of the partition that the top level tells for the key is asked
    pub filters_asked : (key : List ℕ) → Asked (filter_result body key
        (find (reaches key (2 ^ 64 - 1)) (tops_from at (filter_partitions parts fs))))
        (joined_parts parts) key
    filters_asked key = by_part key (find (reaches key (2 ^ 64 - 1))
        (tops_from at (filter_partitions parts fs)))
        (part_asked v policy at None parts fs key some are strict)
