-- The sections of a filter, behind what was written before.
use Rattle.std.proofs.Common.{◌≡◌, refl, ◌∙◌, ap, sym, subst, ℕ, ◌+◌, ◌-◌, ◌^◌, ◌<◌, ◌≤◌, All, List}
use Rattle.std.proofs.Common.{[], ◌∷◌, ◌++◌, length, take, append_assoc, length-append, arith}
use Rattle.std.specs.Prelude.{map, min, sum_by, Bool, true, false, Option, Some, None}
use Rattle.std.specs.Prelude.{Result, Ok, Err, OnOk, IfOk, IsErrAnd, if◌then◌else◌}
use Rattle.std.specs.List.{AllByRecursion, flat_map}
use Rattle.std.proofs.lemmas.List.{append-nil, length-map, length-take, map-append, map-id}
use Rattle.std.proofs.lemmas.List.{take-take}
use Rattle.std.proofs.lemmas.List.Elements.{All-push, All-weaker}
use Rattle.std.proofs.lemmas.List.Concat.{flat_map-append}
use Rattle.std.proofs.lemmas.List.Sums.{sum_by-cons}
use Rattle.std.proofs.Math.Seq.{take-append_seam}
use Rattle.sst_blocks.specs.declared.section.SectionName.{SectionName}
use Rattle.sst_blocks.specs.declared.section.SectionName.TheVariants.{Filter as FilterSection}
use Rattle.sst_blocks.specs.declared.section.SectionName.TheVariants.{FilterTli}
use Rattle.sst_blocks.specs.declared.version.TableVersion.TheVariants.{V4}
use Rattle.sst_blocks.specs.filter.KeyHash.{hash_of}
use Rattle.sst_blocks.specs.Sections.{Written, slot_index}
use Rattle.sst_blocks.specs.declared.block_type.BlockType.TheVariants.{Filter, Index}
use Rattle.sst_blocks.specs.Block.{block_bytes}
use Rattle.sst_blocks.specs.Handle.{Handle}
use Rattle.sst_blocks.specs.Handles.{AreStrictHandles, end_of, handles_payload}
use Rattle.sst_blocks.specs.Bounds.{handle_bound}
use Rattle.sst_blocks.specs.Encoding.{handles_fault, is_long_key, key_fault}
use Rattle.sst_entries.specs.Entry.{Entry}
use Rattle.sst_entries.specs.Error.{Faults, FaultsFirst, is_memory}
use Rattle.sst_entries.proofs.Refusals.{faults_refusal}
use Rattle.sst_entries.specs.Strict.{IsStrict}
use Rattle.sst_entries.specs.declared.error.Error.{Error}
use Rattle.sst_entries.specs.declared.error.Error.TheVariants.{KeyTooLong, SectionTooLarge}
use Rattle.sst_entries.specs.declared.error.Error.TheVariants.{WriterFailed}
use Rattle.std.proofs.lemmas.Bool.{lt-leb}
use Rattle.std.specs.Option.{option_or}
use Rattle.sst_blocks.specs.table.Failed.{failed_fault}
use Rattle.lsm_writers.specs.section.Given.{GivenKeys, IsSomePart, KeyPart, given_by, keys_in}
use Rattle.lsm_writers.specs.section.Given.{no_keys, key_parts_of}
use Rattle.lsm_writers.specs.section.Rising.{AreRising, end_entry}
use Rattle.sst_blocks.specs.filter.Filter.{BloomFilter, IsBuilt, payload_of}
use Rattle.sst_blocks.specs.filter.Policy.{bound_for, fault_for, size_for, tenths_of}
use Rattle.sst_blocks.specs.declared.filter.policy.BloomConstructionPolicy.{BloomConstructionPolicy}
use Rattle.sst_blocks.specs.declared.table.options.FilterKind.TheVariants.{Full, Partitioned}
use Rattle.sst_blocks.specs.table.File.{HasNoFilter}
use Rattle.sst_blocks.specs.table.Filters.{IsFilterFor, filter_block, filter_partition}
use Rattle.sst_blocks.specs.table.Filters.{filter_partitions, last_of_keys}
use Rattle.sst_blocks.specs.table.Fits.{SectionFits}
use Rattle.sst_blocks.specs.table.Layout.{Sections, appended}
use Rattle.sst_blocks.specs.table.Partitions.{Partition, handles_block, tops_from}
use Rattle.sst_blocks.proofs.BlockLengths.{length-block}
use Rattle.lsm_writers.specs.section.Held.{AreFiltersOf, CutPart, CutParts, end_keys, filters_of}
use Rattle.lsm_writers.specs.section.Held.{Hashes, HoldsAll, HoldsHashes, partition_of}
use Rattle.sst_blocks.specs.table.Failed.{section_fault}
use Rattle.lsm_writers.specs.section.FilterRefusing.{end_handle, given_fault, key_parts_bound}
use Rattle.lsm_writers.specs.section.FilterRefusing.{keys_fault, size_fault, top_fault}
use Rattle.lsm_writers.specs.section.Writing.{part_sections, tops_block, tops_of, WritesParts}
use Rattle.lsm_writers.proofs.Behind.{front_begun, section_behind, section_more}
use Rattle.lsm_writers.proofs.Sizes.{first_works, sizes_short}

-- no section, and one, and two
pub appended_none : (w : Written) → w ≡ appended w []
appended_none w = rw (append-nil w.bytes, append-nil w.started) refl

written_is : (v : Written) (bytes : List ℕ) (started : List (SectionName × ℕ)) → v.bytes ≡ bytes
    → v.started ≡ started → v ≡ record { bytes = bytes; started = started }
written_is v bytes started eb es = rw (← eb, ← es) refl

tops_at : (w u : Written) (cs : List CutPart) (hs : List Handle)
    → u ≡ record w { started = w.started ++ (FilterSection, length w.bytes) ∷ [] } →
    hs ≡ tops_of (length u.bytes) cs → hs ≡ tops_of (length w.bytes) cs
tops_at w u cs hs eu tops = tops ∙ ap (λ (y : Written). tops_of (length y.bytes) cs) eu

pub parts_behind : (w u v x : Written) (cs : List CutPart) (hs : List Handle)
    → u ≡ record w { started = w.started ++ (FilterSection, length w.bytes) ∷ [] } →
    v.bytes ≡ u.bytes ++ flat_map (filter_block V4) (filters_of cs) → v.started ≡ u.started
    → hs ≡ tops_of (length u.bytes) cs →
    x ≡ appended v ((FilterTli, handles_block V4 hs) ∷ [])
    → x ≡ appended w (part_sections (length w.bytes) cs)
parts_behind w u v x cs hs eu eb es tops ex =
    let blocks : List ℕ = flat_map (filter_block V4) (filters_of cs) in
    let first : v ≡ appended w ((FilterSection, blocks) ∷ []) =
    section_more w u v FilterSection blocks eu
    (written_is v (u.bytes ++ blocks) u.started eb es) in
    let at : hs ≡ tops_of (length w.bytes) cs = tops_at w u cs hs eu tops in
    ex ∙ ap (λ (xs : List Handle). appended v ((FilterTli, handles_block V4 xs) ∷ [])) at
    ∙ section_behind w v (FilterSection, blocks) (FilterTli, tops_block (length w.bytes) cs) first

pub tops_fit : (w u : Written) (cs : List CutPart) (hs : List Handle)
    → u ≡ record w { started = w.started ++ (FilterSection, length w.bytes) ∷ [] } →
    hs ≡ tops_of (length u.bytes) cs → SectionFits (FilterTli, handles_block V4 hs)
    → SectionFits (FilterTli, tops_block (length w.bytes) cs)
tops_fit w u cs hs eu tops fits = subst (λ (xs : List Handle). SectionFits
    (FilterTli, handles_block V4 xs)) (tops_at w u cs hs eu tops) fits

-- which sections were not started yet
pub no_filter_yet : (w : Written) → HasNoFilter w
    → All (λ (s : SectionName × ℕ). slot_index s.0 ≡ 3 → ⊥) w.started
no_filter_yet w none =
    All-weaker (λ (s : SectionName × ℕ). (slot_index s.0 ≡ 3 → ⊥) × (slot_index s.0 ≡ 4 → ⊥))
    (λ (s : SectionName × ℕ). slot_index s.0 ≡ 3 → ⊥) (λ s h. h.0) w.started none

pub no_top_level_yet : (w u v : Written) → HasNoFilter w
    → u ≡ record w { started = w.started ++ (FilterSection, length w.bytes) ∷ [] }
    → v.started ≡ u.started →
    All (λ (s : SectionName × ℕ). slot_index s.0 ≡ 4 → ⊥) v.started
no_top_level_yet w u v none begun same =
    subst (λ ss. All (λ (s : SectionName × ℕ). slot_index s.0 ≡ 4 → ⊥) ss)
    (sym (same ∙ ap (λ (y : Written). y.started) begun))
    (All-push (λ (s : SectionName × ℕ). slot_index s.0 ≡ 4 → ⊥) w.started
    (FilterSection, length w.bytes)
    (All-weaker (λ (s : SectionName × ℕ). (slot_index s.0 ≡ 3 → ⊥) × (slot_index s.0 ≡ 4 → ⊥))
    (λ (s : SectionName × ℕ). slot_index s.0 ≡ 4 → ⊥) (λ s h. h.1) w.started none)
    (λ e. absurd cc))

-- what was written before stays at the front
pub front_after : (bytes longer now : List ℕ) → take (length bytes) longer ≡ bytes
    → take (length longer) now ≡ longer → take (length bytes) now ≡ bytes
front_after bytes longer now before stays =
    let long : length bytes ≤ length longer = omega
    (arith, length-take (length bytes) longer, ap length before) in
    sym (take-take (length bytes) (length longer) now long)
    ∙ ap (λ (bs : List ℕ). take (length bytes) bs) stays ∙ before

pub front_behind : (w u : Written) (started : List (SectionName × ℕ)) (now : List ℕ)
    → u ≡ record w { started = started } → take (length u.bytes) now ≡ u.bytes →
    take (length w.bytes) now ≡ w.bytes
front_behind w u started now e stays = front_after w.bytes u.bytes now
    (front_begun w u started e) stays

pub front_of_block : (w u x : Written) (started : List (SectionName × ℕ)) (block : List ℕ)
    → u ≡ record w { started = started } → x ≡ record u { bytes = u.bytes ++ block } →
    take (length w.bytes) x.bytes ≡ w.bytes
front_of_block w u x started block eu ex =
    front_behind w u started x.bytes eu (ap (λ (y : Written). take (length u.bytes) y.bytes) ex
    ∙ take-append_seam u.bytes block)

pub front_same : (w u x : Written) (started : List (SectionName × ℕ))
    → u ≡ record w { started = started } → x ≡ u → take (length w.bytes) x.bytes ≡ w.bytes
front_same w u x started eu ex = ap (λ (y : Written). take (length w.bytes) y.bytes) ex
    ∙ front_begun w u started eu

-- the top level alone
pub top_written : (w u x : Written) (hs given : List Handle) (payload none : List ℕ)
    → u ≡ record w { started = w.started ++ (FilterTli, length w.bytes) ∷ [] } →
    given ≡ hs → none ≡ [] → payload ≡ none ++ handles_payload V4 given
    → x ≡ record u { bytes = u.bytes ++ block_bytes V4 Index payload } →
    x ≡ appended w ((FilterTli, handles_block V4 hs) ∷ [])
top_written w u x hs given payload none eu same empty is ex =
    let spelled : payload ≡ handles_payload V4 hs = is ∙ rw (empty, same) refl in
    section_more w u x FilterTli (handles_block V4 hs) eu
    (ex ∙ ap (λ (p : List ℕ). record u { bytes = u.bytes ++ block_bytes V4 Index p }) spelled)

pub top_fits : (hs given : List Handle) → given ≡ hs
    → 24 + length (handles_payload V4 given) < 2 ^ 32 → SectionFits (FilterTli, handles_block V4 hs)
top_fits hs given same short = record {
  short = omega (
    arith,
    length-block V4 Index (handles_payload V4 hs),
    subst
        (λ (xs : List Handle). 24 + length (handles_payload V4 xs) < 2 ^ 32) same short,
  );
}

pub top_room : (given : List Handle) (payload none : List ℕ) → none ≡ []
    → payload ≡ none ++ handles_payload V4 given → 24 + length (handles_payload V4 given) < 2 ^ 32
    → length payload + 24 < 2 ^ 32
top_room given payload none empty is short =
    let spelled : payload ≡ handles_payload V4 given = is
    ∙ ap (λ (bs : List ℕ). bs ++ handles_payload V4 given) empty in
    omega (arith, ap length spelled, short)

-- how long a filter's block is
length-filter_block : (f : BloomFilter) → length (filter_block V4 f) ≡ 25 + length f.bits
length-filter_block f = omega (arith, length-block V4 Filter (payload_of f))

no_hashes : (ks : List (List ℕ)) → map hash_of ks ≡ [] → ks ≡ []
no_hashes [] e = refl
no_hashes (k ∷ ks) e = cc

given_is : (given : GivenKeys) {cut : List KeyPart} {pending : List (List ℕ)} → given.cut ≡ cut
    → given.pending ≡ pending → given ≡ record { cut = cut; pending = pending }
given_is given a b = rw (← a, ← b) refl

-- a full filter
pub full_none : (w : Hashes) (given : GivenKeys) (before : Written) → w.hashes ≡ []
    → HoldsHashes w given → WritesParts Full w.policy given before before 1
full_none w given before none h =
    let pending : given.pending ≡ [] = no_hashes given.pending (sym h.hashes ∙ none) in
    let all : given ≡ no_keys = given_is given h.uncut pending in
    subst (λ (x : GivenKeys). WritesParts Full w.policy x before before 1) (sym all)
    (record {
      uncut = λ _. refl;
      some = tt;
      filters = [];
      are = tt;
      written =
          appended_none before;
      counted = refl;
      fit = tt;
    })

pub full_one : (policy : BloomConstructionPolicy) (keys : List (List ℕ)) (before u after : Written)
    (f : BloomFilter) (payload : List ℕ) →
    (map hash_of keys ≡ [] → ⊥) → IsFilterFor policy keys f → IsBuilt f → payload ≡ payload_of f →
    u ≡ record before { started = before.started ++ (FilterSection, length before.bytes) ∷ [] } →
    after ≡ record u { bytes = u.bytes ++ block_bytes V4 Filter payload }
    → WritesParts Full policy (given_by Full policy keys) before after 1
full_one policy [] before u after f payload some is built e eu ev = absurd (some refl)
full_one policy (k ∷ keys) before u after f payload some is built e eu ev = record {
  uncut = λ _. refl;
  some = (record { some = omega arith }, tt);
  filters = f ∷ [];
  are = (is, tt);
  written = section_more before u after FilterSection (filter_block V4 f) eu
      (ev ∙ ap (λ p. record u { bytes = u.bytes ++ block_bytes V4 Filter p }) e);
  counted = refl;
  fit = (record { short = omega (arith, built.short, length-filter_block f) }, tt);
}

pub full_written : (r : Result ℕ Error) (policy : BloomConstructionPolicy) (hashes : List ℕ)
    (w : Hashes) (before after : Written) → policy ≡ w.policy → hashes ≡ w.hashes →
    IfOk r (λ n. (keys : List (List ℕ)) → hashes ≡ map hash_of keys
    → WritesParts Full policy (given_by Full policy keys) before after n) →
    IfOk r (λ n. (given : GivenKeys) → HoldsHashes w given
    → WritesParts Full w.policy given before after n)
full_written (Ok n) policy hashes w before after same held writes = λ given h.
    let all : given_by Full policy given.pending ≡ given = sym (given_is given h.uncut refl) in
    subst (λ p. WritesParts Full p given before after n) same
    (subst (λ (x : GivenKeys). WritesParts Full policy x before after n) all
    (writes given.pending (held ∙ h.hashes)))
full_written (Err e) policy hashes w before after same held writes = tt

-- and what it refuses
pub full_result : (policy : BloomConstructionPolicy) (hashes : List ℕ) (w : Hashes)
    (given : GivenKeys) → policy ≡ w.policy → hashes ≡ w.hashes → (w.hashes ≡ [] → ⊥)
    → HoldsHashes w given →
    keys_fault w.policy given.pending ≡ fault_for (tenths_of policy) (length hashes)
full_result policy hashes w given same held some h =
    let count : length given.pending ≡ length hashes =
    sym (ap length (held ∙ h.hashes) ∙ length-map given.pending hash_of) in
    fault_of w.policy given.pending (λ none. some
    (h.hashes ∙ ap (λ (ks : List (List ℕ)). map hash_of ks) none))
    ∙ ap (λ (p : BloomConstructionPolicy). fault_for (tenths_of p) (length given.pending))
    (sym same)
    ∙ ap (λ (n : ℕ). fault_for (tenths_of policy) n) count
  where
    fault_of : (policy : BloomConstructionPolicy) (ks : List (List ℕ)) → (ks ≡ [] → ⊥)
        → keys_fault policy ks ≡ fault_for (tenths_of policy) (length ks)
    fault_of policy [] some = absurd (some refl)
    fault_of policy (k ∷ ks) some = refl

pub full_fault : (r : Result ℕ Error) (policy : BloomConstructionPolicy) (hashes : List ℕ)
    (w : Hashes) (given : GivenKeys) → policy ≡ w.policy → hashes ≡ w.hashes →
    (w.hashes ≡ [] → ⊥) → w.failed ≡ false → HoldsHashes w given
    → Faults r (fault_for (tenths_of policy) (length hashes)) →
    Faults r (option_or (failed_fault w.failed) (given_fault Full w.policy given))
full_fault r policy hashes w given same held some works h fault =
    let returned : option_or (failed_fault w.failed) (given_fault Full w.policy given)
    ≡ fault_for (tenths_of policy) (length hashes) =
    ap (λ (b : Bool). option_or (failed_fault b) (keys_fault w.policy given.pending)) works
    ∙ full_result policy hashes w given same held some h in
    subst (λ x. Faults r x) (sym returned) fault

-- a filter that is too large is found first
pub full_first : (r : Result ℕ Error) (policy : BloomConstructionPolicy) (hashes : List ℕ)
    (w : Hashes) (given : GivenKeys) → policy ≡ w.policy → hashes ≡ w.hashes →
    (w.hashes ≡ [] → ⊥) → w.failed ≡ false → HoldsHashes w given
    → FaultsFirst r (fault_for (tenths_of policy) (length hashes)) →
    FaultsFirst r (option_or (failed_fault w.failed) (size_fault Full w.policy given))
full_first r policy hashes w given same held some works h first =
    first_works r w.failed _ works (subst (λ x. FaultsFirst r x)
    (sym (full_result policy hashes w given same held some h)) first)

pub full_none_fault : (w : Hashes) (given : GivenKeys) → w.failed ≡ false → w.hashes ≡ []
    → HoldsHashes w given →
    option_or (failed_fault w.failed) (given_fault Full w.policy given) ≡ None
full_none_fault w given works none h =
    let pending : given.pending ≡ [] = no_hashes given.pending (sym h.hashes ∙ none) in
    rw (works, pending) refl

pub full_idle : (w : Hashes) → (w.hashes ≡ [] → ⊥) → HoldsHashes w no_keys → w.failed ≡ true
full_idle w some h = absurd (some h.hashes)

-- what the top level has
partitions_same : (ps : List (List (List ℕ))) (cs : List CutPart)
    → end_keys cs ≡ map last_of_keys ps → filter_partitions ps (filters_of cs) ≡ map partition_of cs
partitions_same [] [] e = refl
partitions_same [] (c ∷ cs) e = cc
partitions_same (p ∷ ps) [] e = cc
partitions_same (p ∷ ps) (c ∷ cs) e =
    let here : c.end_key ≡ last_of_keys p = cc in
    let later : end_keys cs ≡ map last_of_keys ps = cc in
    let first : filter_partition p c.filter ≡ partition_of c =
    ap (λ (k : List ℕ). record (partition_of c) { end_key = k }) (sym here) in
    rw (first, partitions_same ps cs later) refl

-- the section of the parts is as long as its bound
length-filters : (ps : List KeyPart) (fs : List BloomFilter) → AreFiltersOf ps fs
    → key_parts_bound ps < 2 ^ 32 → length (flat_map (filter_block V4) fs) ≡ key_parts_bound ps
length-filters [] [] h lt = refl
length-filters [] (f ∷ fs) h lt = absurd h
length-filters (p ∷ ps) [] h lt = absurd h
length-filters (p ∷ ps) (f ∷ fs) h lt =
    let own : ℕ = bound_for (tenths_of p.policy) (length p.keys) in
    let sum : key_parts_bound (p ∷ ps) ≡ own + key_parts_bound ps =
    sum_by-cons (λ (q : KeyPart). bound_for (tenths_of q.policy) (length q.keys)) p ps in
    let later : key_parts_bound ps < 2 ^ 32 = omega (arith, lt, sum) in
    let small : bound_for (tenths_of p.policy) (length p.keys) < 2 ^ 32 = omega (arith, lt, sum) in
    let first : length (filter_block V4 f) ≡ bound_for (tenths_of p.policy) (length p.keys) =
    length-filter_block f ∙ ap (λ (n : ℕ). 25 + n) h.0.size
    ∙ sym (uncapped (size_for (tenths_of p.policy) (length p.keys)) small) in
    let rest : length (flat_map (filter_block V4) fs) ≡ key_parts_bound ps =
    length-filters ps fs h.1 later in
    length-append (filter_block V4 f) (flat_map (filter_block V4) fs)
    ∙ ap (λ (n : ℕ). n + length (flat_map (filter_block V4) fs)) first
    ∙ ap (λ (n : ℕ). bound_for (tenths_of p.policy) (length p.keys) + n) rest ∙ sym sum
  where
    uncapped : (s : ℕ) → min (2 ^ 64 - 1) (25 + s) < 2 ^ 32 → min (2 ^ 64 - 1) (25 + s) ≡ 25 + s
    uncapped s lt = omega (arith, lt)

-- a partitioned filter
no_parts : (ps : List KeyPart) → AreFiltersOf ps [] → ps ≡ []
no_parts [] h = refl
no_parts (p ∷ ps) h = absurd h

pub parts_of_none : (v : CutParts) (given : GivenKeys) → HoldsAll v given → v.parts ≡ []
    → key_parts_of v.policy given ≡ []
parts_of_none v given h none = no_parts _ (subst
    (λ cs. AreFiltersOf (key_parts_of v.policy given) (filters_of cs)) none h.filters)

pub parts_none : (v : CutParts) (given : GivenKeys) (before : Written) → HoldsAll v given
    → v.parts ≡ [] → WritesParts (Partitioned v.size) v.policy given before before 0
parts_none v given before h none = record {
  uncut = λ full. absurd cc;
  some = h.some;
  filters = [];
  are = rw (parts_of_none v given h none) tt;
  written = appended_none before;
  counted = refl;
  fit = tt;
}

-- the sections by parts that are cut
by_parts : (at : ℕ) (ps : List (List (List ℕ))) (cs : List CutPart)
    → end_keys cs ≡ map last_of_keys ps →
    (FilterSection, flat_map (filter_block V4) (filters_of cs))
    ∷ (FilterTli, handles_block V4 (tops_from at (filter_partitions ps (filters_of cs)))) ∷ []
    ≡ part_sections at cs
by_parts at ps cs e =
    ap (λ (qs : List Partition). (FilterSection, flat_map (filter_block V4) (filters_of cs))
    ∷ (FilterTli, handles_block V4 (tops_from at qs)) ∷ []) (partitions_same ps cs e)

some_parts : (size : ℕ) (policy : BloomConstructionPolicy) (given : GivenKeys) (cs : List CutPart)
    (before after : Written) (n : ℕ) →
    AllByRecursion IsSomePart (key_parts_of policy given)
    → AreFiltersOf (key_parts_of policy given) (filters_of cs)
    → end_keys cs ≡ map last_of_keys (keys_in (key_parts_of policy given)) →
    (cs ≡ [] → ⊥) → key_parts_bound (key_parts_of policy given) < 2 ^ 32
    → after ≡ appended before (part_sections (length before.bytes) cs) →
    SectionFits (FilterTli, tops_block (length before.bytes) cs) → n ≡ length cs
    → WritesParts (Partitioned size) policy given before after n
some_parts size policy given [] before after n full are ends some lt e fits count =
    absurd (some refl)
some_parts size policy given (c ∷ cs) before after n full are ends some lt e fits count =
    let at = length before.bytes in
    let ps = key_parts_of policy given in
    let same = by_parts at (keys_in ps) (c ∷ cs) ends in
    let all : AllByRecursion SectionFits (part_sections at (c ∷ cs)) = (
      record { short = omega (arith, lt, length-filters ps (filters_of (c ∷ cs)) are) },
      (fits, tt),
    ) in
    record {
      uncut = λ whole. absurd cc;
      some = full;
      filters = filters_of (c ∷ cs);
      are = are;
      written = e ∙ ap (λ (ss : Sections). appended before ss) (sym same);
      counted = count ∙ counted cs;
      fit = subst (λ (ss : Sections). AllByRecursion SectionFits ss) (sym same) all;
    }
  where
    lengths : (cs : List CutPart) → length cs ≡ length (filters_of cs)
    lengths [] = refl
    lengths (c ∷ cs) = omega (arith, lengths cs)

    counted : (cs : List CutPart) → length (c ∷ cs) ≡ length (filters_of (c ∷ cs))
    counted cs = lengths (c ∷ cs)

pub parts_write : (v : CutParts) (given : GivenKeys) (before after : Written) (n : ℕ)
    → HoldsAll v given → (v.parts ≡ [] → ⊥)
    → key_parts_bound (key_parts_of v.policy given) < 2 ^ 32 →
    after ≡ appended before (part_sections (length before.bytes) v.parts)
    → SectionFits (FilterTli, tops_block (length before.bytes) v.parts) → n ≡ length v.parts →
    WritesParts (Partitioned v.size) v.policy given before after n
parts_write v given before after n h some lt e fits count =
    some_parts v.size v.policy given v.parts before after n h.some h.filters h.ends some lt e fits
    count

-- writing the parts, one behind another
pub record PartsWritten (before now : Written) (cs : List CutPart) (hs : List Handle) : Type 0 where
  pub bytes : now.bytes ≡ before.bytes ++ flat_map (filter_block V4) (filters_of cs)
  pub started : now.started ≡ before.started
  pub handles : hs ≡ tops_of (length before.bytes) cs

pub written_none : (before now : Written) (hs : List Handle) → now ≡ before → hs ≡ []
    → PartsWritten before now [] hs
written_none before now hs e none = record {
  bytes = ap (λ (w : Written). w.bytes) e ∙ sym (append-nil before.bytes);
  started = ap (λ (w : Written). w.started) e;
  handles = none;
}

-- the handle of the part behind others
tops_push : (at : ℕ) (cs : List CutPart) (c : CutPart) (h : Handle) → h ≡ record {
  end_key = c.end_key;
  seqno = 0;
  offset = at + length (flat_map (filter_block V4) (filters_of cs));
  size = 24 + length (payload_of c.filter);
} → tops_of at (cs ++ c ∷ []) ≡ tops_of at cs ++ h ∷ []
tops_push at [] c h e =
    let here : at + 0 ≡ at = omega arith in
    let is : h ≡ record {
      end_key = c.end_key;
      seqno = 0;
      offset = at;
      size =
          24 + length (payload_of c.filter);
    } =
    e ∙ ap (λ (n : ℕ). record {
      end_key = c.end_key;
      seqno = 0;
      offset = n;
      size =
          24 + length (payload_of c.filter);
    }) here in
    ap (λ (x : Handle). x ∷ []) (sym is)
tops_push at (d ∷ cs) c h e =
    let next : ℕ = at + (24 + length (payload_of d.filter)) in
    let here : at + length (flat_map (filter_block V4) (filters_of (d ∷ cs)))
    ≡ next + length (flat_map (filter_block V4) (filters_of cs)) =
    omega (
      arith,
      length-append (filter_block V4 d.filter)
          (flat_map (filter_block V4) (filters_of cs)),
      length-block V4 Filter
          (payload_of d.filter),
    ) in
    let is : h ≡ record {
      end_key = c.end_key;
      seqno = 0;
      offset =
          next + length (flat_map (filter_block V4) (filters_of cs));
      size =
          24 + length (payload_of c.filter);
    } =
    e ∙ ap (λ (n : ℕ). record {
      end_key = c.end_key;
      seqno = 0;
      offset = n;
      size =
          24 + length (payload_of c.filter);
    }) here in
    ap (λ (hs : List Handle). (record {
      end_key = d.end_key;
      seqno = 0;
      offset = at;
      size =
          24 + length (payload_of d.filter);
    }) ∷ hs) (tops_push next cs c h is)

pub written_more : (before now next : Written) (cs : List CutPart) (hs : List Handle) (c : CutPart)
    (h : Handle) (more : List Handle) →
    PartsWritten before now cs hs → next ≡ record now
    { bytes = now.bytes ++ filter_block V4 c.filter } →
    h ≡ record {
      end_key = c.end_key;
      seqno = 0;
      offset = length now.bytes;
      size =
          24 + length (payload_of c.filter);
    } →
    more ≡ hs ++ h ∷ [] → PartsWritten before next (cs ++ c ∷ []) more
written_more before now next cs hs c h more w e named pushed =
    let of : List CutPart → List ℕ = λ ps. flat_map (filter_block V4) (filters_of ps) in
    let all : of (cs ++ c ∷ []) ≡ of cs ++ (filter_block V4 c.filter ++ []) =
    ap (λ fs. flat_map (filter_block V4) fs) (map-append (λ (p : CutPart). p.filter) cs (c ∷ []))
    ∙ flat_map-append (filter_block V4) (filters_of cs) (c.filter ∷ []) in
    let long : length now.bytes ≡ length before.bytes + length (of cs) = ap length w.bytes
    ∙ length-append before.bytes (of cs) in
    let handle : h ≡ record {
      end_key = c.end_key;
      seqno = 0;
      offset =
          length before.bytes + length (of cs);
      size = 24 + length (payload_of c.filter);
    } =
    named ∙ ap (λ (n : ℕ). record {
      end_key = c.end_key;
      seqno = 0;
      offset = n;
      size =
          24 + length (payload_of c.filter);
    }) long in
    record {
      bytes = ap (λ (x : Written). x.bytes) e ∙ ap (λ b. b ++ filter_block V4 c.filter) w.bytes
          ∙ append_assoc before.bytes (of cs) (filter_block V4 c.filter)
          ∙ ap (λ b. before.bytes ++ (of cs ++ b)) (sym (append-nil (filter_block V4 c.filter)))
          ∙ ap (λ b. before.bytes ++ b) (sym all);
      started = ap (λ (x : Written). x.started) e ∙ w.started;
      handles = pushed ∙ ap (λ x. x ++ h ∷ []) w.handles
          ∙ sym (tops_push (length before.bytes) cs c h handle);
    }

pub front_stays : (before now : Written) (cs : List CutPart) (hs : List Handle)
    → PartsWritten before now cs hs → take (length before.bytes) now.bytes ≡ before.bytes
front_stays before now cs hs w = ap (λ b. take (length before.bytes) b) w.bytes
    ∙ take-append_seam before.bytes _

pub written_all : (before now : Written) (some all : List CutPart) (hs : List Handle)
    → PartsWritten before now some hs → map (λ (c : CutPart). c) some ≡ all
    → PartsWritten before now all hs
written_all before now some all hs w e = subst (λ cs. PartsWritten before now cs hs)
    (sym (map-id some) ∙ e) w

pub front_unchanged : (before now next : Written) (cs : List CutPart) (hs : List Handle)
    → PartsWritten before now cs hs → next ≡ now →
    take (length before.bytes) next.bytes ≡ before.bytes
front_unchanged before now next cs hs w e = ap
    (λ (y : Written). take (length before.bytes) y.bytes) e ∙ front_stays before now cs hs w

pub front_longer : (before now next : Written) (cs : List CutPart) (hs : List Handle)
    (block : List ℕ) → PartsWritten before now cs hs
    → next ≡ record now { bytes = now.bytes ++ block } →
    take (length before.bytes) next.bytes ≡ before.bytes
front_longer before now next cs hs block w e =
    front_after before.bytes now.bytes next.bytes (front_stays before now cs hs w)
    (ap (λ (y : Written). take (length now.bytes) y.bytes) e ∙ take-append_seam now.bytes block)

-- the handles of the top level, by the last keys of the parts
ends_of_tops : (at : ℕ) (cs : List CutPart) → map end_of (tops_of at cs)
    ≡ map end_entry (end_keys cs)
ends_of_tops at [] = refl
ends_of_tops at (c ∷ cs) = ap (λ (es : List Entry). end_entry c.end_key ∷ es)
    (ends_of_tops (at + (24 + length (payload_of c.filter))) cs)

pub tops_strict : (at : ℕ) (cs : List CutPart) (hs : List Handle) → hs ≡ tops_of at cs
    → AreRising (end_keys cs) → AreStrictHandles hs
tops_strict at cs hs e rising = subst (λ es. IsStrict es)
    (sym (ap (λ xs. map end_of xs) e ∙ ends_of_tops at cs)) rising

key_fault_of_tops : (at : ℕ) (cs : List CutPart)
    → key_fault (tops_of at cs) ≡ key_fault (map end_handle (end_keys cs))
key_fault_of_tops at [] = refl
key_fault_of_tops at (c ∷ cs) = ap (λ (f : Option Error). if is_long_key c.end_key
    then Some KeyTooLong else f) (key_fault_of_tops (at + (24 + length (payload_of c.filter))) cs)

bound_of_tops : (at : ℕ) (cs : List CutPart) → sum_by handle_bound (tops_of at cs)
    ≡ sum_by handle_bound (map end_handle (end_keys cs))
bound_of_tops at [] = refl
bound_of_tops at (c ∷ cs) =
    let next : ℕ = at + (24 + length (payload_of c.filter)) in
    let first : Handle = record {
      end_key = c.end_key;
      seqno = 0;
      offset = at;
      size =
          24 + length (payload_of c.filter);
    } in
    sum_by-cons handle_bound first (tops_of next cs)
    ∙ ap (λ (n : ℕ). handle_bound first + n) (bound_of_tops next cs)
    ∙ sym (sum_by-cons handle_bound (end_handle c.end_key) (map end_handle (end_keys cs)))

pub tops_fault : (at : ℕ) (cs : List CutPart) (hs : List Handle) → hs ≡ tops_of at cs
    → top_fault (end_keys cs) ≡ handles_fault hs
tops_fault at cs hs e =
    let keys = key_fault_of_tops at cs in
    let bound = bound_of_tops at cs in
    sym (ap (λ xs. handles_fault xs) e ∙ rw (keys, bound) refl)

pub length_tops : (at : ℕ) (cs : List CutPart) → length (tops_of at cs) ≡ length cs
length_tops at [] = refl
length_tops at (c ∷ cs) = omega (arith, length_tops (at + (24 + length (payload_of c.filter))) cs)

-- what finishing does with the parts that are cut then
pub finish_writes : (v : CutParts) (size : ℕ) (policy : BloomConstructionPolicy) (cs : List CutPart)
    (given : GivenKeys) (before after : Written) (n : ℕ) →
    HoldsAll v given → v.policy ≡ policy → v.size ≡ size → cs ≡ v.parts → (cs ≡ [] → ⊥)
    → size_fault (Partitioned size) policy given ≡ None →
    after ≡ appended before (part_sections (length before.bytes) cs)
    → SectionFits (FilterTli, tops_block (length before.bytes) cs) → n ≡ length cs →
    WritesParts (Partitioned size) policy given before after n
finish_writes v size policy cs given before after n h same same' parts some fine e fits count =
    let short : key_parts_bound (key_parts_of v.policy given) < 2 ^ 32 = rw same
    (sizes_short size policy given fine) in
    let whole : WritesParts (Partitioned v.size) v.policy given before after n =
    parts_write v given before after n h (λ none. some (parts ∙ none)) short
    (e ∙ ap (λ ps. appended before (part_sections (length before.bytes) ps)) parts)
    (subst (λ ps. SectionFits (FilterTli, tops_block (length before.bytes) ps)) parts fits)
    (count ∙ ap (λ (ps : List CutPart). length ps) parts) in
    subst (λ (s : ℕ). WritesParts (Partitioned s) policy given before after n) same'
    (subst (λ p. WritesParts (Partitioned v.size) p given before after n) same whole)

pub finish_none : (v : CutParts) (size : ℕ) (policy : BloomConstructionPolicy) (cs : List CutPart)
    (given : GivenKeys) (before : Written) →
    HoldsAll v given → v.policy ≡ policy → v.size ≡ size → cs ≡ v.parts → cs ≡ []
    → WritesParts (Partitioned size) policy given before before 0
finish_none v size policy cs given before h same same' parts none =
    subst (λ (s : ℕ). WritesParts (Partitioned s) policy given before before 0) same'
    (subst (λ p. WritesParts (Partitioned v.size) p given before before 0) same
    (parts_none v given before h (sym parts ∙ none)))

-- and what it refuses: nothing without parts
pub finish_none_fault : (v : CutParts) (size : ℕ) (policy : BloomConstructionPolicy)
    (cs : List CutPart) (given : GivenKeys) (failed : Bool) →
    failed ≡ false → keys_fault policy given.pending ≡ None → HoldsAll v given → v.policy ≡ policy
    → v.size ≡ size → cs ≡ v.parts → cs ≡ [] →
    option_or (failed_fault failed) (given_fault (Partitioned size) policy given) ≡ None
finish_none_fault v size policy cs given failed works rest h same same' parts none =
    let nothing : key_parts_of policy given ≡ [] = rw same at
    (parts_of_none v given h (sym parts ∙ none)) in
    rw (works, rest, nothing) refl

-- only a writer that has failed refuses before memory is asked for
pub spent_result : (inside failed : Bool) (other : Option Error) → inside ≡ failed → inside ≡ true
    → option_or (failed_fault failed) other ≡ Some WriterFailed
spent_result inside failed other same spent = rw (sym same ∙ spent) refl

pub spent_first : (inside failed : Bool) (e : Error) → inside ≡ failed → inside ≡ true
    → failed_fault failed ≡ Some e → Some e ≡ Some WriterFailed
spent_first inside failed e same spent returned =
    let fault : failed_fault failed ≡ Some WriterFailed = rw (sym same ∙ spent) refl in
    sym returned ∙ fault

-- what is left waiting
pub rest_refused : {X : Type 0} (r : Result X Error) (e : Error) (size : ℕ)
    (policy : BloomConstructionPolicy) (given : GivenKeys) (failed : Bool) → IsErrAnd r (λ y. y ≡ e)
    →
    failed ≡ false → (is_memory e ≡ false → keys_fault policy given.pending ≡ Some e) →
    Faults r (option_or (failed_fault failed) (given_fault (Partitioned size) policy given))
rest_refused r e size policy given failed is works fault =
    faults_refusal r e _ is (λ m. rw (works, fault m) refl)

-- the top level, where the section fits
section_fits : (n : ℕ) → n < 2 ^ 32 → section_fault n ≡ None
section_fits n lt = ap (λ (b : Bool). if b then Some SectionTooLarge else None)
    (lt-leb (2 ^ 32) n lt)

pub finish_result : (v : CutParts) (size : ℕ) (policy : BloomConstructionPolicy) (cs : List CutPart)
    (given : GivenKeys) (failed : Bool) →
    failed ≡ false → keys_fault policy given.pending ≡ None → HoldsAll v given → v.policy ≡ policy
    → v.size ≡ size → cs ≡ v.parts → size_fault (Partitioned size) policy given ≡ None →
    option_or (failed_fault failed) (given_fault (Partitioned size) policy given)
    ≡ top_fault (end_keys cs)
finish_result v size policy cs given failed works rest h same same' parts fine =
    let ps = key_parts_of policy given in
    let ends : end_keys cs ≡ map last_of_keys (keys_in ps) =
    ap (λ (x : List CutPart). end_keys x) parts ∙ rw same at h.ends in
    let short = section_fits (key_parts_bound ps) (sizes_short size policy given fine) in
    rw (works, rest, short, ends) refl

-- of a call that answers how many blocks it wrote
pub written_blocks : (r : Result ℕ Error) (P Q : Type 0) (R S : ℕ → Type 0) → OnOk r P → OnOk r Q
    → IfOk r R → ((n : ℕ) → P → Q → R n → S n) → IfOk r S
written_blocks (Ok n) P Q R S p q h step = step n p q h
written_blocks (Err e) P Q R S p q h step = tt

pub faults_same : (r : Result ℕ Error) (returned other : Option Error) → returned ≡ other → Faults r other
    → Faults r returned
faults_same r returned other e h = subst (λ x. Faults r x) (sym e) h
