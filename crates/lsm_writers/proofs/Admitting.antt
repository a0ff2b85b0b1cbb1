-- A key that was given is admitted: by the one filter, or by the first partition whose last key is
-- not below it.
use Rattle.std.proofs.Common.{◌≡◌, refl, ◌∙◌, ap, sym, subst, ℕ, ◌+◌, ◌-◌, ◌^◌, ◌<◌, Bool, true}
use Rattle.std.proofs.Common.{false, cond, List, [], ◌∷◌, ◌++◌, length, append_assoc, length-append}
use Rattle.std.proofs.Common.{arith}
use Rattle.std.specs.Prelude.{◌==◌, ◌||◌, not, map, find, Option, Some, None, Ok}
use Rattle.std.specs.List.{AllByRecursion, flat_map}
use Rattle.std.proofs.lemmas.Cmp.{nat_eq_equiv}
use Rattle.std.proofs.lemmas.List.{append-nil}
use Rattle.std.proofs.lemmas.Bool.{or_from}
use Rattle.std.proofs.Math.Bool.{or_assoc}
use Rattle.sst_entries.specs.Entry.{Entry}
use Rattle.sst_entries.specs.Key.{key_lt, same_key}
use Rattle.sst_entries.specs.Strict.{IsStrictAfter}
use Rattle.sst_entries.proofs.Booleans.{apart, is_false, or_right, or_first}
use Rattle.sst_entries.proofs.KeyLemmas.{le_itself, same_is}
use Rattle.sst_entries.proofs.OrderLemmas.{lt_trans}
use Rattle.sst_blocks.specs.filter.KeyHash.{hash_of}
use Rattle.sst_blocks.specs.Sections.{Written}
use Rattle.sst_blocks.specs.declared.section.SectionName.TheVariants.{Filter as FilterSection}
use Rattle.sst_blocks.specs.declared.section.SectionName.TheVariants.{FilterTli}
use Rattle.sst_blocks.specs.declared.version.TableVersion.{TableVersion}
use Rattle.sst_blocks.specs.declared.version.TableVersion.TheVariants.{V4}
use Rattle.sst_blocks.specs.declared.block_type.BlockType.TheVariants.{Filter}
use Rattle.sst_blocks.specs.Block.{load_result}
use Rattle.sst_blocks.specs.Handle.{Handle}
use Rattle.sst_blocks.proofs.BlockLaws.{built_load}
use Rattle.sst_blocks.specs.declared.filter.policy.BloomConstructionPolicy.{BloomConstructionPolicy}
use Rattle.sst_blocks.specs.filter.Filter.{BloomFilter, IsBuilt, admits, is_in, payload_of}
use Rattle.sst_blocks.proofs.Probes.{admits_its_hashes}
use Rattle.sst_blocks.proofs.BlockLengths.{length-block}
use Rattle.sst_blocks.specs.declared.table.options.FilterKind.{FilterKind}
use Rattle.sst_blocks.specs.declared.table.options.FilterKind.TheVariants.{Full, Partitioned}
use Rattle.sst_blocks.specs.table.Filters.{IsFilterFor, filter_block, filter_partitions}
use Rattle.sst_blocks.specs.table.Filters.{full_filter}
use Rattle.sst_blocks.specs.table.Filters.{last_of_keys, partitioned_filter}
use Rattle.sst_blocks.specs.table.Fits.{SectionFits}
use Rattle.sst_blocks.specs.table.Layout.{appended}
use Rattle.sst_blocks.specs.table.Partitions.{handles_block, tops_from}
use Rattle.sst_blocks.specs.table.Parts.{joined_parts}
use Rattle.sst_blocks.proofs.FilterLaws.{is_built}
use Rattle.sst_blocks.proofs.KeyLaws.{before_is}
use Rattle.lsm_writers.specs.section.Answering.{FirstSaysYes, IsAdmitted, SaysYes, TopLevelSaysYes}
use Rattle.lsm_writers.specs.section.Answering.{is_among, was_given}
use Rattle.lsm_writers.specs.section.Given.{GivenKeys, IsSomePart, KeyPart, all_keys, keys_in}
use Rattle.lsm_writers.specs.section.Given.{key_parts_of, rest_keys}
use Rattle.lsm_writers.specs.section.Held.{AreFiltersOf}
use Rattle.lsm_writers.specs.section.Rising.{AreRising, end_entry}
use Rattle.lsm_writers.specs.section.Writing.{WritesParts}
use Rattle.lsm_writers.proofs.RisingLaws.{above_last, strict_front, strict_parts}

-- ---- keys of a list

-- a key that is greater is another
lt_apart : (k key : List ℕ) → key_lt k key ≡ true → same_key k key ≡ false
lt_apart k key h = is_false (same_key k key) (λ same. apart (key_lt k key) h
    (subst (λ (x : List ℕ). key_lt k x ≡ false) (same_is k key same) (le_itself k)))

-- a part whose last key is below a key has it not
lacks : (last : Option Entry) (ks : List (List ℕ)) (key : List ℕ)
    → IsStrictAfter last (map end_entry ks) → key_lt (last_of_keys ks) key ≡ true
    → is_among ks key ≡ false
lacks last [] key strict h = refl
lacks last (k ∷ []) key strict h = or_from (same_key k key) false (lt_apart k key h) refl
lacks last (k ∷ l ∷ ks) key strict h =
    let rest = (strict_parts last (end_entry k) (map end_entry (l ∷ ks)) strict).1 in
    let over = above_last (Some (end_entry k)) (l ∷ ks) [] (omega arith)
    (subst (λ (xs : List (List ℕ)). IsStrictAfter (Some (end_entry k)) (map end_entry xs))
    (sym (append-nil (l ∷ ks))) rest) in
    let up : key_lt k (last_of_keys (l ∷ ks)) ≡ true = before_is k (last_of_keys (l ∷ ks))
    ∙ over.0 in
    or_from (same_key k key) (is_among (l ∷ ks) key)
    (lt_apart k key (lt_trans k (last_of_keys (l ∷ ks)) key up h))
    (lacks (Some (end_entry k)) (l ∷ ks) key rest h)

-- and so do the keys behind one that is not below it
lacks_behind : (end : List ℕ) (ks : List (List ℕ)) (key : List ℕ)
    → IsStrictAfter (Some (end_entry end)) (map end_entry ks) → key_lt end key ≡ false
    → is_among ks key ≡ false
lacks_behind end [] key strict h = refl
lacks_behind end (k ∷ ks) key strict h =
    let a = strict_parts (Some (end_entry end)) (end_entry k) (map end_entry ks) strict in
    let up : key_lt end k ≡ true = before_is end k ∙ a.0 in
    let other : same_key k key ≡ false = is_false (same_key k key)
    (λ same. apart (key_lt end key) (subst (λ (x : List ℕ). key_lt end x ≡ true)
    (same_is k key same) up) h) in
    let later : key_lt k key ≡ false = is_false (key_lt k key)
    (λ less. apart (key_lt end key) (lt_trans end k key up less) h) in
    or_from (same_key k key) (is_among ks key) other (lacks_behind k ks key a.1 later)

among_append : (xs ys : List (List ℕ)) (key : List ℕ)
    → is_among (xs ++ ys) key ≡ (is_among xs key || is_among ys key)
among_append [] ys key = refl
among_append (x ∷ xs) ys key = ap (λ (b : Bool). same_key x key || b) (among_append xs ys key)
    ∙ sym (or_assoc (same_key x key) (is_among xs key) (is_among ys key))

or_second : (a b : Bool) → (a || b) ≡ true → a ≡ false → b ≡ true
or_second true b h none = absurd (let no : true ≡ false = none in cc)
or_second false b h none = h

hash_in : (keys : List (List ℕ)) (key : List ℕ) → is_among keys key ≡ true
    → is_in (hash_of key) (map hash_of keys) ≡ true
hash_in [] key h = absurd cc
hash_in (k ∷ ks) key h =
    elim (same_key k key) as (λ b. same_key k key ≡ b
    → is_in (hash_of key) (map hash_of (k ∷ ks)) ≡ true) [
      | true ↦ λ same.
          let equal : (hash_of k == hash_of key) ≡ true =
          ap (λ (x : List ℕ). hash_of x == hash_of key) (same_is k key same)
          ∙ nat_eq_equiv.refl (hash_of key) in
          rw equal refl
      | false ↦ λ other. or_right (hash_of k == hash_of key) (is_in (hash_of key) (map hash_of ks))
          (hash_in ks key (or_second (same_key k key) (is_among ks key) h other))
    ] refl

-- ---- one filter

-- its block loads, wherever it lies
filter_loads : (v : TableVersion) (f : BloomFilter) (pre post body : List ℕ) (offset size : ℕ)
    → IsBuilt f → offset ≡ length pre → size ≡ 24 + length (payload_of f)
    → body ≡ pre ++ filter_block v f ++ post →
    load_result body offset size Filter ≡ Ok (record
    { version = v; kind = Filter; payload = payload_of f })
filter_loads v f pre post body offset size built at len e =
    let loads = built_load v f built in
    rw (at, len, e) (loads.0 pre post).0

filter_says : (policy : BloomConstructionPolicy) (keys : List (List ℕ)) (f : BloomFilter)
    (key body pre post : List ℕ) (offset size : ℕ) → IsFilterFor policy keys f
    → is_among keys key ≡ true → length (filter_block V4 f) < 2 ^ 32 →
    body ≡ pre ++ (filter_block V4 f ++ post) → offset ≡ length pre
    → size ≡ 24 + length (payload_of f) → SaysYes body offset size key
filter_says policy keys f key body pre post offset size is here short lies at long =
    let built : IsBuilt f = is_built policy keys f is
    (omega (arith, short, length-block V4 Filter (payload_of f))) in
    let loads = built_load V4 f built in
    let bits : 0 < length f.bits = omega (arith, built.wide) in
    let yes : admits f (hash_of key) ≡ true = admits_its_hashes f (map hash_of keys)
    (hash_of key) bits is.hashes (hash_in keys key here) in
    record {
      block = record { version = V4; kind = Filter; payload = payload_of f };
      loads = filter_loads V4 f pre post body offset size built at long
          (lies ∙ sym (append_assoc pre (filter_block V4 f) post));
      yes = rw (loads.1) yes;
    }

-- ---- the one filter of all keys

full_says : (policy : BloomConstructionPolicy) (keys : List (List ℕ)) (fs : List BloomFilter)
    (before after : Written) (behind key : List ℕ) → AreFiltersOf (rest_keys policy keys) fs →
    after ≡ appended before (full_filter V4 fs) → AllByRecursion SectionFits (full_filter V4 fs)
    → is_among keys key ≡ true →
    SaysYes (after.bytes ++ behind) (length before.bytes)
    (length after.bytes - length before.bytes) key
full_says policy [] fs before after behind key are e fits here = absurd cc
full_says policy (k ∷ keys) [] before after behind key are e fits here = absurd are
full_says policy (k ∷ keys) (f ∷ g ∷ fs) before after behind key are e fits here = absurd are.1
full_says policy (k ∷ keys) (f ∷ []) before after behind key are e fits here =
    let block = filter_block V4 f in
    let bytes : after.bytes ≡ before.bytes ++ block = ap (λ (w : Written). w.bytes) e
    ∙ ap (λ (bs : List ℕ). before.bytes ++ bs) (append-nil block) in
    let long : length after.bytes ≡ length before.bytes + length block = ap length bytes
    ∙ length-append before.bytes block in
    filter_says policy (k ∷ keys) f key (after.bytes ++ behind) before.bytes behind
    (length before.bytes) (length after.bytes - length before.bytes) are.0 here (fits.0).short
    (ap (λ (bs : List ℕ). bs ++ behind) bytes ∙ append_assoc before.bytes block behind) refl
    (omega (arith, long, length-block V4 Filter (payload_of f)))

-- ---- the partitions

found : (key : List ℕ) (top : Handle) (tops : List Handle) (b : Bool) → key_lt top.end_key key ≡ b
    → find (λ h. not (key_lt h.end_key key)) (top ∷ tops)
    ≡ cond (not b) (Some top) (find (λ h. not (key_lt h.end_key key)) tops)
found key top tops b e = ap (λ (x : Bool). cond (not x) (Some top)
    (find (λ h. not (key_lt h.end_key key)) tops)) e

parts_say : (ps : List KeyPart) (fs : List BloomFilter) (last : Option Entry) (at : ℕ)
    (body pre post key : List ℕ) → AllByRecursion IsSomePart ps → AreFiltersOf ps fs
    → length (flat_map (filter_block V4) fs) < 2 ^ 32 →
    IsStrictAfter last (map end_entry (joined_parts (keys_in ps)))
    → is_among (joined_parts (keys_in ps)) key ≡ true → at ≡ length pre
    → body ≡ pre ++ (flat_map (filter_block V4) fs ++ post) →
    FirstSaysYes body (tops_from at (filter_partitions (keys_in ps) fs)) key
parts_say [] fs last at body pre post key some are short strict here from lies = absurd cc
parts_say (p ∷ ps) [] last at body pre post key some are short strict here from lies = absurd are
parts_say (p ∷ ps) (f ∷ fs) last at body pre post key some are short strict here from lies =
    let block = filter_block V4 f in
    let rest = flat_map (filter_block V4) fs in
    let size : ℕ = 24 + length (payload_of f) in
    let end = last_of_keys p.keys in
    let top : Handle = record { end_key = end; seqno = 0; offset = at; size = size } in
    let tops = tops_from (at + size) (filter_partitions (keys_in ps) fs) in
    let joined = joined_parts (keys_in ps) in
    let over = above_last last p.keys joined (some.0).some strict in
    let both : (is_among p.keys key || is_among joined key) ≡ true =
    sym (among_append p.keys joined key) ∙ here in
    let length_is : length (block ++ rest) ≡ length block + length rest =
    length-append block rest in
    let parted : body ≡ pre ++ (block ++ (rest ++ post)) = lies
    ∙ ap (λ (bs : List ℕ). pre ++ bs) (append_assoc block rest post) in
    elim (key_lt end key) as
    (λ (b : Bool). key_lt end key ≡ b → FirstSaysYes body (top ∷ tops) key) [
      | true ↦ λ less.
          let none : is_among p.keys key ≡ false = lacks last p.keys key
          (strict_front last p.keys joined strict) less in
          let more = parts_say ps fs (Some (end_entry end)) (at + size) body
          (pre ++ block) post key some.1 are.1 (omega (arith, short, length_is)) over.1
          (or_second (is_among p.keys key) (is_among joined key) both none)
          (omega (arith, from, length-append pre block, length-block V4 Filter (payload_of f)))
          (parted ∙ sym (append_assoc pre block (rest ++ post))) in
          record {
            top = more.top;
            first = found key top tops true less ∙ more.first;
            says =
                more.says;
          }
      | false ↦ λ not_less.
          let none : is_among joined key ≡ false = lacks_behind end joined key over.1 not_less in
          record {
            top = top;
            first = found key top tops false not_less;
            says = filter_says p.policy p.keys f key body pre (rest ++ post) at size are.0
                (or_first (is_among p.keys key) (is_among joined key) both none)
                (omega (arith, short, length_is)) parted from refl;
          }
    ] refl

-- the sections lie behind what was written before
tops_say : (size : ℕ) (ps : List KeyPart) (fs : List BloomFilter) (before after : Written)
    (behind key : List ℕ) → AllByRecursion IsSomePart ps → AreFiltersOf ps fs →
    after ≡ appended before (partitioned_filter V4 (length before.bytes) (keys_in ps) fs)
    → AllByRecursion SectionFits (partitioned_filter V4 (length before.bytes) (keys_in ps) fs) →
    AreRising (joined_parts (keys_in ps)) → is_among (joined_parts (keys_in ps)) key ≡ true
    → TopLevelSaysYes before after (after.bytes ++ behind) key
tops_say size [] fs before after behind key some are e fits rising here = absurd cc
tops_say size (p ∷ ps) [] before after behind key some are e fits rising here = absurd are
tops_say size (p ∷ ps) (f ∷ fs) before after behind key some are e fits rising here =
    let blocks : List ℕ = flat_map (filter_block V4) (f ∷ fs) in
    let tops = tops_from (length before.bytes) (filter_partitions (keys_in (p ∷ ps)) (f ∷ fs)) in
    let top : List ℕ = handles_block V4 tops in
    let bytes : after.bytes ≡ before.bytes ++ (blocks ++ top) = ap (λ (w : Written). w.bytes) e
    ∙ ap (λ (bs : List ℕ). before.bytes ++ (blocks ++ bs)) (append-nil top) in
    let started : after.started ≡ before.started ++ (FilterSection, length before.bytes)
    ∷ (FilterTli, length before.bytes + length blocks) ∷ [] =
    ap (λ (w : Written). w.started) e in
    record {
      front = before.bytes ++ blocks;
      tops = tops;
      bytes = bytes ∙ sym (append_assoc before.bytes blocks top);
      started = started ∙ ap (λ (n : ℕ). before.started ++ (FilterSection, length before.bytes)
          ∷ (FilterTli, n) ∷ []) (sym (length-append before.bytes blocks));
      says = parts_say (p ∷ ps) (f ∷ fs) None (length before.bytes)
          (after.bytes ++ behind) before.bytes (top ++ behind) key some are
          (fits.0).short rising here refl
          (ap (λ (bs : List ℕ). bs ++ behind) bytes
          ∙ append_assoc before.bytes (blocks ++ top) behind
          ∙ ap (λ (bs : List ℕ). before.bytes ++ bs) (append_assoc blocks top behind));
    }

-- ---- any filter

all_keys_are : (policy : BloomConstructionPolicy) (cut : List KeyPart) (pending : List (List ℕ))
    → joined_parts (keys_in (cut ++ rest_keys policy pending)) ≡ joined_parts (keys_in cut)
    ++ pending
all_keys_are policy [] [] = refl
all_keys_are policy [] (k ∷ ks) = append-nil (k ∷ ks)
all_keys_are policy (p ∷ cut) pending =
    ap (λ (ks : List (List ℕ)). p.keys ++ ks) (all_keys_are policy cut pending)
    ∙ sym (append_assoc p.keys (joined_parts (keys_in cut)) pending)

pub is_admitted : (kind : FilterKind) (policy : BloomConstructionPolicy) (given : GivenKeys)
    (before after : Written) (n : ℕ) (behind key : List ℕ)
    → WritesParts kind policy given before after n →
    AreRising (all_keys given) → was_given given key ≡ true
    → IsAdmitted kind before after behind key
is_admitted Full policy given before after n behind key w rising here =
    let uncut : given.cut ≡ [] = w.uncut refl in
    let all : key_parts_of policy given ≡ rest_keys policy given.pending =
    ap (λ (ps : List KeyPart). ps ++ rest_keys policy given.pending) uncut in
    let keys : all_keys given ≡ given.pending = ap
    (λ (ps : List KeyPart). joined_parts (keys_in ps) ++ given.pending) uncut in
    full_says policy given.pending w.filters before after behind key
    (subst (λ (ps : List KeyPart). AreFiltersOf ps w.filters) all w.are) w.written w.fit
    (sym (ap (λ (ks : List (List ℕ)). is_among ks key) keys) ∙ here)
is_admitted (Partitioned size) policy given before after n behind key w rising here =
    let keys : joined_parts (keys_in (key_parts_of policy given)) ≡ all_keys given =
    all_keys_are policy given.cut given.pending in
    tops_say size (key_parts_of policy given) w.filters before after behind key w.some w.are
    w.written
    w.fit (subst (λ (ks : List (List ℕ)). AreRising ks) (sym keys) rising)
    (ap (λ (ks : List (List ℕ)). is_among ks key) keys ∙ here)
