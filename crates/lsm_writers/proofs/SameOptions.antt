-- Keys that were all given under one kind and one policy: they are cut as the filter of a table is.
use Rattle.std.proofs.Common.{◌≡◌, refl, ◌∙◌, ap, sym, subst, ℕ, ◌+◌, Bool, true, false, inl, inr}
use Rattle.std.proofs.Common.{List, [], ◌∷◌, ◌++◌, length, append_assoc}
use Rattle.std.specs.Prelude.{map, if◌then◌else◌}
use Rattle.std.specs.List.{AllByRecursion}
use Rattle.std.specs.Option.{option_or}
use Rattle.std.proofs.lemmas.Bool.{cases_Bool}
use Rattle.std.proofs.lemmas.List.{append-nil, map-append}
use Rattle.std.proofs.lemmas.List.Sums.{sum_by-cons}
use Rattle.sst_blocks.specs.Sections.{Written}
use Rattle.sst_blocks.specs.declared.version.TableVersion.TheVariants.{V4}
use Rattle.sst_blocks.specs.filter.Filter.{BloomFilter}
use Rattle.sst_blocks.specs.filter.Policy.{bound_for, tenths_of}
use Rattle.sst_blocks.specs.declared.filter.policy.BloomConstructionPolicy.{BloomConstructionPolicy}
use Rattle.sst_blocks.specs.declared.table.options.FilterKind.{FilterKind}
use Rattle.sst_blocks.specs.declared.table.options.FilterKind.TheVariants.{Full, Partitioned}
use Rattle.sst_blocks.specs.table.Failed.{section_fault}
use Rattle.sst_blocks.specs.table.Filters.{AreFiltersFor, is_full_filter, last_of_keys}
use Rattle.sst_blocks.specs.table.Fits.{SectionFits}
use Rattle.sst_blocks.specs.table.Kinds.{filter_parts, filter_sections}
use Rattle.sst_blocks.specs.table.Layout.{Sections, appended}
use Rattle.sst_blocks.specs.table.Parts.{joined_parts, parts_by, rest_part}
use Rattle.lsm_writers.specs.section.Cutting.{closed_after, closed_by, waiting_after, waiting_by}
use Rattle.lsm_writers.specs.section.Given.{GivenKeys, KeyPart, all_keys, cut_with, given_by}
use Rattle.lsm_writers.specs.section.Given.{key_part, keys_in, no_keys, key_parts_of, pending_with}
use Rattle.lsm_writers.specs.section.Given.{rest_keys, with_key}
use Rattle.lsm_writers.specs.section.Held.{AreFiltersOf}
use Rattle.lsm_writers.specs.section.FilterRefusing.{filter_fault, given_fault, key_parts_bound}
use Rattle.lsm_writers.specs.section.FilterRefusing.{keys_fault, parts_bound, top_fault}
use Rattle.lsm_writers.specs.section.Writing.{WritesFilter, WritesParts, key_sections}
use Rattle.lsm_writers.specs.section.Writing.{sections_behind}
use Rattle.lsm_writers.proofs.CutLaws.{closed_cut, closed_full, closed_none, closed_same}
use Rattle.lsm_writers.proofs.CutLaws.{closed_wait, parts_split, waiting_cut, waiting_full}
use Rattle.lsm_writers.proofs.CutLaws.{waiting_more, waiting_none, waiting_wait}

-- no key
pub given_none : (kind : FilterKind) (policy : BloomConstructionPolicy)
    → given_by kind policy [] ≡ no_keys
given_none Full policy = refl
given_none (Partitioned size) policy =
    let full = is_full_filter policy size in
    rw (closed_none full [], waiting_none full []) refl

-- one key more
pub given_more : (kind : FilterKind) (policy : BloomConstructionPolicy) (keys : List (List ℕ))
    (key : List ℕ) → with_key kind policy (given_by kind policy keys) key
    ≡ given_by kind policy (keys ++ key ∷ [])
given_more Full policy keys key = refl
given_more (Partitioned size) policy keys key =
    let full = is_full_filter policy size in
    let closed = closed_by full keys in
    let part = waiting_by full keys ++ key ∷ [] in
    let given = given_by (Partitioned size) policy keys in
    elim (cases_Bool (full part)) [
      | inl t ↦
          let cut : closed_by full (keys ++ key ∷ []) ≡ closed ++ part ∷ [] =
          closed_cut full [] keys key t in
          let left : waiting_by full (keys ++ key ∷ []) ≡ [] = waiting_cut full [] keys key t in
          ap (λ (b : Bool). if b then cut_with policy given key else pending_with given key) t
          ∙ rw (cut, left, map-append (key_part policy) closed (part ∷ [])) refl
      | inr f ↦
          let cut : closed_by full (keys ++ key ∷ []) ≡ closed = closed_same full [] keys key f in
          let left : waiting_by full (keys ++ key ∷ []) ≡ part = waiting_more full [] keys key f in
          ap (λ (b : Bool). if b then cut_with policy given key else pending_with given key) f
          ∙ rw (cut, left) refl
    ]

-- the parts of the keys
rest_same : (policy : BloomConstructionPolicy) (ks : List (List ℕ))
    → rest_keys policy ks ≡ map (key_part policy) (rest_part ks)
rest_same policy [] = refl
rest_same policy (k ∷ ks) = refl

parts_same : (kind : FilterKind) (policy : BloomConstructionPolicy) (keys : List (List ℕ))
    → key_parts_of policy (given_by kind policy keys)
    ≡ map (key_part policy) (filter_parts kind policy keys)
parts_same Full policy keys = rest_same policy keys
parts_same (Partitioned size) policy keys =
    let full = is_full_filter policy size in
    let closed = closed_by full keys in
    ap (λ (ps : List KeyPart). map (key_part policy) closed ++ ps)
    (rest_same policy (waiting_by full keys))
    ∙ sym (map-append (key_part policy) closed (rest_part (waiting_by full keys)))
    ∙ ap (λ (ps : List (List (List ℕ))). map (key_part policy) ps) (sym (parts_split full [] keys))

keys_same : (policy : BloomConstructionPolicy) (ps : List (List (List ℕ)))
    → keys_in (map (key_part policy) ps) ≡ ps
keys_same policy [] = refl
keys_same policy (p ∷ ps) = ap (λ (qs : List (List (List ℕ))). p ∷ qs) (keys_same policy ps)

bound_same : (policy : BloomConstructionPolicy) (ps : List (List (List ℕ)))
    → key_parts_bound (map (key_part policy) ps) ≡ parts_bound policy ps
bound_same policy [] = refl
bound_same policy (p ∷ ps) =
    sum_by-cons (λ (q : KeyPart). bound_for (tenths_of q.policy) (length q.keys))
    (key_part policy p) (map (key_part policy) ps)
    ∙ ap (λ (n : ℕ). bound_for (tenths_of policy) (length p) + n) (bound_same policy ps)
    ∙ sym (sum_by-cons (λ (q : List (List ℕ)). bound_for (tenths_of policy) (length q)) p ps)

filters_same : (policy : BloomConstructionPolicy) (ps : List (List (List ℕ)))
    (fs : List BloomFilter) → AreFiltersOf (map (key_part policy) ps) fs
    → AreFiltersFor policy ps fs
filters_same policy [] [] h = tt
filters_same policy [] (f ∷ fs) h = absurd h
filters_same policy (p ∷ ps) [] h = absurd h
filters_same policy (p ∷ ps) (f ∷ fs) h = (h.0, filters_same policy ps fs h.1)

all_keys_same : (kind : FilterKind) (policy : BloomConstructionPolicy) (keys : List (List ℕ))
    → keys_in (key_parts_of policy (given_by kind policy keys)) ≡ filter_parts kind policy keys
all_keys_same kind policy keys = ap keys_in (parts_same kind policy keys)
    ∙ keys_same policy (filter_parts kind policy keys)

-- what is written, and what is refused
pub writes_same : (kind : FilterKind) (policy : BloomConstructionPolicy) (keys : List (List ℕ))
    (before after : Written) (n : ℕ) → WritesParts kind policy
    (given_by kind policy keys) before after n → WritesFilter kind policy keys before after n
writes_same kind policy keys before after n w =
    let sections : key_sections kind policy (given_by kind policy keys) before w.filters
    ≡ sections_behind kind policy keys before w.filters =
    ap (λ (ps : List (List (List ℕ))). filter_sections kind V4 (length before.bytes) ps w.filters)
    (all_keys_same kind policy keys) in
    record {
      filters = w.filters;
      are = filters_same policy (filter_parts kind policy keys) w.filters
          (subst (λ (ps : List KeyPart). AreFiltersOf ps w.filters)
          (parts_same kind policy keys) w.are);
      written = w.written ∙ ap (λ (ss : Sections). appended before ss) sections;
      counted = w.counted;
      fit = subst (λ (ss : Sections). AllByRecursion SectionFits ss) sections w.fit;
    }

pub fault_same : (kind : FilterKind) (policy : BloomConstructionPolicy) (keys : List (List ℕ))
    → given_fault kind policy (given_by kind policy keys) ≡ filter_fault kind policy keys
fault_same Full policy keys = refl
fault_same (Partitioned size) policy keys =
    let full = is_full_filter policy size in
    let ps = parts_by full keys in
    let parts = key_parts_of policy (given_by (Partitioned size) policy keys) in
    let bound : key_parts_bound parts ≡ parts_bound policy ps =
    ap (λ (qs : List KeyPart). key_parts_bound qs) (parts_same (Partitioned size) policy keys)
    ∙ bound_same policy ps in
    let ends : keys_in parts ≡ ps = all_keys_same (Partitioned size) policy keys in
    ap (λ (n : ℕ). option_or (keys_fault policy (waiting_by full keys))
    (option_or (section_fault n) (top_fault (map last_of_keys (keys_in parts))))) bound
    ∙ ap (λ (qs : List (List (List ℕ))). option_or (keys_fault policy (waiting_by full keys))
    (option_or (section_fault (parts_bound policy ps)) (top_fault (map last_of_keys qs)))) ends

-- the keys are those that were given
rejoined : (full : List (List ℕ) → Bool) (w xs : List (List ℕ))
    → joined_parts (closed_after full w xs) ++ waiting_after full w xs ≡ w ++ xs
rejoined full w [] = rw (closed_none full w, waiting_none full w) (sym (append-nil w))
rejoined full w (x ∷ xs) = elim (cases_Bool (full (w ++ x ∷ []))) [
  | inl t ↦
      rw (closed_full full w x xs t, waiting_full full w x xs t)
      (append_assoc (w ++ x ∷ []) (joined_parts (closed_after full [] xs))
      (waiting_after full [] xs)
      ∙ ap (λ (ks : List (List ℕ)). (w ++ x ∷ []) ++ ks) (rejoined full [] xs)
      ∙ append_assoc w (x ∷ []) xs)
  | inr f ↦ rw (closed_wait full w x xs f, waiting_wait full w x xs f)
      (rejoined full (w ++ x ∷ []) xs ∙ append_assoc w (x ∷ []) xs)
]

pub given_all : (kind : FilterKind) (policy : BloomConstructionPolicy) (keys : List (List ℕ))
    → all_keys (given_by kind policy keys) ≡ keys
given_all Full policy keys = refl
given_all (Partitioned size) policy keys =
    let full = is_full_filter policy size in
    ap (λ (ps : List (List (List ℕ))). joined_parts ps ++ waiting_by full keys)
    (keys_same policy (closed_by full keys)) ∙ rejoined full [] keys

-- under any options a key more comes behind all others
pub all_keys_more : (kind : FilterKind) (policy : BloomConstructionPolicy) (given : GivenKeys)
    (key : List ℕ) → all_keys (with_key kind policy given key) ≡ all_keys given ++ key ∷ []
all_keys_more Full policy given key = sym (append_assoc
    (joined_parts (keys_in given.cut)) given.pending (key ∷ []))
all_keys_more (Partitioned size) policy given key =
    by_cut (is_full_filter policy size (given.pending ++ key ∷ []))
  where
    joined_more : (cut : List KeyPart) (p : KeyPart)
        → joined_parts (keys_in (cut ++ p ∷ [])) ≡ joined_parts (keys_in cut) ++ p.keys
    joined_more [] p = append-nil p.keys
    joined_more (q ∷ cut) p = ap (λ (ks : List (List ℕ)). q.keys ++ ks) (joined_more cut p)
        ∙ sym (append_assoc q.keys (joined_parts (keys_in cut)) p.keys)

    by_cut : (b : Bool) → all_keys (if b then cut_with policy given key else pending_with given key)
        ≡ all_keys given ++ key ∷ []
    by_cut true =
        append-nil (joined_parts (keys_in (given.cut ++ key_part policy (given.pending ++ key ∷ [])
        ∷ [])))
        ∙ joined_more given.cut (key_part policy (given.pending ++ key ∷ []))
        ∙ sym (append_assoc (joined_parts (keys_in given.cut)) given.pending (key ∷ []))
    by_cut false = sym (append_assoc (joined_parts (keys_in given.cut)) given.pending (key ∷ []))
