-- The filter of a table of a list, by the kind that it was written with: it loads where it lies,
-- what of it stays loaded, and what it answers for a key.
use Rattle.std.proofs.Common.{◌≡◌, ℕ, ◌+◌, ◌-◌, ◌^◌, ◌<◌, Bool, true, false, List, [], ◌∷◌, ◌++◌}
use Rattle.std.proofs.Common.{length, map, refl, sym, subst, ◌∙◌, append_assoc, length-append}
use Rattle.std.proofs.Common.{arith, if◌then◌else◌}
use Rattle.std.specs.Prelude.{Ok, find, nat_lt, Option, Some, None, Result}
use Rattle.std.specs.List.{AllByRecursion, flat_map}
use Rattle.std.proofs.lemmas.List.{append-nil}
use Rattle.sst_blocks.specs.declared.version.TableVersion.{TableVersion}
use Rattle.sst_entries.specs.Entry.{Entry}
use Rattle.sst_entries.specs.Strict.{IsStrict}
use Rattle.sst_blocks.specs.declared.block_type.BlockType.TheVariants.{Filter, Index}
use Rattle.sst_blocks.specs.Handle.{Handle}
use Rattle.sst_blocks.specs.Handles.{handles_payload, reaches}
use Rattle.sst_blocks.specs.declared.filter.policy.BloomConstructionPolicy.{BloomConstructionPolicy}
use Rattle.sst_blocks.specs.filter.Filter.{BloomFilter, payload_of, admits}
use Rattle.sst_blocks.specs.filter.Policy.{tenths_of}
use Rattle.sst_blocks.proofs.BlockLengths.{length-block}
use Rattle.sst_blocks.specs.declared.table.options.FilterKind.{FilterKind}
use Rattle.sst_blocks.specs.declared.table.options.FilterKind.TheVariants.{Full as FullFilter}
use Rattle.sst_blocks.specs.declared.table.options.FilterKind.TheVariants.{
  Partitioned as PartitionedFilter,
}
use Rattle.sst_blocks.specs.table.Filters.{AreFiltersFor, IsFilterFor, filter_block}
use Rattle.sst_blocks.specs.table.Filters.{filter_partitions}
use Rattle.sst_blocks.specs.table.Filters.{filtered_keys, full_filter, is_full_filter, keys_of}
use Rattle.sst_blocks.specs.table.Filters.{partitioned_filter}
use Rattle.sst_blocks.specs.table.Fits.{SectionFits}
use Rattle.sst_blocks.specs.table.Kinds.{AreFilterParts, filter_sections}
use Rattle.sst_blocks.specs.table.Layout.{bytes_in}
use Rattle.sst_blocks.specs.table.Partitions.{handles_block, tops_from}
use Rattle.sst_blocks.specs.table.Parts.{ArePartsOf, joined_parts, rest_part}
use Rattle.sst_blocks.proofs.FilterLaws.{is_built}
use Rattle.lsm_readers.proofs.FileFilters.{Asked, KeyFits, LoadsFilter, filter_asked, filter_loads}
use Rattle.lsm_readers.proofs.FileFilters.{filter_result as part_read_results, filter_tops_load}
use Rattle.lsm_readers.proofs.FileFilters.{filters_asked, filters_each, no_key}
use Rattle.lsm_readers.proofs.FileIndexes.{LoadsHandles, handles_at}
use Rattle.sst_blocks.proofs.KeyLaws.{key_end}
use Rattle.lsm_readers.proofs.PartEnds.{no_parts, some_parts}
use Rattle.lsm_readers.proofs.PartReads.{AreSomeParts}
use Rattle.std.specs.Option.{option_map}
use Rattle.sst_blocks.specs.declared.section.SectionName.TheVariants.{Filter as FilterSection}
use Rattle.sst_blocks.specs.declared.section.SectionName.TheVariants.{FilterTli}
use Rattle.sst_blocks.specs.filter.KeyHash.{hash_of}
use Rattle.sst_entries.specs.declared.error.Error.{Error}
use Rattle.sst_blocks.specs.Place.{Place, place_of}
use Rattle.lsm_readers.specs.declared.regions.ParsedRegions.{ParsedRegions}
use Rattle.lsm_readers.specs.point.Answer.{filter_admits, part_admits}
use Rattle.lsm_readers.specs.OfList.{filter_said, filter_tops_said, place_from}
use Rattle.lsm_readers.specs.point.Parts.{filter_result, pinned_filter, tops_result}
use Rattle.lsm_readers.specs.Stored.{FiltersLoad, LoadsAs}

-- ---- it loads

-- where there is a filter, the keys that filters have are those of the list
no_filters : (k : FilterKind) (policy : BloomConstructionPolicy) (parts : List (List (List ℕ)))
    → AreFilterParts k policy [] parts → parts ≡ []
no_filters FullFilter policy parts are = are
no_filters (PartitionedFilter size) policy parts are =
    no_parts parts (some_parts (is_full_filter policy size) parts are.each) are.whole

has_keys : (k : FilterKind) (policy : BloomConstructionPolicy) (es : List Entry)
    (parts : List (List (List ℕ))) (f : BloomFilter) (fs : List BloomFilter)
    → AreFilterParts k policy (filtered_keys policy es) parts → AreFiltersFor policy parts (f ∷ fs)
    → filtered_keys policy es ≡ keys_of es
has_keys k policy es parts f fs are filters =
    elim (nat_lt 0 (tenths_of policy)) as (λ (b : Bool). AreFilterParts k policy
    (if b then keys_of es else []) parts → (if b then keys_of es else []) ≡ keys_of es) [
      | true ↦ λ _. refl
      | false ↦ λ none. absurd (subst (λ (ps : List (List (List ℕ))). AreFiltersFor policy ps
          (f ∷ fs)) (no_filters k policy parts none) filters)
    ] are

-- the one filter of all keys
record IsOne (policy : BloomConstructionPolicy) (keys : List (List ℕ)) (f : BloomFilter)
    (fs : List BloomFilter) : Type 0 where
  is : IsFilterFor policy keys f
  none : fs ≡ []

one_of : (policy : BloomConstructionPolicy) (keys : List (List ℕ)) (f : BloomFilter)
    (fs : List BloomFilter) → AreFiltersFor policy (rest_part keys) (f ∷ fs)
    → IsOne policy keys f fs
one_of policy [] f fs h = absurd h
one_of policy (k ∷ ks) f [] h = record { is = h.0; none = refl }
one_of policy (k ∷ ks) f (g ∷ fs) h = absurd h.1

module _ (v : TableVersion) (policy : BloomConstructionPolicy) (es : List Entry)
    (parts : List (List (List ℕ))) (f : BloomFilter) (fs : List BloomFilter)
    (filters : AreFiltersFor policy parts (f ∷ fs)) where
  -- a full filter is that of all keys, and loads
  pub full_is : AreFilterParts FullFilter policy (filtered_keys policy es) parts
      → IsFilterFor policy (keys_of es) f
  full_is are =
      let one = one_of policy (filtered_keys policy es) f fs
      (subst (λ (ps : List (List (List ℕ))). AreFiltersFor policy ps (f ∷ fs)) are filters) in
      subst (λ (ks : List (List ℕ)). IsFilterFor policy ks f)
      (has_keys FullFilter policy es parts f fs are filters) one.is

  pub full_filter_loads : AreFilterParts FullFilter policy (filtered_keys policy es) parts
      → (pre post body : List ℕ) (at : ℕ) → at ≡ length pre
      → AllByRecursion SectionFits (full_filter v (f ∷ fs))
      → body ≡ pre ++ (bytes_in (full_filter v (f ∷ fs)) ++ post)
      → LoadsFilter body at (length (filter_block v f)) f
  full_filter_loads are pre post body at from fits lies =
      let size = length-block v Filter (payload_of f) in
      let whole : body ≡ pre ++ filter_block v f ++ post = lies ∙ simp (append_assoc, append-nil) in
      filter_loads v f pre post body at (length (filter_block v f))
      (is_built policy (keys_of es) f (full_is are) (omega (arith, (fits.0).short, size))) from
      size whole

  -- of a partitioned filter the top level loads, and the filter of one part is asked
  module _ (size : ℕ) (are : ArePartsOf (is_full_filter policy size)
      (filtered_keys policy es) parts) (strict : IsStrict (map key_end (keys_of es))) (at : ℕ)
      (pre post body : List ℕ) (from : at ≡ length pre)
      (fits : AllByRecursion SectionFits (partitioned_filter v at parts (f ∷ fs)))
      (lies : body ≡ pre ++ (bytes_in (partitioned_filter v at parts (f ∷ fs)) ++ post)) where
    abbrev tops : List Handle
    tops = tops_from at (filter_partitions parts (f ∷ fs))

    abbrev each : List ℕ
    each = flat_map (filter_block v) (f ∷ fs)

    all_some : AreSomeParts parts
    all_some = some_parts (is_full_filter policy size) parts are.each

    keys_whole : joined_parts parts ≡ keys_of es
    keys_whole = are.whole ∙ has_keys (PartitionedFilter size) policy es parts f fs are filters

    keys_line : IsStrict (map key_end (joined_parts parts))
    keys_line = subst (λ (ks : List (List ℕ)). IsStrict (map key_end ks)) (sym keys_whole) strict

    pub filter_top_loads : AllByRecursion (KeyFits v) (keys_of es)
        → at + length (bytes_in (partitioned_filter v at parts (f ∷ fs))) < 2 ^ 64
        → LoadsHandles body (at + length each) (length (handles_block v tops)) tops
    filter_top_loads fit within =
        let whole : body ≡ (pre ++ each) ++ handles_block v tops ++ post = lies
        ∙ simp (append_assoc, append-nil) in
        let keys_fit = subst (λ (ks : List (List ℕ)). AllByRecursion (KeyFits v) ks)
        (sym keys_whole) fit in
        filter_tops_load v policy at parts (f ∷ fs) all_some filters keys_line (fits.0).short
        (pre ++ each) post body (at + length each) (length (handles_block v tops)) keys_fit
        (omega (arith, within, length-append each (handles_block v tops ++ []))) ((fits.1.0).short)
        (omega (arith, from, length-append pre each))
        (length-block v Index (handles_payload v tops)) whole

    pub each_filter_loads : AllByRecursion (λ (top : Handle). LoadsAs body (place_of top) Filter)
        tops
    each_filter_loads =
        let whole : body ≡ pre ++ (each ++ ((handles_block v tops ++ []) ++ post)) = lies
        ∙ simp append_assoc in
        let start : at + 0 ≡ at = omega arith in
        subst (λ (m : ℕ). AllByRecursion (λ (top : Handle). LoadsAs body (place_of top) Filter)
        (tops_from m (filter_partitions parts (f ∷ fs)))) start
        (filters_each v policy at parts (f ∷ fs) all_some filters keys_line (fits.0).short pre
        ((handles_block v tops ++ []) ++ post) body from whole [] (f ∷ fs) parts refl filters)

    pub filter_parts_asked : (key : List ℕ) → Asked
        (part_read_results body key (find (reaches key (2 ^ 64 - 1)) tops)) (keys_of es) key
    filter_parts_asked key =
        let whole : body ≡ pre ++ (each ++ ((handles_block v tops ++ []) ++ post)) = lies
        ∙ simp append_assoc in
        subst (λ (ks : List (List ℕ)). Asked (part_read_results body key
        (find (reaches key (2 ^ 64 - 1)) tops)) ks key) keys_whole
        (filters_asked v policy at parts (f ∷ fs) all_some filters keys_line (fits.0).short pre
        ((handles_block v tops ++ []) ++ post) body from whole key)

-- ---- what stays loaded of it, and what it answers

by_part : (body key : List ℕ) (o : Option Handle)
    → (part_admits body (hash_of key) (option_map place_of o)).returned ≡ part_read_results body key o
by_part body key None = refl
by_part body key (Some top) = refl

-- every key is admitted
all_admitted : (keys : List (List ℕ)) (key : List ℕ) → Asked (Ok true) keys key
all_admitted keys key = record { answer = true; reported_is = refl; no = λ wrong. absurd cc }

module _ (v : TableVersion) (policy : BloomConstructionPolicy) (es : List Entry) (at : ℕ)
    (pre post body : List ℕ) (from : at ≡ length pre) (strict : IsStrict (map key_end (keys_of es)))
    (fit : AllByRecursion (KeyFits v) (keys_of es)) where
  -- what stays loaded of it: its top level
  pub tops_here : (k : FilterKind) (keys : List (List (List ℕ))) (fs : List BloomFilter)
      (regions : ParsedRegions) → AreFilterParts k policy (filtered_keys policy es) keys
      → AreFiltersFor policy keys fs → AllByRecursion SectionFits (filter_sections k v at keys fs)
      → at + length (bytes_in (filter_sections k v at keys fs)) < 2 ^ 64
      → body ≡ pre ++ (bytes_in (filter_sections k v at keys fs) ++ post)
      → regions.filter_tli ≡ place_from at (filter_sections k v at keys fs) FilterTli
      → tops_result body regions.filter_tli ≡ Ok (filter_tops_said k at keys fs)
  tops_here FullFilter keys [] regions are for fits within lies place = rw place refl
  tops_here FullFilter keys (f ∷ fs) regions are for fits within lies place = rw place refl
  tops_here (PartitionedFilter size) keys [] regions are for fits within lies place = rw place refl
  tops_here (PartitionedFilter size) keys (f ∷ fs) regions are for fits within lies place =
      let tops = tops_from at (filter_partitions keys (f ∷ fs)) in
      let lie : Place = record {
        offset = at + length (flat_map (filter_block v) (f ∷ fs));
        size =
            length (handles_block v tops);
      } in
      let returned = handles_at body lie tops (filter_top_loads v policy es keys f fs for size are
      strict at pre post body from fits lies fit within) in
      rw (place, returned) refl

  -- and a full filter, where it is to
  pub filter_here : (k : FilterKind) (keys : List (List (List ℕ))) (fs : List BloomFilter)
      (regions : ParsedRegions) (pin : Bool) → AreFilterParts k policy
      (filtered_keys policy es) keys → AreFiltersFor policy keys fs
      → AllByRecursion SectionFits (filter_sections k v at keys fs)
      → body ≡ pre ++ (bytes_in (filter_sections k v at keys fs) ++ post)
      → regions.filter_tli ≡ place_from at (filter_sections k v at keys fs) FilterTli
      → regions.filter ≡ place_from at (filter_sections k v at keys fs) FilterSection
      → filter_result body (pinned_filter regions pin) ≡ Ok (filter_said k fs pin)
  filter_here FullFilter keys [] regions true are for fits lies top place = rw (top, place) refl
  filter_here FullFilter keys [] regions false are for fits lies top place = refl
  filter_here FullFilter keys (f ∷ fs) regions true are for fits lies top place =
      let l = full_filter_loads v policy es keys f fs for are pre post body at from fits lies in
      rw (top, place, l.loads, l.filter) refl
  filter_here FullFilter keys (f ∷ fs) regions false are for fits lies top place = refl
  filter_here (PartitionedFilter size) keys [] regions true are for fits lies top place =
      rw (top, place) refl
  filter_here (PartitionedFilter size) keys [] regions false are for fits lies top place = refl
  filter_here (PartitionedFilter size) keys (f ∷ fs) regions true are for fits lies top place =
      rw top refl
  filter_here (PartitionedFilter size) keys (f ∷ fs) regions false are for fits lies top place =
      refl

  -- each of its blocks loads
  pub filters_load : (k : FilterKind) (keys : List (List (List ℕ))) (fs : List BloomFilter)
      (place : Option Place) → AreFilterParts k policy (filtered_keys policy es) keys
      → AreFiltersFor policy keys fs → AllByRecursion SectionFits (filter_sections k v at keys fs)
      → body ≡ pre ++ (bytes_in (filter_sections k v at keys fs) ++ post)
      → place ≡ place_from at (filter_sections k v at keys fs) FilterSection
      → FiltersLoad body (filter_tops_said k at keys fs) place
  filters_load FullFilter keys [] place are for fits lies is =
      subst (λ (o : Option Place). FiltersLoad body None o) (sym is) tt
  filters_load FullFilter keys (f ∷ fs) place are for fits lies is =
      let l = full_filter_loads v policy es keys f fs for are pre post body at from fits lies in
      let lie : Place = record { offset = at; size = length (filter_block v f) } in
      let here : LoadsAs body lie Filter = record { block = l.block; loads = l.loads } in
      subst (λ (o : Option Place). FiltersLoad body None o) (sym is) here
  filters_load (PartitionedFilter size) keys [] place are for fits lies is =
      subst (λ (o : Option Place). FiltersLoad body None o) (sym is) tt
  filters_load (PartitionedFilter size) keys (f ∷ fs) place are for fits lies is =
      each_filter_loads v policy es keys f fs for size are strict at pre post body from fits lies

  -- it answers, and a no says that no entry has the key
  pub filter_answers : (k : FilterKind) (keys : List (List (List ℕ))) (fs : List BloomFilter)
      (place : Option Place) (pin : Bool) → AreFilterParts k policy (filtered_keys policy es) keys
      → AreFiltersFor policy keys fs → AllByRecursion SectionFits (filter_sections k v at keys fs)
      → body ≡ pre ++ (bytes_in (filter_sections k v at keys fs) ++ post)
      → place ≡ place_from at (filter_sections k v at keys fs) FilterSection → (key : List ℕ)
      → Asked (filter_admits body (filter_tops_said k at keys fs) (filter_said k fs pin) place key
      (hash_of key)).returned (keys_of es) key
  filter_answers FullFilter keys [] place true are for fits lies is key =
      rw is (all_admitted (keys_of es) key)
  filter_answers FullFilter keys [] place false are for fits lies is key =
      rw is (all_admitted (keys_of es) key)
  filter_answers FullFilter keys (f ∷ fs) place true are for fits lies is key =
      record {
        answer = admits f (hash_of key);
        reported_is = refl;
        no =
            no_key policy (keys_of es) f key (full_is v policy es keys f fs for are);
      }
  filter_answers FullFilter keys (f ∷ fs) place false are for fits lies is key =
      rw is (filter_asked policy (keys_of es) f key body at (length (filter_block v f))
      (full_is v policy es keys f fs for are) (full_filter_loads v policy es keys f fs for are
      pre post body at from fits lies))
  filter_answers (PartitionedFilter size) keys [] place pin are for fits lies is key =
      rw is (all_admitted (keys_of es) key)
  filter_answers (PartitionedFilter size) keys (f ∷ fs) place pin are for fits lies is key =
      let o = find (reaches key (2 ^ 64 - 1)) (tops_from at (filter_partitions keys (f ∷ fs))) in
      subst (λ (returned : Result Bool Error). Asked returned (keys_of es) key) (sym (by_part body key o))
      (filter_parts_asked v policy es keys f fs for size are strict at pre post body from fits
      lies key)
