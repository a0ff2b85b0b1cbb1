-- An opened table that is read without a finding stores a list, and one that stores a list is read
-- without a finding.
use Rattle.std.proofs.Common.{◌≡◌, ℕ, ◌-◌, ◌^◌, ◌≤◌, List, [], ◌∷◌, length, refl, sym, ap}
use Rattle.std.proofs.Common.{subst, ◌∙◌, inl, inr, arith}
use Rattle.std.specs.Prelude.{Option, Some, None, Result, Ok, Err, IfErr, IfOk}
use Rattle.std.specs.List.{AllByRecursion, AllZip}
use Rattle.sst_blocks.specs.Sections.{body_of, trailer_fault}
use Rattle.sst_entries.specs.declared.error.Error.{Error}
use Rattle.sst_entries.specs.Entry.{Entry}
use Rattle.sst_entries.specs.Error.{unless}
use Rattle.sst_entries.specs.Strict.{last_of}
use Rattle.sst_blocks.specs.Handle.{Handle}
use Rattle.sst_blocks.specs.table.Chunks.{joined}
use Rattle.sst_blocks.specs.table.Facts.{count_after, highest_seqno, lowest_seqno}
use Rattle.sst_blocks.specs.table.Filters.{keys_of}
use Rattle.lsm_sorted.specs.version.KeyRange.{Interval}
use Rattle.lsm_readers.specs.declared.regions.ParsedRegions.{ParsedRegions}
use Rattle.lsm_readers.specs.declared.verify.Finding.{Finding}
use Rattle.lsm_readers.specs.declared.verify.Verified.{Verified}
use Rattle.lsm_readers.specs.declared.verify.VerifyError.{VerifyError}
use Rattle.lsm_readers.specs.declared.verify.VerifyError.TheVariants.{Found, OutOfMemory}
use Rattle.lsm_readers.specs.Findings.{IsFirstFinding, Reads, ReadsBlocks, StartsAt, at_end}
use Rattle.lsm_readers.specs.Findings.{in_filter}
use Rattle.lsm_readers.specs.point.Meta.{Facts, meta_result}
use Rattle.lsm_readers.specs.OfList.{ends_of}
use Rattle.lsm_readers.specs.point.Parts.{Parts, places_result, tops_result}
use Rattle.lsm_readers.specs.Stored.{Admits, AreLaid, Matches, FilterHas, FiltersLoad}
use Rattle.lsm_readers.specs.Stored.{IndexHas, NamesChunk, StoresList}
use Rattle.lsm_readers.specs.point.Table.{IsOpen, OpenTable}
use Rattle.lsm_readers.specs.Verify.{◌>>=◌, Finds, Unread, all_found, filters_found, index_found}
use Rattle.lsm_readers.specs.Verify.{end_found, range_found, table_found, unread_of, verified_of}
use Rattle.lsm_readers.proofs.Recovered.{PinnedSteps, Steps, ok_same, pinned_steps, recovered_steps}
use Rattle.lsm_readers.proofs.VerifyBlocks.{IsPart, index_err, index_go, index_ok}
use Rattle.lsm_readers.proofs.VerifyEnd.{NothingLeft, counts_go, counts_ok, filters_go, filters_ok}
use Rattle.lsm_readers.proofs.VerifyEnd.{lowest_within, range_go, range_ok}
use Rattle.lsm_readers.proofs.VerifySteps.{then_err, then_goes, then_ok, reported_is}

no_fault : {A : Type 0} (fault : Option Error) (returned : Result A Error) (x : A)
    → unless fault returned ≡ Ok x → fault ≡ None
no_fault None returned x is = refl
no_fault (Some e) returned x is = absurd cc

unread_fits : (body : List ℕ) (parts : Parts) → IsPart body parts (unread_of parts.facts)
unread_fits body parts = record { lowest = omega arith; size = omega arith }

-- what is found first
first : (body : List ℕ) (parts : Parts) (f : Finding) → table_found body parts ≡ Err f
    → IsFirstFinding body parts f
unfolding table_found all_found
first body parts f returned =
    let start = unread_of parts.facts in
    let fits = unread_fits body parts in
    elim (then_err (filters_found body parts)
    (λ _. all_found body parts >>= λ _. Ok (verified_of parts.facts)) f returned) [
      | inl here ↦ in_filter here
      | inr more ↦ elim (then_err (all_found body parts) (λ _. Ok (verified_of parts.facts)) f
          more.2) [
            | inl all ↦ elim (then_err (index_found body parts start) (end_found body parts) f
                all) [
                  | inl index ↦ index_err body parts f more.1 fits index
                  | inr end ↦ (let read = index_ok body parts start end.0 fits end.1 in
                      at_end more.1 read.handles end.0 read.index read.reads end.2)
                ]
            | inr well ↦ absurd (let never : Ok (verified_of parts.facts) ≡ Err f = well.2 in cc)
          ]
    ]

-- what the parts of an open table are told by
module _ (t : OpenTable) (open_table : IsOpen t) where
  abbrev body : List ℕ
  body = body_of t.bytes

  abbrev parts : Parts
  parts = t.parts

  the_steps : Steps t.bytes t.global_seqno (open_table.recovered).pin_filter
      (open_table.recovered).pin_index parts
  the_steps = recovered_steps t open_table.recovered

  pins : PinnedSteps body parts.regions (open_table.recovered).pin_filter
      (open_table.recovered).pin_index parts.pinned
  pins = pinned_steps body parts.regions (open_table.recovered).pin_filter
      (open_table.recovered).pin_index parts.pinned the_steps.pinned

  -- ---- what is verified stores a list

  pub sound : (v : Verified) → table_found body parts ≡ Ok v → (es : List Entry)
      × (s : StoresList t.bytes es) × (v.item_count ≡ length es)
      × (v.data_block_count ≡ length s.handles)
  unfolding table_found all_found end_found
  sound v h =
      let f = then_ok _ _ v h in
      let e = then_ok _ _ v f.2 in
      let i = then_ok _ _ e.0 e.1 in
      let same = reported_is (verified_of parts.facts) v e.2 in
      let n = then_ok _ _ e.0 i.2 in
      let read = index_ok body parts (unread_of parts.facts) i.0 (unread_fits body parts) i.1 in
      let blocks = read.reads in
      let r = blocks.reads in
      let s = r.spends in
      let none = counts_ok parts i.0.counts n.0 n.1 in
      let es = joined blocks.chunks in
      let ends = range_ok body parts es e.0 r.first
      (ap (range_found body parts) (sym r.last) ∙ n.2) in
      let low = lowest_within es in
      let count : parts.facts.data_block_count ≡ length read.handles =
      omega (arith, blocks.blocks, none.blocks) in
      let items : parts.facts.item_count ≡ length es = omega (arith, s.items, none.items) in (
        es,
        record {
          trailer = no_fault (trailer_fault t.bytes) _ parts (open_table.recovered).returned;
          regions = parts.regions;
          places = the_steps.regions;
          facts = parts.facts;
          meta = the_steps.facts;
          blocks = blocks.chunks;
          handles = read.handles;
          whole = refl;
          named = blocks.named;
          laid = subst (λ (at : ℕ). AreLaid at read.handles) (omega arith) blocks.laid;
          index = read.index;
          filter = record {
            tops = parts.pinned.filter_tops;
            returned = pins.filter_tops;
            loads = filters_ok body parts.pinned.filter_tops parts.regions.filter f.0 f.1;
            admits = r.admits;
          };
          strict = r.strict;
          numbers = r.numbers;
          borne = record {
            data_block_count = count;
            key_range = ends.0;
            seqno_min = omega (arith, none.lowest, s.lowest, low);
            seqno_max = omega (arith, none.highest, s.highest);
            file_size = omega (arith, blocks.sizes, none.size);
            item_count = items;
            tombstone_count = omega (arith, s.tombstones, none.tombstones);
            weak_tombstone_count = omega (arith, s.weak, none.weak);
            weak_tombstone_reclaimable = omega (arith, s.reclaimable, none.reclaimable);
          };
          none = ends.1;
        },
        ap (λ (w : Verified). w.item_count) (sym same) ∙ items,
        ap (λ (w : Verified). w.data_block_count) (sym same) ∙ count,
      )

  -- ---- what stores a list is verified

  module _ (es : List Entry) (s : StoresList t.bytes es) where
    regions_are : s.regions ≡ parts.regions
    regions_are = ok_same (places_result t.bytes) s.regions parts.regions s.places the_steps.regions

    facts_are : s.facts ≡ parts.facts
    facts_are = ok_same (meta_result body parts.regions.metadata) s.facts parts.facts
        (subst (λ (r : ParsedRegions). meta_result body r.metadata ≡ Ok s.facts) regions_are s.meta)
        the_steps.facts

    borne : Matches parts.facts es s.handles
    borne = subst (λ (f : Facts). Matches f es s.handles) facts_are s.borne

    index : IndexHas body parts.regions.index parts.regions.tli s.handles
    index = subst (λ (r : ParsedRegions). IndexHas body r.index r.tli s.handles) regions_are
        s.index

    filter : FilterHas body parts.regions.filter_tli parts.regions.filter (keys_of es)
    filter = subst (λ (r : ParsedRegions). FilterHas body r.filter_tli r.filter (keys_of es))
        regions_are s.filter

    tops_are : filter.tops ≡ parts.pinned.filter_tops
    tops_are = ok_same (tops_result body parts.regions.filter_tli) filter.tops
        parts.pinned.filter_tops filter.returned pins.filter_tops

    -- nothing is left behind the list
    abbrev ended : Unread
    ended = record {
      last = last_of None es;
      counts = record {
        blocks = 0;
        size = 0;
        items = 0;
        tombstones = 0;
        weak = 0;
        reclaimable = 0;
        lowest = lowest_seqno es;
        highest = highest_seqno es;
      };
    }

    starts : (xs : List Entry) → parts.facts.key_range ≡ ends_of xs → StartsAt parts None xs
    starts [] is = tt
    starts (x ∷ xs) is = ap (λ (r : Interval). r.min) is

    reads_all : Reads body parts (unread_of parts.facts) es ended
    reads_all = record {
      strict = s.strict;
      numbers = s.numbers;
      admits = subst (λ (tops : Option (List Handle)).
          AllByRecursion (Admits body tops parts.regions.filter) (keys_of es)) tops_are
          filter.admits;
      first = starts es borne.key_range;
      last = refl;
      spends = record {
        items = omega (arith, borne.item_count);
        tombstones = omega (arith, borne.tombstone_count);
        weak = omega (arith, borne.weak_tombstone_count);
        reclaimable = omega (arith, borne.weak_tombstone_reclaimable);
        lowest = omega (arith, lowest_within es);
        highest = omega arith;
      };
    }

    reads_blocks : ReadsBlocks body parts (unread_of parts.facts) s.handles ended
    reads_blocks = record {
      chunks = s.blocks;
      named = s.named;
      laid = subst (λ (at : ℕ). AreLaid at s.handles) (omega arith) s.laid;
      reads = subst (λ (xs : List Entry). Reads body parts (unread_of parts.facts) xs ended)
          (sym s.whole) reads_all;
      blocks = omega (arith, borne.data_block_count);
      sizes = omega (arith, borne.file_size);
    }

    -- where nothing more is read, what is left is what was
    nothing_more : (left : Unread) (cs : List (List Entry)) → left.counts.lowest ≤ 2 ^ 64 - 1
        → AllZip (NamesChunk body) [] cs → Reads body parts left (joined cs) ended
        → left.counts.blocks ≡ 0 → left.counts.size ≡ 0
        → NothingLeft parts left.counts × (left.last ≡ last_of None es)
    unfolding last_of count_after lowest_seqno highest_seqno
    nothing_more left [] low named r blocks size =
        let p = r.spends in (
          record {
            blocks = blocks;
            size = size;
            items = omega (arith, p.items);
            tombstones = omega (arith, p.tombstones);
            weak = omega (arith, p.weak);
            reclaimable = omega (arith, p.reclaimable);
            lowest = borne.seqno_min ∙ omega (arith, p.lowest, low);
            highest = borne.seqno_max ∙ omega (arith, p.highest);
          },
          sym r.last,
        )
    nothing_more left (c ∷ cs) low named r blocks size = absurd named

    pub complete : table_found body parts ≡ Ok (verified_of parts.facts)
    unfolding table_found all_found end_found
    complete =
        let i = index_go body parts (unread_of parts.facts) s.handles ended
        (unread_fits body parts) index reads_blocks in
        let left = i.3 in
        let n = nothing_more i.0 left.chunks (i.2).lowest left.named left.reads
        (omega (arith, left.blocks)) (omega (arith, left.sizes)) in
        then_goes _ _ tt _
        (filters_go body parts.pinned.filter_tops parts.regions.filter
        (subst (λ (tops : Option (List Handle)). FiltersLoad body tops parts.regions.filter)
        tops_are filter.loads))
        (then_goes _ _ tt _ (then_goes _ _ i.0 _ i.1
        (then_goes _ _ tt tt (counts_go parts (i.0).counts n.0)
        (ap (range_found body parts) n.1 ∙ range_go body parts es borne.key_range s.none))) refl)

-- ---- a call that tells what is found

pub all_valid : (t : OpenTable) → IsOpen t → (r : Result Verified VerifyError)
    → Finds (λ (v : Verified). v) r (table_found (body_of t.bytes) t.parts)
    → IfOk r (λ v. (es : List Entry) × (s : StoresList t.bytes es) × (v.item_count ≡ length es)
    × (v.data_block_count ≡ length s.handles))
all_valid t open_table (Ok v) returned = sound t open_table v returned
all_valid t open_table (Err e) returned = tt

pub all_complete : (t : OpenTable) → IsOpen t → (r : Result Verified VerifyError)
    → Finds (λ (v : Verified). v) r (table_found (body_of t.bytes) t.parts) → (es : List Entry)
    → StoresList t.bytes es → IfErr r (λ e. e ≡ OutOfMemory)
all_complete t open_table (Ok v) returned es s = tt
all_complete t open_table (Err OutOfMemory) returned es s = refl
all_complete t open_table (Err (Found f)) returned es s =
    let is = complete t open_table es s in
    let no : Ok (verified_of t.parts.facts) ≡ Err f = sym is ∙ returned f refl in
    absurd cc

pub all_first : (t : OpenTable) (r : Result Verified VerifyError)
    → Finds (λ (v : Verified). v) r (table_found (body_of t.bytes) t.parts)
    → IfErr r (λ e. (f : Finding) → e ≡ Found f → IsFirstFinding (body_of t.bytes) t.parts f)
all_first t (Ok v) returned = tt
all_first t (Err e) returned = λ f is. first (body_of t.bytes) t.parts f (returned f is)
