-- The filter's blocks, and the end of a table that was read without a finding.
use Rattle.std.proofs.Common.{◌≡◌, ℕ, ◌-◌, ◌^◌, ◌≤◌, List, [], ◌∷◌, length, refl, sym, ap}
use Rattle.std.proofs.Common.{◌∙◌, arith}
use Rattle.std.specs.Prelude.{Option, Some, None, unwrap_or, Result, Ok, Err}
use Rattle.std.specs.Option.{option_map}
use Rattle.std.specs.List.{AllByRecursion}
use Rattle.sst_blocks.specs.declared.section.SectionName.TheVariants.{Filter as FilterSection}
use Rattle.sst_entries.specs.declared.error.Error.{Error}
use Rattle.sst_entries.specs.Entry.{Entry}
use Rattle.sst_entries.specs.Strict.{last_of}
use Rattle.sst_blocks.specs.declared.block_type.BlockType.TheVariants.{Data, Filter}
use Rattle.sst_blocks.specs.Block.{Loaded, load_at_result, load_result}
use Rattle.sst_blocks.specs.Handle.{Handle}
use Rattle.sst_blocks.specs.Place.{Place, place_of}
use Rattle.sst_blocks.specs.table.Facts.{lowest_seqno}
use Rattle.sst_blocks.specs.table.Index.{last_entry}
use Rattle.lsm_sorted.specs.version.KeyRange.{Interval, interval}
use Rattle.lsm_readers.specs.declared.verify.Counts.{Counts}
use Rattle.lsm_readers.specs.OfList.{ends_of}
use Rattle.lsm_readers.specs.point.Parts.{Parts}
use Rattle.lsm_readers.specs.Stored.{FiltersLoad, HasNoBlock, LoadsAs}
use Rattle.lsm_readers.specs.Verify.{counts_found, filter_found, filters_by}
use Rattle.lsm_readers.specs.Verify.{located, passed, range_found, tops_found}
use Rattle.lsm_readers.specs.Verify.{unnamed_by, unnamed_found}
use Rattle.lsm_readers.proofs.FileLengths.{last_some}
use Rattle.lsm_readers.specs.Findings.{StartsAt}
use Rattle.lsm_readers.proofs.VerifySteps.{key_same_goes, key_same_ok, same_found_goes}
use Rattle.lsm_readers.proofs.VerifySteps.{same_found_ok, then_goes, then_ok}

-- ---- the filter

module _ (body : List ℕ) where
  filter_ok : (place : Place) (u : Unit {0}) → filter_found body place ≡ Ok u
      → LoadsAs body place Filter
  filter_ok place u h = go (load_result body place.offset place.size Filter) refl h
    where
      go : (r : Result Loaded Error) → load_result body place.offset place.size Filter ≡ r
          → passed (located FilterSection place.offset r) ≡ Ok u → LoadsAs body place Filter
      go (Ok b) is h = record { block = b; loads = is }
      go (Err e) is h = absurd cc

  filter_goes : (place : Place) → LoadsAs body place Filter → filter_found body place ≡ Ok tt
  filter_goes place l =
      ap (λ (r : Result Loaded Error). passed (located FilterSection place.offset r)) l.loads

  tops_ok : (tops : List Handle) (u : Unit {0}) → tops_found body tops ≡ Ok u
      → AllByRecursion (λ (top : Handle). LoadsAs body (place_of top) Filter) tops
  unfolding tops_found
  tops_ok [] u h = tt
  tops_ok (top ∷ tops) u h =
      let one = then_ok _ _ u h in
      (filter_ok (place_of top) one.0 one.1, tops_ok tops u one.2)

  tops_go : (tops : List Handle)
      → AllByRecursion (λ (top : Handle). LoadsAs body (place_of top) Filter) tops
      → tops_found body tops ≡ Ok tt
  unfolding tops_found
  tops_go [] all = refl
  tops_go (top ∷ tops) all =
      then_goes _ _ tt tt (filter_goes (place_of top) all.0) (tops_go tops all.1)

  pub filters_ok : (tops : Option (List Handle)) (place : Option Place) (u : Unit {0})
      → filters_by body tops place ≡ Ok u → FiltersLoad body tops place
  filters_ok (Some tops) place u h = tops_ok tops u h
  filters_ok None (Some place) u h = filter_ok place u h
  filters_ok None None u h = tt

  pub filters_go : (tops : Option (List Handle)) (place : Option Place)
      → FiltersLoad body tops place → filters_by body tops place ≡ Ok tt
  filters_go (Some tops) place all = tops_go tops all
  filters_go None (Some place) l = filter_goes place l
  filters_go None None all = refl

-- ---- the counts

-- nothing is left of the counts
pub record NothingLeft (parts : Parts) (counts : Counts) : Type 0 where
  pub blocks : counts.blocks ≡ 0
  pub size : counts.size ≡ 0
  pub items : counts.items ≡ 0
  pub tombstones : counts.tombstones ≡ 0
  pub weak : counts.weak ≡ 0
  pub reclaimable : counts.reclaimable ≡ 0
  pub lowest : parts.facts.seqno_min ≡ counts.lowest
  pub highest : parts.facts.seqno_max ≡ counts.highest

module _ (parts : Parts) (counts : Counts) where
  pub counts_ok : (u : Unit {0}) → counts_found parts counts ≡ Ok u → NothingLeft parts counts
  unfolding counts_found
  counts_ok u h =
      let meta = parts.regions.metadata.offset in
      let b = then_ok _ _ u h in
      let s = then_ok _ _ u b.2 in
      let i = then_ok _ _ u s.2 in
      let t = then_ok _ _ u i.2 in
      let w = then_ok _ _ u t.2 in
      let r = then_ok _ _ u w.2 in
      let l = then_ok _ _ u r.2 in
      record {
        blocks = same_found_ok meta _ counts.blocks 0 b.0 b.1;
        size = same_found_ok meta _ counts.size 0 s.0 s.1;
        items = same_found_ok meta _ counts.items 0 i.0 i.1;
        tombstones = same_found_ok meta _ counts.tombstones 0 t.0 t.1;
        weak = same_found_ok meta _ counts.weak 0 w.0 w.1;
        reclaimable = same_found_ok meta _ counts.reclaimable 0 r.0 r.1;
        lowest = same_found_ok meta _ parts.facts.seqno_min counts.lowest l.0 l.1;
        highest = same_found_ok meta _ parts.facts.seqno_max counts.highest u l.2;
      }

  pub counts_go : NothingLeft parts counts → counts_found parts counts ≡ Ok tt
  unfolding counts_found
  counts_go n =
      let meta = parts.regions.metadata.offset in
      then_goes _ _ tt tt (same_found_goes meta _ counts.blocks 0 n.blocks)
      (then_goes _ _ tt tt (same_found_goes meta _ counts.size 0 n.size)
      (then_goes _ _ tt tt (same_found_goes meta _ counts.items 0 n.items)
      (then_goes _ _ tt tt (same_found_goes meta _ counts.tombstones 0 n.tombstones)
      (then_goes _ _ tt tt (same_found_goes meta _ counts.weak 0 n.weak)
      (then_goes _ _ tt tt (same_found_goes meta _ counts.reclaimable 0 n.reclaimable)
      (then_goes _ _ tt tt (same_found_goes meta _ parts.facts.seqno_min counts.lowest n.lowest)
      (same_found_goes meta _ parts.facts.seqno_max counts.highest n.highest)))))))

pub lowest_within : (es : List Entry) → lowest_seqno es ≤ 2 ^ 64 - 1
unfolding lowest_seqno
lowest_within [] = omega arith
lowest_within (e ∷ es) = omega (arith, lowest_within es)

-- ---- the ends of the list

same_ends : (r : Interval) (min max : List ℕ) → r.min ≡ min → r.max ≡ max → r ≡ interval min max
same_ends r min max low high =
    ap (λ (k : List ℕ). interval k r.max) low ∙ ap (λ (k : List ℕ). interval min k) high

module _ (body : List ℕ) (parts : Parts) where
  abbrev meta : ℕ
  meta = parts.regions.metadata.offset

  abbrev range : Interval
  range = parts.facts.key_range

  -- the key of what may be an entry, or none
  abbrev key_in : Option Entry → List ℕ
  key_in o = unwrap_or (option_map (λ (e : Entry). e.user_key) o) []

  no_block : (u : Unit {0}) → unnamed_found body ≡ Ok u → HasNoBlock body
  no_block u h = go (load_at_result body 0 Data) refl h
    where
      go : (r : Result Loaded Error) → load_at_result body 0 Data ≡ r → unnamed_by r ≡ Ok u
          → HasNoBlock body
      go (Ok b) is h = absurd cc
      go (Err e) is h = record { fault = e; refused = is }

  pub range_ok : (es : List Entry) (u : Unit {0}) → StartsAt parts None es
      → range_found body parts (last_of None es) ≡ Ok u
      → (range ≡ ends_of es) × (length es ≡ 0 → HasNoBlock body)
  unfolding last_of
  range_ok [] u first h =
      let low = then_ok _ _ u h in
      let high = then_ok _ _ u low.2 in (
        same_ends range [] [] (key_same_ok meta _ range.min [] low.0 low.1)
            (key_same_ok meta _ range.max [] high.0 high.1),
        λ none. no_block u high.2,
      )
  range_ok (e ∷ es) u first h =
      let last = last_some e es in
      let high = key_same_ok meta _ range.max (last_entry (e ∷ es)).user_key u
      (ap (range_found body parts) (sym last) ∙ h) in (
        same_ends range e.user_key (key_in (last_of (Some e) es)) first
            (high ∙ sym (ap key_in last)),
        λ none. absurd (omega arith),
      )

  pub range_go : (es : List Entry) → range ≡ ends_of es → (length es ≡ 0 → HasNoBlock body)
      → range_found body parts (last_of None es) ≡ Ok tt
  unfolding last_of
  range_go [] is none =
      then_goes _ _ tt tt (key_same_goes meta _ range.min [] (ap (λ (r : Interval). r.min) is))
      (then_goes _ _ tt tt (key_same_goes meta _ range.max [] (ap (λ (r : Interval). r.max) is))
      (ap (λ (r : Result Loaded Error). unnamed_by r) (none refl).refused))
  range_go (e ∷ es) is none =
      let last = last_some e es in
      ap (range_found body parts) last
      ∙ key_same_goes meta _ range.max (last_entry (e ∷ es)).user_key
      (ap (λ (r : Interval). r.max) is ∙ ap key_in last)
