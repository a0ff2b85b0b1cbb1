-- What bytes that store a list are recovered to, and what their reads answer.
use Rattle.std.proofs.Common.{◌≡◌, ℕ, ◌+◌, ◌-◌, ◌^◌, ◌<◌, Bool, true, false, cond, ltb, List}
use Rattle.std.proofs.Common.{length, refl, sym, ap, subst, ◌∙◌}
use Rattle.std.specs.Prelude.{Option, None, is_none, ◌&&◌, Result, Ok, Err, IfOk}
use Rattle.std.specs.List.{AllByRecursion}
use Rattle.std.specs.declared.ops.Bound.{Bound}
use Rattle.std.proofs.lemmas.List.{length-map}
use Rattle.sst_blocks.specs.filter.KeyHash.{hash_of}
use Rattle.sst_blocks.specs.Sections.{body_of, trailer_fault}
use Rattle.sst_entries.specs.declared.error.Error.{Error}
use Rattle.sst_entries.specs.declared.error.Error.TheVariants.{GlobalSeqNoTooLarge, OutOfMemory}
use Rattle.sst_entries.specs.Entry.{Entry}
use Rattle.sst_entries.specs.Error.{Faults, Gives}
use Rattle.sst_entries.specs.Point.{point, within}
use Rattle.sst_entries.specs.Stream.{YieldsExactly, answer_stops, nowhere, ok_results}
use Rattle.sst_entries.specs.Strict.{IsStrict}
use Rattle.sst_blocks.specs.declared.block_type.BlockType.TheVariants.{Data}
use Rattle.sst_blocks.specs.Block.{load_at_result}
use Rattle.sst_blocks.specs.Handle.{Handle}
use Rattle.sst_blocks.specs.Handles.{window}
use Rattle.sst_blocks.specs.table.Chunks.{joined}
use Rattle.sst_blocks.specs.table.Facts.{highest_seqno, lowest_seqno}
use Rattle.sst_blocks.specs.table.Filters.{keys_of}
use Rattle.lsm_iters.specs.Bounds.{lower_edge, upper_edge}
use Rattle.lsm_iters.specs.Lift.{lift}
use Rattle.lsm_iters.specs.Rows.{Bounded, rows}
use Rattle.lsm_readers.specs.declared.regions.ParsedRegions.{ParsedRegions}
use Rattle.lsm_readers.specs.point.Answer.{answer, filter_admits}
use Rattle.lsm_readers.specs.point.IndexKinds.{index_over}
use Rattle.lsm_readers.specs.point.Meta.{Facts, meta_result}
use Rattle.lsm_readers.specs.point.Parts.{Parts, Pinned, facts_fitting, parts_result, pinned_result}
use Rattle.lsm_readers.specs.point.Parts.{places_result, recovered_result}
use Rattle.lsm_readers.specs.Scan.{LendsList, Scan, ScansLent, ScansList, ScansNext, fault_of}
use Rattle.lsm_readers.specs.Scan.{scan_results}
use Rattle.lsm_readers.specs.Stored.{Matches, FilterHas, IndexHas, StoresList, fits_result}
use Rattle.lsm_readers.proofs.FileFilters.{Asked}
use Rattle.lsm_readers.proofs.Recovered.{PinnedSteps, Steps, ok_same, pinned_steps, steps}
use Rattle.lsm_readers.proofs.StoredChunks.{handles_strict}
use Rattle.lsm_readers.proofs.StoredFilters.{filter_asked, filter_opens}
use Rattle.lsm_readers.proofs.StoredIndex.{ReportsHandles, index_opens, index_reports}
use Rattle.lsm_readers.proofs.StoredPoints.{reads_first}
use Rattle.lsm_readers.proofs.StoredRanges.{LeavesRoom, window_rows}
use Rattle.lsm_readers.proofs.Steps.{same_fault}
use Rattle.lsm_readers.proofs.StoredScans.{Scans, chunks_scan, lends_list, scan_opens}

-- something, or the refusal of a number that is too large
abbrev unless_large : {A : Type 0} → Bool → A → Result A Error
unless_large large x = cond large (Err GlobalSeqNoTooLarge) (Ok x)

abbrev nothing : {X : Type 0} → X → Unit {0}
nothing x = tt

-- a call that gives parts, or refuses such a number
by_number : {X : Type 0} (view : X → Parts) (r : Result X Error) (large : Bool) (parts : Parts)
    → Gives view r (unless_large large parts) → Gives (nothing {X = X}) r (unless_large large tt)
by_number view (Ok x) true parts gives = absurd cc
by_number view (Ok x) false parts gives = refl
by_number view (Err e) true parts gives =
    λ memory. same_fault GlobalSeqNoTooLarge e (gives memory)
by_number view (Err e) false parts gives =
    λ memory. absurd (let no : Ok parts ≡ Err e = gives memory in cc)

-- opening tells the parts that its steps tell
recovers_by : (bytes : List ℕ) (g : ℕ) (pin_filter pin_index : Bool) (regions : ParsedRegions)
    (facts : Facts) (pinned : Pinned) (large : Bool) → trailer_fault bytes ≡ None
    → places_result bytes ≡ Ok regions → meta_result (body_of bytes) regions.metadata ≡ Ok facts
    → facts_fitting facts g ≡ unless_large large facts
    → pinned_result (body_of bytes) regions pin_filter pin_index ≡ Ok pinned
    → recovered_result bytes g pin_filter pin_index
    ≡ unless_large large (record { facts = facts; regions = regions; pinned = pinned })
unfolding parts_result
recovers_by bytes g pin_filter pin_index regions facts pinned true trailer places meta fits pins =
    rw (trailer, places, meta, fits) refl
recovers_by bytes g pin_filter pin_index regions facts pinned false trailer places meta fits pins =
    rw (trailer, places, meta, fits, pins) refl

module _ (bytes : List ℕ) (es : List Entry) (t : StoresList bytes es) where
  abbrev body : List ℕ
  body = body_of bytes

  -- ---- opening

  pinned_goes : (pin_filter pin_index : Bool) → (pinned : Pinned)
      × (pinned_result body t.regions pin_filter pin_index ≡ Ok pinned)
  unfolding pinned_result
  pinned_goes pin_filter pin_index =
      let index = index_opens body t.regions pin_index t.handles t.index in
      let filter = filter_opens body t.regions.filter_tli t.regions.filter (keys_of es) pin_filter
      t.filter in (
        record { index = index.0; filter_tops = (t.filter).tops; filter = filter.0 },
        rw (index.1, (t.filter).returned, filter.1) refl,
      )

  abbrev parts_for : Bool → Bool → Parts
  parts_for pin_filter pin_index = record {
    facts = t.facts;
    regions = t.regions;
    pinned = (pinned_goes pin_filter pin_index).0;
  }

  -- the highest number of the list passes u64 once it is lifted
  abbrev is_large : ℕ → Bool
  is_large g = ltb (2 ^ 64 - 1) (highest_seqno es + g)

  -- the bytes are recovered where it does not, and refused else
  recovers : (g : ℕ) (pin_filter pin_index : Bool) → recovered_result bytes g pin_filter pin_index
      ≡ unless_large (is_large g) (parts_for pin_filter pin_index)
  recovers g pin_filter pin_index =
      let fits : facts_fitting t.facts g ≡ unless_large (is_large g) t.facts =
      ap (λ (n : ℕ). unless_large (ltb (2 ^ 64 - 1) (n + g)) t.facts) ((t.borne).seqno_max) in
      recovers_by bytes g pin_filter pin_index t.regions t.facts
      (pinned_goes pin_filter pin_index).0 (is_large g) t.trailer t.places t.meta fits
      (pinned_goes pin_filter pin_index).1

  -- so a call that opens them refuses just that, memory aside
  pub opens_by : {X : Type 0} (view : X → Parts) (r : Result X Error) (g : ℕ)
      (pin_filter pin_index : Bool) → Gives view r (recovered_result bytes g pin_filter pin_index)
      → Gives (nothing {X = X}) r (fits_result es g)
  opens_by view r g pin_filter pin_index gives =
      by_number view r (is_large g) (parts_for pin_filter pin_index)
      (subst (λ (returned : Result Parts Error). Gives view r returned) (recovers g pin_filter pin_index)
      gives)

  pub stored_fits : (g : ℕ) (pin_filter pin_index : Bool) (parts : Parts)
      → recovered_result bytes g pin_filter pin_index ≡ Ok parts → fits_result es g ≡ Ok tt
  stored_fits g pin_filter pin_index parts returned =
      opens_by (λ (p : Parts). p) (Ok parts) g pin_filter pin_index returned

  -- ---- what was recovered

  module _ (g : ℕ) (pin_filter pin_index : Bool) (parts : Parts)
      (returned : recovered_result bytes g pin_filter pin_index ≡ Ok parts) where
    the_steps : Steps bytes g pin_filter pin_index parts
    the_steps = steps bytes g pin_filter pin_index parts returned

    pins : PinnedSteps body parts.regions pin_filter pin_index parts.pinned
    pins = pinned_steps body parts.regions pin_filter pin_index parts.pinned (the_steps.pinned)

    regions_are : t.regions ≡ parts.regions
    regions_are = ok_same (places_result bytes) t.regions parts.regions t.places (the_steps.regions)

    facts_are : t.facts ≡ parts.facts
    facts_are = ok_same (meta_result body parts.regions.metadata) t.facts parts.facts
        (subst (λ (r : ParsedRegions). meta_result body r.metadata ≡ Ok t.facts) regions_are t.meta)
        (the_steps.facts)

    -- the table says of itself what the list says
    pub bears_out : Matches parts.facts es t.handles
    bears_out = subst (λ (f : Facts). Matches f es t.handles) facts_are t.borne

    fits : highest_seqno es + g < 2 ^ 64
    fits = subst (λ (n : ℕ). n + g < 2 ^ 64) (bears_out.seqno_max) (the_steps.fits)

    -- what holds of the list holds of its chunks
    of_chunks : (P : List Entry → Type 0) → P es → P (joined t.blocks)
    of_chunks P h = subst P (sym t.whole) h

    line : IsStrict (joined t.blocks)
    line = of_chunks IsStrict t.strict

    chunks_fit : highest_seqno (joined t.blocks) + g < 2 ^ 64
    chunks_fit = of_chunks (λ (xs : List Entry). highest_seqno xs + g < 2 ^ 64) fits

    index : ReportsHandles body parts.regions.tli t.handles parts.pinned.index
    index = index_reports body parts.regions pin_index parts.pinned.index t.handles
        (handles_strict body t.handles t.blocks t.named line)
        (subst (λ (r : ParsedRegions). IndexHas body r.index r.tli t.handles) regions_are t.index)
        (pins.index)

    filter_has : FilterHas body parts.regions.filter_tli parts.regions.filter
        (keys_of (joined t.blocks))
    filter_has = of_chunks (λ (xs : List Entry). FilterHas body parts.regions.filter_tli
        parts.regions.filter (keys_of xs)) (subst (λ (r : ParsedRegions). FilterHas body
        r.filter_tli r.filter (keys_of es)) regions_are t.filter)

    asks : (key : List ℕ) → Asked (filter_admits body parts.pinned.filter_tops
        parts.pinned.filter parts.regions.filter key (hash_of key)).returned
        (keys_of (joined t.blocks)) key
    asks key = filter_asked body parts.regions.filter_tli parts.regions.filter
        (keys_of (joined t.blocks)) filter_has parts.pinned.filter_tops parts.pinned.filter
        (pin_filter && is_none parts.regions.filter_tli) (pins.filter_tops) (pins.filter) key

    -- a point read answers the first match in the list
    pub stored_answers : (key : List ℕ) (bound : ℕ)
        → (answer body g parts key bound).returned ≡ Ok (point (lift es g) key bound)
    stored_answers key bound =
        subst (λ (xs : List Entry). (answer body g parts key bound).returned
        ≡ Ok (point (lift xs g) key bound)) t.whole
        (reads_first body g parts t.handles t.blocks t.named line index asks
        (bears_out.seqno_min ∙ ap lowest_seqno (sym t.whole)) key bound)

    -- a scan gives the list
    scans : 0 < length es → Scans body parts.facts.data_block_count g (ok_results (lift es g))
    scans some =
        let chunks = chunks_scan body g t.handles t.blocks t.named t.laid
        (of_chunks (λ (xs : List Entry). 0 < length xs) some) chunks_fit in
        subst (λ (n : ℕ). Scans body n g (ok_results (lift es g)))
        (sym (bears_out.data_block_count))
        (subst (λ (xs : List Entry). Scans body (length t.handles) g (ok_results (lift xs g)))
        t.whole chunks)

    pub stored_scan : 0 < length es
        → scan_results body parts.facts.data_block_count g ≡ ok_results (lift es g)
    stored_scan some = (scans some).all

    pub stored_scans : (r : Result Scan Error) → ((stops : Error → Bool)
        → stops OutOfMemory ≡ true → IfOk r (λ s. YieldsExactly (answer_stops stops) ScansNext nowhere s
        (scan_results body parts.facts.data_block_count g)))
        → Faults r (fault_of (load_at_result body 0 Data)) → ScansList r es g
    stored_scans r yields faults = scan_opens r body parts.facts.data_block_count g es t.none scans
        yields faults

    pub stored_lends : (r : Result Scan Error) → ((stops : Error → Bool)
        → stops OutOfMemory ≡ true → IfOk r (λ s. YieldsExactly (answer_stops stops) ScansLent nowhere s
        (scan_results body parts.facts.data_block_count g)))
        → Faults r (fault_of (load_at_result body 0 Data)) → LendsList r es g
    stored_lends r lends faults = lends_list r body parts.facts.data_block_count g es t.none scans
        lends faults

    -- the index has the windows of the handles
    pub stored_index : (lo : Option (List ℕ × ℕ)) (hi : Option (List ℕ))
        → (index_over body parts.pinned.index parts.regions.tli).returned lo hi
        ≡ ok_results (window t.handles lo hi)
    stored_index lo hi = index.windows lo hi

    pub stored_blocks : (lo : Option (List ℕ × ℕ)) (hi : Option (List ℕ))
        → length ((index_over body parts.pinned.index parts.regions.tli).returned lo hi)
        ≡ length (window t.handles lo hi)
    stored_blocks lo hi = ap length (stored_index lo hi)
        ∙ length-map (window t.handles lo hi) (λ (h : Handle). Ok h)

    -- the entries within bounds are those of the list
    pub stored_rows : (low high : Bound (List ℕ)) → rows
        (record { body = body; global_seqno = g; low = low; high = high })
        ((index_over body parts.pinned.index parts.regions.tli).returned (lower_edge low)
        (upper_edge high)) ≡ ok_results (within low high (lift es g))
    stored_rows low high =
        let b : Bounded = record { body = body; global_seqno = g; low = low; high = high } in
        let named = ok_results (window t.handles (lower_edge low) (upper_edge high)) in
        ap (rows b) (stored_index (lower_edge low) (upper_edge high))
        ∙ subst (λ (xs : List Entry). rows b named ≡ ok_results (within low high (lift xs g)))
        t.whole (window_rows body g t.handles t.blocks t.named line
        (of_chunks (λ (xs : List Entry). AllByRecursion LeavesRoom xs) t.numbers) chunks_fit
        low high)
