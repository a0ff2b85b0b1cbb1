-- Entries and tables that nothing but want of memory refuses.
use Rattle.std.proofs.Common.{◌≡◌, refl, sym, ◌∙◌, ap, subst, ℕ, ◌<◌, ◌^◌, Bool, true, false, List}
use Rattle.std.proofs.Common.{[], ◌∷◌, ◌++◌, arith}
use Rattle.std.specs.Prelude.{Option, Some, None}
use Rattle.std.specs.Option.{option_or}
use Rattle.std.proofs.lemmas.Bool.{le-ltb, lt-leb}
use Rattle.std.proofs.lemmas.List.Concat.{flat_map-append}
use Rattle.std.proofs.lemmas.List.Sums.{sum_by-append}
use Rattle.sst_blocks.specs.declared.version.TableVersion.TheVariants.{V4}
use Rattle.sst_blocks.specs.Bounds.{data_block_bound_of, entry_bound}
use Rattle.sst_entries.specs.declared.error.Error.{Error}
use Rattle.sst_entries.specs.Entry.{Entry}
use Rattle.sst_blocks.specs.table.Chunks.{is_full, joined}
use Rattle.sst_blocks.specs.table.Filters.{filtered_keys}
use Rattle.sst_blocks.specs.table.Fits.{EntryFits}
use Rattle.sst_blocks.specs.table.Index.{handles}
use Rattle.sst_blocks.specs.table.Parts.{parts_by}
use Rattle.lsm_writers.specs.section.Cutting.{waiting_after}
use Rattle.lsm_writers.specs.section.FilterRefusing.{filter_fault}
use Rattle.lsm_writers.specs.section.IndexRefusing.{index_fault}
use Rattle.lsm_writers.specs.declared.writer.FinishedTable.{FinishedTable}
use Rattle.lsm_writers.specs.Cut.{rest_chunk}
use Rattle.lsm_writers.specs.Tables.{FitsBehind, GoesOn, HasRoomFor, filling, gained_all, ids_fault}
use Rattle.lsm_writers.specs.Tables.{is_due, lists_in, rotation_fault, standing, table_fault}
use Rattle.lsm_writers.specs.Tables.{took_fault, turn_fault}
use Rattle.lsm_writers.specs.Writing.{Writing, blocks_of, finish_fault, fresh_writing, item_fault}
use Rattle.lsm_writers.specs.Writing.{sections_fault, spilled, write_fault, written}
use Rattle.lsm_writers.proofs.AllTables.{failed_kept}
use Rattle.lsm_writers.proofs.Chunking.{joined_rest}
use Rattle.lsm_writers.proofs.CutTables.{chunks_of, gained_full, gained_open}
use Rattle.lsm_writers.proofs.Taking.{small_is}
use Rattle.lsm_writers.proofs.Turning.{state_of}

-- ---- what waits

wait_full : (full : List Entry → Bool) (p : List Entry) (e : Entry) (es : List Entry)
    → full (p ++ e ∷ []) ≡ true → waiting_after full p (e ∷ es) ≡ waiting_after full [] es
unfolding waiting_after
wait_full full p e es h = rw h refl

wait_open : (full : List Entry → Bool) (p : List Entry) (e : Entry) (es : List Entry)
    → full (p ++ e ∷ []) ≡ false → waiting_after full p (e ∷ es)
    ≡ waiting_after full (p ++ e ∷ []) es
unfolding waiting_after
wait_open full p e es h = rw h refl

wait_none : (full : List Entry → Bool) (p : List Entry) → waiting_after full p [] ≡ p
unfolding waiting_after
wait_none full p = refl

abbrev Waits : List Entry → Writing → Type 0
Waits es w = (gained_all w es).pending ≡ waiting_after
    (is_full w.options.data_block_size) w.pending es

waits_by : (w : Writing) (e : Entry) (es : List Entry) (full : Bool)
    → is_full w.options.data_block_size (w.pending ++ e ∷ []) ≡ full → ((v : Writing) → Waits es v)
    → Waits (e ∷ es) w
waits_by w e es true h more =
    let v : Writing = record w { cut = w.cut ++ (w.pending ++ e ∷ []) ∷ []; pending = [] } in
    ap (λ (x : Writing). (gained_all x es).pending) (gained_full w e h)
    ∙ (more v ∙ sym (wait_full (is_full w.options.data_block_size) w.pending e es h))
waits_by w e es false h more =
    let v : Writing = record w { pending = w.pending ++ e ∷ [] } in
    ap (λ (x : Writing). (gained_all x es).pending) (gained_open w e h)
    ∙ (more v ∙ sym (wait_open (is_full w.options.data_block_size) w.pending e es h))

waits : (es : List Entry) (w : Writing) → Waits es w
waits [] w = sym (wait_none (is_full w.options.data_block_size) w.pending)
waits (e ∷ es) w = waits_by w e es _ refl (waits es)

-- ---- a writer that has taken its list and nothing else

module _ (w : Writing) (is : w ≡ gained_all (fresh_writing w.label w.options) (written w)) where
  works : w.failed ≡ false
  works = ap (λ (v : Writing). v.failed) is ∙ failed_kept (fresh_writing w.label w.options)
      (written w)

  pending_is : w.pending ≡ filling w.options (written w)
  pending_is = ap (λ (v : Writing). v.pending) is
      ∙ waits (written w) (fresh_writing w.label w.options)

  blocks_are : blocks_of w ≡ parts_by (is_full w.options.data_block_size) (written w)
  blocks_are = ap (λ (v : Writing). v.cut ++ rest_chunk v.pending) is
      ∙ chunks_of (written w) (fresh_writing w.label w.options)

  joined_blocks : joined (blocks_of w) ≡ written w
  joined_blocks = flat_map-append (λ (x : List Entry). x) w.cut (rest_chunk w.pending)
      ∙ ap (λ (x : List Entry). joined w.cut ++ x) (joined_rest w.pending)

  pub finish_fault_is : finish_fault w ≡ table_fault w.options (written w)
  finish_fault_is =
      let o = w.options in
      let unfailed : finish_fault w ≡ sections_fault (spilled w) = rw works refl in
      let index : index_fault o.index_kind false (handles V4 (blocks_of w))
      ≡ index_fault o.index_kind false (handles V4
      (parts_by (is_full o.data_block_size) (written w))) =
      ap (λ (cs : List (List Entry)). index_fault o.index_kind false (handles V4 cs))
      blocks_are in
      let filter : filter_fault o.filter_kind o.bloom_policy
      (filtered_keys o.bloom_policy (joined (blocks_of w)))
      ≡ filter_fault o.filter_kind o.bloom_policy (filtered_keys o.bloom_policy (written w)) =
      ap (λ (es : List Entry). filter_fault o.filter_kind o.bloom_policy
      (filtered_keys o.bloom_policy es)) joined_blocks in
      unfailed ∙ (ap (λ (x : Option Error). option_or x
      (filter_fault o.filter_kind o.bloom_policy
      (filtered_keys o.bloom_policy (joined (blocks_of w))))) index
      ∙ ap (option_or (index_fault o.index_kind false
      (handles V4 (parts_by (is_full o.data_block_size) (written w))))) filter)

-- ---- an entry that fits

pub fits_in : (pending : List Entry) (e : Entry) → EntryFits V4 e
    → data_block_bound_of (pending ++ e ∷ []) < 2 ^ 32 → item_fault pending e ≡ None
fits_in pending e fits small = rw (le-ltb _ _ fits.key, lt-leb _ _ fits.value) (small_is _ small)

fits_alone : (pending : List Entry) (e : Entry) → data_block_bound_of (pending ++ e ∷ []) < 2 ^ 32
    → data_block_bound_of (e ∷ []) < 2 ^ 32
fits_alone pending e small = omega (arith, small, sum_by-append entry_bound pending (e ∷ []))

-- no fault where it fits, an id is left and the present table's sections fit
module _ (target : ℕ) (ids : Option ℕ) (w : Writing) (e : Entry)
    (is : w ≡ gained_all (fresh_writing w.label w.options) (written w)) (left : ids ≡ None → ⊥)
    (fits : FitsBehind w.options (written w) e) where
  ids_fine : (o : Option ℕ) → (o ≡ None → ⊥) → ids_fault o ≡ None
  ids_fine None some = absurd (some refl)
  ids_fine (Some id) some = refl

  rotates : rotation_fault ids w ≡ None
  rotates = rw (ids_fine ids left) (finish_fault_is w is ∙ fits.sections)

  present_small : data_block_bound_of (w.pending ++ e ∷ []) < 2 ^ 32
  present_small = subst (λ (p : List Entry). data_block_bound_of (p ++ e ∷ []) < 2 ^ 32)
      (sym (pending_is w is)) fits.block

  pub turns : (b : Bool) → is_due target w e ≡ b → turn_fault target ids w e ≡ None
  turns true h = rw h rotates
  turns false h = rw h refl

  no_fault_by : {A : Type 0} (fs : List (FinishedTable A)) (b : Bool) → is_due target w e ≡ b
      → write_fault (standing (state_of target ids fs w false) e).present e ≡ None
  no_fault_by fs true h = rw h (fits_in [] e fits.entry (fits_alone w.pending e present_small))
  no_fault_by fs false h = rw (h, works w is) (fits_in w.pending e fits.entry present_small)

  pub no_fault : {A : Type 0} (fs : List (FinishedTable A)) (failed : Bool) → failed ≡ false
      → took_fault (state_of target ids fs w failed) e ≡ None
  no_fault fs failed fine = rw (fine, turns _ refl) (no_fault_by fs _ refl)

-- where there is room, there is no fault
pub room_fault : {A : Type 0} (target : ℕ) (ids : Option ℕ) (fs : List (FinishedTable A))
    (w : Writing) (failed : Bool) (e : Entry) → (failed ≡ false → GoesOn target ids (lists_in fs) w)
    → HasRoomFor (state_of target ids fs w failed) e
    → took_fault (state_of target ids fs w failed) e ≡ None
room_fault target ids fs w failed e held room =
    no_fault target ids w e (held room.works).present room.left room.fits fs failed room.works

pub room_turn : {A : Type 0} (target : ℕ) (ids : Option ℕ) (fs : List (FinishedTable A))
    (w : Writing) (failed : Bool) (e : Entry) → (failed ≡ false → GoesOn target ids (lists_in fs) w)
    → HasRoomFor (state_of target ids fs w failed) e → turn_fault target ids w e ≡ None
room_turn target ids fs w failed e held room =
    turns target ids w e (held room.works).present room.left room.fits _ refl
