-- What holds of an index by what of it stays loaded.
use Rattle.std.proofs.Common.{◌≡◌, ℕ, ◌-◌, ◌≤◌, Bool, true, false, cond, List, [], ◌∷◌, ap, refl}
use Rattle.std.proofs.Common.{◌∙◌, arith, inl, inr}
use Rattle.std.specs.Prelude.{◌≢◌, ◌⊎◌, Option, Some, None, Result, Ok, is_some}
use Rattle.sst_entries.specs.declared.error.Error.{Error}
use Rattle.sst_blocks.specs.declared.block_type.BlockType.{BlockType}
use Rattle.sst_blocks.specs.declared.block_type.BlockType.TheVariants.{Index}
use Rattle.sst_blocks.specs.Handle.{Handle}
use Rattle.sst_blocks.specs.Place.{Place}
use Rattle.sst_blocks.specs.Sections.{body_of}
use Rattle.lsm_readers.specs.point.Table.{OpenedWith}
use Rattle.lsm_readers.specs.point.IndexKinds.{Kind, PinnedIndex, full, handle_by, handle_in_part}
use Rattle.lsm_readers.specs.point.IndexKinds.{handles_result, index_len, kind_for, kind_kept}
use Rattle.lsm_readers.specs.point.IndexKinds.{most_index_loads, partitioned, place_in, two_level}
use Rattle.lsm_readers.specs.point.IndexKinds.{volatile, whole}
use Rattle.lsm_readers.specs.point.Read.{◌>>=◌}
use Rattle.lsm_readers.specs.point.Table.{OpenTable}
use Rattle.lsm_readers.proofs.Recovered.{bind_ok, pinned_steps, steps}

-- ---- its kind

abbrev kept : PinnedIndex → Result PinnedIndex Error
kept index = Ok index

made : (made index : PinnedIndex) → kept made ≡ Ok index → index ≡ made
made m index h = cc

-- what keeps handles makes an index of one kind
kept_kind : (body : List ℕ) (tli : Place) (keep : List Handle → PinnedIndex) (kind : Kind)
    → ((hs : List Handle) → kind_kept (keep hs) ≡ kind) → (index : PinnedIndex)
    → (handles_result body tli >>= λ hs. kept (keep hs)) ≡ Ok index → kind_kept index ≡ kind
kept_kind body tli keep kind each index h =
    let hs = bind_ok (handles_result body tli) (λ hs. kept (keep hs)) index h in
    ap kind_kept (made (keep hs.0) index hs.2) ∙ each hs.0

kind_of_result : (body : List ℕ) (tli : Place) (parts pin : Bool) (index : PinnedIndex)
    → cond parts (handles_result body tli >>= λ tops. Ok (two_level tops))
    (cond pin (handles_result body tli >>= λ handles. Ok (full handles)) (Ok volatile)) ≡ Ok index
    → kind_kept index ≡ kind_for parts pin
kind_of_result body tli true pin index h = kept_kind body tli two_level partitioned
    (λ hs. refl) index h
kind_of_result body tli false true index h = kept_kind body tli full whole (λ hs. refl) index h
kind_of_result body tli false false index h = ap kind_kept (made volatile index h)

-- what stays loaded of a table that was opened with some pins
pub opened_kind : (t : OpenTable) (pin_filter pin_index : Bool) → OpenedWith t pin_filter pin_index
    → kind_kept t.parts.pinned.index ≡ kind_for (is_some t.parts.regions.index) pin_index
opened_kind t pin_filter pin_index returned =
    let body = body_of t.bytes in
    let regions = t.parts.regions in
    let all = steps t.bytes t.global_seqno pin_filter pin_index t.parts returned in
    let pins = pinned_steps body regions pin_filter pin_index t.parts.pinned all.pinned in
    kind_of_result body regions.tli (is_some regions.index) pin_index t.parts.pinned.index pins.index

-- ---- what a lookup loads

-- no block, or one of the index
abbrev UpTo : ℕ → List BlockType → Type 0
UpTo n ks = (ks ≡ []) ⊎ ((ks ≡ Index ∷ []) × (n ≡ 1))

part_up : (body key : List ℕ) (bound : ℕ) (place : Option Place)
    → UpTo 1 (handle_in_part body key bound place).loads
part_up body key bound None = inl refl
part_up body key bound (Some place) = inr (refl, refl)

pub index_up : (body : List ℕ) (index : PinnedIndex) (tli : Place) (key : List ℕ) (bound : ℕ)
    → UpTo (most_index_loads index) (handle_by body index tli key bound).loads
index_up body (full handles) tli key bound = inl refl
index_up body volatile tli key bound = inr (refl, refl)
index_up body (two_level tops) tli key bound = part_up body key bound (place_in tops key bound)

pub index_one : (index : PinnedIndex) → most_index_loads index ≤ 1
index_one (full handles) = omega arith
index_one volatile = omega arith
index_one (two_level tops) = omega arith

-- ---- how long it is

-- where a block stays loaded, its header is not counted
pub kept_len : (index : PinnedIndex) (tli : Place) → index ≢ volatile
    → index_len index tli ≡ tli.size - 24
kept_len (full handles) tli some = refl
kept_len volatile tli some = absurd (some refl)
kept_len (two_level tops) tli some = refl
