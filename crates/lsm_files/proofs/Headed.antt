-- A load at a position, by the size that the block's header stores.
use Rattle.std.proofs.Common.{◌≡◌, ℕ, ◌+◌, ◌≤◌, ◌<◌, ◌==◌, ◌⊎◌, not, Bool, true, false, List}
use Rattle.std.proofs.Common.{length}
use Rattle.std.proofs.Common.{if◌then◌else◌, slice_range, refl, sym, ap, ◌∙◌, arith, inl, inr}
use Rattle.std.specs.Prelude.{Option, Some, None, Ok, Err}
use Rattle.std.proofs.lemmas.Bool.{eqb-true, eq-eqb}
use Rattle.sst_entries.specs.declared.error.Error.{Error}
use Rattle.sst_entries.specs.declared.error.Error.TheVariants.{InvalidHeader, Truncated}
use Rattle.sst_entries.specs.Error.{unless}
use Rattle.sst_blocks.specs.declared.block_type.BlockType.{BlockType}
use Rattle.sst_blocks.specs.Block.{checked_payload, data_len, head_size, header_fault}
use Rattle.sst_blocks.specs.Block.{load_at_result, load_result, stored_checksum, uncompressed_len}
use Rattle.sst_blocks.specs.Block.{version_in}
use Rattle.sst_blocks.proofs.LoadLemmas.{load_at_checked, load_at_fault, load_at_lengths}
use Rattle.sst_blocks.proofs.LoadLemmas.{load_at_passes, load_checked}

-- what a header's size says of its fault and its lengths
fine : (fault : Option Error) (same : Bool) (n size : ℕ)
    → unless fault (if not same then Err InvalidHeader else Ok n) ≡ Ok size
    → (fault ≡ None) × ((same ≡ true) × (n ≡ size))
fine None true n size is = (refl, (refl, cc))
fine None false n size is = absurd cc
fine (Some e) same n size is = absurd cc

faulty : (fault : Option Error) (same : Bool) (n : ℕ) (e : Error)
    → unless fault (if not same then Err InvalidHeader else Ok n) ≡ Err e
    → (fault ≡ Some e) ⊎ ((fault ≡ None) × ((same ≡ false) × (e ≡ InvalidHeader)))
faulty None true n e is = absurd cc
faulty None false n e is = inr (refl, (refl, cc))
faulty (Some f) same n e is = inl cc

module _ (body : List ℕ) (position : ℕ) (kind : BlockType) where
  abbrev head : List ℕ
  head = slice_range body position (position + 24)

  -- the block loads as with this size
  pub loads_by_size : (size : ℕ) → head_size kind head ≡ Ok size → position + 24 ≤ length body
      → position + size ≤ length body
      → load_at_result body position kind ≡ load_result body position size kind
  loads_by_size size is there within =
      let f = fine (header_fault kind head) (data_len head == uncompressed_len head)
      (24 + data_len head) size is in
      let same = eqb-true (data_len head) (uncompressed_len head) f.1.0 in
      let whole : 24 + data_len head ≡ size = f.1.1 in
      let end : position + 24 + data_len head ≡ position + size = omega (arith, whole) in
      load_at_checked body position kind there f.0 same (omega (arith, end, within))
      ∙ ap (λ (n : ℕ). checked_payload (version_in head) (stored_checksum head) kind
      (slice_range body (position + 24) n)) end
      ∙ sym (load_checked body position size kind (omega (arith, whole)) within f.0 same whole)

  -- the block reaches past the body
  pub past_by_size : (size : ℕ) → head_size kind head ≡ Ok size → position + 24 ≤ length body
      → length body < position + size → load_at_result body position kind ≡ Err Truncated
  past_by_size size is there past =
      let f = fine (header_fault kind head) (data_len head == uncompressed_len head)
      (24 + data_len head) size is in
      let same = eqb-true (data_len head) (uncompressed_len head) f.1.0 in
      let whole : 24 + data_len head ≡ size = f.1.1 in
      load_at_passes body position kind there f.0 same (omega (arith, whole, past))

  -- the header has a fault
  pub fails_by_head : (e : Error) → head_size kind head ≡ Err e → position + 24 ≤ length body
      → load_at_result body position kind ≡ Err e
  fails_by_head e is there =
      elim (faulty (header_fault kind head) (data_len head == uncompressed_len head)
      (24 + data_len head) e is) [
        | inl fault ↦ load_at_fault body position kind e there fault
        | inr none ↦ load_at_lengths body position kind there none.0
            (λ same. let wrong : false ≡ true = sym none.1.0
            ∙ eq-eqb (data_len head) (uncompressed_len head) same in absurd cc)
            ∙ ap (λ (f : Error). Err f) (sym none.1.1)
      ]
