-- A block that a load by its place gives is given at its position too, and reaches as far as the
-- place does.
use Rattle.std.proofs.Common.{◌≡◌, ℕ, ◌+◌, ◌-◌, ◌≤◌, List, length}
use Rattle.std.proofs.Common.{drop, slice_range, refl, sym, ap, ◌∙◌, arith, inl, inr}
use Rattle.std.specs.Prelude.{Some, None, Ok, Err}
use Rattle.std.proofs.lemmas.Bool.{cases_lt}
use Rattle.std.proofs.lemmas.List.{length-drop, length-take}
use Rattle.sst_entries.specs.declared.error.Error.{Error}
use Rattle.sst_entries.specs.declared.error.Error.TheVariants.{InvalidHeader}
use Rattle.sst_entries.specs.declared.error.Error.TheVariants.{Truncated}
use Rattle.sst_blocks.specs.declared.block_type.BlockType.{BlockType}
use Rattle.sst_blocks.specs.Block.{Loaded, checked_payload, data_len, header_fault}
use Rattle.sst_blocks.specs.Block.{load_at_result, load_result, stored_checksum, uncompressed_len}
use Rattle.sst_blocks.specs.Block.{version_in}
use Rattle.sst_blocks.proofs.LoadLemmas.{load_at_checked, load_checked, load_fault, load_lengths}
use Rattle.sst_blocks.proofs.LoadLemmas.{load_truncated, payload_is}

-- numbers that are not apart are the same
same_number : (a b : ℕ) → ((a ≡ b → ⊥) → ⊥) → a ≡ b
same_number a b near = elim (cases_lt a b) [
  | inl lt ↦ absurd (near (λ e. omega (arith, lt, e)))
  | inr le ↦ elim (cases_lt b a) [
    | inl lt ↦ absurd (near (λ e. omega (arith, lt, e)))
    | inr ge ↦ omega (arith, le, ge)
  ]
]

module _ (body : List ℕ) (at size : ℕ) (kind : BlockType) (b : Loaded)
    (returned : load_result body at size kind ≡ Ok b) where
  abbrev head : List ℕ
  head = slice_range body at (at + 24)

  not_refused : (e : Error) → load_result body at size kind ≡ Err e → ⊥
  not_refused e fault = absurd (let wrong : Err e ≡ Ok b = sym fault ∙ returned in cc)

  long : 24 ≤ size
  long = elim (cases_lt size 24) [
    | inl lt ↦ absurd (not_refused Truncated (load_truncated body at size kind
        (λ l w. omega (arith, lt, l))))
    | inr le ↦ le
  ]

  within : at + size ≤ length body
  within = elim (cases_lt (length body) (at + size)) [
    | inl lt ↦ absurd (not_refused Truncated (load_truncated body at size kind
        (λ l w. omega (arith, lt, w))))
    | inr le ↦ le
  ]

  fine : header_fault kind head ≡ None
  fine = elim (header_fault kind head) as (λ o. header_fault kind head ≡ o
      → header_fault kind head ≡ None) [
        | None ↦ λ e. e
        | Some e ↦ λ h. absurd (not_refused e (load_fault body at size kind e long within h))
      ] refl

  same : data_len head ≡ uncompressed_len head
  same = same_number (data_len head) (uncompressed_len head) (λ differ. not_refused InvalidHeader
      (load_lengths body at size kind long within fine (λ e _. differ e)))

  whole : 24 + data_len head ≡ size
  whole = same_number (24 + data_len head) size (λ differ. not_refused InvalidHeader
      (load_lengths body at size kind long within fine (λ _ e. differ e)))

  abbrev payload : List ℕ
  payload = slice_range body (at + 24) (at + size)

  checked : checked_payload (version_in head) (stored_checksum head) kind payload ≡ Ok b
  checked = sym (load_checked body at size kind long within fine same whole) ∙ returned

  pub at_position : load_at_result body at kind ≡ Ok b
  at_position =
      let end : at + 24 + data_len head ≡ at + size = omega (arith, whole) in
      load_at_checked body at kind (omega (arith, within, long)) fine same
      (omega (arith, within, whole))
      ∙ ap (λ (to : ℕ). checked_payload (version_in head) (stored_checksum head) kind
      (slice_range body (at + 24) to)) end
      ∙ checked

  pub block_end : at + 24 + length b.payload ≡ at + size
  block_end =
      let is = payload_is (version_in head) (stored_checksum head) kind payload b checked in
      omega (
        arith,
        ap length is,
        long,
        within,
        length-take (at + size - (at + 24)) (drop (at + 24) body),
        length-drop (at + 24) body,
      )
