-- Loads of blocks whose bytes were read.
use Rattle.std.proofs.Common.{◌≡◌, ℕ, ◌+◌, ◌≤◌, false, List, length, ap, sym, ◌∙◌}
use Rattle.std.proofs.lemmas.Result.{err_from_is_err_and}
use Rattle.std.specs.Prelude.{Result, Err}
use Rattle.std.specs.Result.{IsErrAnd}
use Rattle.sst_entries.specs.declared.error.Error.{Error}
use Rattle.sst_entries.specs.declared.error.Error.TheVariants.{Truncated}
use Rattle.sst_entries.specs.Error.{Fails, Gives, is_memory}
use Rattle.sst_blocks.specs.declared.block_type.BlockType.{BlockType}
use Rattle.sst_blocks.specs.Access.{IsInMemory, IsKnown as IsKnownTo}
use Rattle.sst_blocks.specs.Block.{decode_block, load_result}
use Rattle.sst_blocks.proofs.LoadLemmas.{decode_part, load_truncated}
use Rattle.lsm_files.specs.Reads.{AreKnown, IsPartAt, ByteAccess, access_of, may_fail, unknown, whole}

-- a call that passed a fault on
pub passes_fault : {X Y : Type 0} (view : X → Y) (r : Result X Error) (returned : Result Y Error)
    (e : Error) → IsErrAnd r (λ y. y ≡ e) → Fails e returned → Gives view r returned
passes_fault view r returned e is fails =
    let p = err_from_is_err_and r is in
    rw (p.1, p.2) fails

pub known_to : (r : ByteAccess) → IsKnownTo (access_of r) → AreKnown r
known_to whole known = tt
known_to may_fail known = tt
known_to unknown known = known

pub to_known : (r : ByteAccess) → AreKnown r → IsKnownTo (access_of r)
to_known whole known = tt
to_known may_fail known = tt
to_known unknown known = known

-- bytes that are read on each load are not in memory
pub not_at_hand : (r : ByteAccess) → IsInMemory (access_of r) → ⊥
not_at_hand whole at = at
not_at_hand may_fail at = at
not_at_hand unknown at = at

module _ (body : List ℕ) (offset size : ℕ) (kind : BlockType) where
  -- a part that was read decodes as it loads
  pub part_loads : (part : List ℕ) → IsPartAt body offset part → length part ≡ size
      → decode_block kind part ≡ load_result body offset size kind
  part_loads part at is = decode_part body offset kind part at.within at.is
      ∙ ap (λ (n : ℕ). load_result body offset n kind) is

  -- a handle past the body is truncated
  pub past_loads : (e : Error) → (is_memory e ≡ false → (e ≡ Truncated)
      × (24 ≤ size → offset + size ≤ length body → ⊥))
      → Fails e (load_result body offset size kind)
  past_loads e past memory =
      let p = past memory in
      load_truncated body offset size kind p.1 ∙ ap (λ (f : Error). Err f) (sym p.0)
