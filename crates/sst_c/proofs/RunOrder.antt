-- Runs in order. Assumes `Logic`.
use Rattle.std.proofs.Common.{◌≡◌, List, [], ◌∷◌, ◌++◌, Bool, true, sym, ap, subst}
use Rattle.std.specs.Prelude.{◌&&◌}
use Rattle.lsm_sorted.specs.version.KeyRange.{is_well_formed}
use Rattle.lsm_sorted.specs.version.Packing.{AreInOrder, ArePacked}
use Rattle.lsm_sorted.specs.version.Run.{IsInOrder}
use Rattle.lsm_readers.specs.point.Table.{OpenTable}
use Rattle.lsm_run_parts.specs.RunParts.{range_of}

one_order : (t : OpenTable) → is_well_formed (range_of t) ≡ true → IsInOrder range_of (t ∷ [])
one_order t formed = ap (λ (b : Bool). b && true && true) formed

-- one more behind the others
pub order_behind : (runs more : List (List OpenTable)) (t : OpenTable) → AreInOrder range_of runs
    → is_well_formed (range_of t) ≡ true → more ≡ runs ++ (t ∷ []) ∷ [] → AreInOrder range_of more
order_behind runs more t order formed same =
    subst (AreInOrder range_of) (sym same) (behind runs order)
  where
    behind : (runs : List (List OpenTable)) → AreInOrder range_of runs
        → AreInOrder range_of (runs ++ (t ∷ []) ∷ [])
    behind [] order = (one_order t formed, tt)
    behind (run ∷ runs) order = (order.0, behind runs order.1)

-- packed runs are in order
pub packed_order : (runs : List (List OpenTable)) → ArePacked range_of runs
    → AreInOrder range_of runs
packed_order [] packed = tt
packed_order (run ∷ runs) packed = (packed.0.0, packed_order runs packed.1)
