-- What holds of an order seen from either end.
use Rattle.std.proofs.Common.{◌≡◌, true, false, Ordering, ap}
use Rattle.std.specs.Ordering.{is_gt, ordering_reverse}
use Rattle.std.specs.declared.cmp.Ordering.TheVariants.{Less, Equal, Greater}
use Rattle.std.specs.Cmp.{IsTotalOrder}
use Rattle.std.proofs.lemmas.Cmp.{back_total}
use Rattle.sst_entries.specs.declared.stream.Direction.{Direction}
use Rattle.sst_entries.specs.declared.stream.Direction.TheVariants as ends
use Rattle.lsm_sorted.specs.merge.Order.{toward}

pub toward_total : {T : Type 0} (side : Direction) {cmp : T → T → Ordering} → IsTotalOrder cmp
    → IsTotalOrder (toward side cmp)
toward_total ends.Front o = o
toward_total ends.Back o = back_total o

turned : (a b : Ordering) → b ≡ ordering_reverse a → is_gt a ≡ true → is_gt b ≡ false
turned Less b e h = cc
turned Equal b e h = cc
turned Greater b e h = ap is_gt e

-- of two items not both come after the other
pub not_both : {T : Type 0} (cmp : T → T → Ordering) → IsTotalOrder cmp → (x y : T)
    → is_gt (cmp x y) ≡ true → is_gt (cmp y x) ≡ false
not_both cmp o x y h = turned (cmp x y) (cmp y x) (o.antisymm y x) h
