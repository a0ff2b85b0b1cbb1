-- The order of borrowed entries is that of shared ones.
use Rattle.std.proofs.Common.{◌≡◌, refl}
use Rattle.std.specs.Cmp.Lexicographic.{slice_cmp}
use Rattle.std.specs.Ordering.{nat_cmp, ordering_then}
use Rattle.std.specs.declared.cmp.Ordering.{Ordering}
use Rattle.std.specs.declared.cmp.Ordering.TheVariants.{Less, Equal, Greater}
use Rattle.sst_entries.specs.Entry.{Entry}
use Rattle.sst_entries.specs.Kind.{tag_of}
use Rattle.sst_entries.specs.Lending.{entry_cmp}
use Rattle.lsm_sorted.specs.merge.Union.{item_cmp}

then_assoc : (a b c : Ordering)
    → ordering_then (ordering_then a b) c ≡ ordering_then a (ordering_then b c)
then_assoc Less b c = refl
then_assoc Equal b c = refl
then_assoc Greater b c = refl

pub same_order : (x y : Entry) → entry_cmp x y ≡ item_cmp x y
same_order x y = then_assoc (slice_cmp nat_cmp x.user_key y.user_key) (nat_cmp y.seqno x.seqno)
    (nat_cmp (tag_of x.kind) (tag_of y.kind))
