-- The keys of entries in order.
use Rattle.std.proofs.Common.{◌≡◌, refl, ◌∙◌, ap}
use Rattle.std.specs.declared.cmp.Ordering.{Ordering}
use Rattle.std.specs.declared.cmp.Ordering.TheVariants.{Less, Equal, Greater}
use Rattle.std.specs.Ordering.{nat_cmp, is_lt, is_gt, ordering_then, ordering_reverse}
use Rattle.std.specs.Cmp.Lexicographic.{slice_cmp, nat_list_cmp_total}
use Rattle.sst_entries.specs.Entry.{Entry}
use Rattle.sst_entries.specs.Kind.{tag_of}
use Rattle.sst_entries.proofs.KeyLemmas.{KeyLe}
use Rattle.sst_entries.proofs.OrderLemmas.{gt_first}
use Rattle.lsm_sorted.specs.merge.Union.{AtMost}

pub lt_reverse : (o : Ordering) → is_lt (ordering_reverse o) ≡ is_gt o
lt_reverse Less = refl
lt_reverse Equal = refl
lt_reverse Greater = refl

pub key_le : (x y : Entry) → AtMost x y → KeyLe x.user_key y.user_key
key_le x y h =
    ap is_lt (nat_list_cmp_total.antisymm y.user_key x.user_key)
    ∙ lt_reverse (slice_cmp nat_cmp x.user_key y.user_key)
    ∙ gt_first (slice_cmp nat_cmp x.user_key y.user_key)
    (ordering_then (nat_cmp y.seqno x.seqno) (nat_cmp (tag_of x.kind) (tag_of y.kind))) h
