use Rattle.std.proofs.Common.{◌≡◌, ℕ, ◌-◌, ◌<◌, ◌≤◌, List, length, Bool, true, false, Some}
use Rattle.std.specs.List.{slice_get}
use Rattle.std.specs.List.Sorted.{IsPartitionedBy}
use Rattle.sst_blocks.specs.Format.{items_of}
use Rattle.sst_blocks.proofs.reading.places.front_len.Given as goal

-- below low each item passes the test, and the one at high does not, whatever test the closure
-- computes
abbrev pub invariant-loop-low : goal.invariant-loop-low
invariant-loop-low g l =
    let f = g.R.ItemRef.format l.version in
    let items = items_of f l.payload in
    record {
      order : l.low ≤ l.high;
      within : l.high ≤ length l.starts;
      parts : (p : List ℕ → ℕ → Bool) → ((key : _) (n : _) (r : _) → goal.P-post g l.passes key n r
          → r ≡ p key.now n) → IsPartitionedBy (λ (x : g.R.ItemRef.Reported). p (f.key x).user_key
          (f.key x).seqno) items
          → ((i : ℕ) (x : g.R.ItemRef.Reported) → i < l.low → slice_get items i ≡ Some x
          → p (f.key x).user_key (f.key x).seqno ≡ true)
          × ((x : g.R.ItemRef.Reported) → slice_get items l.high ≡ Some x
          → p (f.key x).user_key (f.key x).seqno ≡ false);
    }

abbrev pub decreases-loop-low : goal.decreases-loop-low
decreases-loop-low g l = l.high - l.low
