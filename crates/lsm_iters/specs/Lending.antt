-- A range of a table that lends its entries, from both ends.
use Rattle.std.specs.Prelude.{◌≡◌, true, List, [], Option, Some, None, Result}
use Rattle.sst_blocks.specs.Cursor.{Cursor}
use Rattle.sst_entries.specs.declared.error.Error.{Error}
use Rattle.sst_entries.specs.Entry.{Entry}
use Rattle.sst_entries.specs.declared.stream.Direction.{Direction}
use Rattle.sst_entries.specs.declared.stream.Direction.TheVariants.{Front}
use Rattle.sst_entries.specs.Stream.{ok_results}
use Rattle.lsm_iters.specs.walk.Ends.{Remains, taken_at}
use Rattle.lsm_iters.specs.Lift.{lifted_result}
use Rattle.lsm_iters.specs.Range.{Range, RangeGives, next_at}

-- ---- a loaded block

-- The entries left of a loaded block, without loads.
abbrev pub cursor_remains : Cursor → Remains Entry
cursor_remains c = record { results = ok_results c.behind; loads = 0 }

-- The current entry of an optional block, and the entries left of it.
abbrev pub lent_in : Option Cursor → Option Entry
lent_in None = None
lent_in (Some c) = c.lent

abbrev pub behind_in : Option Cursor → List Entry
behind_in None = []
behind_in (Some c) = c.behind

-- One step at an end of a block: the entry there becomes current, and the others are left.
abbrev pub LendsAt : Direction → Option Cursor → Option Cursor → Type 0
LendsAt at s t = (lent_in t, behind_in t) ≡ taken_at at (behind_in s)

-- ---- the range

-- One lending step at an end, with the result of an iterator step. Once the edges are sought, an
-- entry left of the block loaded there always comes, or its overflow error.
pub record RangeLendsAt {A : Type 0} (at : Direction) (s : Range A)
    (r : Option (Result Entry Error)) (t : Range A) : Type 0 where
  pub gives : RangeGives (taken_at at) (next_at at) s r t
  pub there : s.handles.sought ≡ true → (e : Entry)
      → (taken_at at (next_at at s).entries).0 ≡ Some e
      → r ≡ Some (lifted_result s.of.global_seqno e)

-- A lending step at the front.
abbrev pub RangeLends : {A : Type 0} → Range A → Option (Result Entry Error) → Range A → Type 0
RangeLends s r t = RangeLendsAt Front s r t
