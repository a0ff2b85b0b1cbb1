-- The first of two entries.
use Rattle.std.specs.Prelude.{Option, Some, None, if◌then◌else◌}
use Rattle.std.specs.Ordering.{is_lt}
use Rattle.sst_entries.specs.Entry.{Entry}
use Rattle.lsm_sorted.specs.merge.Union.{item_cmp}

-- of two optional entries, the one that sorts first; on a tie, the left one
abbrev pub leading_of : Option Entry → Option Entry → Option Entry
leading_of None y = y
leading_of (Some x) None = Some x
leading_of (Some x) (Some y) = if is_lt (item_cmp y x) then Some y else Some x
