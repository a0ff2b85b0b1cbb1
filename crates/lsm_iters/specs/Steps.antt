-- The steps of the parts of a range iterator.
use Rattle.std.specs.Prelude.{◌≡◌, ℕ, true, List, [], Option, Some, None, Result, Ok, Err}
use Rattle.sst_entries.specs.declared.error.Error.{Error}
use Rattle.sst_entries.specs.Entry.{Entry}
use Rattle.lsm_iters.specs.block_index.Left.{Left}
use Rattle.lsm_iters.specs.Lift.{lifted_result}
use Rattle.lsm_iters.specs.Range.{Handles, Range, index_to_seek, left_in, to_seek}

-- A step's result with the global seqno applied.
abbrev pub lifted_answer : ℕ → Option (Result Entry Error) → Option (Result Entry Error)
lifted_answer g None = None
lifted_answer g (Some (Ok e)) = Some (lifted_result g e)
lifted_answer g (Some (Err e)) = Some (Err e)

-- ---- the handles that an index still yields

-- The edges are sought, unless they were sought before.
pub record SeeksOnce {A : Type 0} (s t : Handles A) (low : Option (List ℕ × ℕ))
    (high : Option (List ℕ)) : Type 0 where
  pub results : (left_in t).results ≡ to_seek s low high
  pub loads : (left_in t).loads ≡ index_to_seek s low high

-- Nothing is loaded.
pub record LoadsNone (s t : Left) : Type 0 where
  pub index : t.index ≡ s.index
  pub opened : t.opened ≡ s.opened

-- No handle is left.
abbrev pub all_over : {A : Type 0} → Handles A → Handles A
all_over h = record h { sought = true; ended = true }

-- ---- the range

-- Nothing is left and nothing is lent.
abbrev pub over : {A : Type 0} → Range A → Range A
over s = record s { handles = all_over s.handles; front = []; back = []; lent = None }

-- Nothing is lent.
abbrev pub without_lent : {A : Type 0} → Range A → Range A
without_lent s = record s { lent = None }

-- The range after a step's result: an error ends it.
abbrev pub stopped : {A : Type 0} → Option (Result Entry Error) → Range A → Range A
stopped None t = t
stopped (Some (Ok e)) t = t
stopped (Some (Err e)) t = over t
