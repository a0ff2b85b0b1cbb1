-- An order from one of its ends.
use Rattle.std.specs.declared.cmp.Ordering.{Ordering}
use Rattle.std.specs.Ordering.{flip_args}
use Rattle.sst_entries.specs.declared.stream.Direction.{Direction}
use Rattle.sst_entries.specs.declared.stream.Direction.TheVariants.{Front, Back}

-- the order that starts at this end
abbrev pub toward : {T : Type 0} → Direction → (T → T → Ordering) → T → T → Ordering
toward Front cmp = cmp
toward Back cmp = flip_args cmp
