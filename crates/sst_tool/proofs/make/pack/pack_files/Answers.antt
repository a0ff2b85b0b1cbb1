use Rattle.std.proofs.Common.{List, subst}
use Rattle.lsm_sorted.specs.version.Packing.{AreTablesWellFormed}
use Rattle.lsm_readers.specs.point.Table.{OpenTable}
use Rattle.lsm_run_parts.specs.RunParts.{range_of}
use Rattle.sst_tool.proofs.make.pack.pack_files.Goals as goal

pub returns-clause-ok : goal.returns-clause-ok
returns-clause-ok g c = (
  c.in_ok-tables.tables.items,
  c.in_ok-tables.ensures.each,
  c.in_ok-tables.ensures.opened,
  c.in_ok-pack_each.ensures.packed
      (subst (λ (ts : List OpenTable). AreTablesWellFormed range_of ts) c.deref.ensures.value
      c.in_ok-check_ranges.ensures.ok),
)
