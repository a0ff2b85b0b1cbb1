use Rattle.std.proofs.Common.{◌∙◌, ap}
use Rattle.lsm_sorted.specs.version.Packing.{tables_in}
use Rattle.lsm_runs.proofs.PackingRuns.{formed}
use Rattle.lsm_runs.specs.Words.{range_of}
use Rattle.sst_c.proofs.Alone.{packed_all}
use Rattle.sst_c.proofs.packed.packing_of.Goals as goal

pub returns-clause-ok : goal.returns-clause-ok
returns-clause-ok c =
    packed_all range_of c.pack_each.result c.in_ok-tables.tables.items (tables_in c.args.runs.now)
    (c.in_ok-tables.ensures.ok ∙ ap tables_in c.as_slice.ensures.runs)
    (formed c.args.runs.now c.as_slice.ensures.order) c.pack_each.ensures.packed
