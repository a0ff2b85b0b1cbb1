-- One more table is put in.
use Rattle.lsm_sorted.specs.version.Packing.{tables_in}
use Rattle.lsm_sorted.proofs.PackLemmas.{put_more, permutes_more}
use Rattle.lsm_sorted.proofs.version.optimize.place_all.Goals as goal

pub loop-table-preserved : goal.loop-table-preserved
loop-table-preserved g c = (
  put_more g.T.Ranged.range c.loop-table.yielded c.in-Some.table c.args.packed.now.items c.loop-table.packed.items c.place.new.packed.items
      c.loop-table.invariant.0 c.in_ok-place.ensures.ok,
  permutes_more (tables_in c.args.packed.now.items) c.loop-table.yielded (tables_in c.loop-table.packed.items) (tables_in c.place.new.packed.items) c.in-Some.table
      c.loop-table.invariant.1 c.in_ok-place.ensures.permutation,
)
