-- One more run is put in.
use Rattle.std.proofs.Common.{◌≡◌, ◌++◌, subst}
use Rattle.std.specs.Prelude.{IsPermutation}
use Rattle.lsm_sorted.specs.version.Packing.{put_all, tables_in, AreTablesWellFormed, ArePacked}
use Rattle.lsm_sorted.proofs.PackLemmas.{put_run, permutes_run}
use Rattle.lsm_sorted.proofs.version.optimize.pack.Goals as goal

pub loop-run-preserved : goal.loop-run-preserved
loop-run-preserved g c = (
  put_run g.T.Ranged.range c.loop-run.yielded c.in-Some.run' c.loop-run.packed.items c.place_all.new.packed.items c.loop-run.invariant.0
      (subst (λ ts. AreTablesWellFormed g.T.Ranged.range ts → ArePacked g.T.Ranged.range c.loop-run.packed.items → c.place_all.new.packed.items ≡ put_all g.T.Ranged.range ts c.loop-run.packed.items) c.into_vec.ensures c.in_ok-place_all.ensures.ok),
  permutes_run c.loop-run.yielded c.in-Some.run' (tables_in c.loop-run.packed.items) (tables_in c.place_all.new.packed.items) c.loop-run.invariant.1
      (subst (λ ts. IsPermutation (tables_in c.loop-run.packed.items ++ ts) (tables_in c.place_all.new.packed.items)) c.into_vec.ensures c.in_ok-place_all.ensures.permutation),
)
