-- A table more, in some place.
use Rattle.lsm_sorted.proofs.PackLemmas.{permutes_inserted}
use Rattle.lsm_sorted.proofs.version.run.Run.insert_in_order.Goals as goal

pub returns-clause-permutation : goal.returns-clause-permutation
returns-clause-permutation g c =
    permutes_inserted c.args.self.now c.self.inside.0.items c.insert.new.self.items c.count_starts_within-place.result c.args.table c.self.view_is c.in_ok-insert.ensures.items
