use Rattle.std.specs.Prelude.{map}
use Rattle.std.specs.Arc.{arc_value}
use Rattle.sst_c.proofs.Shared.{shared_packed}
use Rattle.sst_c.proofs.run_list.pack.Goals as goal

pub returns-clause-packed : goal.returns-clause-packed
returns-clause-packed c =
    let is = c.in_ok-packed.ensures in
    shared_packed c.share_runs.result (λ v. map arc_value v.items) (map arc_value c.args.runs.now)
    c.in_ok-packed.packed.items
    (λ order. record {
      same = is.tables;
      order = is.holders order;
      placed = is.placed order;
      ordered = is.ordered order;
      least = is.least order;
      list = is.list;
      able = is.able;
    })
    c.share_runs.ensures.ok
