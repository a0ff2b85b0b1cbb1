use Rattle.std.proofs.Common.{List, ◌∙◌, ap, drop, inl, take}
use Rattle.std.specs.Prelude.{Option}
use Rattle.sst_tool.proofs.Steps.{then_more}
use Rattle.sst_tool.specs.files.Placed.{removing, renaming}
use Rattle.sst_tool.specs.files.Standing.{standing_in}
use Rattle.sst_tool.specs.files.Steps.{Step, then_done}
use Rattle.sst_tool.proofs.files.write.put_each.Goals as goal

pub returns-in-Err-clause-refused : goal.returns-in-Err-clause-refused
returns-in-Err-clause-refused g c =
    let all = standing_in c.args.written.now in
    let n = c.in-Err.renamed in
    inl (record {
      renamed = n;
      stops = c.give_up.ensures.stops;
      done = c.give_up.ensures.removed
          ∙ ap (λ (k : Option (List Step)). then_done k (removing (drop n all))) c.in-Err.ensures.some
          ∙ then_more (g.P.Place.done c.args.place.now) (renaming (take n all)) (removing (drop n all));
    })
