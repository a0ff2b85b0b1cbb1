use Rattle.std.specs.Arc.{arc_value}
use Rattle.example_store.proofs.Parts.{behind_cut, front_cut, part_cut}
use Rattle.example_store.proofs.store.part.cut_out.Goals as goal

pub returns-clause-front : goal.returns-clause-front
returns-clause-front g c =
    front_cut arc_value c.args.runs.now c.args.from c.args.to c.min.result c.split_at.result.0.now c.min.ensures c.min-2.result c.min-2.ensures c.split_at-2.result.0.now c.split_at.ensures.front c.split_at-2.ensures.front

pub returns-clause-part : goal.returns-clause-part
returns-clause-part g c =
    part_cut arc_value c.args.runs.now c.args.from c.args.to c.min.result c.split_at.result.0.now c.min.ensures c.min-2.result c.min-2.ensures c.split_at-2.result.1.now c.split_at.ensures.front c.split_at-2.ensures.back

pub returns-clause-behind : goal.returns-clause-behind
returns-clause-behind g c =
    behind_cut arc_value c.args.runs.now c.args.from c.args.to c.min.result c.split_at.result.0.now c.min.ensures c.split_at.result.1.now c.split_at.ensures.back
