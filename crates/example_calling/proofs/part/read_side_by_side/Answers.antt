use Rattle.std.proofs.Common.{◌∙◌, ap, ◌++◌}
use Rattle.std.specs.Prelude.{map}
use Rattle.std.specs.Arc.{arc_value}
use Rattle.example_calling.proofs.PartRuns.{sides_held}
use Rattle.example_calling.proofs.part.read_side_by_side.Goals as goal

pub returns-clause-list : goal.returns-clause-list
returns-clause-list g c fs ps bs h =
    let a = c.args in
    let same = ap (λ xs. map arc_value xs) c.deref.ensures.value ∙ c.in_ok-runs.ensures.runs in
    c.read_runs.ensures.list (fs ++ (ps ++ bs)) (sides_held (map arc_value a.front.now) (map arc_value a.part.now) (map arc_value a.behind.now) (map arc_value c.deref.result.now) fs ps bs same h)

pub returns-clause-taken : goal.returns-clause-taken
returns-clause-taken g c fs ps bs h =
    let a = c.args in
    let same = ap (λ xs. map arc_value xs) c.deref.ensures.value ∙ c.in_ok-runs.ensures.runs in
    c.read_runs.ensures.taken (fs ++ (ps ++ bs)) (sides_held (map arc_value a.front.now) (map arc_value a.part.now) (map arc_value a.behind.now) (map arc_value c.deref.result.now) fs ps bs same h)
