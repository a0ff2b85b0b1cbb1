use Rattle.std.proofs.Common.{sym, ◌∙◌, ap, List, ℕ, ◌∷◌, []}
use Rattle.std.proofs.lemmas.List.{take_all}
use Rattle.sst_tool.proofs.Steps.{one_more, then_none}
use Rattle.sst_tool.specs.files.Placed.{removing}
use Rattle.sst_tool.specs.files.Standing.{standing_in}
use Rattle.sst_tool.specs.files.Steps.{then_done}
use Rattle.sst_tool.specs.files.Steps.Step.{Removed}
use Rattle.sst_tool.proofs.files.write.remove_all.Goals as goal

pub loop-beside-init : goal.loop-beside-init
loop-beside-init g c = sym (then_none (g.P.Place.done c.args.place.now))

pub loop-beside-preserved : goal.loop-beside-preserved
loop-beside-preserved g c =
    one_more (λ s. Removed s.beside) (g.P.Place.done c.args.place.now) (g.P.Place.done c.loop-beside.place) (g.P.Place.done c.remove.new.self) c.args.written.now c.loop-beside.beside-index c.beside-item.result c.loop-beside-test.true c.beside-item.is c.loop-beside.invariant
    (c.remove.ensures ∙ ap (λ (p : List ℕ). then_done (g.P.Place.done c.loop-beside.place) (Removed p ∷ [])) c.as_str.ensures.value)

pub returns : goal.returns
returns g c =
    c.loop-beside.invariant
    ∙ ap (λ l. then_done (g.P.Place.done c.args.place.now) (removing (standing_in l))) (take_all c.loop-beside.beside-index c.args.written.now c.loop-beside-test.false)
