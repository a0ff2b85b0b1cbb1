use Rattle.std.proofs.Common.{refl, sym, ◌∙◌, ap}
use Rattle.std.proofs.lemmas.List.{drop-map, take_rest}
use Rattle.sst_tool.proofs.Steps.{stopped_at}
use Rattle.sst_tool.specs.files.Placed.{removing}
use Rattle.sst_tool.specs.files.Standing.{standing_in, standing_of}
use Rattle.sst_tool.specs.files.Steps.{then_done}
use Rattle.sst_tool.proofs.files.write.give_up.Goals as goal

pub returns-clause-stops : goal.returns-clause-stops
returns-clause-stops g c =
    stopped_at c.args.written.now c.args.renamed c.index-written-renamed.result _ c.requires refl c.rename_fault.ensures

pub returns-clause-removed : goal.returns-clause-removed
returns-clause-removed g c =
    c.remove_all.ensures
    ∙ ap (λ bs. then_done (g.P.Place.done c.args.place.now) (removing (standing_in bs))) (take_rest c.args.written.now c.args.renamed)
    ∙ ap (λ l. then_done (g.P.Place.done c.args.place.now) (removing l)) (sym (drop-map standing_of c.args.renamed c.args.written.now))
