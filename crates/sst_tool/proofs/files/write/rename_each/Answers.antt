use Rattle.std.proofs.Common.{sym, ◌∙◌, ap}
use Rattle.std.proofs.lemmas.List.{take-map, take_all}
use Rattle.sst_tool.proofs.Steps.{one_more, then_none}
use Rattle.sst_tool.specs.files.Placed.{renaming}
use Rattle.sst_tool.specs.files.Standing.{standing_in, standing_of}
use Rattle.sst_tool.specs.files.Steps.{then_done}
use Rattle.sst_tool.specs.files.Steps.Step.{Renamed}
use Rattle.sst_tool.proofs.files.write.rename_each.Goals as goal

pub loop-at-init : goal.loop-at-init
loop-at-init g c = sym (then_none (g.P.Place.done c.args.place.now))

pub loop-at-preserved : goal.loop-at-preserved
loop-at-preserved g c =
    one_more (λ s. Renamed s.beside s.path) (g.P.Place.done c.args.place.now) (g.P.Place.done c.loop-at.place) (g.P.Place.done c.rename_own.new.place) c.args.written.now c.loop-at.at c.index-written-at.result c.loop-at-test.true c.index-written-at.is c.loop-at.invariant c.in_default.ensures.renamed

pub returns-in-Err-clause-some : goal.returns-in-Err-clause-some
returns-in-Err-clause-some g c =
    c.in-Err.ensures.refused ∙ c.loop-at.invariant
    ∙ ap (λ l. then_done (g.P.Place.done c.args.place.now) (renaming l)) (sym (take-map standing_of c.loop-at.at c.args.written.now))

pub returns-clause-all : goal.returns-clause-all
returns-clause-all g c =
    c.loop-at.invariant
    ∙ ap (λ l. then_done (g.P.Place.done c.args.place.now) (renaming (standing_in l))) (take_all c.loop-at.at c.args.written.now c.loop-at-test.false)
