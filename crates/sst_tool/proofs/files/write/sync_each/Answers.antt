use Rattle.std.proofs.Common.{refl, sym, ◌∙◌, ap, List, ℕ, ◌∷◌, []}
use Rattle.std.proofs.lemmas.List.{take_all}
use Rattle.sst_tool.proofs.Steps.{one_more, stops_syncing, then_none}
use Rattle.sst_tool.specs.files.Placed.{syncing}
use Rattle.sst_tool.specs.files.Standing.{standing_in}
use Rattle.sst_tool.specs.files.Steps.{then_done}
use Rattle.sst_tool.specs.files.Steps.Step.{Synced}
use Rattle.sst_tool.proofs.files.write.sync_each.Goals as goal

pub loop-beside-init : goal.loop-beside-init
loop-beside-init g c = sym (then_none (g.P.Place.done c.args.place.now))

pub loop-beside-preserved : goal.loop-beside-preserved
loop-beside-preserved g c =
    one_more (λ s. Synced s.path) (g.P.Place.done c.args.place.now) (g.P.Place.done c.loop-beside.place) (g.P.Place.done c.sync_folder.new.self) c.args.written.now c.loop-beside.beside-index c.beside-item.result c.loop-beside-test.true c.beside-item.is c.loop-beside.invariant
    (c.in_default.ensures.synced ∙ ap (λ (p : List ℕ). then_done (g.P.Place.done c.loop-beside.place) (Synced p ∷ [])) c.as_str.ensures.value)

pub returns-in-Err-clause-refused : goal.returns-in-Err-clause-refused
returns-in-Err-clause-refused g c =
    stops_syncing (g.P.Place.done c.args.place.now) (g.P.Place.done c.sync_folder.new.self) c.args.written.now c.loop-beside.beside-index c.beside-item.result _ c.loop-beside-test.true c.beside-item.is refl tt
    (c.in-Err.ensures.refused ∙ c.loop-beside.invariant)

pub returns-clause-all : goal.returns-clause-all
returns-clause-all g c =
    c.loop-beside.invariant
    ∙ ap (λ l. then_done (g.P.Place.done c.args.place.now) (syncing (standing_in l))) (take_all c.loop-beside.beside-index c.args.written.now c.loop-beside-test.false)
