use Rattle.std.proofs.Common.{◌≡◌, ◌∙◌, refl, sym, []}
use Rattle.std.specs.Prelude.{map}
use Rattle.std.specs.Arc.{arc_value}
use Rattle.std.proofs.lemmas.List.{nil_from_length}
use Rattle.example_store.proofs.Shares.{shared_all, shared_more}
use Rattle.example_store.proofs.store.compact.share_all.Goals as goal

pub loop-run-init : goal.loop-run-init
loop-run-init g c = rw (c.new-shared.ensures.items, c.into_iter-run-iterator.ensures.into_iter_gives.0) refl

pub loop-run-preserved : goal.loop-run-preserved
loop-run-preserved g c =
    shared_more (map arc_value c.loop-run.shared.items) _ c.in-Some.run' c.loop-run.run-iterator.rest.items c.next.new.self.rest.items c.args.runs.items c.in_ok-push_shared.ensures.pushed c.in-Some.ensures.steps.0 c.loop-run.invariant

pub returns-clause-ok : goal.returns-clause-ok
returns-clause-ok g c =
    let rest = c.loop-run.run-iterator.rest in
    let none : rest.items ≡ [] = nil_from_length rest.items (sym rest.ok.0 ∙ c.in-None.ensures.steps.0) in
    shared_all arc_value c.loop-run.shared.items rest.items c.args.runs.items none c.loop-run.invariant
