use Rattle.std.proofs.Common.{◌≡◌, ◌∙◌, refl, sym, []}
use Rattle.std.proofs.lemmas.List.{nil_from_length}
use Rattle.lsm_sorted.proofs.Alone.{alone_all, alone_more}
use Rattle.lsm_sorted.proofs.version.packed.runs_of.Goals as goal

pub loop-table-init : goal.loop-table-init
loop-table-init g c = rw (c.new-runs.ensures.items, c.into_iter-table-iterator.ensures.into_iter_gives.0) refl

pub loop-table-preserved : goal.loop-table-preserved
loop-table-preserved g c =
    rw (c.in_ok-push.ensures.items, c.in_ok-run.ensures.ok, c.len.ensures ∙ c.loop-table.runs.ok.0)
    (alone_more c.loop-table.runs.items c.in-Some.table c.next.new.self.rest.items c.loop-table.table-iterator.rest.items _ c.in-Some.ensures.steps.0 c.loop-table.invariant)

pub returns-clause-ok : goal.returns-clause-ok
returns-clause-ok g c =
    let rest = c.loop-table.table-iterator.rest in
    let none : rest.items ≡ [] = nil_from_length rest.items (sym rest.ok.0 ∙ c.in-None.ensures.steps.0) in
    alone_all c.loop-table.runs.items rest.items _ none c.loop-table.invariant
