use Rattle.std.proofs.Common.{◌≤◌, ℕ}
use Rattle.sst.specs.Tasks.{DoesTask, RefusesTask}
use Rattle.sst_tool.specs.declared.files.error.ToolError.{ToolError}
use Rattle.sst.proofs.Endings.{not_passed_on, output_fails, status_stays}
use Rattle.sst.proofs.running.execute.Goals as goal

pub returns-clause-small : goal.returns-clause-small
returns-clause-small g c =
    status_stays (λ (s : ℕ). s ≤ 1) c.status_flushed.result c.in_ok-status.status
    c.status_flushed.ensures.ok c.in_ok-status.ensures.small

pub returns-clause-does : goal.returns-clause-does
returns-clause-does g c =
    status_stays (λ (s : ℕ). DoesTask g.P.File.ReadAt.reads c.args.task.now (g.I.Read.remaining c.args.input)
    (g.P.Place.content c.args.place.now) (g.P.Place.there c.args.place.now)
    (g.P.Place.done c.args.place.now) (g.P.Place.done c.perform-done.new.place) s)
    c.status_flushed.result c.in_ok-status.status c.status_flushed.ensures.ok
    c.in_ok-status.ensures.does

pub returns-clause-refused : goal.returns-clause-refused
returns-clause-refused g c =
    let task = c.args.task.now in
    let input = g.I.Read.remaining c.args.input in
    let content = g.P.Place.content c.args.place.now in
    let there = g.P.Place.there c.args.place.now in
    let known = g.P.Place.done c.args.place.now in
    let new = g.P.Place.done c.perform-done.new.place in
    output_fails (λ (f : ToolError). RefusesTask task input content there known f new)
    c.status_flushed.result c.status_flushed.ensures.err
    (λ o. not_passed_on g.P.File.ReadAt.reads task input content there known new c.in_ok-status.status o
    c.in_ok-status.ensures.does)
