use Rattle.std.proofs.Common.{◌≡◌, map, refl, subst}
use Rattle.std.specs.Prelude.{Ok}
use Rattle.tool_options.specs.declared.words.Parsed.{Parsed}
use Rattle.tool_options.specs.declared.words.Parsed.TheVariants as parsed
use Rattle.sst.proofs.Endings.{runs_as, runs_task}
use Rattle.sst.proofs.running.run.Goals as goal

pub returns-in-Ok-Task-clause-runs : goal.returns-in-Ok-Task-clause-runs
returns-in-Ok-Task-clause-runs g c =
    runs_task (map g.S.AsStr.text c.args.words.now) (g.I.Read.remaining c.args.input)
    c.parse.result c.in-Ok-Task.task c.execute-done.result c.report.result c.parse.ensures
    (subst (λ (p : Parsed). c.parse.result ≡ Ok p) c.in-Ok-Task.field-0-is c.in-Ok-Task.is)
    c.execute-done.ensures.does c.execute-done.ensures.refused c.report.ensures

pub returns-in-Ok-Shown-clause-runs : goal.returns-in-Ok-Shown-clause-runs
returns-in-Ok-Shown-clause-runs g c =
    runs_as (map g.S.AsStr.text c.args.words.now) (g.I.Read.remaining c.args.input)
    c.parse.result (parsed.Shown c.in-Ok-Shown.text) c.print.result c.parse.ensures
    (subst (λ (p : Parsed). c.parse.result ≡ Ok p) c.in-Ok-Shown.field-0-is c.in-Ok-Shown.is)
    c.print.ensures

pub returns-in-Ok-Mistaken-clause-runs : goal.returns-in-Ok-Mistaken-clause-runs
returns-in-Ok-Mistaken-clause-runs g c =
    runs_as (map g.S.AsStr.text c.args.words.now) (g.I.Read.remaining c.args.input)
    c.parse.result (parsed.Mistaken c.in-Ok-Mistaken.text) 2 c.parse.ensures
    (subst (λ (p : Parsed). c.parse.result ≡ Ok p) c.in-Ok-Mistaken.field-0-is c.in-Ok-Mistaken.is)
    refl
