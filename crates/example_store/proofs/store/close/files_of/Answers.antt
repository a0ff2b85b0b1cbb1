use Rattle.std.proofs.Common.{sym, ◌∙◌, ap}
use Rattle.std.specs.Prelude.{map}
use Rattle.std.specs.Arc.{arc_value}
use Rattle.std.proofs.lemmas.List.{take_all}
use Rattle.std.proofs.lemmas.Simd.{map-map}
use Rattle.example_store.proofs.Own.{bytes_of}
use Rattle.example_store.proofs.store.close.files_of.Goals as goal

pub returns-clause-files : goal.returns-clause-files
returns-clause-files g c =
    c.loop-run.invariant
    ∙ ap (map (λ run. map bytes_of (arc_value run))) (take_all c.loop-run.run-index c.args.runs.now c.loop-run-test.false)
    ∙ sym (map-map (map bytes_of) arc_value c.args.runs.now)
