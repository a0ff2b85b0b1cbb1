use Rattle.std.proofs.Common.{◌≡◌, ◌∷◌, [], ◌+◌, sym, subst, map, take, rules}
use Rattle.std.specs.Arc.{arc_value}
use Rattle.sst_tool.specs.show.Files.{runs_in}
use Rattle.sst_tool.proofs.FileLemmas.{runs_more}
use Rattle.sst_tool.proofs.show.merged.runs_of.Goals as goal

pub loop-file-preserved : goal.loop-file-preserved
loop-file-preserved g c =
    let files = c.args.files.now in
    let i = c.loop-file.file-index in
    let f = c.file-item.result in
    let one : arc_value c.in_ok-new.field-0 ≡ f.table ∷ [] = search rules in
    subst (λ items. map arc_value items ≡ runs_in (take (i + 1) files))
    (sym c.in_ok-push.ensures.items)
    (runs_more arc_value files i f c.loop-file.runs.items c.in_ok-new.field-0 c.loop-file-test.true
    c.file-item.is c.loop-file.invariant one)
