use Rattle.std.proofs.Common.{ap, ◌∙◌, subst}
use Rattle.std.specs.Prelude.{IsSomeAnd}
use Rattle.sst_c.specs.RunsAdded.{AddsToRuns}
use Rattle.sst_c.specs.declared.held.Held.{Held}
use Rattle.sst_c.specs.declared.held.What.{What}
use Rattle.sst_c.proofs.Verifying.{same_held}
use Rattle.sst_c.proofs.runs.sst_runs_add.Goals as goal

-- the table that is added is the one that is held
pub returns-clause-adds : goal.returns-clause-adds
returns-clause-adds c h t same is =
    let one = same_held c.args.table.now.boxed.value c.in-Some.held.value t c.in-Some.ensures.taken is in
    let P : What → Type 0 = λ x.
    IsSomeAnd c.add_to-code.new.runs.boxed.value (λ k. AddsToRuns x h.what c.add_to-code.result k.what) in
    subst P (ap (λ (x : Held). x.what) (c.deref.ensures ∙ one)) (c.add_to-code.ensures.adds h same)
