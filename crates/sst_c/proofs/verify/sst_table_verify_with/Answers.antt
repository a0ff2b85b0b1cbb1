use Rattle.std.proofs.Common.{ap, ◌∙◌}
use Rattle.sst_c.specs.declared.held.Held.{Held}
use Rattle.sst_c.proofs.Verifying.{same_held}
use Rattle.sst_c.proofs.verify.sst_table_verify_with.Goals as goal

pub returns-clause-verifies : goal.returns-clause-verifies
returns-clause-verifies c h t same is =
    let one = same_held c.args.table.now.boxed.value c.in-Some.held.value h c.in-Some.ensures.taken same in
    c.verify_held_with-code.ensures.verifies t (ap (λ (x : Held). x.what) (c.deref.ensures ∙ one) ∙ is)
