use Rattle.std.proofs.Common.{ap, ◌∙◌}
use Rattle.sst_c.specs.declared.held.Held.{Held}
use Rattle.sst_c.proofs.Verifying.{same_held}
use Rattle.sst_c.proofs.memory.sst_table_memory.Goals as goal

pub returns-clause-returned : goal.returns-clause-returned
returns-clause-returned c h t same is =
    let one = same_held c.args.table.now.boxed.value c.in-Some.held.value h c.in-Some.ensures.taken same in
    c.tell_memory-code.ensures.returned t (ap (λ (x : Held). x.what) (c.deref.ensures ∙ one) ∙ is)
