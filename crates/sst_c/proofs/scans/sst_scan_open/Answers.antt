use Rattle.std.proofs.Common.{ap, ◌∙◌}
use Rattle.sst_c.specs.declared.held.Held.{Held}
use Rattle.sst_c.proofs.Verifying.{same_held}
use Rattle.sst_c.proofs.scans.sst_scan_open.Goals as goal

pub returns-clause-reports : goal.returns-clause-reports
returns-clause-reports c h t empty same is =
    let one = same_held c.args.table.now.boxed.value c.in-Some.held.value h c.in-Some.ensures.taken same in
    c.begin-code.ensures.reports t (ap (λ (x : Held). x.what) (c.deref.ensures ∙ one) ∙ is)
