use Rattle.std.proofs.Common.{◌≡◌, List, rules, subst}
use Rattle.std.specs.Prelude.{IfOk}
use Rattle.sst_entries.specs.Entry.{Entry}
use Rattle.sst_script.specs.Script.{target_size}
use Rattle.sst_script.proofs.PendingLemmas.{IsWrittenOf, run_cut, run_faults}
use Rattle.sst_script.proofs.pending.Pending.write.Goals as goal

pub returns-clause-run : goal.returns-clause-run
returns-clause-run g c = subst (λ (es : List Entry). IfOk c.write_run.result (λ r. IsWrittenOf es r.0)) c.self.view_is c.write_run.ensures.run

pub returns-clause-cut : goal.returns-clause-cut
returns-clause-cut g c =
    let moment : c.from.result ≡ 0 = search rules in
    run_cut c.write_run.result c.args.ids target_size c.from.result 0 c.self.inside.items.items c.args.self moment c.self.view_is c.write_run.ensures.cut

pub returns-clause-refused : goal.returns-clause-refused
returns-clause-refused g c =
    let moment : c.from.result ≡ 0 = search rules in
    run_faults c.write_run.result c.args.ids target_size c.from.result 0 c.self.inside.items.items c.args.self moment c.self.view_is c.self.invariant c.write_run.ensures.refused
