use Rattle.std.proofs.Common.{◌∙◌, ap, List, ◌++◌}
use Rattle.std.specs.Arc.{arc_value}
use Rattle.sst_entries.specs.Entry.{Entry}
use Rattle.lsm_runs.proofs.ListRuns.{more_runs}
use Rattle.bench_library.proofs.runs.add_run.Goals as goal

pub returns : goal.returns
returns c have =
    let es = c.args.all.now.items in
    let added = ap (λ (us : List Entry). es ++ us) c.deref.ensures.value in
    more_runs arc_value es c.args.runs.now.items c.in_ok-run_of.field-0 _
    c.share_behind.new.all.items c.push.new.self.items have c.in_ok-run_of.ensures
    (c.in_ok-share_behind.ensures ∙ added) c.in_ok-push.ensures.items
