use Rattle.std.proofs.Common.{◌∙◌, ap, sym, List}
use Rattle.std.specs.Prelude.{Option}
use Rattle.std.specs.Option.{option_or}
use Rattle.sst_entries.specs.declared.error.Error.{Error}
use Rattle.sst_entries.specs.Entry.{Entry}
use Rattle.sst_entries.proofs.Refusals.{faults_refusal}
use Rattle.lsm_runs.specs.compaction.Chain.{chain_fault, run_label}
use Rattle.lsm_runs.specs.compaction.Written.{number_fault}
use Rattle.lsm_runs.proofs.CompactedBack.{put_compactable}
use Rattle.lsm_runs.proofs.RunWriting.{all_fit, cut_put, ids_put, run_put, wants}
use Rattle.lsm_runs.proofs.compaction.written_run.write_run.Goals as goal

pub returns-clause-run : goal.returns-clause-run
returns-clause-run g c =
    let a = c.args in
    let w = c.in_ok-tables.ensures.written in
    let opened = c.in_ok-opened.ensures.opened (run_label a.ids a.target_size a.created_at) w.lists w.finished in
    run_put a.ids a.target_size a.created_at a.items.items c.in_ok-tables.tables.items c.in_ok-tables.left a.global_seqno c.in_ok-opened.opened.items w opened c.new.result c.new.ensures

pub returns-clause-cut : goal.returns-clause-cut
returns-clause-cut g c =
    let a = c.args in
    let w = c.in_ok-tables.ensures.written in
    let opened = c.in_ok-opened.ensures.opened (run_label a.ids a.target_size a.created_at) w.lists w.finished in
    cut_put a.ids a.target_size a.created_at a.items.items c.in_ok-tables.tables.items c.in_ok-tables.left a.global_seqno c.in_ok-opened.opened.items w opened c.new.result c.new.ensures

pub returns-clause-ids : goal.returns-clause-ids
returns-clause-ids g c =
    let a = c.args in
    let w = c.in_ok-tables.ensures.written in
    let opened = c.in_ok-opened.ensures.opened (run_label a.ids a.target_size a.created_at) w.lists w.finished in
    ids_put a.ids a.target_size a.created_at a.items.items c.in_ok-tables.tables.items c.in_ok-tables.left a.global_seqno c.in_ok-opened.opened.items w opened c.new.result c.new.ensures

pub returns-in_err-opened-clause-taken : goal.returns-in_err-opened-clause-taken
returns-in_err-opened-clause-taken g c fits small =
    let a = c.args in
    let w = c.in_ok-tables.ensures.written in
    let label = run_label a.ids a.target_size a.created_at in
    wants c.from_residual-in_err-opened.result c.in_err-opened.field-0.0 c.from_residual-in_err-opened.ensures.1
    (c.in_err-opened.ensures.taken label w.lists w.finished (all_fit a.ids a.target_size a.created_at a.items.items c.in_ok-tables.tables.items c.in_ok-tables.left a.global_seqno w small))

pub returns-in_err-tables-clause-refused : goal.returns-in_err-tables-clause-refused
returns-in_err-tables-clause-refused g c =
    let a = c.args in
    let returned = number_fault a.items.items a.global_seqno in
    faults_refusal c.from_residual-in_err-tables.result c.in_err-tables.field-0.0 (chain_fault a.ids a.target_size a.created_at a.items.items a.global_seqno) c.from_residual-in_err-tables.ensures.1
    (λ memory. ap (λ (x : Option Error). option_or x returned) (c.in_err-tables.ensures.refused memory))

pub returns-in_err-opened-clause-refused : goal.returns-in_err-opened-clause-refused
returns-in_err-opened-clause-refused g c =
    let a = c.args in
    let w = c.in_ok-tables.ensures.written in
    let label = run_label a.ids a.target_size a.created_at in
    faults_refusal c.from_residual-in_err-opened.result c.in_err-opened.field-0.0 (chain_fault a.ids a.target_size a.created_at a.items.items a.global_seqno) c.from_residual-in_err-opened.ensures.1
    (λ memory. ap (λ (x : Option Error). option_or x (number_fault a.items.items a.global_seqno)) c.in_ok-tables.ensures.refused
    ∙ ap (λ (xs : List Entry). number_fault xs a.global_seqno) (sym w.cut.whole) ∙ c.in_err-opened.ensures.refused label w.lists w.finished memory)

pub returns-clause-refused : goal.returns-clause-refused
returns-clause-refused g c =
    let a = c.args in
    let w = c.in_ok-tables.ensures.written in
    let label = run_label a.ids a.target_size a.created_at in
    ap (λ (x : Option Error). option_or x (number_fault a.items.items a.global_seqno)) c.in_ok-tables.ensures.refused
    ∙ ap (λ (xs : List Entry). number_fault xs a.global_seqno) (sym w.cut.whole) ∙ c.in_ok-opened.ensures.refused label w.lists w.finished

pub returns-clause-able : goal.returns-clause-able
returns-clause-able g c writable =
    let a = c.args in
    put_compactable (run_label a.ids a.target_size a.created_at) a.target_size a.items.items a.global_seqno c.new.result writable (returns-clause-run g c) (returns-clause-cut g c)
