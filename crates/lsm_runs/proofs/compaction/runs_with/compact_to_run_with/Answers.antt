use Rattle.std.proofs.Common.{◌∙◌, ap, inr, map, ◌⊎◌, ◌≡◌, false}
use Rattle.std.specs.Prelude.{Option}
use Rattle.std.specs.Arc.{arc_value}
use Rattle.std.specs.Option.{option_or}
use Rattle.sst_entries.specs.Error.{is_memory}
use Rattle.sst_entries.specs.declared.error.Error.{Error}
use Rattle.sst_entries.proofs.Refusals.{faults_refusal}
use Rattle.lsm_sorted.specs.lending.LentCompaction.{lent_outs}
use Rattle.lsm_sorted.specs.merge.InPlace.{merge_of}
use Rattle.lsm_writers.proofs.Refused.{memory_alone}
use Rattle.lsm_runs.specs.compaction.AnyRuns.{BeginsWith, RefusesOf, first_blocks_fault, scans_of}
use Rattle.lsm_runs.specs.compaction.Compacted.{kept_in}
use Rattle.lsm_runs.specs.compaction.OpenedBy.{FailsToOpen, run_with_fault}
use Rattle.lsm_runs.specs.compaction.Written.{opens_fault}
use Rattle.lsm_runs.proofs.Intervals.{opens_one}
use Rattle.lsm_runs.proofs.OpenedRuns.{outcome_able, outcome_run}
use Rattle.lsm_runs.proofs.RunWriting.{small_number, wants}
use Rattle.lsm_runs.proofs.FilteredCame.{match_err}
use Rattle.lsm_runs.proofs.UnfilteredResult.{came_alone, open_fails, refused_three}
use Rattle.lsm_runs.proofs.compaction.runs_with.compact_to_run_with.Goals as goal

pub returns-clause-run : goal.returns-clause-run
returns-clause-run g c able lists held =
    outcome_run c.args.how.now c.args.writer (kept_in c.args.rules lists) c.in_ok-outcome.outcome c.in_ok-opened.opened ((c.in_ok-outcome.ensures.plain (λ f h x v k. k) (λ o q p goes k. k)).tables able lists held) c.in_ok-opened.ensures.opened

pub returns-clause-able : goal.returns-clause-able
returns-clause-able g c none =
    outcome_able c.args.how.now c.args.writer c.in_ok-outcome.outcome c.in_ok-opened.opened c.in_ok-outcome.ensures.made c.in_ok-opened.ensures.opened none

pub returns-in_err-outcome-clause-refused : goal.returns-in_err-outcome-clause-refused
returns-in_err-outcome-clause-refused g c able lists held =
    let a = c.args in
    let n = a.how.now.global_seqno in
    let r = c.from_residual-in_err-outcome in
    faults_refusal r.result c.in_err-outcome.field-0.0 (run_with_fault a.writer (kept_in a.rules lists) n) r.ensures.1
    (λ memory. ap (λ (x : Option Error). option_or x (opens_fault a.writer.present.options (kept_in a.rules lists) n)) ((c.in_err-outcome.ensures.plain (λ f h x v k. k) (λ o q p goes k. k)).refused able lists held memory))

pub returns-in_err-opened-clause-refused : goal.returns-in_err-opened-clause-refused
returns-in_err-opened-clause-refused g c able lists held =
    let a = c.args in
    let n = a.how.now.global_seqno in
    let r = c.from_residual-in_err-opened in
    faults_refusal r.result c.in_err-opened.field-0.0 (run_with_fault a.writer (kept_in a.rules lists) n) r.ensures.1
    (λ memory. ap (λ (x : Option Error). option_or x (opens_fault a.writer.present.options (kept_in a.rules lists) n)) ((c.in_ok-outcome.ensures.plain (λ f h x v k. k) (λ o q p goes k. k)).refused able lists held)
    ∙ c.in_err-opened.ensures.refused a.writer (kept_in a.rules lists) ((c.in_ok-outcome.ensures.plain (λ f h x v k. k) (λ o q p goes k. k)).tables able lists held) memory)

pub returns-clause-refused : goal.returns-clause-refused
returns-clause-refused g c able lists held =
    let a = c.args in
    let n = a.how.now.global_seqno in
    ap (λ (x : Option Error). option_or x (opens_fault a.writer.present.options (kept_in a.rules lists) n)) ((c.in_ok-outcome.ensures.plain (λ f h x v k. k) (λ o q p goes k. k)).refused able lists held)
    ∙ c.in_ok-opened.ensures.refused a.writer (kept_in a.rules lists) ((c.in_ok-outcome.ensures.plain (λ f h x v k. k) (λ o q p goes k. k)).tables able lists held)

pub returns-in_err-outcome-clause-taken : goal.returns-in_err-outcome-clause-taken
returns-in_err-outcome-clause-taken g c able lists held one fits small =
    let r = c.from_residual-in_err-outcome in
    wants r.result c.in_err-outcome.field-0.0 r.ensures.1 ((c.in_err-outcome.ensures.plain (λ f h x v k. k) (λ o q p goes k. k)).taken able lists held fits)

pub returns-in_err-opened-clause-taken : goal.returns-in_err-opened-clause-taken
returns-in_err-opened-clause-taken g c able lists held one fits small =
    let a = c.args in
    let es = kept_in a.rules lists in
    let r = c.from_residual-in_err-opened in
    memory_alone r.result _ (opens_one a.writer.present.options es a.how.now.global_seqno one ∙ small_number es a.how.now.global_seqno small)
    (faults_refusal r.result c.in_err-opened.field-0.0 _ r.ensures.1 (c.in_err-opened.ensures.refused a.writer es ((c.in_ok-outcome.ensures.plain (λ f h x v k. k) (λ o q p goes k. k)).tables able lists held)))

pub returns-clause-tables : goal.returns-clause-tables
returns-clause-tables g c = (c.in_ok-outcome.ensures.plain (λ f h x v k. k) (λ o q p goes k. k)).tables

pub returns-clause-merged : goal.returns-clause-merged
returns-clause-merged g c = (c.in_ok-outcome.ensures.plain (λ f h x v k. k) (λ o q p goes k. k)).merged

pub returns-clause-through : goal.returns-clause-through
returns-clause-through g c = (c.in_ok-outcome.ensures.plain (λ f h x v k. k) (λ o q p goes k. k)).through

pub returns-clause-opens : goal.returns-clause-opens
returns-clause-opens g c = (c.in_ok-outcome.ensures.plain (λ f h x v k. k) (λ o q p goes k. k)).opens

pub returns-in_err-outcome-clause-opens : goal.returns-in_err-outcome-clause-opens
returns-in_err-outcome-clause-opens g c some =
    let r = c.from_residual-in_err-outcome in
    faults_refusal r.result c.in_err-outcome.field-0.0 (first_blocks_fault (map arc_value c.args.runs.now)) r.ensures.1 ((c.in_err-outcome.ensures.plain (λ f h x v k. k) (λ o q p goes k. k)).opens some)

pub returns-in_err-opened-clause-opens : goal.returns-in_err-opened-clause-opens
returns-in_err-opened-clause-opens g c some = absurd (some ((c.in_ok-outcome.ensures.plain (λ f h x v k. k) (λ o q p goes k. k)).opens some))

pub returns-clause-any : goal.returns-clause-any
returns-clause-any g c ascend =
    let a = c.args in
    came_alone a.writer (lent_outs a.rules (merge_of (scans_of (map arc_value a.runs.now)))) c.in_ok-outcome.outcome (BeginsWith (map arc_value a.runs.now)) ((c.in_ok-outcome.ensures.plain (λ f h x v k. k) (λ o q p goes k. k)).any ascend)

pub returns-in_err-outcome-clause-any : goal.returns-in_err-outcome-clause-any
returns-in_err-outcome-clause-any g c ascend =
    let a = c.args in
    let r = c.from_residual-in_err-outcome in
    let e = c.in_err-outcome.field-0.0 in
    match_err _ (λ (e : Error). is_memory e ≡ false → RefusesOf a.writer (lent_outs a.rules (merge_of (scans_of (map arc_value a.runs.now)))) e ⊎ (BeginsWith (map arc_value a.runs.now) e ⊎ FailsToOpen a.writer (lent_outs a.rules (merge_of (scans_of (map arc_value a.runs.now)))) a.how.now.global_seqno e)) r.result e r.ensures.1
    (refused_three a.writer (lent_outs a.rules (merge_of (scans_of (map arc_value a.runs.now)))) a.how.now.global_seqno (BeginsWith (map arc_value a.runs.now)) e ((c.in_err-outcome.ensures.plain (λ f h x v k. k) (λ o q p goes k. k)).any ascend))

pub returns-in_err-opened-clause-any : goal.returns-in_err-opened-clause-any
returns-in_err-opened-clause-any g c ascend =
    let a = c.args in
    let r = c.from_residual-in_err-opened in
    let e = c.in_err-opened.field-0.0 in
    let xs = (lent_outs a.rules (merge_of (scans_of (map arc_value a.runs.now)))) in
    match_err _ (λ (e : Error). is_memory e ≡ false → RefusesOf a.writer (lent_outs a.rules (merge_of (scans_of (map arc_value a.runs.now)))) e ⊎ (BeginsWith (map arc_value a.runs.now) e ⊎ FailsToOpen a.writer (lent_outs a.rules (merge_of (scans_of (map arc_value a.runs.now)))) a.how.now.global_seqno e)) r.result e r.ensures.1
    (λ fine. inr (inr (open_fails a.writer xs a.how.now.global_seqno c.in_ok-outcome.outcome e
    (came_alone a.writer xs c.in_ok-outcome.outcome (BeginsWith (map arc_value a.runs.now)) ((c.in_ok-outcome.ensures.plain (λ f h x v k. k) (λ o q p goes k. k)).any ascend))
    c.in_err-opened.ensures.disorder (c.in_err-opened.ensures.refused a.writer) fine)))
