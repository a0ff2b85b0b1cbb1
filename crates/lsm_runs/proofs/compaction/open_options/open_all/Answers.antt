use Rattle.std.proofs.Common.{◌≡◌, ◌∙◌, ap, refl, sym, subst, suc, ◌+◌, ◌++◌, ◌∷◌, [], ℕ, List, take, arith}
use Rattle.std.proofs.lemmas.List.{take_all}
use Rattle.sst_entries.specs.Entry.{Entry}
use Rattle.sst_entries.proofs.Refusals.{faults_refusal}
use Rattle.sst_blocks.specs.table.Chunks.{joined}
use Rattle.lsm_runs.specs.compaction.OpenedBy.{AreOpenedBy}
use Rattle.lsm_runs.specs.compaction.Written.{opens_fault}
use Rattle.lsm_runs.proofs.Intervals.{opens_nothing}
use Rattle.lsm_runs.proofs.OpenedRuns.{fits_more, large_here, next_opened, none_behind}
use Rattle.lsm_runs.proofs.RunWriting.{no_number}
use Rattle.lsm_runs.proofs.compaction.open_options.open_all.Goals as goal

pub loop-table-init : goal.loop-table-init
loop-table-init g c = record {
  opened = rw c.new-opened.ensures.items tt;
  fits = λ options label lists f. refl;
}

pub loop-table-preserved : goal.loop-table-preserved
loop-table-preserved g c =
    let how = c.args.how.now in
    let fs = c.args.tables.now in
    let i = c.loop-table.table-index in
    let n : suc i ≡ i + 1 = omega arith in
    record {
      opened = rw c.in_ok-push.ensures.items (subst (λ (k : ℕ). AreOpenedBy how (take k fs) (c.loop-table.opened.items ++ c.in_ok-open.field-0 ∷ [])) n (next_opened how fs i c.loop-table.opened.items c.table-item.result c.in_ok-open.field-0 c.loop-table-test.true c.table-item.is c.loop-table.invariant.opened c.in_ok-open.ensures.opened));
      fits = λ options label lists f. c.loop-table.invariant.fits options label lists f
          ∙ fits_more how.global_seqno fs i c.table-item.result c.loop-table-test.true c.table-item.is options label lists f (λ l es is. c.in_ok-open.ensures.refused l options es is);
    }

pub returns-in_err-open-clause-refused : goal.returns-in_err-open-clause-refused
returns-in_err-open-clause-refused g c options label lists f =
    let g = c.args.how.now.global_seqno in
    let e = c.in_err-open.field-0.0 in
    let r = c.from_residual-in_err-open in
    faults_refusal r.result e (opens_fault options (joined lists) g) r.ensures.1
    (λ memory. c.loop-table.invariant.fits options label lists f
    ∙ large_here g c.args.tables.now c.loop-table.table-index c.table-item.result c.loop-table-test.true c.table-item.is options label lists f e (λ l es is. c.in_err-open.ensures.refused l options es is memory))

pub returns-clause-opened : goal.returns-clause-opened
returns-clause-opened g c =
    let fs = c.args.tables.now in
    let i = c.loop-table.table-index in
    rw (sym (take_all i fs c.loop-table-test.false)) c.loop-table.invariant.opened

pub returns-clause-refused : goal.returns-clause-refused
returns-clause-refused g c options label lists f =
    let n = c.args.how.now.global_seqno in
    c.loop-table.invariant.fits options label lists f
    ∙ ap (λ (ls : List (List Entry)). opens_fault options (joined ls) n) (none_behind options label lists c.args.tables.now c.loop-table.table-index f c.loop-table-test.false)
    ∙ opens_nothing options n ∙ no_number n (omega arith)
