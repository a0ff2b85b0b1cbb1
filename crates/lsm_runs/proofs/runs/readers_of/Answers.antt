use Rattle.std.specs.Arc.{arc_value}
use Rattle.sst_entries.specs.Stream.{back_of, front_of}
use Rattle.lsm_runs.specs.LentRun.{RunLends}
use Rattle.lsm_runs.specs.RunRange.{RunGives, back_tables, front_tables}
use Rattle.lsm_runs.proofs.Spanned.{all_spanned, more_spanned, same_spanned}
use Rattle.lsm_runs.proofs.Together.{none_together, read_all, read_more, read_none}
use Rattle.lsm_runs.proofs.runs.readers_of.Goals as goal
use Rattle.lsm_runs.proofs.runs.readers_of.Goals.{in-Some+in_ok-push, in_default}

pub loop-run-init : goal.loop-run-init
loop-run-init g c = rw c.in_ok-readers.ensures.items (record {
  list = λ lists held. none_together (RunGives front_of front_tables) (RunGives back_of back_tables);
  lends = λ lists held. none_together RunLends (RunGives back_of back_tables);
  spans = λ order. tt;
})

pub returns-clause-list : goal.returns-clause-list
returns-clause-list g c lists held =
    read_all (RunGives front_of front_tables) (RunGives back_of back_tables) arc_value c.args.range.now.0 c.args.range.now.1 c.args.runs.now c.loop-run.run-index lists held c.loop-run.readers.items (c.loop-run.invariant.list lists held) c.loop-run-test.false

pub returns-clause-lends : goal.returns-clause-lends
returns-clause-lends g c lists held =
    read_all RunLends (RunGives back_of back_tables) arc_value c.args.range.now.0 c.args.range.now.1 c.args.runs.now c.loop-run.run-index lists held c.loop-run.readers.items (c.loop-run.invariant.lends lists held) c.loop-run-test.false

pub returns-clause-spans : goal.returns-clause-spans
returns-clause-spans g c order = all_spanned arc_value c.args.range.now.0 c.args.range.now.1 c.args.runs.now c.loop-run.readers.items c.loop-run.run-index c.loop-run.invariant.spans c.loop-run-test.false order

pub loop-run-preserved : goal.loop-run-preserved
loop-run-preserved g c =
    let runs = c.args.runs.now in
    let low = c.args.range.now.0 in
    let high = c.args.range.now.1 in
    let i = c.loop-run.run-index in
    let run = c.run-item.result in
    let readers = c.loop-run.readers.items in
    let before = c.loop-run.invariant in
    elim c.match-branch-3.branch [
      | in-Some+in_ok-push w ↦
          rw (w.readers-is, w.in_ok-push.ensures.items) (record {
            list = λ lists held.
                read_more (RunGives front_of front_tables) (RunGives back_of back_tables) arc_value low high runs i lists held run c.loop-run-test.true c.run-item.is readers (before.list lists held) w.in-Some.reader
                (λ ls own. rw w.in-Some.is at (c.in_ok-reader.ensures.list own.0 ls own.1));
            lends = λ lists held.
                read_more RunLends (RunGives back_of back_tables) arc_value low high runs i lists held run c.loop-run-test.true c.run-item.is readers (before.lends lists held) w.in-Some.reader
                (λ ls own. rw w.in-Some.is at (c.in_ok-reader.ensures.lends own.0 ls own.1));
            spans = more_spanned arc_value low high runs i run c.loop-run-test.true c.run-item.is readers before.spans w.in-Some.reader (λ order. rw w.in-Some.is at (c.in_ok-reader.ensures.span order));
          })
      | in_default w ↦
          rw w.readers-is (record {
            list = λ lists held.
                read_none (RunGives front_of front_tables) (RunGives back_of back_tables) arc_value low high runs i lists held run c.loop-run-test.true c.run-item.is readers (before.list lists held)
                (λ ls own. rw w.in_default.is at (c.in_ok-reader.ensures.list own.0 ls own.1));
            lends = λ lists held.
                read_none RunLends (RunGives back_of back_tables) arc_value low high runs i lists held run c.loop-run-test.true c.run-item.is readers (before.lends lists held)
                (λ ls own. rw w.in_default.is at (c.in_ok-reader.ensures.lends own.0 ls own.1));
            spans = same_spanned arc_value low high runs i run c.loop-run-test.true c.run-item.is readers before.spans (λ order. rw w.in_default.is at (c.in_ok-reader.ensures.span order));
          })
    ]
