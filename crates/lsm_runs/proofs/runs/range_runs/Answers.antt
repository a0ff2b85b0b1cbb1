use Rattle.sst_entries.specs.Stream.{back_of, front_of}
use Rattle.sst_entries.proofs.StreamLemmas.{can_now, can_now_back}
use Rattle.lsm_sorted.proofs.PackLemmas.{if_ok}
use Rattle.lsm_runs.specs.RunRange.{RunGives, back_tables, front_tables}
use Rattle.lsm_runs.proofs.RunLaws.{if_ok_both, run_yields}
use Rattle.lsm_runs.proofs.Together.{all_of, newest_together}
use Rattle.lsm_runs.proofs.runs.range_runs.Goals as goal

pub returns-clause-list : goal.returns-clause-list
returns-clause-list g c lists held =
    if_ok c.newest_stream.result
    (λ s yields. newest_together (RunGives front_of front_tables) (RunGives back_of back_tables) c.args.range.0 c.args.range.1 lists _ _ s c.in_ok-readers.readers.items (c.in_ok-readers.ensures.list lists held) yields)
    c.newest_stream.ensures.yields

pub returns-clause-can : goal.returns-clause-can
returns-clause-can g c =
    let readers = c.in_ok-readers.readers.items in
    if_ok c.newest_stream.result
    (λ s can. can.asks (all_of _ (λ r. (run_yields r).can) readers) (all_of _ (λ r. tt) readers))
    c.newest_stream.ensures.can

pub returns-clause-steps : goal.returns-clause-steps
returns-clause-steps g c order =
    let readers = c.in_ok-readers.readers.items in
    if_ok_both c.newest_stream.result
    (λ s starts past. record {
      readers = readers;
      spans = c.in_ok-readers.ensures.spans order;
      yield_each = all_of _ (λ r. run_yields r) readers;
      of = starts;
      answers = past;
    })
    c.newest_stream.ensures.starts c.newest_stream.ensures.past

pub returns-clause-next : goal.returns-clause-next
returns-clause-next g c = if_ok c.newest_stream.result (λ s can. can_now _ _ _ _ s can) (returns-clause-can g c)

pub returns-clause-next_back : goal.returns-clause-next_back
returns-clause-next_back g c = if_ok c.newest_stream.result (λ s can. can_now_back _ _ _ _ s can) (returns-clause-can g c)
