use Rattle.lsm_iters.specs.Range.{RangeGives, back_next, front_next}
use Rattle.sst_entries.specs.Stream.{back_of, front_of}
use Rattle.lsm_readers.specs.Words.{YieldsAll, YieldsWithin}
use Rattle.lsm_runs.proofs.OneList.{beside_ok}
use Rattle.example_calling.proofs.one_answer.ranges_of.Goals as goal

pub returns-clause-list : goal.returns-clause-list
returns-clause-list g c es t =
    let n = c.args.table.now.global_seqno in
    beside_ok
    (λ r. YieldsWithin (RangeGives front_of front_next) (RangeGives back_of back_next) c.args.lower c.args.upper es n r)
    (λ r. YieldsAll (RangeGives front_of front_next) (RangeGives back_of back_next) es n r)
    c.in_ok-range.range c.iter-all.result c.beside.result c.beside.ensures.both
    (c.in_ok-range.ensures.list es t) (c.iter-all.ensures.list es t)
