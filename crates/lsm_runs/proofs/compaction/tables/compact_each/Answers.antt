use Rattle.sst_entries.specs.Stream.{ok_results}
use Rattle.sst_entries.proofs.Refusals.{faults_refusal}
use Rattle.lsm_runs.specs.compaction.Compacted.{kept_in}
use Rattle.lsm_runs.proofs.compaction.tables.compact_each.Goals as goal

pub stream_of-requires : goal.stream_of-requires
stream_of-requires g c = c.requires

pub returns-clause-starts : goal.returns-clause-starts
returns-clause-starts g c able =
    c.stream_of.ensures.starts (ok_results (kept_in c.args.rules able.lists)) (c.in_ok-kept.ensures.list able)

pub returns-clause-any : goal.returns-clause-any
returns-clause-any g c ascend = c.stream_of.ensures.starts _ (c.in_ok-kept.ensures.any ascend)

pub returns-clause-can : goal.returns-clause-can
returns-clause-can g c = c.stream_of.ensures.can c.in_ok-kept.ensures.can

pub returns-in_err-kept-clause-opens : goal.returns-in_err-kept-clause-opens
returns-in_err-kept-clause-opens g c =
    faults_refusal c.from_residual.result c.in_err-kept.field-0.0 _ c.from_residual.ensures.1 c.in_err-kept.ensures.opens
