use Rattle.lsm_readers.proofs.Recovered.{first_from}
use Rattle.lsm_readers.proofs.pinned.load_handles_in.Goals as goal

pub new-requires : goal.new-requires
new-requires g c = c.in_ok-block.ensures.kind

pub returns-in_err-block-clause-early : goal.returns-in_err-block-clause-early
returns-in_err-block-clause-early g c at =
    first_from c.from_residual.result c.in_err-block.field-0.0 _ c.from_residual.ensures.1
    (c.in_err-block.ensures.first at)

pub returns-clause-early : goal.returns-clause-early
returns-clause-early g c at = c.in_ok-block.ensures.first at
