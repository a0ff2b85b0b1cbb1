use Rattle.lsm_readers.proofs.Recovered.{first_from, first_none}
use Rattle.lsm_readers.proofs.Loads.{meta_holds}
use Rattle.lsm_readers.proofs.meta.load_meta.Goals as goal

pub new-block-requires : goal.new-block-requires
new-block-requires g c = meta_holds _ c.in_ok-block.ensures.kind

pub returns-in_err-block-clause-early : goal.returns-in_err-block-clause-early
returns-in_err-block-clause-early g c at = first_from c.from_residual.result c.in_err-block.field-0.0 _ c.from_residual.ensures.1 (c.in_err-block.ensures.first at)

pub returns-clause-early : goal.returns-clause-early
returns-clause-early g c at = first_none c.read_facts-meta.result _ (c.in_ok-block.ensures.first at)
