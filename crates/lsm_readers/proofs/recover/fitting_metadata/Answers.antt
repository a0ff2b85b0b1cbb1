use Rattle.lsm_readers.proofs.Recovered.{first_from, first_none}
use Rattle.lsm_readers.proofs.recover.fitting_metadata.Goals as goal

pub returns-in_err-metadata-clause-early : goal.returns-in_err-metadata-clause-early
returns-in_err-metadata-clause-early g c at = first_from c.from_residual.result c.in_err-metadata.field-0.0 _ c.from_residual.ensures.1 (c.in_err-metadata.ensures.early at)

pub returns-clause-early : goal.returns-clause-early
returns-clause-early g c at = first_none c.and.result _ (c.in_ok-metadata.ensures.early at)
