use Rattle.sst_blocks.proofs.LoadLemmas.{load_kind}
use Rattle.lsm_readers.proofs.Recovered.{first_from, first_none}
use Rattle.lsm_readers.proofs.Loads.{meta_holds}
use Rattle.lsm_readers.proofs.meta.load_item.Goals as goal

pub new-block-requires : goal.new-block-requires
new-block-requires g c = meta_holds _ (load_kind _ _ _ _ _ c.in_ok-block.ensures.returned)

pub returns-in_err-block-clause-early : goal.returns-in_err-block-clause-early
returns-in_err-block-clause-early g c =
    first_from c.from_residual.result c.in_err-block.field-0.0 _ c.from_residual.ensures.1
    c.in_err-block.ensures.first

pub returns-clause-early : goal.returns-clause-early
returns-clause-early g c = first_none c.item-value.result _ c.in_ok-block.ensures.first
