-- A key is in the part of the first partition whose last key is not below it.
use Rattle.lsm_writers.proofs.Admitting.{is_admitted}
use Rattle.lsm_writers.proofs.SameOptions.{all_keys_more}
use Rattle.lsm_writers.proofs.section.filter_writer.registered_keys_are_admitted.Goals as goal

pub returns-clause-admitted : goal.returns-clause-admitted
returns-clause-admitted c = λ kind policy given before after count behind key writes rising here. is_admitted kind policy given before after count behind key writes rising here

pub returns-clause-gained : goal.returns-clause-gained
returns-clause-gained c = λ kind policy given key. all_keys_more kind policy given key
