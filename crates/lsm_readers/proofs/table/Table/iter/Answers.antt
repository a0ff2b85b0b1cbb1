use Rattle.lsm_iters.specs.Lending.{RangeLends}
use Rattle.lsm_readers.proofs.TableRanges.{back_gives, yields_all_of, gives}
use Rattle.lsm_readers.proofs.table.Table.iter.Goals as goal

pub returns-clause-list : goal.returns-clause-list
returns-clause-list g c es is = yields_all_of gives back_gives c.range.result es c.args.self.now.global_seqno (c.range.ensures.list es is)

pub returns-clause-lends_list : goal.returns-clause-lends_list
returns-clause-lends_list g c es is = yields_all_of RangeLends back_gives c.range.result es c.args.self.now.global_seqno (c.range.ensures.lends_list es is)
