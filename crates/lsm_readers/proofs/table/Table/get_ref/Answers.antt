use Rattle.lsm_readers.proofs.table.Table.get_ref.Goals as goal

pub returns-clause-returned : goal.returns-clause-returned
returns-clause-returned g c = c.get_ref_counted.ensures.returned

pub returns-clause-early : goal.returns-clause-early
returns-clause-early g c = c.get_ref_counted.ensures.early

pub returns-clause-calm : goal.returns-clause-calm
returns-clause-calm g c = c.get_ref_counted.ensures.calm

pub returns-clause-list : goal.returns-clause-list
returns-clause-list g c es is = c.get_ref_counted.ensures.list es is
