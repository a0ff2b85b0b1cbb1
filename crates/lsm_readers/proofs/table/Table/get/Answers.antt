use Rattle.lsm_readers.proofs.table.Table.get.Goals as goal

pub returns-clause-early : goal.returns-clause-early
returns-clause-early g c = c.get_counted.ensures.early

pub returns-clause-calm : goal.returns-clause-calm
returns-clause-calm g c = c.get_counted.ensures.calm

pub returns-clause-list : goal.returns-clause-list
returns-clause-list g c es is = c.get_counted.ensures.list es is

pub returns-clause-recovered : goal.returns-clause-recovered
returns-clause-recovered g c = (c.get_counted.ensures.open).recovered
