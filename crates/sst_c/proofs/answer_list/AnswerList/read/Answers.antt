use Rattle.lsm_readers.specs.point.Batch.{entries_placed}
use Rattle.sst_c.proofs.AnswerLists.{gives_list}
use Rattle.sst_c.proofs.answer_list.AnswerList.read.Goals as goal

pub returns-in-Ok-clause-returned : goal.returns-in-Ok-clause-returned
returns-in-Ok-clause-returned c =
    gives_list c.placed.result (entries_placed c.args.table.now.bytes c.in-Ok.places.items) _
    c.in-Ok.ensures.returned c.placed.ensures.ok c.placed.ensures.err

pub returns-in-Ok-clause-list : goal.returns-in-Ok-clause-list
returns-in-Ok-clause-list c es stores =
    gives_list c.placed.result (entries_placed c.args.table.now.bytes c.in-Ok.places.items) _
    (c.in-Ok.ensures.list es stores) c.placed.ensures.ok c.placed.ensures.err
