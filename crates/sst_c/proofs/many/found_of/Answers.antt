use Rattle.std.proofs.Common.{List, ◌∙◌}
use Rattle.std.specs.Prelude.{Option}
use Rattle.sst_entries.specs.Entry.{Entry}
use Rattle.lsm_readers.specs.point.Many.{found_result}
use Rattle.lsm_readers.specs.Words.{lift}
use Rattle.sst_c.specs.Many.{keys_cut}
use Rattle.sst_c.proofs.ManyFound.{counted, list_given}
use Rattle.sst_c.proofs.many.found_of.Goals as goal

pub returns-clause-list : goal.returns-clause-list
returns-clause-list c es stores =
    list_given (λ (found : List (Option Entry)). found) c.read.result (lift es c.args.table.now.global_seqno)
    c.args.seqno (keys_cut c.args.lens.now c.args.keys.now) c.deref.result.now
    (c.deref.ensures.value ∙ c.in_ok-queries.ensures.ok) (c.read.ensures.list es stores)

pub returns-clause-count : goal.returns-clause-count
returns-clause-count c =
    counted (λ (found : List (Option Entry)). found) c.read.result (found_result c.args.table.now) c.args.keys.now
    c.args.lens.now c.args.seqno c.deref.result.now
    (c.deref.ensures.value ∙ c.in_ok-queries.ensures.ok) c.read.ensures.returned
