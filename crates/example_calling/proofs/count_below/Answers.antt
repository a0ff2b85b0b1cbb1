use Rattle.std.proofs.Common.{◌≡◌, ◌-◌, ◌^◌, List, length, subst}
use Rattle.std.specs.Prelude.{IfOk, min}
use Rattle.lsm_tables.specs.Words.{Entry, newest, numbered_below, union_in}
use Rattle.lsm_tables.proofs.TableLaws.{all_within}
use Rattle.example_calling.proofs.count_below.Goals as goal

pub returns-clause-exact : goal.returns-clause-exact
returns-clause-exact g c lists held =
    subst (λ (es : List Entry). IfOk c.count_newest.result
    (λ count. count ≡ min (length (newest (numbered_below c.args.seqno es))) (2 ^ 64 - 1)))
    (all_within (union_in lists))
    (c.count_newest.ensures.exact _ (c.in_ok-range_runs_at.ensures.list lists held))

pub returns-clause-memory : goal.returns-clause-memory
returns-clause-memory g c lists held =
    c.count_newest.ensures.memory _ (c.in_ok-range_runs_at.ensures.list lists held)
